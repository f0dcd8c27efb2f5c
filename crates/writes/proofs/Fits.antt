-- The tests of refusals 7 and 17 say what the rules say.
use Rattle.std.specs.Prelude as std
use Rattle.std.specs.Prelude.{if◌then◌else◌, Some, None}
use Prim.Native.Nat.{ℕ, ◌-◌, ◌%◌, ◌^◌}
use mathlib.Core.Path.{◌≡◌, refl, sym, ap, ◌∙◌}
use mathlib.Core.Bool.{Bool, true, not, ◌&&◌}
use mathlib.Core.List.{List, [], ◌∷◌, append-nil}
use mathlib.Core.Option.{Option, none, some}
use native.Mathlib.Omega.{arith}
use lib.Dec.{eqb}
use lib.IntN.{nat_abs}
use lib.ListN.{length, drop}
use lib.Seq.{take_all}
use borrow.Author.Tests.{le-leb, leb-true, eqb-true, eq-eqb, not-true}
use Rattle.base.specs.Choose.{within, is_at}
use Rattle.base.specs.Runs.{run, All}
use Rattle.base.proofs.Tests.{clash, both, by_test}
use Rattle.base.proofs.Ranges.{inside, orders}
use Rattle.base.proofs.Parts.{at_cons}
use Rattle.base.proofs.Runs.{run_all, run_text, run_none}
use Rattle.base.proofs.Texts.{different_sound, different_complete}
use Rattle.utf8.specs.Rfc3629.{Utf8}
use Rattle.utf8.specs.Lead.{is_utf8}
use Rattle.utf8.proofs.Texts.{utf8_sound, utf8_complete}
use Rattle.calendar.specs.Calendar.{offset_limit}
use Rattle.suits.specs.Suits.{stamp_suits}
use Rattle.suits.proofs.Suited.{stamp_in_lem}
use Rattle.grammar.specs.Abnf.{print_us_ascii, sd_name_byte, Repeat}
use Rattle.grammar.specs.Line.{Param, Element, Each, MessageOk, ids_of}
use Rattle.grammar.specs.Parse.{is_message}
use Rattle.writes.specs.Fields.{Fields}
use Rattle.writes.specs.Fits.{digits_fit, class_fits, text_fits, param_fits, params_fit, elements_fit, message_fits, fields_fit}
use Rattle.writes.proofs.Rules.{Suitable, FewDigits, TextOk, RawParamOk, RawElementOk, Writable}
use Rattle.writes.proofs.Texts.{dash_is}
use Rattle.record.specs.declared.Timestamp.{Timestamp}

pub all_both : (a b : Bool) → a ≡ true → b ≡ true → (a && b) ≡ true
all_both a b p q = rw (p, q)

-- all bytes pass where all of them are in the run
all_of : (p : ℕ → Bool) (t : List ℕ) → run p t ≡ length t → All p t
all_of p t e = rw (take_all (run p t) t (omega arith)) at (run_all p t)

run_of : (p : ℕ → Bool) (t : List ℕ) → All p t → run p t ≡ length t
run_of p t a = ap (run p) (sym (append-nil t)) ∙ run_text p t [] a (run_none p)

-- ---- the message

pub message_utf8 : (m u : List ℕ) → is_message m ≡ true → m ≡ 0xEF ∷ 0xBB ∷ 0xBF ∷ u → Utf8 u
message_utf8 m u h e = utf8_sound u (ap is_message (sym e) ∙ h)

marked : (m : List ℕ) → (is_at m 0 0xEF && is_at m 1 0xBB && is_at m 2 0xBF) ≡ true → m ≡ 0xEF ∷ 0xBB ∷ 0xBF ∷ drop 3 m
marked m h =
    let u = both (is_at m 0 0xEF && is_at m 1 0xBB) (is_at m 2 0xBF) h in
    let v = both (is_at m 0 0xEF) (is_at m 1 0xBB) u.0 in
    at_cons m 0 0xEE v.0
    ∙ ap (λ (l : List ℕ). 0xEF ∷ l) (at_cons m 1 0xBA v.1 ∙ ap (λ (l : List ℕ). 0xBB ∷ l) (at_cons m 2 0xBE u.1))

pub message_test : (m : List ℕ) → MessageOk (some m) → is_message m ≡ true
message_test m h =
    by_test (λ t. (if t then is_utf8 (drop 3 m) else true) ≡ true) (is_at m 0 0xEF && is_at m 1 0xBB && is_at m 2 0xBF)
    (λ e. utf8_complete (drop 3 m) (h (drop 3 m) (marked m e)))
    (λ e. refl)

message_sound : (m : Option (List ℕ)) → message_fits m ≡ true → MessageOk m
message_sound none h = tt
message_sound (some m) h = λ u e. message_utf8 m u h e

message_complete : (m : Option (List ℕ)) → MessageOk m → message_fits m ≡ true
message_complete none h = refl
message_complete (some m) h = message_test m h

-- ---- the timestamp

suits_sound : (t : std.Option Timestamp) → stamp_suits t ≡ true → Suitable t
suits_sound None h = tt
suits_sound (Some t) h = stamp_in_lem t h

suits_complete : (t : std.Option Timestamp) → Suitable t → stamp_suits t ≡ true
suits_complete None h = refl
suits_complete (Some t) h =
    rw (
      le-leb t.nanos 999999999 h.nanos_in,
      le-leb t.digits 9 h.digits_in,
      eq-eqb (t.nanos % 10 ^ (9 - t.digits)) 0 h.digits_show,
      le-leb (nat_abs t.offset) offset_limit h.offset_in,
      h.shows,
    )

digits_sound : (t : std.Option Timestamp) → digits_fit t ≡ true → FewDigits t
digits_sound None h = tt
digits_sound (Some m) h = leb-true m.digits 6 h

digits_complete : (t : std.Option Timestamp) → FewDigits t → digits_fit t ≡ true
digits_complete None h = refl
digits_complete (Some m) h = le-leb m.digits 6 h

-- ---- texts and elements

pub class_sound : (most : ℕ) (p : ℕ → Bool) (t : List ℕ) → class_fits most p t ≡ true → Repeat 1 most p t
class_sound most p t h =
    let u = both (within 1 most (length t)) (eqb (run p t) (length t)) h in
    let o = orders 1 most (length t) u.0 in
    record { at_least = o.0; at_most = o.1; all = all_of p t (eqb-true (run p t) (length t) u.1) }

pub class_complete : (most : ℕ) (p : ℕ → Bool) (t : List ℕ) → Repeat 1 most p t → class_fits most p t ≡ true
class_complete most p t k = all_both _ _ (inside 1 most (length t) k.at_least k.at_most) (eq-eqb (run p t) (length t) (run_of p t k.all))

pub text_sound : (most : ℕ) (t : Option (List ℕ)) → text_fits most t ≡ true → TextOk most t
text_sound most none h = tt
text_sound most (some t) h =
    let u = both (class_fits most print_us_ascii t) (not (eqb (length t) 1 && is_at t 0 45)) h in
    record {
      bytes = class_sound most print_us_ascii t u.0;
      no_mark = λ e. clash (sym (ap (λ (x : List ℕ). eqb (length x) 1 && is_at x 0 45) e) ∙ not-true (eqb (length t) 1 && is_at t 0 45) u.1);
    }

pub text_complete : (most : ℕ) (t : Option (List ℕ)) → TextOk most t → text_fits most t ≡ true
text_complete most none k = refl
text_complete most (some t) k =
    all_both _ _ (class_complete most print_us_ascii t k.bytes)
    (by_test (λ b. (eqb (length t) 1 && is_at t 0 45) ≡ b → not b ≡ true) (eqb (length t) 1 && is_at t 0 45) (λ e q. absurd (k.no_mark (dash_is t q))) (λ e q. refl) refl)

params_sound : (ps : List Param) → params_fit ps ≡ true → Each RawParamOk ps
params_sound [] h = tt
params_sound (p ∷ ps) h =
    let u = both (param_fits p) (params_fit ps) h in
    let v = both (class_fits 32 sd_name_byte p.name) (is_utf8 p.value) u.0 in
    (record { name_ok = class_sound 32 sd_name_byte p.name v.0; value_utf8 = utf8_sound p.value v.1 }, params_sound ps u.1)

params_complete : (ps : List Param) → Each RawParamOk ps → params_fit ps ≡ true
params_complete [] k = refl
params_complete (p ∷ ps) k =
    all_both _ _ (all_both _ _ (class_complete 32 sd_name_byte p.name k.0.name_ok) (utf8_complete p.value k.0.value_utf8)) (params_complete ps k.1)

elements_sound : (es : List Element) → elements_fit es ≡ true → Each RawElementOk es
elements_sound [] h = tt
elements_sound (e ∷ es) h =
    let u = both (class_fits 32 sd_name_byte e.id && params_fit e.params) (elements_fit es) h in
    let v = both (class_fits 32 sd_name_byte e.id) (params_fit e.params) u.0 in
    (record { id_ok = class_sound 32 sd_name_byte e.id v.0; params_ok = params_sound e.params v.1 }, elements_sound es u.1)

elements_complete : (es : List Element) → Each RawElementOk es → elements_fit es ≡ true
elements_complete [] k = refl
elements_complete (e ∷ es) k =
    all_both _ _ (all_both _ _ (class_complete 32 sd_name_byte e.id k.0.id_ok) (params_complete e.params k.0.params_ok)) (elements_complete es k.1)

-- ---- all of it

pub fits_sound : (f : Fields) → stamp_suits f.timestamp ≡ true → fields_fit f ≡ true → Writable f
unfolding fields_fit
fits_sound f s h =
    let u1 = both _ _ h in
    let u2 = both _ _ u1.0 in
    let u3 = both _ _ u2.0 in
    let u4 = both _ _ u3.0 in
    let u5 = both _ _ u4.0 in
    let u6 = both _ _ u5.0 in
    let u7 = both _ _ u6.0 in
    let u8 = both _ _ u7.0 in
    let u9 = both _ _ u8.0 in
    let o = orders 1 999 f.version u9.1 in
    record {
      suitable = suits_sound f.timestamp s;
      few_digits = digits_sound f.timestamp u8.1;
      priority_to = leb-true f.priority 191 u9.0;
      version_from = o.0;
      version_to = o.1;
      host_ok = text_sound 255 f.host u7.1;
      app_ok = text_sound 48 f.app u6.1;
      procid_ok = text_sound 128 f.procid u5.1;
      msgid_ok = text_sound 32 f.msgid u4.1;
      message_ok = message_sound f.message u3.1;
      elements_ok = elements_sound f.elements u2.1;
      ids_differ = different_sound (ids_of f.elements) u1.1;
    }

pub fits_complete : (f : Fields) → Writable f → fields_fit f ≡ true
unfolding fields_fit
fits_complete f w =
    all_both _ _ (all_both _ _ (all_both _ _ (all_both _ _ (all_both _ _ (all_both _ _ (all_both _ _ (all_both _ _ (all_both _ _
    (le-leb f.priority 191 w.priority_to)
    (inside 1 999 f.version w.version_from w.version_to))
    (digits_complete f.timestamp w.few_digits))
    (text_complete 255 f.host w.host_ok))
    (text_complete 48 f.app w.app_ok))
    (text_complete 128 f.procid w.procid_ok))
    (text_complete 32 f.msgid w.msgid_ok))
    (message_complete f.message w.message_ok))
    (elements_complete f.elements w.elements_ok))
    (different_complete (ids_of f.elements) w.ids_differ)
