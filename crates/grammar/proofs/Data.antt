-- The readers of the structured data and of the message, and what they read.
use Rattle.std.specs.Prelude.{if◌then◌else◌}
use Prim.Native.Nat.{ℕ, suc}
use mathlib.Core.Path.{◌≡◌, refl, sym, ap, ◌∙◌}
use mathlib.Core.Bool.{true, false, ◌&&◌}
use mathlib.Core.List.{List, [], ◌∷◌, ◌++◌}
use mathlib.Core.Option.{Option, none, some}
use mathlib.Core.Logic.{◌⊎◌, inl, inr, ⊎_elim}
use native.Mathlib.Omega.{arith}
use lib.ListN.{length, drop}
use lib.Dec.{leb, eqb}
use borrow.Author.Tests.{le-leb, eqb-true}
use Rattle.base.specs.Choose.{is_at}
use Rattle.base.specs.Runs.{run}
use Rattle.base.proofs.Tests.{clash, both, by_test}
use Rattle.base.proofs.Parts.{at_cons, ended}
use Rattle.base.proofs.Runs.{run_no}
use Rattle.base.specs.Texts.{Distinct}
use Rattle.base.proofs.Texts.{different_sound, different_complete}
use Rattle.utf8.specs.Rfc3629.{Utf8}
use Rattle.utf8.specs.Lead.{is_utf8}
use Rattle.utf8.proofs.Texts.{utf8_sound, utf8_complete}
use Rattle.grammar.specs.Abnf.{sd_name_byte}
use Rattle.grammar.specs.Line.{Param, Element, each_then, param_then, element_then, data_then, message_text, Escaped, ParamOk, Each, ElementOk, ids_of, MessageOk}
use Rattle.grammar.specs.Parse.{value, param_of, param, element_of, element, one_or_more, listed, ids_differ, structured, is_message, at_end, message}
use Rattle.grammar.specs.Parse.Parsed.{found}
use Rattle.grammar.proofs.Readers.{Front, Reads, Any, sides, joined, if_found, same_front, restate, retext, closed_reads, only_reads, into_reads, fields_reads, next_reads, next_any, always_reads, choose_reads, behind_reads, many_reads, ToEnd, into_to_end, only_to_end, choose_to_end}
use Rattle.grammar.proofs.Bytes.{repeat_reads, quote_reads, left_reads, left_to_end}

-- ---- STRUCTURED-DATA

pub value_reads : Reads (λ t r. t ++ (34 ∷ r)) (λ t. Utf8 t × Escaped t) Any value
unfolding value
value_reads = restate (only_reads quote_reads is_utf8) (λ t h. (h.1, utf8_complete t h.0)) (λ t h. (utf8_sound t h.1, h.0))

pub param_reads : Reads (λ p r. p.name ++ (61 ∷ (34 ∷ (p.value ++ (34 ∷ r))))) ParamOk Any param
unfolding param
param_reads =
    fields_reads
    (next_any (closed_reads (repeat_reads 32 sd_name_byte) 60 (λ r. run_no sd_name_byte 61 r refl)) (behind_reads 33 value_reads))
    param_of (λ p. (p.name, p.value)) (λ p r. p.name ++ (61 ∷ (34 ∷ (p.value ++ (34 ∷ r))))) (λ p. refl) (λ t r. refl)
    (λ p h. (h.name_ok, (h.value_utf8, h.value_escaped)))
    (λ t h. record { name_ok = h.0; value_utf8 = h.1.0; value_escaped = h.1.1 })

-- what stands after an id
no_name : (ps : List Param) (r : List ℕ) → Each ParamOk ps → Any r → run sd_name_byte (each_then param_then ps (93 ∷ r)) ≡ 0
no_name [] r h k = run_no sd_name_byte 93 r refl
no_name (p ∷ ps) r h k = run_no sd_name_byte 32 _ refl

pub element_reads : Reads (λ e r. e.id ++ each_then param_then e.params (93 ∷ r)) ElementOk Any element
unfolding element
element_reads =
    fields_reads
    (next_reads (repeat_reads 32 sd_name_byte) (closed_reads (many_reads 31 param_reads) 92 (λ r. refl)) no_name)
    element_of (λ e. (e.id, e.params)) (λ e r. e.id ++ each_then param_then e.params (93 ∷ r)) (λ e. refl) (λ t r. refl)
    (λ e h. (h.id_ok, h.params_ok))
    (λ t h. record { id_ok = h.0; params_ok = h.1 })

-- one or more elements, of which the first byte is "["
data_text_lem : (es : List Element) (r : List ℕ) → leb 1 (length es) ≡ true → data_then es r ≡ each_then element_then es r
data_text_lem [] r h = clash (sym h)
data_text_lem (e ∷ es) r h = refl

no_dash : (es : List Element) (r : List ℕ) → leb 1 (length es) ≡ true → is_at (data_then es r) 0 45 ≡ false
no_dash [] r h = clash (sym h)
no_dash (e ∷ es) r h = refl

some_or_no : (es : List Element) → Each ElementOk es → (es ≡ []) ⊎ (Each ElementOk es × (leb 1 (length es) ≡ true))
some_or_no [] h = inl refl
some_or_no (e ∷ es) h = inr (h, le-leb 1 (suc (length es)) (omega arith))

pub listed_reads : Reads data_then (Each ElementOk) (λ r. is_at r 0 91 ≡ false) listed
unfolding listed
listed_reads =
    restate
    (choose_reads 44
    (always_reads (λ es r. drop 1 (data_then es r)) [] (λ r. refl))
    (retext (only_reads (many_reads 90 element_reads) one_or_more) (λ es r h. data_text_lem es r h.1))
    (λ es r e. rw e) (λ es r h _. no_dash es r h.1))
    some_or_no
    (λ es. ⊎_elim (λ e. rw e tt) (λ h. h.0))

pub data_reads : Reads data_then (λ es. Each ElementOk es × Distinct (ids_of es)) (λ r. is_at r 0 91 ≡ false) structured
unfolding structured
data_reads =
    restate (only_reads listed_reads ids_differ)
    (λ es h. (h.0, different_complete (ids_of es) h.1)) (λ es h. (h.0, different_sound (ids_of es) h.1))

-- what is read of the elements alone
pub data_front : (s : List ℕ) (es : List Element) (n : ℕ) → structured s ≡ found es n → Front data_then (Each ElementOk) s es n
data_front s es n e = let f = data_reads.sound s es n e in record { ok = f.ok.0; split = f.split; size = f.size }

-- ---- [SP MSG]

abbrev pub message_then : Option (List ℕ) → List ℕ → List ℕ
message_then m r = message_text m ++ r

end_reads : Reads message_then (λ m. m ≡ none) (λ r. r ≡ []) at_end
unfolding at_end
end_reads =
    record {
      plain = λ m r e. rw e;
      complete = λ m r e k. rw (e, k);
      sound = λ s m n e. let u = if_found (eqb (length s) 0) e in same_front u.1 (record { ok = refl; split = refl; size = refl });
    }

end_to_end : ToEnd at_end
unfolding at_end
end_to_end s m n e =
    let u = if_found (eqb (length s) 0) e in
    let w = u.1 in
    let z : 0 ≡ n = cc in
    rw (← z) (ended s 0 (omega (arith, eqb-true (length s) 0 u.0)))

-- the mark is there, and after it UTF-8
message_utf8 : (m u : List ℕ) → is_message m ≡ true → m ≡ 0xEF ∷ 0xBB ∷ 0xBF ∷ u → Utf8 u
message_utf8 m u h e = utf8_sound u (ap is_message (sym e) ∙ h)

marked : (m : List ℕ) → (is_at m 0 0xEF && is_at m 1 0xBB && is_at m 2 0xBF) ≡ true → m ≡ 0xEF ∷ 0xBB ∷ 0xBF ∷ drop 3 m
marked m h =
    let u = both (is_at m 0 0xEF && is_at m 1 0xBB) (is_at m 2 0xBF) h in
    let v = both (is_at m 0 0xEF) (is_at m 1 0xBB) u.0 in
    at_cons m 0 0xEE v.0
    ∙ ap (λ (l : List ℕ). 0xEF ∷ l) (at_cons m 1 0xBA v.1 ∙ ap (λ (l : List ℕ). 0xBB ∷ l) (at_cons m 2 0xBE u.1))

message_test : (m : List ℕ) → MessageOk (some m) → is_message m ≡ true
message_test m h =
    by_test (λ t. (if t then is_utf8 (drop 3 m) else true) ≡ true) (is_at m 0 0xEF && is_at m 1 0xBB && is_at m 2 0xBF)
    (λ e. utf8_complete (drop 3 m) (h (drop 3 m) (marked m e)))
    (λ e. refl)

pub message_reads : Reads message_then MessageOk (λ r. r ≡ []) message
unfolding message
message_reads =
    restate
    (choose_reads 31
    (into_reads
    (restate (only_reads left_reads is_message) (λ m h. (tt, message_test m h)) (λ m h u e. message_utf8 m u h.1 e))
    some (λ m r. drop 1 (message_then m r)) (λ m r. refl))
    end_reads
    (λ m r h. rw (← h.is)) (λ m r e k. rw (e, k)))
    (sides MessageOk) (joined MessageOk tt)

pub message_to_end : ToEnd message
unfolding message
message_to_end = choose_to_end 32 (into_to_end some (only_to_end is_message left_to_end)) end_to_end
