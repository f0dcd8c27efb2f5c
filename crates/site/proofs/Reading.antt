-- The laws of specs/Laws.antt but the refused call's, which is in Calls.
use Rattle.std.specs.Prelude.{if◌then◌else◌, Result, Ok, Err}
use Prim.Native.Nat.{ℕ, ◌+◌, ◌*◌}
use mathlib.Core.Path.{◌≡◌, refl, sym, ap, ap₂, subst, ◌∙◌}
use mathlib.Core.Bool.{Bool, true, false, not}
use mathlib.Core.List.{List}
use native.Mathlib.Omega.{arith}
use lib.Dec.{eqb, ltb}
use lib.ListN.{length}
use borrow.Author.Tests.{le-leb, eqb-true}
use Rattle.base.specs.Fills.{filled}
use Rattle.base.specs.Texts.{text_at}
use Rattle.base.proofs.Tests.{clash, by_test}
use Rattle.calendar.specs.Calendar.{last_year}
use Rattle.record.specs.Limits.{line_limit}
use Rattle.record.specs.Refusals.{refusal_number}
use Rattle.record.specs.declared.Place.{Place}
use Rattle.record.specs.declared.Record.{Record}
use Rattle.record.specs.declared.Span.{Span}
use Rattle.record.specs.declared.Reading.{Reading}
use Rattle.record.specs.declared.Reading.TheVariants as loose
use Rattle.record.specs.declared.Refusal.{Refusal}
use Rattle.record.specs.declared.Refusal.TheVariants.{LineTooLong, BadSetting, NotUtf8, NoReading, TooManyElements, TooManyParams}
use Rattle.utf8.specs.Lead.{is_utf8}
use Rattle.draft.specs.Outcome.{Outcome}
use Rattle.draft.specs.Outcome.Outcome.{no_reading, is_reading}
use Rattle.loose.specs.Loose.{outcome_of, settings_ok, judged, answered, Reads}
use Rattle.loose.proofs.Determined.{one_reading}
use Rattle.settings.specs.Record.{Meaning, last_version, record_size, Holds}
use Rattle.settings.specs.File.{Chosen, record_at, host_place, settings_of}
use Rattle.settings.specs.File as settings
use Rattle.settings.specs.File.Reads.{bad_length, no_record, unknown_version, bad_field, taken}
use Rattle.settings.specs.declared.Settings.{Settings}
use Rattle.settings.proofs.Fields.{ranges}
use Rattle.settings.proofs.Meanings.{one_answer}
use Rattle.settings.proofs.Back.{host_there}
use Rattle.settings.proofs.Writing.{variant_to}
use Rattle.site.specs.declared.Holder.{Holder}
use Rattle.site.specs.declared.Holder.TheVariants.{Nowhere, InLine, InSettings}
use Rattle.site.specs.declared.SiteReading.{SiteReading}
use Rattle.site.specs.declared.SiteAnswer.{SiteAnswer}
use Rattle.site.specs.Site.{host_of, host_text, with_host, ReadsWith}
use Rattle.site.specs.Site.ReadsWith.{unset, by_settings}
use Rattle.site.specs.Numbers.{site_answer_of, left_answer, kept, bytes_of}
use Rattle.site.specs.Laws.{InRange, NeverTwo, HostOfEither, OneReading, OneAnswer}

-- ---- settings that were read

-- they are those of a record
record Kept (file : List ℕ) (gate : ℕ) (s : Settings) : Type 0 where
  at : ℕ
  meaning : Meaning
  chosen : Chosen gate file at
  holds : Holds (record_at file at) meaning
  is : s ≡ settings_of meaning (at * record_size + host_place)

unread : {A : Type 0} {s : Settings} {f : Refusal} → Ok s ≡ Err f → A
unread e = let z : ◌≡◌ {A = ℕ} 0 1 = cc in absurd (omega arith)

same_settings : {s s' : Settings} → ◌≡◌ {A = Result Settings Refusal} (Ok s) (Ok s') → s ≡ s'
same_settings e = cc

settings_kept : {greatest : ℕ} {file : List ℕ} {gate : ℕ} {s : Settings} → settings.Reads greatest file gate (Ok s) → Kept file gate s
settings_kept (bad_length h q) = unread q
settings_kept (no_record n q) = unread q
settings_kept (unknown_version i c v q) = unread q
settings_kept (bad_field i c v n q) = unread q
settings_kept (taken i m c v h q) = record { at = i; meaning = m; chosen = c; holds = h; is = same_settings q }

pub in_range_lem : InRange
in_range_lem greatest file gate s k =
    let w = settings_kept k in
    let r = ranges w.meaning w.holds.in_range_lem in
    rw (w.is, le-leb w.meaning.variant 2 (variant_to w.meaning.version w.meaning.variant r.variant_ok), le-leb w.meaning.year last_year r.year_to, r.offset_ok)

-- ---- no refusal 2

number_of : Result SiteReading Refusal → ℕ
number_of (Ok x) = 0
number_of (Err f) = refusal_number f

-- a refusal that is not the one of settings
two : {A : Type 0} (x : Result SiteReading Refusal) → Err BadSetting ≡ x → eqb (number_of x) 2 ≡ false → A
unfolding number_of
two x q e = clash (ap (λ (y : Result SiteReading Refusal). eqb (number_of y) 2) q ∙ e)

judged_two : (default : Span) (line : List ℕ) (o : Outcome) (e p : ℕ) → eqb (number_of (with_host default (judged line o e p))) 2 ≡ false
unfolding number_of
judged_two default line no_reading e p = refl
judged_two default line (is_reading r at rows) e p =
    by_test (λ t. eqb (number_of (with_host default (if t then Err TooManyElements
    else if ltb p (length rows.params) then Err TooManyParams else Ok (loose.Read r (length rows.elements) (length rows.params))))) 2 ≡ false) (ltb e (length rows.elements))
    (λ _. refl)
    (λ _. by_test (λ t. eqb (number_of (with_host default (if t then Err TooManyParams else Ok (loose.Read r (length rows.elements) (length rows.params))))) 2 ≡ false)
    (ltb p (length rows.params)) (λ _. refl) (λ _. refl))

answered_two : (default : Span) (line : List ℕ) (s : Settings) (e p : ℕ) → settings_ok s.variant s.year s.offset ≡ true
    → eqb (number_of (with_host default (answered line s.variant s.year s.offset e p))) 2 ≡ false
unfolding number_of
answered_two default line s e p ok =
    rw ok (by_test (λ t. eqb (number_of (with_host default (if t then Err LineTooLong else if not (is_utf8 line) then Err NotUtf8
    else judged line (outcome_of line s.variant s.year s.offset) e p))) 2 ≡ false) (ltb line_limit (length line))
    (λ _. refl)
    (λ _. by_test (λ t. eqb (number_of (with_host default (if not t then Err NotUtf8 else judged line (outcome_of line s.variant s.year s.offset) e p))) 2 ≡ false) (is_utf8 line)
    (λ _. judged_two default line (outcome_of line s.variant s.year s.offset) e p) (λ _. refl)))

refusal_in : Result Settings Refusal → Refusal
refusal_in (Ok s) = NoReading
refusal_in (Err f) = f

settings_two : {greatest : ℕ} {file : List ℕ} {gate : ℕ} (f : Refusal) → settings.Reads greatest file gate (Err f) → eqb (refusal_number f) 2 ≡ false
unfolding refusal_in
settings_two f (bad_length h q) = ap (λ (x : Result Settings Refusal). eqb (refusal_number (refusal_in x)) 2) q
settings_two f (no_record n q) = ap (λ (x : Result Settings Refusal). eqb (refusal_number (refusal_in x)) 2) q
settings_two f (unknown_version i c v q) = ap (λ (x : Result Settings Refusal). eqb (refusal_number (refusal_in x)) 2) q
settings_two f (bad_field i c v n q) = ap (λ (x : Result Settings Refusal). eqb (refusal_number (refusal_in x)) 2) q
settings_two f (taken i m c v h q) = unread (sym q)

pub never_two : NeverTwo
unfolding number_of
never_two file gate line e₀ p₀ e₁ p₁ (unset f h q a b) = two (Err f) q (settings_two f h)
never_two file gate line e₀ p₀ e₁ p₁ (by_settings s x h k q) =
    two (with_host s.host x) q (rw k.answer (answered_two s.host line s (length e₀) (length p₀) (in_range_lem last_version file gate s h)))

-- ---- the host

holder_in : Result SiteReading Refusal → Holder
holder_in (Ok x) = x.holder
holder_in (Err f) = Nowhere

record_in : Result SiteReading Refusal → Place
record_in (Ok x) = x.reading.host
record_in (Err f) = record { present = false; start = 0; len = 0 }

is_read : Result SiteReading Refusal → Bool
is_read (Ok x) = true
is_read (Err f) = false

-- the host of a reading is that of its own record
own_host : (default : Span) (x : Result Reading Refusal) (r : Record) (e p : ℕ) (h : Holder) → Ok (record { reading = r; elements = e; params = p; holder = h }) ≡ with_host default x → h ≡ host_of r.host default
unfolding holder_in record_in is_read
own_host default (Ok (loose.Read r' e' p')) r e p h q = ap holder_in q ∙ ap (λ (y : Result SiteReading Refusal). host_of (record_in y) default) (sym q)
own_host default (Ok (loose.Whole r')) r e p h q = clash (ap is_read q)
own_host default (Err f) r e p h q = clash (ap is_read q)

host_text_lem : (line file : List ℕ) (own : Place) (default : Span)
    → host_text line file (host_of own default) ≡ (if own.present then text_at line own.start own.len else text_at file default.start default.len)
host_text_lem line file own default =
    by_test (λ t. host_text line file (if t then InLine (record { start = own.start; len = own.len }) else if eqb default.len 0 then Nowhere else InSettings default)
    ≡ (if t then text_at line own.start own.len else text_at file default.start default.len)) own.present
    (λ _. refl)
    (λ _. by_test (λ t. eqb default.len 0 ≡ t → host_text line file (if t then Nowhere else InSettings default) ≡ text_at file default.start default.len) (eqb default.len 0)
    (λ _ e. rw (eqb-true default.len 0 e)) (λ _ e. refl) refl)

pub host_of_either : HostOfEither
unfolding is_read
host_of_either file gate line e₀ p₀ e₁ p₁ r e p h (unset f k q a b) = clash (ap is_read q)
host_of_either file gate line e₀ p₀ e₁ p₁ r e p h (by_settings s x k w q) =
    let v = settings_kept k in
    record {
      at = v.at;
      chosen = v.chosen;
      kept = v.meaning;
      holds = v.holds;
      bytes_are = ap (host_text line file) (own_host s.host x r e p h q)
          ∙ host_text_lem line file r.host s.host
          ∙ ap (λ (t : List ℕ). if r.host.present then text_at line r.host.start r.host.len else t)
          (ap (λ (y : Settings). text_at file y.host.start y.host.len) v.is ∙ host_there file v.at v.chosen.inside v.meaning v.holds);
    }

-- ---- one answer

module _ (file : List ℕ) (gate : ℕ) (line : List ℕ) (e₀ p₀ : List (List ℕ)) where
  pub reads_one : {r s : (Result SiteReading Refusal)} {e₁ e₂ p₁ p₂ : List (List ℕ)} → ReadsWith file gate line e₀ p₀ r e₁ p₁ → ReadsWith file gate line e₀ p₀ s e₂ p₂
      → (r ≡ s) × (e₁ ≡ e₂) × (p₁ ≡ p₂)
  unfolding refusal_in
  reads_one (unset f h q a b) (unset g k q' a' b') =
      let e = one_answer last_version file gate (Err f) (Err g) h k in
      (q ∙ ap (λ (x : Result Settings Refusal). Err (refusal_in x)) e ∙ sym q', a ∙ sym a', b ∙ sym b')
  reads_one (unset f h q a b) (by_settings s x k w q') = unread (one_answer last_version file gate (Ok s) (Err f) k h)
  reads_one (by_settings s x k w q') (unset f h q a b) = unread (one_answer last_version file gate (Ok s) (Err f) k h)
  reads_one {e₁ = e₁} {e₂ = e₂} {p₁ = p₁} {p₂ = p₂} (by_settings s x k w q) (by_settings s' x' k' w' q') =
      let e : s' ≡ s = same_settings (one_answer last_version file gate (Ok s') (Ok s) k' k) in
      let v : Reads line s.variant s.year s.offset e₀ p₀ x' e₂ p₂ = subst (λ (y : Settings). Reads line y.variant y.year y.offset e₀ p₀ x' e₂ p₂) e w' in
      let (a, b, c) = one_reading line s.variant s.year s.offset e₀ p₀ x x' e₁ e₂ p₁ p₂ w v in
      (q ∙ ap₂ (λ (y : Settings) (z : Result Reading Refusal). with_host y.host z) (sym e) a ∙ sym q', b, c)

pub one_site_reading : OneReading
one_site_reading file gate line e₀ p₀ e₁ e₂ p₁ p₂ r s h k = reads_one file gate line e₀ p₀ h k

pub one_site_answer : OneAnswer
one_site_answer file gate line e₀ p₀ out a b e e' p p' new new' h k =
    let (r, t, u) = reads_one file gate line e₀ p₀ h.reads k.reads in
    let q : a ≡ b = h.told_is ∙ ap (λ (x : Result SiteReading Refusal). left_answer (site_answer_of x) (length out)) r ∙ sym k.told_is in
    record {
      answer = q;
      elements = h.elements_are ∙ ap₂ (λ (x : SiteAnswer) (y : List (List ℕ)). kept x.number y e₀) q t ∙ sym k.elements_are;
      params = h.params_are ∙ ap₂ (λ (x : SiteAnswer) (y : List (List ℕ)). kept x.number y p₀) q u ∙ sym k.params_are;
      memory = h.record_is ∙ ap₂ (λ (x : SiteAnswer) (y : Result SiteReading Refusal). kept x.number (filled (bytes_of y) out) out) q r ∙ sym k.record_is;
    }
