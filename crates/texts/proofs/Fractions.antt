-- A fraction is printed as it was read.
use Rattle.std.specs.Prelude as std
use Rattle.std.specs.Prelude.{if◌then◌else◌, Some, None}
use Prim.Native.Nat.{ℕ, zero, suc, ◌+◌, ◌-◌, ◌*◌, ◌/◌, ◌%◌, ◌^◌, ◌≤◌}
use mathlib.Core.Path.{◌≡◌, refl, sym, ap, ◌∙◌}
use mathlib.Core.Bool.{true, ◌&&◌}
use mathlib.Core.List.{List, [], ◌∷◌, ◌++◌, append-nil}
use mathlib.Core.Option.{Option, none, some}
use native.Mathlib.Nat.{one-le-pow, mul-div_cancel}
use native.Mathlib.Omega.{arith}
use lib.ListN.{length, get_or, take, drop}
use lib.IntN.{ℤ, pos}
use lib.Seq.{take-suc, take-append_seam}
use borrow.Author.Tests.{eqb-true}
use Rattle.base.specs.Choose.{is_at}
use Rattle.base.specs.Texts.{text_at}
use Rattle.base.proofs.Parts.{step}
use Rattle.base.proofs.Runs.{run_le, run_none, run_in}
use Rattle.base.proofs.Tests.{by_test, by_if}
use Rattle.white.specs.Trim.{trimmed}
use Rattle.digits.specs.Digits.{is_digit, digit_run, decimal_from, decimal, fraction_at}
use Rattle.digits.proofs.Decimals.{digit_low, digit_small, decimal_append}
use Rattle.digits.proofs.Fractions.{IsFraction, fraction_is, fraction_text_lem}
use Rattle.calendar.specs.Calendar.{valid}
use Rattle.calendar.specs.Instant.{seconds_of, shown, is_shown}
use Rattle.calendar.specs.declared.DateTime.{DateTime}
use Rattle.record.specs.declared.Timestamp.{Timestamp}
use Rattle.output.specs.Numerals.{fixed}
use Rattle.grammar.specs.Line.{Division, secfrac_then, SecfracOk, TimestampOk, Derives}
use Rattle.grammar.specs.Line as grammar
use Rattle.grammar.specs.Reading.{nanos_of, digits_of, stamp_of, record_of}
use Rattle.pri.specs.Pri.{pri_at}
use Rattle.pri.specs.declared.Pri.{Pri}
use Rattle.parsers.specs.Steps.{on_read, moved, blanks_from, some_blanks_from, number_from}
use Rattle.parsers.proofs.Steps.{at_there}
use Rattle.base.proofs.Pairs.{some_first, some_second}
use Rattle.timestamp.specs.Clock.{clock_from}
use Rattle.timestamp.specs.Rfc3339.{nanos_from, stamp_if, rfc3339_from}
use Rattle.timestamp.specs.Timestamp.{day_from, utc_if, without_year, with_year, or_else, rfc3164_from}
use Rattle.timestamp.proofs.Onward.{on_num_lem, on_pos_lem, on_clock_lem, on_day_lem}
use Rattle.timestamp.proofs.Widths.{Fractioned, FractionOf, rfc3339_of}
use Rattle.structured_data.specs.Data.{data_from}
use Rattle.structured_data.specs.declared.Rules.TheVariants.{Rfc5424Rules}
use Rattle.draft.specs.Outcome.{Outcome}
use Rattle.draft.specs.Outcome.Outcome.{no_reading, is_reading}
use Rattle.rfc3164.specs.Rfc3164 as rfc3164
use Rattle.rfc5424.specs.Rfc5424 as rfc5424
use Rattle.rfc5424.specs.declared.Start.{Start}
use Rattle.rfc5424.proofs.Lines.{on_start_lem, on_four_lem, on_data_lem}
use Rattle.loose.specs.Loose.{outcome_of}
use Rattle.loose.proofs.Variants.{of_variant}
use Rattle.message_stamp.specs.Stamps.{fraction_text}
use Rattle.message_stamp.proofs.Texts.{fraction_none, fraction_some}
use Rattle.texts.specs.Fractions.{written, standing, Kept, KeepsFractions}
use Rattle.texts.specs.Fractions.Kept.{in_form_c, in_form_a_b}

-- ---- digits that were read are written again

last_digit : (k v b : ℕ) → is_digit b ≡ true → fixed (suc k) (v * 10 + (b - 48)) ≡ fixed k v ++ (b ∷ [])
unfolding fixed
last_digit k v b d =
    let q : (v * 10 + (b - 48)) / 10 ≡ v = omega (arith, digit_small b d) in
    let r : 48 + (v * 10 + (b - 48)) % 10 ≡ b = omega (arith, digit_small b d, digit_low b d) in
    rw (q, r)

digits_again : (s : List ℕ) (k : ℕ) → k ≤ digit_run s → fixed k (decimal (take k s)) ≡ take k s
unfolding fixed decimal_from
digits_again s zero h = refl
digits_again s (suc k) h =
    let b = get_or s k 0 in
    let v = decimal (take k s) in
    let front : take (suc k) s ≡ take k s ++ (b ∷ []) = take-suc s k 0 (omega (arith, run_le is_digit s)) in
    let value : decimal (take (suc k) s) ≡ v * 10 + (b - 48) = ap decimal front ∙ decimal_append 0 (take k s) (b ∷ []) in
    ap (fixed (suc k)) value
    ∙ last_digit k v b (run_in is_digit s k h)
    ∙ ap (λ (l : List ℕ). l ++ (b ∷ [])) (digits_again s k (omega arith))
    ∙ sym front

fraction_again : (s : List ℕ) (v k : ℕ) → IsFraction 9 s v k → fraction_text k v ≡ 46 ∷ take k s
fraction_again s v k i =
    let nonzero : k ≡ 0 → ⊥ = λ z. absurd (omega (arith, i.some)) in
    let p = 10 ^ (9 - k) in
    let value : v / p ≡ decimal (take k s) = ap (λ (x : ℕ). x / p) i.value ∙ mul-div_cancel (decimal (take k s)) (one-le-pow (9 - k) 10 (omega arith)) in
    sym (fraction_some k v nonzero p refl) ∙ ap (λ (l : List ℕ). 46 ∷ l) (ap (fixed k) value ∙ digits_again s k (omega (arith, i.whole)))

-- ---- form (c)

module _ (s : List ℕ) (at n a : ℕ) where
  pointless : ◌≡◌ {A = std.Option (ℕ × ℕ)} (Some (0, at)) (Some (n, a)) → fraction_text (a - at - 1) n ≡ []
  pointless e =
      let p : at ≡ a = some_second e in
      sym (fraction_none (a - at - 1) n (omega arith))

  pointed : is_at s at 46 ≡ true → moved (at + 1) (fraction_at 9 (drop (at + 1) s)) ≡ Some (n, a)
      → fraction_text (a - at - 1) n ≡ text_at s at (suc (digit_run (drop (at + 1) s)))
  pointed t e = go (fraction_at 9 (drop (at + 1) s)) refl e
    where
      go : (r : std.Option (ℕ × ℕ)) → fraction_at 9 (drop (at + 1) s) ≡ r → moved (at + 1) r ≡ Some (n, a)
          → fraction_text (a - at - 1) n ≡ text_at s at (suc (digit_run (drop (at + 1) s)))
      go None q z = let m : ◌≡◌ {A = ℕ} 0 1 = cc in absurd (omega arith)
      go (Some x) q z =
          let w : x.0 ≡ n = some_first z in
          let p : at + 1 + x.1 ≡ a = some_second z in
          let d : a - at - 1 ≡ x.1 = omega arith in
          let i = fraction_is 9 (drop (at + 1) s) x.0 x.1 q in
          let front : drop at s ≡ 46 ∷ drop (at + 1) s =
          step s at (at_there s at 46 (omega arith) t) ∙ ap (λ (b : ℕ). b ∷ drop (at + 1) s) (eqb-true (get_or s at 0) 46 t) in
          ap (λ (j : ℕ). fraction_text j n) d
          ∙ ap (fraction_text x.1) (sym w)
          ∙ fraction_again (drop (at + 1) s) x.0 x.1 i
          ∙ ap (λ (j : ℕ). 46 ∷ take j (drop (at + 1) s)) i.whole
          ∙ sym (ap (take (suc (digit_run (drop (at + 1) s)))) front)

  stands : nanos_from s at ≡ Some (n, a) → fraction_text (a - at - 1) n ≡ standing s at
  unfolding nanos_from
  stands =
      by_test
      (λ b.
      (if b then moved (at + 1) (fraction_at 9 (drop (at + 1) s)) else Some (0, at)) ≡ Some (n, a)
      → fraction_text (a - at - 1) n ≡ (if b then text_at s at (suc (digit_run (drop (at + 1) s))) else []))
      (is_at s at 46) pointed (λ t. pointless)

printed_again : (s : List ℕ) (at : ℕ) (t : Timestamp) → Fractioned s at t → written t ≡ standing s at
printed_again s at t f = ap (λ (d : ℕ). fraction_text d t.nanos) f.counted ∙ stands s at t.nanos f.next f.fraction

-- ---- the loose readers

abbrev StampKept : ℕ → ℤ → List ℕ → std.Option Timestamp → Type 0
StampKept year offset s None = Unit {0}
StampKept year offset s (Some t) = Kept year offset s t

abbrev StampingKept : ℕ → ℤ → List ℕ → std.Option (std.Option Timestamp × ℕ) → Type 0
StampingKept year offset s None = Unit {0}
StampingKept year offset s (Some x) = StampKept year offset s x.0

abbrev StartKept : ℕ → ℤ → List ℕ → std.Option (Start × ℕ) → Type 0
StartKept year offset s None = Unit {0}
StartKept year offset s (Some x) = StampKept year offset s x.0.timestamp

abbrev OutcomeKept : ℕ → ℤ → List ℕ → Outcome → Type 0
OutcomeKept year offset s no_reading = Unit {0}
OutcomeKept year offset s (is_reading r at rows) = StampKept year offset s r.timestamp

-- forms (a) and (b) have no digits
abbrev StampDigitless : std.Option Timestamp → Type 0
StampDigitless None = Unit {0}
StampDigitless (Some t) = t.digits ≡ 0

abbrev Digitless : std.Option (std.Option Timestamp × ℕ) → Type 0
Digitless None = Unit {0}
Digitless (Some x) = StampDigitless x.0

stamp_none : (t : DateTime) (offset : ℤ) (next : ℕ) → Digitless (stamp_if t 0 0 offset next)
stamp_none t offset next =
    by_if Digitless (valid t) (Some (Some (record { seconds = seconds_of t offset; nanos = 0; digits = 0; offset = offset }), next)) None (λ v. refl) (λ v. tt)

utc_none : (t : DateTime) (offset : ℤ) (next : ℕ) → Digitless (utc_if t offset next)
utc_none t offset next =
    let seconds = seconds_of t (pos 0) in
    by_if Digitless (valid t && is_shown (shown seconds offset)) (Some (Some (record { seconds = seconds; nanos = 0; digits = 0; offset = offset }), next))
    None (λ v. refl) (λ v. tt)

module _ (year : ℕ) (offset : ℤ) (s : List ℕ) where
  module _ (at : ℕ) where
    full_kept : (g : std.Option (std.Option Timestamp × ℕ)) → g ≡ rfc3339_from s at → FractionOf s (at + 19) g → StampingKept year offset s g
    full_kept None e f = tt
    full_kept (Some (None, n)) e f = tt
    full_kept (Some (Some t, n)) e f = in_form_c at n (sym e) (printed_again s (at + 19) t f)

    rfc3339_kept : StampingKept year offset s (rfc3339_from s at)
    rfc3339_kept = full_kept (rfc3339_from s at) refl (rfc3339_of s at)

    without_none : Digitless (without_year year offset s at)
    unfolding without_year
    without_none =
        on_day_lem Digitless (day_from s at) _ _ tt λ month day a e1.
        on_clock_lem Digitless (clock_from s a) _ _ tt λ hour minute second b e2.
        stamp_none _ offset _

    with_none : Digitless (with_year offset s at)
    unfolding with_year
    with_none =
        on_day_lem Digitless (day_from s at) _ _ tt λ month day a e1.
        on_num_lem Digitless (number_from s a) _ _ tt λ y b e2.
        on_pos_lem Digitless (some_blanks_from s b) _ _ tt λ c e3.
        on_clock_lem Digitless (clock_from s c) _ _ tt λ hour minute second d e4.
        utc_none _ offset _

    own_kept : (g : std.Option (std.Option Timestamp × ℕ)) → g ≡ or_else (without_year year offset s at) (with_year offset s at) → Digitless g → StampingKept year offset s g
    own_kept None e h = tt
    own_kept (Some (None, n)) e h = tt
    own_kept (Some (Some t, n)) e h = in_form_a_b at n (sym e) (sym (fraction_none t.digits t.nanos h))

    either_kept : (x y : std.Option (std.Option Timestamp × ℕ)) → x ≡ without_year year offset s at → y ≡ with_year offset s at → Digitless x → Digitless y
        → StampingKept year offset s (or_else x (or_else y (rfc3339_from s at)))
    either_kept (Some x) y ex ey hx hy = own_kept (Some (x.0, x.1)) (ap (λ (z : std.Option (std.Option Timestamp × ℕ)). or_else z (with_year offset s at)) ex) hx
    either_kept None (Some x) ex ey hx hy = own_kept (Some (x.0, x.1)) (ey ∙ ap (λ (z : std.Option (std.Option Timestamp × ℕ)). or_else z (with_year offset s at)) ex) hy
    either_kept None None ex ey hx hy = rfc3339_kept

    rfc3164_kept : StampingKept year offset s (rfc3164_from year offset s at)
    unfolding rfc3164_from
    rfc3164_kept = either_kept (without_year year offset s at) (with_year offset s at) refl refl without_none with_none

    start_of_lem : (v : ℕ) (g : std.Option (std.Option Timestamp × ℕ)) → StampingKept year offset s g → StartKept year offset s (rfc5424.start_of v g)
    start_of_lem v None h = tt
    start_of_lem v (Some x) h = h

  start_kept : (at : ℕ) → StartKept year offset s (rfc5424.start_from s at)
  unfolding rfc5424.start_from
  start_kept at =
      on_num_lem (StartKept year offset s) (number_from s at) _ _ tt λ v a e1.
      on_pos_lem (StartKept year offset s) (some_blanks_from s a) _ _ tt λ b e2.
      start_of_lem b v (rfc3339_from s b) (rfc3339_kept b)

  module _ (start : ℕ) where
    of_5424 : OutcomeKept year offset s (rfc5424.rfc5424 s start)
    unfolding rfc5424.rfc5424 rfc5424.body_from
    of_5424 =
        let pri = pri_at (drop start s) in
        on_start_lem (OutcomeKept year offset s) (rfc5424.start_from s (start + pri.next)) _ _ tt λ version stamp a e1.
        on_four_lem (OutcomeKept year offset s) (rfc5424.four_from s a) _ _ tt λ host app procid msgid b e2.
        on_data_lem (OutcomeKept year offset s) (data_from Rfc5424Rules s (blanks_from s b)) _ _ tt λ rows e3.
        rw e1 at (start_kept (start + pri.next))

    of_3164 : OutcomeKept year offset s (rfc3164.rfc3164 year offset s start)
    unfolding rfc3164.rfc3164 rfc3164.body_from
    of_3164 = go (rfc3164_from year offset s from) (rfc3164_kept from)
      where
        pri : Pri
        pri = pri_at (drop start s)

        from : ℕ
        from = blanks_from s (start + pri.next)

        go : (g : std.Option (std.Option Timestamp × ℕ)) → StampingKept year offset s g → OutcomeKept year offset s (on_read g no_reading (λ stamp a. rfc3164.body_from pri stamp s a))
        go None h = tt
        go (Some x) h = h

outcome_kept : (line : List ℕ) (variant year : ℕ) (offset : ℤ) → OutcomeKept year offset (take (trimmed line).end line) (outcome_of line variant year offset)
unfolding outcome_of
outcome_kept line variant year offset =
    let ends = trimmed line in
    let s = take ends.end line in
    of_variant (OutcomeKept year offset s) variant year offset s ends.start (of_5424 year offset s ends.start) (of_3164 year offset s ends.start)

-- ---- the strict grammar

secfrac_again : (o : Option (List ℕ)) → SecfracOk o → fraction_text (digits_of o) (nanos_of o) ≡ secfrac_then o []
secfrac_again none h = sym (fraction_none 0 0 refl)
secfrac_again (some f) h =
    let e = fraction_text_lem 9 f [] h.all h.at_least (omega (arith, h.at_most)) (run_none is_digit) in
    fraction_again (f ++ []) _ (length f) (fraction_is 9 (f ++ []) _ (length f) e)
    ∙ ap (λ (l : List ℕ). 46 ∷ l) (take-append_seam f [] ∙ sym (append-nil f))

abbrev written_of : std.Option Timestamp → List ℕ
written_of None = []
written_of (Some t) = written t

stamp_again : (u : grammar.Timestamp) → TimestampOk (some u) → (t : Timestamp) → stamp_of (some u) ≡ Some t → written t ≡ secfrac_then u.secfrac []
stamp_again u h t e = sym (ap written_of e) ∙ secfrac_again u.secfrac h.secfrac_ok

pub keeps_fractions : KeepsFractions
unfolding record_of
keeps_fractions =
    record {
      loose = λ line variant year offset r at rows t e h.
          let k : StampKept year offset (take (trimmed line).end line) r.timestamp = rw e at (outcome_kept line variant year offset) in
          rw h at k;
      strict = λ line d u t v h e. stamp_again u (rw h at v.timestamp_ok) t (sym (ap stamp_of h) ∙ e);
    }
