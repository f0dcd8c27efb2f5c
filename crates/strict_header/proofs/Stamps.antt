-- Timestamps.
use Rattle.std.specs.Prelude as std
use Rattle.std.specs.Prelude.{Some, None}
use Prim.Native.Nat.{ℕ, ◌+◌, ◌-◌, ◌^◌, ◌≤◌}
use mathlib.Core.Path.{◌≡◌, refl, sym, ◌∙◌}
use mathlib.Core.Bool.{Bool, true, false, not}
use mathlib.Core.List.{List, []}
use mathlib.Core.Option.{Option, none, some}
use native.Mathlib.Nat.{pow-le-pow_right}
use native.Mathlib.Omega.{arith}
use lib.IntN.{ℤ}
use lib.ListN.{length, drop, length-append}
use mir.Syntax.{w32, w64}
use mir.Val.{SFits, to_z, of_z}
use mir.ValLaws.{to_z-of_z}
use borrow.Author.Tests.{le-leb}
use Rattle.base.specs.Choose.{is_at}
use Rattle.base.proofs.Tests.{told}
use Rattle.calendar.specs.Calendar.{valid, valid_date, valid_time}
use Rattle.calendar.specs.Instant.{seconds_of}
use Rattle.calendar.specs.declared.DateTime.{DateTime}
use Rattle.digits.specs.Digits.{is_digit, decimal}
use Rattle.digits.proofs.Decimals.{decimal_lt}
use Rattle.grammar.specs.Abnf.{Repeat}
use Rattle.grammar.specs.Line.{secfrac_then, SecfracOk}
use Rattle.grammar.specs.Parse.{always, choose, ◌next◌, into, date, clock, secfrac, offset, timestamp_of, full, timestamp}
use Rattle.grammar.specs.Reading.{nanos_of, digits_of, stamp_of}
use Rattle.grammar.proofs.Header.{date_reads, clock_reads, secfrac_reads, offset_reads}
use Rattle.strict_header.specs.Pieces.{value_of, plain_to, minutes_of, pair, triple, ending, ids_at, names_at, text_at}
use Rattle.strict_header.proofs.Steps.{untold, byte_laws, sum_fits, sums_fit, Finds, finds_so, finds_within, finds_ok, next_within, closed_failed, closed_open, closed_found, into_failed, into_found, next_failed, next_not, next_found, first_found, other_failed, other_found}
use Rattle.strict_header.proofs.Answers.{value_found, value_none, value_some, failed_answer, triple_some, ending_found, ending_some}
use Rattle.record.specs.declared.Timestamp as instant
use Rattle.grammar.specs.Reading.{offset_of}

-- ---- the fraction and the offset

module _ (s : List ℕ) where
  pub secfrac_within : (f : std.Option (ℕ × ℕ)) (v n : ℕ) → f ≡ value_of nanos_of (secfrac s) → f ≡ Some (v, n) → n ≤ length s
  secfrac_within f v n e h = finds_within (value_some nanos_of e h) secfrac_reads

  pub offset_within : (f : std.Option (ℤ × ℕ)) (z : ℤ) (n : ℕ) → f ≡ value_of offset_of (offset s) → f ≡ Some (z, n) → n ≤ length s
  offset_within f z n e h = finds_within (value_some offset_of e h) offset_reads

-- a fraction is its point and its digits
counted : (o : Option (List ℕ)) (m : ℕ) → m ≡ length (secfrac_then o []) → digits_of o ≡ m - 1
counted none m e = omega arith
counted (some f) m e = omega (arith, length-append f [])

few : (o : Option (List ℕ)) (m : ℕ) → SecfracOk o → m ≡ length (secfrac_then o []) → m ≤ 10
few none m h e = omega arith
few (some f) m h e = omega (arith, length-append f [], h.at_most)

module _ (s : List ℕ) (f : std.Option (ℕ × ℕ)) (ef : f ≡ value_of nanos_of (secfrac s)) where
  pub ending_no_fraction : f ≡ None → None ≡ value_of ending ((secfrac next offset) s)
  ending_no_fraction e = failed_answer (value_of ending) (next_failed (value_none nanos_of ef e) offset)

  module _ (v m : ℕ) (hf : f ≡ Some (v, m)) where
    pub fraction_few : m ≤ 10
    fraction_few = let w = finds_ok (value_some nanos_of ef hf) secfrac_reads in few w.value m w.has.1 w.has.2

    module _ (r : List ℕ) (er : r ≡ drop m s) (o : std.Option (ℤ × ℕ)) (eo : o ≡ value_of offset_of (offset r)) where
      pub ending_no_offset : o ≡ None → None ≡ value_of ending ((secfrac next offset) s)
      ending_no_offset e = failed_answer (value_of ending) (next_not (value_some nanos_of ef hf) er (value_none offset_of eo e))

      module _ (d : ℕ) (ed : d ≡ m - 1) where
        fraction : Finds (λ o. (nanos_of o ≡ v) × (digits_of o ≡ d)) m secfrac s
        fraction = finds_so (finds_ok (value_some nanos_of ef hf) secfrac_reads) (λ o h. (h.0, counted o m h.2 ∙ sym ed))

        pub ending_is : (z : ℤ) (n : ℕ) → o ≡ Some (z, n) → Some ((v, d, z), (m + n)) ≡ value_of ending ((secfrac next offset) s)
        ending_is z n e = ending_found (next_found fraction er (value_some offset_of eo e))

pub ruleset ending_laws = (secfrac_within, offset_within, sum_fits, fraction_few, ending_no_fraction, ending_no_offset, ending_is)

-- ---- a date, a clock, and what ends them

module _ (s : List ℕ) where
  pub date_within : (f : std.Option ((ℕ × ℕ × ℕ) × ℕ)) (x y z n : ℕ) → f ≡ value_of triple (date s) → f ≡ Some ((x, y, z), n) → n ≤ length s
  date_within f x y z n e h = finds_within (triple_some e h) date_reads

  pub clock_within : (f : std.Option ((ℕ × ℕ × ℕ) × ℕ)) (x y z n : ℕ) → f ≡ value_of triple (clock s) → f ≡ Some ((x, y, z), n) → n ≤ length s
  clock_within f x y z n e h = finds_within (triple_some e h) clock_reads

  pub ending_within : (f : std.Option ((ℕ × ℕ × ℤ) × ℕ)) (v d n : ℕ) (z : ℤ) → f ≡ value_of ending ((secfrac next offset) s) → f ≡ Some ((v, d, z), n) → n ≤ length s
  ending_within f v d n z e h = next_within secfrac_reads offset_reads (ending_some e h)

pub ruleset piece_laws = (date_within, clock_within, ending_within, sum_fits, sums_fit)

abbrev at : ℕ → ℕ → ℕ → ℕ → ℕ → ℕ → DateTime
at y m d h i k = record { year = y; month = m; day = d; hour = h; minute = i; second = k }

pub four_digits : (t : List ℕ) (y : ℕ) → Repeat 4 4 is_digit t → decimal t ≡ y → y ≤ 9999
four_digits t y r e =
    let l : 10 ^ length t ≤ 10 ^ 4 = pow-le-pow_right (omega arith) {i = length t} {j = 4} r.at_most in
    omega (arith, decimal_lt t r.all)

module _ (s : List ℕ) (a : std.Option ((ℕ × ℕ × ℕ) × ℕ)) (ea : a ≡ value_of triple (date s)) where
  pub full_no_date : a ≡ None → None ≡ value_of stamp_of (into some full s)
  unfolding full
  full_no_date e = failed_answer (value_of stamp_of) (into_failed (into_failed (next_failed (value_none triple ea e) _) timestamp_of) some)

  module _ (y m d n : ℕ) (ha : a ≡ Some ((y, m, d), n)) (r₁ : List ℕ) (e₁ : r₁ ≡ drop n s) (b : std.Option ((ℕ × ℕ × ℕ) × ℕ)) (eb : b ≡ value_of triple (clock r₁)) where
    pub full_no_clock : b ≡ None → None ≡ value_of stamp_of (into some full s)
    unfolding full
    full_no_clock e = failed_answer (value_of stamp_of) (into_failed (into_failed (next_not (triple_some ea ha) e₁ (next_failed (value_none triple eb e) _)) timestamp_of) some)

    module _ (h i k l : ℕ) (hb : b ≡ Some ((h, i, k), l)) where
      pub full_valid : valid (at y m d h i k) ≡ true
      unfolding valid
      full_valid =
          let u = finds_ok (triple_some ea ha) date_reads in
          let v = finds_ok (triple_some eb hb) clock_reads in
          let p : valid_date y m d ≡ true = rw (u.has.0.0, u.has.0.1.0, u.has.0.1.1) at u.has.1.1 in
          let q : valid_time h i k ≡ true = rw (v.has.0.0, v.has.0.1.0, v.has.0.1.1) at v.has.1.1 in
          rw (le-leb y 9999 (four_digits u.value.0 y u.has.1.0.0 u.has.0.0), p, q)

      module _ (r₂ : List ℕ) (e₂ : r₂ ≡ drop l r₁) (o : std.Option ((ℕ × ℕ × ℤ) × ℕ)) (eo : o ≡ value_of ending ((secfrac next offset) r₂)) where
        pub full_no_ending : o ≡ None → None ≡ value_of stamp_of (into some full s)
        unfolding full
        full_no_ending e =
            failed_answer (value_of stamp_of) (into_failed (into_failed (next_not (triple_some ea ha) e₁ (next_not (triple_some eb hb) e₂ (value_none ending eo e))) timestamp_of) some)

        pub full_is : (v c q : ℕ) (z x : ℤ) → o ≡ Some ((v, c, z), q) → SFits w32 z → SFits w64 x → x ≡ seconds_of (at y m d h i k) (to_z w32 (of_z w32 z))
            → Some (Some (record { seconds = to_z w64 (of_z w64 x); nanos = v; digits = c; offset = to_z w32 (of_z w32 z) }), n + (l + q)) ≡ value_of stamp_of (into some full s)
        unfolding full
        full_is v c q z x ho fz fx ex =
            let w = next_found (triple_some ea ha) e₁ (next_found (triple_some eb hb) e₂ (ending_some eo ho)) in
            rw (to_z-of_z w64 x fx, ex, to_z-of_z w32 z fz)
            (value_found stamp_of (into_found (into_found w timestamp_of (λ t g. rw (g.0.0, g.0.1.0, g.0.1.1, g.1.0.0, g.1.0.1.0, g.1.0.1.1, g.1.1.0.0, g.1.1.0.1, g.1.1.1))) some (λ t g. g)))

pub ruleset full_laws = (full_valid, full_no_date, full_no_clock, full_no_ending, full_is)

-- ---- the timestamp and its space

module _ (s : List ℕ) (t : Bool) (et : t ≡ is_at s 0 45) where
  module _ (h : t ≡ true) (u : Bool) (eu : u ≡ is_at s 1 32) where
    nil : Finds (λ x. stamp_of x ≡ None) 1 (choose 45 (always none) (into some full)) s
    nil = first_found 45 (always none) (into some full) (sym et ∙ h) refl (record { value = none; is = refl; has = refl })

    pub nil_open : not u ≡ true → None ≡ value_of stamp_of (timestamp s)
    unfolding timestamp
    nil_open k = failed_answer (value_of stamp_of) (closed_open nil 32 (untold u _ eu k))

    pub nil_is : not u ≡ false → Some (None, 2) ≡ value_of stamp_of (timestamp s)
    unfolding timestamp
    nil_is k = value_found stamp_of (closed_found nil 32 (told u _ eu k))

  module _ (h : t ≡ false) (f : std.Option (std.Option instant.Timestamp × ℕ)) (ef : f ≡ value_of stamp_of (into some full s)) where
    pub timestamp_none : f ≡ None → None ≡ value_of stamp_of (timestamp s)
    unfolding timestamp
    timestamp_none e = failed_answer (value_of stamp_of) (closed_failed (other_failed 45 (always none) (into some full) (sym et ∙ h) (value_none stamp_of ef e)) 32)

    module _ (x : std.Option instant.Timestamp) (n : ℕ) (ex : f ≡ Some (x, n)) (u : Bool) (eu : u ≡ is_at s n 32) where
      read : Finds (λ t. stamp_of t ≡ x) n (choose 45 (always none) (into some full)) s
      read = other_found 45 (always none) (into some full) (sym et ∙ h) (value_some stamp_of ef ex)

      pub timestamp_open : not u ≡ true → None ≡ value_of stamp_of (timestamp s)
      unfolding timestamp
      timestamp_open k = failed_answer (value_of stamp_of) (closed_open read 32 (untold u _ eu k))

      pub timestamp_is : not u ≡ false → Some (x, (n + 1)) ≡ value_of stamp_of (timestamp s)
      unfolding timestamp
      timestamp_is k = value_found stamp_of (closed_found read 32 (told u _ eu k))

pub ruleset timestamp_laws = (byte_laws, nil_open, nil_is, timestamp_none, timestamp_open, timestamp_is)
