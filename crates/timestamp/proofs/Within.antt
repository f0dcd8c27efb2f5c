-- The positions that the readers answer lie in the line.
use Rattle.std.specs.Prelude.{Option, Some, None}
use Prim.Native.Nat.{ℕ, ◌+◌, ◌-◌, ◌%◌, ◌^◌, ◌≤◌, ◌<◌}
use mathlib.Core.Path.{◌≡◌, refl}
use mathlib.Core.List.{List}
use native.Mathlib.Nat.{zero-mod, mul-mod_left}
use native.Mathlib.Omega.{arith}
use lib.ListN.{length, drop, length-drop}
use Rattle.base.specs.Choose.{is_at}
use Rattle.digits.specs.Digits.{fraction_at}
use Rattle.digits.proofs.Fractions.{fraction_is, fraction_len_lem}
use Rattle.base.proofs.Tests.{by_if}
use Rattle.parsers.specs.Steps.{moved, some_blanks_from, number_from}
use Rattle.parsers.proofs.Steps.{at_there, some_within}
use Rattle.timestamp.specs.Month.{month_from}
use Rattle.timestamp.specs.Clock.{clock_from}
use Rattle.timestamp.specs.Rfc3339.{date_from, time_from, nanos_from}
use Rattle.timestamp.specs.Timestamp.{day_from}
use Rattle.timestamp.specs.declared.Clock.{Clock}
use Rattle.timestamp.specs.declared.Date.{Date}
use Rattle.timestamp.specs.declared.Day.{Day}
use Rattle.timestamp.proofs.Onward.{on_num_lem, on_pos_lem}
use Rattle.timestamp.proofs.Triples.{clocks, times, dates, triple_in}

abbrev ClockIn : ℕ → Option (Clock × ℕ) → Type 0
ClockIn n None = Unit {0}
ClockIn n (Some y) = y.1 ≤ n

abbrev DateIn : ℕ → Option (Date × ℕ) → Type 0
DateIn n None = Unit {0}
DateIn n (Some x) = x.1 ≤ n

abbrev DayIn : ℕ → Option (Day × ℕ) → Type 0
DayIn n None = Unit {0}
DayIn n (Some x) = x.1 ≤ n

day_in : (s : List ℕ) (at : ℕ) → DayIn (length s) (day_from s at)
unfolding day_from
day_in s at =
    on_num_lem (DayIn (length s)) (month_from s at) _ _ tt λ m a e1.
    on_pos_lem (DayIn (length s)) (some_blanks_from s a) _ _ tt λ b e2.
    on_num_lem (DayIn (length s)) (number_from s b) _ _ tt λ d c e3.
    on_pos_lem (DayIn (length s)) (some_blanks_from s c) _ _ tt λ n e4.
    some_within s c _ refl n e4

-- a fraction is below one second, and its digits show all of it
pub record Fraction (s : List ℕ) (at v m : ℕ) : Type 0 where
  pub below : v < 1000000000
  pub in_line : m ≤ length s
  pub onward : at ≤ m
  pub few : m ≤ at + 10
  pub shows : v % 10 ^ (9 - (m - at - 1)) ≡ 0

abbrev pub FractionIn : List ℕ → ℕ → Option (ℕ × ℕ) → Type 0
FractionIn s at None = Unit {0}
FractionIn s at (Some x) = Fraction s at x.0 x.1

pub nanos_in : (s : List ℕ) (at : ℕ) → at ≤ length s → FractionIn s at (nanos_from s at)
unfolding nanos_from
nanos_in s at h =
    by_if (FractionIn s at) (is_at s at 46) _ _ (λ t. go (at_there s at 46 (omega arith) t) (fraction_at 9 (drop (at + 1) s)) refl)
    (λ t. record { below = omega arith; in_line = h; onward = omega arith; few = omega arith; shows = zero-mod _ })
  where
    go : at < length s → (r : Option (ℕ × ℕ)) → fraction_at 9 (drop (at + 1) s) ≡ r → FractionIn s at (moved (at + 1) r)
    go l None e = tt
    go l (Some x) e =
        let j = fraction_len_lem 9 (drop (at + 1) s) x.0 x.1 e (omega arith) in
        let k : at + 1 + x.1 - at - 1 ≡ x.1 = omega arith in
        record {
          below = j.3;
          in_line = omega (arith, j.2, length-drop (at + 1) s);
          onward = omega arith;
          few = omega (arith, j.1);
          shows = rw (k, (fraction_is 9 (drop (at + 1) s) x.0 x.1 e).value, mul-mod_left);
        }

module _ (s : List ℕ) (at : ℕ) where
  module _ (g : Option (Clock × ℕ)) (h m x n : ℕ) (z : g ≡ Some (record { hour = h; minute = m; second = x }, n)) where
    pub clock_within : g ≡ clock_from s at → n ≤ length s
    clock_within e = rw (← e, z) at (triple_in clocks s at (ClockIn (length s)) tt (λ h m x n l. l))

    pub time_within : g ≡ time_from s at → n ≤ length s
    time_within e = rw (← e, z) at (triple_in times s at (ClockIn (length s)) tt (λ h m x n l. l))

  pub date_within : (g : Option (Date × ℕ)) → g ≡ date_from s at → (y m d n : ℕ) → g ≡ Some (record { year = y; month = m; day = d }, n) → n ≤ length s
  date_within g e y m d n z = rw (← e, z) at (triple_in dates s at (DateIn (length s)) tt (λ y m d n l. l))

  pub day_within : (g : Option (Day × ℕ)) → g ≡ day_from s at → (m d n : ℕ) → g ≡ Some (record { month = m; day = d }, n) → n ≤ length s
  day_within g e m d n z = rw (← e, z) at (day_in s at)

  module _ (h : at ≤ length s) (g : Option (ℕ × ℕ)) (e : g ≡ nanos_from s at) (v n : ℕ) (z : g ≡ Some (v, n)) where
    fraction : Fraction s at v n
    fraction = rw (← e, z) at (nanos_in s at h)

    pub nanos_within : n ≤ length s
    nanos_within = fraction.in_line

    pub nanos_onward : at ≤ n
    nanos_onward = fraction.onward

    pub nanos_few : n - at ≤ 10
    nanos_few = omega (arith, fraction.few)
