-- Date, letter and clock of form (c) are 19 bytes, and what stands after them is the fraction that the timestamp has.
use Rattle.std.specs.Prelude.{Option, Some, None}
use Prim.Native.Nat.{ℕ, ◌+◌, ◌-◌, ◌≤◌, ◌<◌}
use mathlib.Core.Path.{◌≡◌, refl, sym}
use mathlib.Core.List.{List}
use mathlib.Core.Bool.{◌||◌}
use native.Mathlib.Omega.{arith}
use lib.ListN.{length, drop}
use Rattle.base.specs.Choose.{is_at}
use Rattle.base.proofs.Pairs.{some_second}
use Rattle.base.proofs.Tests.{by_if}
use Rattle.digits.specs.Digits.{fixed_at}
use Rattle.digits.proofs.Fixed.{fixed_len}
use Rattle.calendar.specs.Calendar.{valid}
use Rattle.calendar.specs.declared.DateTime.{DateTime}
use Rattle.record.specs.declared.Timestamp.{Timestamp}
use Rattle.parsers.specs.Steps.{moved, byte_from}
use Rattle.timestamp.specs.Rfc3339.{fixed_from, either_from, date_from, time_from, nanos_from, zone_from, end_from, full_from, rfc3339_from}
use Rattle.timestamp.specs.declared.Clock.{Clock}
use Rattle.timestamp.specs.declared.Date.{Date}
use Rattle.timestamp.proofs.Onward.{on_num_lem, on_pos_lem, on_clock_lem, on_date_lem, on_zone_lem}
use Rattle.timestamp.proofs.Triples.{times, dates, triple_by}
use Rattle.timestamp.proofs.Within.{time_within}

-- ---- how far each step goes

fixed_next : (k : ℕ) (s : List ℕ) (at v n : ℕ) → fixed_from k s at ≡ Some (v, n) → n ≡ at + k
unfolding fixed_from
fixed_next k s at v n e = go (fixed_at k (drop at s)) refl e
  where
    go : (r : Option (ℕ × ℕ)) → fixed_at k (drop at s) ≡ r → moved at r ≡ Some (v, n) → n ≡ at + k
    go None q z = let m : ◌≡◌ {A = ℕ} 0 1 = cc in absurd (omega arith)
    go (Some x) q z = let p : at + x.1 ≡ n = some_second z in omega (arith, (fixed_len k (drop at s) x.0 x.1 q).0)

module _ (s : List ℕ) (at n : ℕ) where
  byte_next_lem : (b : ℕ) → byte_from s at b ≡ Some n → n ≡ at + 1
  unfolding byte_from
  byte_next_lem b =
      by_if (λ x. x ≡ Some n → n ≡ at + 1) (is_at s at b) _ _ (λ t q. let m : at + 1 ≡ n = cc in sym m) (λ t q. let m : ◌≡◌ {A = ℕ} 0 1 = cc in absurd (omega arith))

  either_next : (a b : ℕ) → either_from s at a b ≡ Some n → n ≡ at + 1
  unfolding either_from
  either_next a b =
      by_if (λ x. x ≡ Some n → n ≡ at + 1) (is_at s at a || is_at s at b) _ _ (λ t q. let m : at + 1 ≡ n = cc in sym m) (λ t q. let m : ◌≡◌ {A = ℕ} 0 1 = cc in absurd (omega arith))

abbrev DateTo : ℕ → Option (Date × ℕ) → Type 0
DateTo n None = Unit {0}
DateTo n (Some x) = x.1 ≡ n

abbrev ClockTo : ℕ → Option (Clock × ℕ) → Type 0
ClockTo n None = Unit {0}
ClockTo n (Some y) = y.1 ≡ n

date_to : (s : List ℕ) (at : ℕ) → DateTo (at + 10) (date_from s at)
date_to s at =
    triple_by dates s at (DateTo (at + 10)) tt λ x a b y c d z e e1 e2 e3 e4 e5.
    omega (arith, fixed_next 4 s at x a e1, byte_next_lem s a b 45 e2, fixed_next 2 s b y c e3, byte_next_lem s c d 45 e4, fixed_next 2 s d z e e5)

time_to : (s : List ℕ) (at : ℕ) → ClockTo (at + 8) (time_from s at)
time_to s at =
    triple_by times s at (ClockTo (at + 8)) tt λ x a b y c d z e e1 e2 e3 e4 e5.
    omega (arith, fixed_next 2 s at x a e1, byte_next_lem s a b 58 e2, fixed_next 2 s b y c e3, byte_next_lem s c d 58 e4, fixed_next 2 s d z e e5)

-- ---- nothing shorter is a timestamp

pub full_short : (s : List ℕ) (at : ℕ) → at ≤ length s → length s - at < 19 → None ≡ full_from s at
unfolding full_from
full_short s at h l =
    on_date_lem (λ (r : Option (Option Timestamp × ℕ)). None ≡ r) (date_from s at) _ _ refl λ year month day a e1.
    on_pos_lem (λ (r : Option (Option Timestamp × ℕ)). None ≡ r) (either_from s a 84 116) _ _ refl λ b e2.
    on_clock_lem (λ (r : Option (Option Timestamp × ℕ)). None ≡ r) (time_from s b) _ _ refl λ hour minute second c e3.
    let i : a ≡ at + 10 = rw e1 at (date_to s at) in
    let j : c ≡ b + 8 = rw e3 at (time_to s b) in
    let k : c ≤ length s = time_within s b (time_from s b) hour minute second c e3 refl in
    absurd (omega (arith, either_next s a b 84 116 e2))

-- ---- the fraction at `at` of `s` is the timestamp's

pub record Fractioned (s : List ℕ) (at : ℕ) (t : Timestamp) : Type 0 where
  pub next : ℕ
  pub fraction : nanos_from s at ≡ Some (t.nanos, next)
  pub counted : t.digits ≡ next - at - 1

abbrev pub StampFraction : List ℕ → ℕ → Option Timestamp → Type 0
StampFraction s at None = Unit {0}
StampFraction s at (Some t) = Fractioned s at t

abbrev pub FractionOf : List ℕ → ℕ → Option (Option Timestamp × ℕ) → Type 0
FractionOf s at None = Unit {0}
FractionOf s at (Some x) = StampFraction s at x.0

moved_to : (s : List ℕ) (x y : ℕ) (r : Option (Option Timestamp × ℕ)) → x ≡ y → FractionOf s x r → FractionOf s y r
moved_to s x y r e h = rw (← e) h

end_of : (s : List ℕ) (t : DateTime) (at : ℕ) → FractionOf s at (end_from s t at)
unfolding end_from
end_of s t at =
    on_num_lem (FractionOf s at) (nanos_from s at) _ _ tt λ nanos a e1.
    on_zone_lem (FractionOf s at) (zone_from s a) _ _ tt λ o b e2.
    by_if (FractionOf s at) (is_at s b 32) _ _
    (λ p. by_if (FractionOf s at) (valid t) _ _ (λ v. record { next = a; fraction = e1; counted = refl }) (λ v. tt))
    (λ p. tt)

full_of : (s : List ℕ) (at : ℕ) → FractionOf s (at + 19) (full_from s at)
unfolding full_from
full_of s at =
    on_date_lem (FractionOf s (at + 19)) (date_from s at) _ _ tt λ year month day a e1.
    on_pos_lem (FractionOf s (at + 19)) (either_from s a 84 116) _ _ tt λ b e2.
    on_clock_lem (FractionOf s (at + 19)) (time_from s b) _ _ tt λ hour minute second c e3.
    let i : a ≡ at + 10 = rw e1 at (date_to s at) in
    let j : c ≡ b + 8 = rw e3 at (time_to s b) in
    let k : c ≡ at + 19 = omega (arith, either_next s a b 84 116 e2) in
    let t : DateTime = record { year = year; month = month; day = day; hour = hour; minute = minute; second = second } in
    moved_to s c (at + 19) (end_from s t c) k (end_of s t c)

pub rfc3339_of : (s : List ℕ) (at : ℕ) → FractionOf s (at + 19) (rfc3339_from s at)
unfolding rfc3339_from
rfc3339_of s at = by_if (FractionOf s (at + 19)) (is_at s at 45) _ _ (λ t. tt) (λ t. full_of s at)
