-- Timestamps of the loose readers: how many bytes of the line each form takes at least, over the fraction that is printed of it.
use Rattle.std.specs.Prelude.{Option, Some, None}
use Prim.Native.Nat.{ℕ, ◌+◌, ◌-◌, ◌≤◌}
use mathlib.Core.Path.{◌≡◌, refl, sym, ap}
use mathlib.Core.List.{List}
use mathlib.Core.Bool.{◌&&◌, ◌||◌}
use native.Mathlib.Decide.{dec_le}
use native.Mathlib.Omega.{arith}
use lib.Dec.{leb, eqb}
use lib.ListN.{length, take, drop}
use lib.IntN.{ℤ, pos}
use Rattle.base.specs.Choose.{is_at}
use Rattle.base.specs.Runs.{run}
use Rattle.base.proofs.Tests.{by_if}
use Rattle.digits.specs.Digits.{number_at, fixed_at}
use Rattle.digits.proofs.Fixed.{fixed_len}
use Rattle.digits.proofs.Numbers.{number_len}
use Rattle.calendar.specs.Calendar.{valid}
use Rattle.calendar.specs.Instant.{seconds_of, shown, is_shown}
use Rattle.calendar.specs.declared.DateTime.{DateTime}
use Rattle.parsers.specs.Steps.{is_blank, blanks_from, some_blanks_from, byte_from, colon_from, moved, number_from}
use Rattle.parsers.proofs.Steps.{some_no, some_yes}
use Rattle.timestamp.specs.Month.{month_of, month_from}
use Rattle.timestamp.specs.Clock.{clock_from}
use Rattle.timestamp.specs.Rfc3339.{fixed_from, either_from, date_from, time_from, nanos_from, minutes_from, east_of, west_of, zone_from, stamp_if, end_from, full_from, rfc3339_from}
use Rattle.timestamp.specs.Timestamp.{day_from, without_year, utc_if, with_year, or_else, rfc3164_from}
use Rattle.timestamp.specs.declared.Clock.{Clock}
use Rattle.timestamp.specs.declared.Date.{Date}
use Rattle.timestamp.specs.declared.Day.{Day}
use Rattle.timestamp.proofs.Onward.{on_num_lem, on_pos_lem, on_clock_lem, on_date_lem, on_day_lem, on_zone_lem}
use Rattle.timestamp.proofs.Triples.{clocks, times, dates, triple_by}
use Rattle.timestamp.proofs.Within.{time_within, nanos_onward}
use Rattle.message_stamp.specs.Stamps.{fraction_text}
use Rattle.message_stamp.proofs.Texts.{fraction_le, fraction_none}
use Rattle.record.specs.declared.Timestamp.{Timestamp}

-- ---- a step that answers a position goes on by `k` bytes at least

abbrev pub NumFrom : ℕ → Option (ℕ × ℕ) → Type 0
NumFrom least None = Unit {0}
NumFrom least (Some x) = least ≤ x.1

abbrev pub PosFrom : ℕ → Option ℕ → Type 0
PosFrom least None = Unit {0}
PosFrom least (Some n) = least ≤ n

pub num_is : {x : (Option (ℕ × ℕ))} {least v n : ℕ} → NumFrom least x → x ≡ Some (v, n) → least ≤ n
num_is h e = rw e at h

pub pos_is : {x : (Option ℕ)} {least n : ℕ} → PosFrom least x → x ≡ Some n → least ≤ n
pos_is h e = rw e at h

module _ (s : List ℕ) (at : ℕ) where
  pub number_from_lem : NumFrom (at + 1) (number_from s at)
  unfolding number_from
  number_from_lem = go (number_at 4294967295 (drop at s)) refl
    where
      go : (r : Option (ℕ × ℕ)) → number_at 4294967295 (drop at s) ≡ r → NumFrom (at + 1) (moved at r)
      go None e = tt
      go (Some x) e = omega (arith, (number_len 4294967295 (drop at s) x.0 x.1 e).0)

  fixed_from_lem : (k : ℕ) → NumFrom (at + k) (fixed_from k s at)
  unfolding fixed_from
  fixed_from_lem k = go (fixed_at k (drop at s)) refl
    where
      go : (r : Option (ℕ × ℕ)) → fixed_at k (drop at s) ≡ r → NumFrom (at + k) (moved at r)
      go None e = tt
      go (Some x) e = omega (arith, (fixed_len k (drop at s) x.0 x.1 e).0)

  month_from_lem : NumFrom (at + 3) (month_from s at)
  unfolding month_from
  month_from_lem = by_if (NumFrom (at + 3)) (eqb (month_of (take 3 (drop at s))) 0) _ _ (λ q. tt) (λ q. omega arith)

  pub byte_from_lem : (b : ℕ) → PosFrom (at + 1) (byte_from s at b)
  unfolding byte_from
  byte_from_lem b = by_if (PosFrom (at + 1)) (is_at s at b) _ _ (λ q. omega arith) (λ q. tt)

  either_from_lem : (a b : ℕ) → PosFrom (at + 1) (either_from s at a b)
  unfolding either_from
  either_from_lem a b = by_if (PosFrom (at + 1)) (is_at s at a || is_at s at b) _ _ (λ q. omega arith) (λ q. tt)

  pub some_from : PosFrom (at + 1) (some_blanks_from s at)
  some_from = go (dec_le (run is_blank (drop at s)) 0)
    where
      go : Dec (run is_blank (drop at s) ≤ 0) → PosFrom (at + 1) (some_blanks_from s at)
      go (yes l) = rw (← some_no s at (blanks_from s at) refl (omega arith)) tt
      go (no l) = rw (← some_yes s at (blanks_from s at) refl (λ z. omega arith)) (omega arith)

-- hh:mm:ss with digits of any count, and both parts of form (c)
abbrev ClockFrom : ℕ → Option (Clock × ℕ) → Type 0
ClockFrom least None = Unit {0}
ClockFrom least (Some y) = least ≤ y.1

abbrev DateFrom : ℕ → Option (Date × ℕ) → Type 0
DateFrom least None = Unit {0}
DateFrom least (Some x) = least ≤ x.1

abbrev DayFrom : ℕ → Option (Day × ℕ) → Type 0
DayFrom least None = Unit {0}
DayFrom least (Some x) = least ≤ x.1

abbrev ZoneFrom : ℕ → Option (ℤ × ℕ) → Type 0
ZoneFrom least None = Unit {0}
ZoneFrom least (Some x) = least ≤ x.1

module _ (s : List ℕ) where
  clock_from_lem : (at : ℕ) → ClockFrom (at + 5) (clock_from s at)
  clock_from_lem at =
      triple_by clocks s at (ClockFrom (at + 5)) tt λ x a b y c d z e e1 e2 e3 e4 e5.
      omega (arith, num_is (number_from_lem s at) e1, pos_is (byte_from_lem s a 58) e2, num_is (number_from_lem s b) e3, pos_is (byte_from_lem s c 58) e4, num_is (number_from_lem s d) e5)

  time_from_lem : (at : ℕ) → ClockFrom (at + 8) (time_from s at)
  time_from_lem at =
      triple_by times s at (ClockFrom (at + 8)) tt λ x a b y c d z e e1 e2 e3 e4 e5.
      omega (arith, num_is (fixed_from_lem s at 2) e1, pos_is (byte_from_lem s a 58) e2, num_is (fixed_from_lem s b 2) e3, pos_is (byte_from_lem s c 58) e4, num_is (fixed_from_lem s d 2) e5)

  date_from_lem : (at : ℕ) → DateFrom (at + 10) (date_from s at)
  date_from_lem at =
      triple_by dates s at (DateFrom (at + 10)) tt λ x a b y c d z e e1 e2 e3 e4 e5.
      omega (arith, num_is (fixed_from_lem s at 4) e1, pos_is (byte_from_lem s a 45) e2, num_is (fixed_from_lem s b 2) e3, pos_is (byte_from_lem s c 45) e4, num_is (fixed_from_lem s d 2) e5)

  -- `Feb 5 `
  day_from_lem : (at : ℕ) → DayFrom (at + 6) (day_from s at)
  unfolding day_from
  day_from_lem at =
      on_num_lem (DayFrom (at + 6)) (month_from s at) _ _ tt λ m a e1.
      on_pos_lem (DayFrom (at + 6)) (some_blanks_from s a) _ _ tt λ b e2.
      on_num_lem (DayFrom (at + 6)) (number_from s b) _ _ tt λ d c e3.
      on_pos_lem (DayFrom (at + 6)) (some_blanks_from s c) _ _ tt λ n e4.
      omega (arith, num_is (month_from_lem s at) e1, pos_is (some_from s a) e2, num_is (number_from_lem s b) e3, pos_is (some_from s c) e4)

  minutes_from_lem : (at : ℕ) → NumFrom at (minutes_from s at)
  unfolding minutes_from
  minutes_from_lem at =
      on_num_lem (NumFrom at) (fixed_from 2 s at) _ _ tt λ h a e1.
      on_pos_lem (NumFrom at) (byte_from s a 58) _ _ tt λ b e2.
      on_num_lem (NumFrom at) (fixed_from 2 s b) _ _ tt λ m c e3.
      by_if (NumFrom at) (leb h 23 && leb m 59) _ _
      (λ q. omega (arith, num_is (fixed_from_lem s at 2) e1, pos_is (byte_from_lem s a 58) e2, num_is (fixed_from_lem s b 2) e3)) (λ q. tt)

  -- `Z`
  zone_from_lem : (at : ℕ) → ZoneFrom (at + 1) (zone_from s at)
  unfolding zone_from
  zone_from_lem at =
      by_if (ZoneFrom (at + 1)) (is_at s at 90 || is_at s at 122) _ _ (λ q. omega arith) λ q.
      by_if (ZoneFrom (at + 1)) (is_at s at 43) _ _ (λ q. east (minutes_from s (at + 1)) (minutes_from_lem (at + 1))) λ q.
      by_if (ZoneFrom (at + 1)) (is_at s at 45) _ _ (λ q. west (minutes_from s (at + 1)) (minutes_from_lem (at + 1))) (λ q. tt)
    where
      east : (x : Option (ℕ × ℕ)) → NumFrom (at + 1) x → ZoneFrom (at + 1) (east_of x)
      east None h = tt
      east (Some x) h = h

      west : (x : Option (ℕ × ℕ)) → NumFrom (at + 1) x → ZoneFrom (at + 1) (west_of x)
      west None h = tt
      west (Some x) h = h

-- ---- a timestamp that was read at `at`: `least` bytes or more, and its fraction

abbrev pub StampTo : ℕ → ℕ → Option Timestamp → ℕ → Type 0
StampTo least at None n = at + 1 ≤ n
StampTo least at (Some t) n = at + least + length (fraction_text t.digits t.nanos) ≤ n

abbrev pub StampFrom : ℕ → ℕ → Option (Option Timestamp × ℕ) → Type 0
StampFrom least at None = Unit {0}
StampFrom least at (Some x) = StampTo least at x.0 x.1

module _ (least at : ℕ) where
  stamp_from : (t : DateTime) (nanos digits : ℕ) (o : ℤ) (next : ℕ) → at + least + length (fraction_text digits nanos) ≤ next
      → StampFrom least at (stamp_if t nanos digits o next)
  stamp_from t nanos digits o next h = by_if (StampFrom least at) (valid t) _ _ (λ v. h) (λ v. tt)

  utc_from : (t : DateTime) (o : ℤ) (next : ℕ) → at + least ≤ next → StampFrom least at (utc_if t o next)
  utc_from t o next h =
      by_if (StampFrom least at) (valid t && is_shown (shown (seconds_of t (pos 0)) o)) _ _ (λ v. omega (arith, ap length (sym (fraction_none 0 0 refl)))) (λ v. tt)

pub colon_from_lem : (s : List ℕ) (at : ℕ) → at ≤ colon_from s at
colon_from_lem s at = by_if (λ n. at ≤ n) (is_at s at 58) _ _ (λ q. omega arith) (λ q. omega arith)

-- the fraction as it stands in the line
fraction_from : (at a nanos : ℕ) → at ≤ a → at + length (fraction_text (a - at - 1) nanos) ≤ a
fraction_from at a nanos h = go (dec_le a at)
  where
    go : Dec (a ≤ at) → at + length (fraction_text (a - at - 1) nanos) ≤ a
    go (yes l) = omega (arith, ap length (sym (fraction_none (a - at - 1) nanos (omega arith))))
    go (no l) = omega (arith, fraction_le (a - at - 1) nanos)

module _ (s : List ℕ) where
  -- form (c): 19 bytes of date and clock, the fraction, and the zone
  full_from_lem : (at : ℕ) → StampFrom 20 at (full_from s at)
  unfolding full_from end_from
  full_from_lem at =
      on_date_lem (StampFrom 20 at) (date_from s at) _ _ tt λ year month day a e1.
      on_pos_lem (StampFrom 20 at) (either_from s a 84 116) _ _ tt λ b e2.
      on_clock_lem (StampFrom 20 at) (time_from s b) _ _ tt λ hour minute second c e3.
      on_num_lem (StampFrom 20 at) (nanos_from s c) _ _ tt λ nanos d e4.
      on_zone_lem (StampFrom 20 at) (zone_from s d) _ _ tt λ o e e5.
      by_if (StampFrom 20 at) (is_at s e 32) _ _
      (λ q.
      let i : at + 10 ≤ a = rw e1 at (date_from_lem s at) in
      let j : b + 8 ≤ c = rw e3 at (time_from_lem s b) in
      let k : d + 1 ≤ e = rw e5 at (zone_from_lem s d) in
      let f = fraction_from c d nanos (nanos_onward s c (time_within s b _ hour minute second c e3 refl) _ refl nanos d e4) in
      stamp_from 20 at _ nanos (d - c - 1) o e (omega (arith, pos_is (either_from_lem s a 84 116) e2)))
      (λ q. tt)

  pub rfc3339_from_lem : (at : ℕ) → StampFrom 20 at (rfc3339_from s at)
  unfolding rfc3339_from
  rfc3339_from_lem at = by_if (StampFrom 20 at) (is_at s at 45) _ _ (λ q. omega arith) (λ q. full_from_lem at)

  -- forms (a) and (b): `Feb 5 1:2:3`
  module _ (o : ℤ) (at : ℕ) where
    without_from : (year : ℕ) → StampFrom 11 at (without_year year o s at)
    unfolding without_year
    without_from year =
        on_day_lem (StampFrom 11 at) (day_from s at) _ _ tt λ month day a e1.
        on_clock_lem (StampFrom 11 at) (clock_from s a) _ _ tt λ hour minute second b e2.
        let i : at + 6 ≤ a = rw e1 at (day_from_lem s at) in
        let j : a + 5 ≤ b = rw e2 at (clock_from_lem s a) in
        stamp_from 11 at _ 0 0 o _ (omega (arith, colon_from_lem s b, ap length (sym (fraction_none 0 0 refl))))

    with_from : StampFrom 11 at (with_year o s at)
    unfolding with_year
    with_from =
        on_day_lem (StampFrom 11 at) (day_from s at) _ _ tt λ month day a e1.
        on_num_lem (StampFrom 11 at) (number_from s a) _ _ tt λ year b e2.
        on_pos_lem (StampFrom 11 at) (some_blanks_from s b) _ _ tt λ c e3.
        on_clock_lem (StampFrom 11 at) (clock_from s c) _ _ tt λ hour minute second d e4.
        let i : at + 6 ≤ a = rw e1 at (day_from_lem s at) in
        let j : c + 5 ≤ d = rw e4 at (clock_from_lem s c) in
        utc_from 11 at _ o _ (omega (arith, num_is (number_from_lem s a) e2, pos_is (some_from s b) e3, colon_from_lem s d))

    first_from : (x y : Option (Option Timestamp × ℕ)) → StampFrom 11 at x → StampFrom 11 at y → StampFrom 11 at (or_else x y)
    first_from None y a b = b
    first_from (Some x) y a b = a

    shorter : (x : Option (Option Timestamp × ℕ)) → StampFrom 20 at x → StampFrom 11 at x
    shorter None h = tt
    shorter (Some x) h = less x.0 h
      where
        less : (t : Option Timestamp) → StampTo 20 at t x.1 → StampTo 11 at t x.1
        less None h = h
        less (Some t) h = omega arith

    pub rfc3164_from_lem : (year : ℕ) → StampFrom 11 at (rfc3164_from year o s at)
    unfolding rfc3164_from
    rfc3164_from_lem year =
        first_from (without_year year o s at) (or_else (with_year o s at) (rfc3339_from s at)) (without_from year)
        (first_from (with_year o s at) (rfc3339_from s at) with_from (shorter (rfc3339_from s at) (rfc3339_from_lem at)))
