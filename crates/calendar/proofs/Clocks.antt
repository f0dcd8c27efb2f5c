-- The seconds of a date and a clock, and the date and the clock of seconds.
use Prim.Native.Nat.{ℕ, suc, ◌+◌, ◌-◌, ◌*◌, ◌/◌, ◌%◌, ◌≤◌, ◌<◌}
use mathlib.Core.Path.{◌≡◌, refl, sym, ap, ◌∙◌}
use mathlib.Core.Bool.{true}
use native.Mathlib.Numerals.{add-one}
use native.Mathlib.Omega.{arith}
use mir.Syntax.{w32}
use mir.Val.{Fits}
use Rattle.calendar.specs.Calendar.{month_days, valid, year_days, days_before_year, days_of_months, day_number}
use Rattle.calendar.specs.Instant.{local_seconds, year_of, month_of, clock_of, all_seconds}
use Rattle.calendar.specs.declared.DateTime.{DateTime}
use Rattle.calendar.proofs.Dates.{Parts, valid_parts, parts_valid}
use Rattle.calendar.proofs.Spans.{Falls}
use Rattle.calendar.proofs.Days.{months_more, months_all, months_mono, month_falls, month_found, years_more, years_to, year_falls, year_found}

abbrev pub day_of : DateTime → ℕ
day_of t = day_number t.year t.month t.day

pub local_is : (t : DateTime) (n : ℕ) → n ≡ day_of t → n * 86400 + (t.hour * 3600 + t.minute * 60 + t.second) ≡ local_seconds t
unfolding local_seconds
local_is t n e = rw e

-- What `clock_of` finds, a step at a time: the year, the days before it, the month, the days of the months before it
abbrev found_clock : (n y a m b : ℕ) → DateTime
found_clock n y a m b =
    record {
      year = y;
      month = m + 1;
      day = n / 86400 - a - b + 1;
      hour = n % 86400 / 3600;
      minute = n % 86400 / 60 % 60;
      second = n % 86400 % 60;
    }

module _ (n y : ℕ) (h : n < all_seconds) (ey : y ≡ year_of (n / 86400)) where
  in_year : Falls days_before_year 10000 (n / 86400) y
  in_year = rw ey (year_falls (n / 86400) (omega arith))

  pub clock_year : y ≤ 10000
  clock_year = omega (arith, in_year.one_of)

  module _ (a : ℕ) (ea : a ≡ days_before_year y) where
    pub clock_from_lem : a ≤ n / 86400
    clock_from_lem = omega (arith, in_year.from)

    pub clock_left : n / 86400 - a < year_days y
    clock_left = omega (arith, in_year, years_more y)

    module _ (m : ℕ) (em : m ≡ month_of y (n / 86400 - a)) where
      in_month : Falls (days_of_months y) 12 (n / 86400 - a) m
      in_month = rw em (month_falls y (n / 86400 - a) clock_left)

      pub clock_month : m ≤ 12
      clock_month = omega (arith, in_month.one_of)

      pub clock_next : Fits w32 (m + 1)
      clock_next = record { fits = omega (arith, in_month.one_of) }

      module _ (b : ℕ) (eb : b ≡ days_of_months y m) where
        pub clock_first : b ≤ n / 86400 - a
        clock_first = omega (arith, in_month.from)

        pub clock_is : found_clock n y a m b ≡ clock_of n
        unfolding clock_of
        clock_is = rw (← ey, ← ea, ← em, ← eb)

        pub clock_parts : Parts (found_clock n y a m b)
        clock_parts =
            record {
              year_to = omega (arith, in_year.one_of);
              month_from_lem = omega arith;
              month_to = omega (arith, in_month.one_of);
              day_from_lem = omega arith;
              day_to = rw (add-one m) (omega (arith, in_month, months_more y m));
              hour_to = omega arith;
              minute_to = omega arith;
              second_to = omega arith;
            }

        pub clock_seconds : local_seconds (found_clock n y a m b) ≡ n
        unfolding local_seconds day_number
        clock_seconds =
            let e : m + 1 - 1 ≡ m = omega arith in
            rw (e, ← ea, ← eb) (omega (arith, clock_from_lem, clock_first))

same : {y m d h i s : ℕ} (t : DateTime) → y ≡ t.year → m ≡ t.month → d ≡ t.day → h ≡ t.hour → i ≡ t.minute → s ≡ t.second
    → record { year = y; month = m; day = d; hour = h; minute = i; second = s } ≡ t
same t a b c d e f = rw (a, b, c, d, e, f)

-- A valid day falls in its month, and in its year
module _ (t : DateTime) (p : Parts t) where
  pub day_in_month : Falls (days_of_months t.year) 12 (days_of_months t.year (t.month - 1) + (t.day - 1)) (t.month - 1)
  day_in_month =
      let e : suc (t.month - 1) ≡ t.month = omega (arith, p.month_from_lem) in
      record {
        one_of = omega (arith, p.month_from_lem, p.month_to);
        from = omega arith;
        to = omega (arith, p.day_from_lem, p.day_to, months_more t.year (t.month - 1), ap (month_days t.year) e);
      }

  pub day_in_year : Falls days_before_year 10000 (day_of t) t.year
  unfolding day_number
  day_in_year =
      record {
        one_of = omega (arith, p.year_to);
        from = omega arith;
        to = omega (arith, day_in_month.to, months_mono t.year (suc (t.month - 1)) 12 (omega (arith, p.month_from_lem, p.month_to)), months_all t.year, years_more t.year);
      }

  parts_below : local_seconds t < all_seconds
  unfolding local_seconds
  parts_below = omega (arith, p, day_in_year, years_to (suc t.year) (omega (arith, p.year_to)))

  local_day : local_seconds t / 86400 ≡ day_of t
  unfolding local_seconds
  local_day = omega (arith, p)

  local_left : local_seconds t / 86400 - days_before_year t.year ≡ days_of_months t.year (t.month - 1) + (t.day - 1)
  unfolding day_number
  local_left = rw local_day (omega arith)

  local_found : found_clock (local_seconds t) t.year (days_before_year t.year) (t.month - 1) (days_of_months t.year (t.month - 1)) ≡ t
  unfolding local_seconds
  local_found =
      rw local_left
      (same t refl (omega (arith, p)) (omega (arith, p)) (omega (arith, p)) (omega (arith, p)) (omega (arith, p)))

  pub clock_back : clock_of (local_seconds t) ≡ t
  clock_back =
      sym
      (clock_is
      (local_seconds t)
      t.year
      parts_below
      (rw local_day (sym (year_found _ _ day_in_year)))
      _
      refl
      (t.month - 1)
      (rw local_left (sym (month_found _ _ _ day_in_month)))
      _
      refl)
      ∙ local_found

pub local_below : (t : DateTime) → valid t ≡ true → local_seconds t < all_seconds
local_below t v = parts_below t (valid_parts t v)

module _ (n : ℕ) (h : n < all_seconds) where
  pub clock_valid : valid (clock_of n) ≡ true
  clock_valid =
      rw (← clock_is n _ h refl _ refl _ refl _ refl) (parts_valid _ (clock_parts n _ h refl _ refl _ refl _ refl))

  pub clock_local : local_seconds (clock_of n) ≡ n
  clock_local =
      rw (← clock_is n _ h refl _ refl _ refl _ refl) (clock_seconds n _ h refl _ refl _ refl _ refl)

pub ruleset clock_laws = (clock_year, clock_from_lem, clock_left, clock_month, clock_next, clock_first, clock_is)
