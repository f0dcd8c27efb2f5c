-- Dates and clocks, by the tests that decide them.
use Prim.Native.Nat.{ℕ, ◌-◌, ◌≤◌, ◌<◌}
use mathlib.Core.Path.{◌≡◌}
use mathlib.Core.List.{[]}
use mathlib.Core.Bool.{Bool, true, ◌&&◌}
use lib.ListN.{get_or}
use borrow.Author.Tests.{le-leb, leb-true}
use Rattle.base.proofs.Tests.{both}
use Rattle.calendar.specs.Calendar.{last_year, leap, months, row, month_days, valid_date, valid_time, valid}
use Rattle.calendar.specs.declared.DateTime.{DateTime}

pub month_at : (y m l : ℕ) → l ≡ row (leap y) → get_or (get_or months l []) (m - 1) 0 ≡ month_days y m
unfolding month_days
month_at y m l e = rw e

-- What a valid date and clock hold, a number at a time
pub record Parts (t : DateTime) : Type 0 where
  pub year_to : t.year ≤ last_year
  pub month_from_lem : 1 ≤ t.month
  pub month_to : t.month ≤ 12
  pub day_from_lem : 1 ≤ t.day
  pub day_to : t.day ≤ month_days t.year t.month
  pub hour_to : t.hour < 24
  pub minute_to : t.minute < 60
  pub second_to : t.second < 60

and_left : (a b : Bool) → (a && b) ≡ true → a ≡ true
and_left a b h = (both a b h).0

and_right : (a b : Bool) → (a && b) ≡ true → b ≡ true
and_right a b h = (both a b h).1

and_both : (a b : Bool) → a ≡ true → b ≡ true → (a && b) ≡ true
and_both a b p q = rw (p, q)

pub valid_parts : (t : DateTime) → valid t ≡ true → Parts t
unfolding valid valid_date valid_time
valid_parts t h = search (and_left, and_right, leb-true)

pub parts_valid : (t : DateTime) → Parts t → valid t ≡ true
unfolding valid valid_date valid_time
parts_valid t p = search (and_both, le-leb)
