-- The instant of a date and a clock, and form (c).
use Rattle.std.specs.Prelude.{Option, Some, None}
use Prim.Native.Nat.{ℕ, ◌+◌, ◌-◌}
use mathlib.Core.Path.{◌≡◌, sym, ◌∙◌}
use mathlib.Core.List.{List}
use mathlib.Core.Bool.{Bool, true, false, not}
use lib.IntN.{ℤ, pos}
use borrow.Author.Tests.{not-true, not-false}
use mir.Syntax.{w32, w64}
use mir.Val.{SFits, to_z, of_z}
use mir.ValLaws.{to_z-of_z}
use Rattle.base.specs.Choose.{is_at}
use Rattle.calendar.specs.Calendar.{valid}
use Rattle.calendar.specs.Instant.{seconds_of, shown, is_shown}
use Rattle.calendar.specs.declared.DateTime.{DateTime}
use Rattle.timestamp.specs.Rfc3339.{either_from, date_from, time_from, nanos_from, zone_from, stamp_if, end_from, full_from, rfc3339_from}
use Rattle.timestamp.specs.Timestamp.{utc_if}
use Rattle.timestamp.specs.declared.Clock.{Clock}
use Rattle.timestamp.specs.declared.Date.{Date}
use Rattle.record.specs.declared.Timestamp.{Timestamp}

-- a valid date and clock, local or UTC's
module _ (t : DateTime) (o : ℤ) (n : ℕ) (f : SFits w32 o) (v : Bool) (e : v ≡ valid t) where
  pub stamp_no : (nanos digits : ℕ) → not v ≡ true → None ≡ stamp_if t nanos digits o n
  stamp_no nanos digits h = rw (← e, not-true v h)

  pub utc_no : not v ≡ true → None ≡ utc_if t o n
  utc_no h = rw (← e, not-true v h)

  module _ (h : not v ≡ false) where
    pub stamp_valid : valid t ≡ true
    stamp_valid = sym e ∙ not-false v h

    module _ (z : ℤ) (fz : SFits w64 z) where
      pub stamp_yes : (nanos digits : ℕ) → z ≡ seconds_of t (to_z w32 (of_z w32 o))
          → Some (Some (record { seconds = to_z w64 (of_z w64 z); nanos = nanos; digits = digits; offset = to_z w32 (of_z w32 o) }), n) ≡ stamp_if t nanos digits o n
      stamp_yes nanos digits q = rw (← e, not-false v h, to_z-of_z w64 z fz, q, to_z-of_z w32 o f)

      module _ (q : z ≡ seconds_of t (pos 0)) (x : Option DateTime) (ex : x ≡ shown (to_z w64 (of_z w64 z)) (to_z w32 (of_z w32 o))) (b : Bool) (eb : b ≡ is_shown x) where
        seen : b ≡ is_shown (shown (seconds_of t (pos 0)) o)
        seen = eb ∙ rw (ex, to_z-of_z w64 z fz, to_z-of_z w32 o f, q)

        pub utc_outside : not b ≡ true → None ≡ utc_if t o n
        utc_outside k = rw (← e, not-false v h, ← seen, not-true b k)

        pub utc_yes : not b ≡ false
            → Some (Some (record { seconds = to_z w64 (of_z w64 z); nanos = 0; digits = 0; offset = to_z w32 (of_z w32 o) }), n) ≡ utc_if t o n
        utc_yes k = rw (← e, not-false v h, ← seen, not-false b k, to_z-of_z w64 z fz, q, to_z-of_z w32 o f)

pub ruleset stamp_laws = (stamp_no, stamp_valid, stamp_yes)

pub ruleset utc_laws = (utc_no, stamp_valid, utc_outside, utc_yes)

-- behind the clock
module _ (s : List ℕ) (t : DateTime) (at : ℕ) (g1 : Option (ℕ × ℕ)) (e1 : g1 ≡ nanos_from s at) where
  pub end_fraction : g1 ≡ None → None ≡ end_from s t at
  unfolding end_from
  end_fraction z = rw (← e1, z)

  module _ (nanos a : ℕ) (z1 : g1 ≡ Some (nanos, a)) (g2 : Option (ℤ × ℕ)) (e2 : g2 ≡ zone_from s a) where
    pub end_zone : g2 ≡ None → None ≡ end_from s t at
    unfolding end_from
    end_zone z = rw (← e1, z1, ← e2, z)

    module _ (o : ℤ) (b : ℕ) (z2 : g2 ≡ Some (o, b)) (p : Bool) (ep : p ≡ is_at s b 32) where
      pub end_space : not p ≡ true → None ≡ end_from s t at
      unfolding end_from
      end_space h = rw (← e1, z1, ← e2, z2, ← ep, not-true p h)

      pub end_is : not p ≡ false → SFits w32 o → (d : ℕ) → d ≡ a - at - 1 → (r : Option (Option Timestamp × ℕ)) → r ≡ stamp_if t nanos d (to_z w32 (of_z w32 o)) b → r ≡ end_from s t at
      unfolding end_from
      end_is h f d k r e = e ∙ rw (to_z-of_z w32 o f, k, ← e1, z1, ← e2, z2, ← ep, not-false p h)

pub ruleset end_laws = (end_fraction, end_zone, end_space, end_is)

-- date, `T`, time
module _ (s : List ℕ) (at : ℕ) (g1 : Option (Date × ℕ)) (e1 : g1 ≡ date_from s at) where
  pub full_date : g1 ≡ None → None ≡ full_from s at
  unfolding full_from
  full_date z = rw (← e1, z)

  module _ (year month day a : ℕ) (z1 : g1 ≡ Some (record { year = year; month = month; day = day }, a)) (g2 : Option ℕ) (e2 : g2 ≡ either_from s a 84 116) where
    pub full_letter : g2 ≡ None → None ≡ full_from s at
    unfolding full_from
    full_letter z = rw (← e1, z1, ← e2, z)

    module _ (b : ℕ) (z2 : g2 ≡ Some b) (g3 : Option (Clock × ℕ)) (e3 : g3 ≡ time_from s b) where
      pub full_time : g3 ≡ None → None ≡ full_from s at
      unfolding full_from
      full_time z = rw (← e1, z1, ← e2, z2, ← e3, z)

      pub full_is : (hour minute second c : ℕ) → g3 ≡ Some (record { hour = hour; minute = minute; second = second }, c) → (r : Option (Option Timestamp × ℕ))
          → r ≡ end_from s (record { year = year; month = month; day = day; hour = hour; minute = minute; second = second }) c → r ≡ full_from s at
      unfolding full_from
      full_is hour minute second c z r e = e ∙ rw (← e1, z1, ← e2, z2, ← e3, z)

pub ruleset full_laws = (full_date, full_letter, full_time, full_is)

module _ (s : List ℕ) (at : ℕ) (t : Bool) (e : t ≡ is_at s at 45) where
  pub dash_is : t ≡ true → Some (None, at + 1) ≡ rfc3339_from s at
  unfolding rfc3339_from
  dash_is h = rw (← e, h)

  pub dash_not : t ≡ false → (r : Option (Option Timestamp × ℕ)) → r ≡ full_from s at → r ≡ rfc3339_from s at
  unfolding rfc3339_from
  dash_not h r q = q ∙ rw (← e, h)

pub ruleset dash_laws = (dash_is, dash_not)
