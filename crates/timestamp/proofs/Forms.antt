-- RFC 3164's forms (a) and (b), and the three in turn.
use Rattle.std.specs.Prelude.{Option, Some, None, MatchOption}
use Prim.Native.Nat.{ℕ}
use mathlib.Core.Path.{◌≡◌, refl, ap, ◌∙◌}
use mathlib.Core.List.{List}
use lib.IntN.{ℤ}
use mir.Syntax.{w32}
use mir.Val.{SFits, to_z, of_z}
use mir.ValLaws.{to_z-of_z}
use Rattle.parsers.specs.Steps.{some_blanks_from, colon_from, number_from}
use Rattle.timestamp.specs.Month.{month_from}
use Rattle.timestamp.specs.Clock.{clock_from}
use Rattle.timestamp.specs.Rfc3339.{stamp_if, rfc3339_from}
use Rattle.timestamp.specs.Timestamp.{day_from, without_year, utc_if, with_year, or_else, rfc3164_from}
use Rattle.timestamp.specs.declared.Clock.{Clock}
use Rattle.timestamp.specs.declared.Day.{Day}
use Rattle.record.specs.declared.Timestamp.{Timestamp}

-- month name, blanks, day, blanks
module _ (s : List ℕ) (at : ℕ) (g1 : Option (ℕ × ℕ)) (e1 : g1 ≡ month_from s at) where
  pub day_month : g1 ≡ None → None ≡ day_from s at
  unfolding day_from
  day_month z = rw (← e1, z)

  module _ (month a : ℕ) (z1 : g1 ≡ Some (month, a)) (g2 : Option ℕ) (e2 : g2 ≡ some_blanks_from s a) where
    pub day_blanks : g2 ≡ None → None ≡ day_from s at
    unfolding day_from
    day_blanks z = rw (← e1, z1, ← e2, z)

    module _ (b : ℕ) (z2 : g2 ≡ Some b) (g3 : Option (ℕ × ℕ)) (e3 : g3 ≡ number_from s b) where
      pub day_number_lem : g3 ≡ None → None ≡ day_from s at
      unfolding day_from
      day_number_lem z = rw (← e1, z1, ← e2, z2, ← e3, z)

      module _ (day c : ℕ) (z3 : g3 ≡ Some (day, c)) (g4 : Option ℕ) (e4 : g4 ≡ some_blanks_from s c) where
        pub day_end : g4 ≡ None → None ≡ day_from s at
        unfolding day_from
        day_end z = rw (← e1, z1, ← e2, z2, ← e3, z3, ← e4, z)

        pub day_is : (d : ℕ) → g4 ≡ Some d → Some (record { month = month; day = day }, d) ≡ day_from s at
        unfolding day_from
        day_is d z = rw (← e1, z1, ← e2, z2, ← e3, z3, ← e4, z)

pub ruleset day_laws = (day_month, day_blanks, day_number_lem, day_end, day_is)

-- (a) and (b)
module _ (o : ℤ) (f : SFits w32 o) (s : List ℕ) (at : ℕ) (g1 : Option (Day × ℕ)) (e1 : g1 ≡ day_from s at) where
  pub without_day : (year : ℕ) → g1 ≡ None → None ≡ without_year year o s at
  unfolding without_year
  without_day year z = rw (← e1, z)

  pub with_day : g1 ≡ None → None ≡ with_year o s at
  unfolding with_year
  with_day z = rw (← e1, z)

  module _ (month day a : ℕ) (z1 : g1 ≡ Some (record { month = month; day = day }, a)) where
    module _ (year : ℕ) (g2 : Option (Clock × ℕ)) (e2 : g2 ≡ clock_from s a) where
      pub without_clock : g2 ≡ None → None ≡ without_year year o s at
      unfolding without_year
      without_clock z = rw (← e1, z1, ← e2, z)

      module _ (hour minute second b : ℕ) (z2 : g2 ≡ Some (record { hour = hour; minute = minute; second = second }, b)) (n : ℕ) (en : n ≡ colon_from s b) where
        pub without_is : (r : Option (Option Timestamp × ℕ))
            → r ≡ stamp_if (record { year = year; month = month; day = day; hour = hour; minute = minute; second = second }) 0 0 (to_z w32 (of_z w32 o)) n
            → r ≡ without_year year o s at
        unfolding without_year
        without_is r q = q ∙ rw (to_z-of_z w32 o f, en, ← e1, z1, ← e2, z2)

    module _ (g2 : Option (ℕ × ℕ)) (e2 : g2 ≡ number_from s a) where
      pub with_number : g2 ≡ None → None ≡ with_year o s at
      unfolding with_year
      with_number z = rw (← e1, z1, ← e2, z)

      module _ (year b : ℕ) (z2 : g2 ≡ Some (year, b)) (g3 : Option ℕ) (e3 : g3 ≡ some_blanks_from s b) where
        pub with_blanks : g3 ≡ None → None ≡ with_year o s at
        unfolding with_year
        with_blanks z = rw (← e1, z1, ← e2, z2, ← e3, z)

        module _ (c : ℕ) (z3 : g3 ≡ Some c) (g4 : Option (Clock × ℕ)) (e4 : g4 ≡ clock_from s c) where
          pub with_clock : g4 ≡ None → None ≡ with_year o s at
          unfolding with_year
          with_clock z = rw (← e1, z1, ← e2, z2, ← e3, z3, ← e4, z)

          module _ (hour minute second d : ℕ) (z4 : g4 ≡ Some (record { hour = hour; minute = minute; second = second }, d)) (n : ℕ) (en : n ≡ colon_from s d) where
            pub with_is : (r : Option (Option Timestamp × ℕ))
                → r ≡ utc_if (record { year = year; month = month; day = day; hour = hour; minute = minute; second = second }) (to_z w32 (of_z w32 o)) n
                → r ≡ with_year o s at
            unfolding with_year
            with_is r q = q ∙ rw (to_z-of_z w32 o f, en, ← e1, z1, ← e2, z2, ← e3, z3, ← e4, z4)

pub ruleset without_laws = (without_day, without_clock, without_is)

pub ruleset with_laws = (with_day, with_number, with_blanks, with_clock, with_is)

-- the first that is a reading
or_else_is : (x y r : Option (Option Timestamp × ℕ)) → MatchOption x (r ≡ y) (λ v. r ≡ Some v) → r ≡ or_else x y
or_else_is None y r h = h
or_else_is (Some v) y r h = h

or_else_again : (x y z : Option (Option Timestamp × ℕ)) → or_else (or_else x y) z ≡ or_else x (or_else y z)
or_else_again None y z = refl
or_else_again (Some v) y z = refl

module _ (year : ℕ) (o : ℤ) (f : SFits w32 o) (s : List ℕ) (at : ℕ) (x : Option (Option Timestamp × ℕ)) (ex : x ≡ without_year year (to_z w32 (of_z w32 o)) s at) where
  pub forms : (r : Option (Option Timestamp × ℕ)) → MatchOption x (r ≡ with_year (to_z w32 (of_z w32 o)) s at) (λ v. r ≡ Some v)
      → (q : Option (Option Timestamp × ℕ)) → MatchOption r (q ≡ rfc3339_from s at) (λ v. q ≡ Some v)
      → q ≡ rfc3164_from year o s at
  unfolding rfc3164_from
  forms r hr q hq =
      let e = or_else_is r (rfc3339_from s at) q hq in
      let d = or_else_is x (with_year (to_z w32 (of_z w32 o)) s at) r hr in
      e ∙ ap (λ (z : Option (Option Timestamp × ℕ)). or_else z (rfc3339_from s at)) d ∙ rw (ex, to_z-of_z w32 o f) (or_else_again (without_year year o s at) (with_year o s at) (rfc3339_from s at))
