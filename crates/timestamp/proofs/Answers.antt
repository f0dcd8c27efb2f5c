-- What an answered timestamp is: below a second, with digits that show it, at an offset within bounds, in a year of 0 to 9999, and the position behind it
-- in the line.
use Rattle.std.specs.Prelude.{Option, Some, None}
use Prim.Native.Nat.{ℕ, ◌+◌, ◌-◌, ◌%◌, ◌^◌, ◌≤◌}
use mathlib.Core.Path.{◌≡◌, refl, ap}
use mathlib.Core.List.{List}
use mathlib.Core.Bool.{true, ◌&&◌}
use native.Mathlib.Omega.{arith}
use lib.IntN.{ℤ, pos, nat_abs}
use lib.ListN.{length}
use Rattle.base.specs.Choose.{is_at}
use Rattle.base.proofs.Tests.{both, by_if}
use Rattle.calendar.specs.Calendar.{offset_limit, valid}
use Rattle.calendar.specs.Instant.{seconds_of, shown, is_shown}
use Rattle.calendar.specs.declared.DateTime.{DateTime}
use Rattle.calendar.proofs.ThereAndBack.{back}
use Rattle.record.specs.declared.Timestamp.{Timestamp}
use Rattle.parsers.specs.Steps.{some_blanks_from, number_from}
use Rattle.parsers.proofs.Steps.{at_there, colon_within}
use Rattle.timestamp.specs.Clock.{clock_from}
use Rattle.timestamp.specs.Rfc3339.{either_from, date_from, time_from, nanos_from, zone_from, stamp_if, end_from, full_from, rfc3339_from}
use Rattle.timestamp.specs.Timestamp.{day_from, without_year, utc_if, with_year, or_else, rfc3164_from}
use Rattle.timestamp.proofs.Onward.{on_num_lem, on_pos_lem, on_clock_lem, on_date_lem, on_day_lem, on_zone_lem}
use Rattle.timestamp.proofs.Zones.{zone_in}
use Rattle.timestamp.proofs.Within.{nanos_in, clock_within, time_within}

-- an offset of at most `most` minutes either way
pub record InRange (most : ℕ) (t : Timestamp) : Type 0 where
  pub nanos_to : t.nanos ≤ 999999999
  pub digits_to : t.digits ≤ 9
  pub digits_show : t.nanos % 10 ^ (9 - t.digits) ≡ 0
  pub offset_to : nat_abs t.offset ≤ most
  pub year_in : is_shown (shown t.seconds t.offset) ≡ true

abbrev pub StampIn : ℕ → Option Timestamp → Type 0
StampIn most None = Unit {0}
StampIn most (Some t) = InRange most t

abbrev pub StampingIn : ℕ → ℕ → Option (Option Timestamp × ℕ) → Type 0
StampingIn most n None = Unit {0}
StampingIn most n (Some x) = StampIn most x.0 × (x.1 ≤ n)

module _ (most : ℕ) where
  stamp_in_lem : (n : ℕ) (t : DateTime) (nanos digits : ℕ) (o : ℤ) (next : ℕ) → nanos ≤ 999999999 → digits ≤ 9 → nanos % 10 ^ (9 - digits) ≡ 0 → nat_abs o ≤ most → next ≤ n
      → StampingIn most n (stamp_if t nanos digits o next)
  stamp_in_lem n t nanos digits o next a d w b c =
      by_if (StampingIn most n) (valid t) _ _
      (λ v. (record { nanos_to = a; digits_to = d; digits_show = w; offset_to = b; year_in = ap is_shown (back t o v) }, c)) (λ v. tt)

  utc_in : (n : ℕ) (t : DateTime) (o : ℤ) (next : ℕ) → nat_abs o ≤ most → next ≤ n → StampingIn most n (utc_if t o next)
  utc_in n t o next b c =
      by_if (StampingIn most n) (valid t && is_shown (shown (seconds_of t (pos 0)) o)) _ _
      (λ v. (record { nanos_to = omega arith; digits_to = omega arith; digits_show = refl; offset_to = b; year_in = (both (valid t) _ v).1 }, c))
      (λ v. tt)

  module _ (s : List ℕ) where
    -- form (c)
    module _ (room : offset_limit ≤ most) where
      end_in : (t : DateTime) (at : ℕ) → at ≤ length s → StampingIn most (length s) (end_from s t at)
      unfolding end_from
      end_in t at h =
          on_num_lem (StampingIn most (length s)) (nanos_from s at) _ _ tt λ nanos a e1.
          on_zone_lem (StampingIn most (length s)) (zone_from s a) _ _ tt λ o b e2.
          by_if (StampingIn most (length s)) (is_at s b 32) _ _
          (λ p.
          let i = rw e1 at (nanos_in s at h) in
          let j = rw e2 at (zone_in s a) in
          stamp_in_lem (length s) t nanos (a - at - 1) o b (omega (arith, i.below)) (omega (arith, i.few)) i.shows (omega (arith, j.0)) j.1)
          (λ p. tt)

      full_in : (at : ℕ) → StampingIn most (length s) (full_from s at)
      unfolding full_from
      full_in at =
          on_date_lem (StampingIn most (length s)) (date_from s at) _ _ tt λ year month day a e1.
          on_pos_lem (StampingIn most (length s)) (either_from s a 84 116) _ _ tt λ b e2.
          on_clock_lem (StampingIn most (length s)) (time_from s b) _ _ tt λ hour minute second c e3.
          end_in _ c (time_within s b _ hour minute second c e3 refl)

      pub rfc3339_in : (at : ℕ) → StampingIn most (length s) (rfc3339_from s at)
      unfolding rfc3339_from
      rfc3339_in at = by_if (StampingIn most (length s)) (is_at s at 45) _ _ (λ t. let l = at_there s at 45 (omega arith) t in (tt, omega arith)) (λ t. full_in at)

      -- forms (a) and (b)
      module _ (o : ℤ) (most-o : nat_abs o ≤ most) where
        without_in : (year at : ℕ) → StampingIn most (length s) (without_year year o s at)
        unfolding without_year
        without_in year at =
            on_day_lem (StampingIn most (length s)) (day_from s at) _ _ tt λ month day a e1.
            on_clock_lem (StampingIn most (length s)) (clock_from s a) _ _ tt λ hour minute second b e2.
            stamp_in_lem (length s) _ 0 0 o _ (omega arith) (omega arith) refl most-o (colon_within s b (clock_within s a _ hour minute second b e2 refl))

        with_in : (at : ℕ) → StampingIn most (length s) (with_year o s at)
        unfolding with_year
        with_in at =
            on_day_lem (StampingIn most (length s)) (day_from s at) _ _ tt λ month day a e1.
            on_num_lem (StampingIn most (length s)) (number_from s a) _ _ tt λ year b e2.
            on_pos_lem (StampingIn most (length s)) (some_blanks_from s b) _ _ tt λ c e3.
            on_clock_lem (StampingIn most (length s)) (clock_from s c) _ _ tt λ hour minute second d e4.
            utc_in (length s) _ o _ most-o (colon_within s d (clock_within s c _ hour minute second d e4 refl))

        or_in : (x y : Option (Option Timestamp × ℕ)) → StampingIn most (length s) x → StampingIn most (length s) y → StampingIn most (length s) (or_else x y)
        or_in None y a b = b
        or_in (Some x) y a b = a

        pub rfc3164_in : (year at : ℕ) → StampingIn most (length s) (rfc3164_from year o s at)
        unfolding rfc3164_from
        rfc3164_in year at =
            or_in (without_year year o s at) (or_else (with_year o s at) (rfc3339_from s at)) (without_in year at)
            (or_in (with_year o s at) (rfc3339_from s at) (with_in at) (rfc3339_in at))

-- as a caller needs it
module _ (s : List ℕ) (at : ℕ) (g : Option (Option Timestamp × ℕ)) (t : Option Timestamp) (n : ℕ) (z : g ≡ Some (t, n)) where
  module _ (e : g ≡ rfc3339_from s at) where
    pub rfc3339_within : n ≤ length s
    rfc3339_within = (rw (← e, z) at (rfc3339_in offset_limit s (omega arith) at)).1

    pub rfc3339_stamp : StampIn offset_limit t
    rfc3339_stamp = (rw (← e, z) at (rfc3339_in offset_limit s (omega arith) at)).0

  module _ (year : ℕ) (o : ℤ) (e : g ≡ rfc3164_from year o s at) where
    pub rfc3164_within : n ≤ length s
    rfc3164_within = (rw (← e, z) at (rfc3164_in (nat_abs o + offset_limit) s (omega arith) o (omega arith) year at)).1

    pub rfc3164_stamp : nat_abs o ≤ offset_limit → StampIn offset_limit t
    rfc3164_stamp h = (rw (← e, z) at (rfc3164_in offset_limit s (omega arith) o h year at)).0
