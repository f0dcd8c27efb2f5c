-- The offset of a zone: minutes, their sign, and what they may be.
use Rattle.std.specs.Prelude.{Option, Some, None}
use Prim.Native.Nat.{ℕ, zero, suc, ◌+◌, ◌-◌, ◌*◌, ◌≤◌, ◌<◌}
use mathlib.Core.Path.{◌≡◌, refl, sym, ap, ◌∙◌}
use mathlib.Core.List.{List}
use mathlib.Core.Bool.{Bool, true, false, ◌&&◌, ◌||◌}
use native.Mathlib.Decide.{dec_le}
use native.Mathlib.Omega.{arith}
use lib.Dec.{leb}
use lib.IntN.{ℤ, pos, negsuc, neg_ℤ, sub_ℕ, nat_abs}
use lib.ListN.{length}
use lib.Signed.{mag}
use borrow.Author.Tests.{leb-true}
use mir.Syntax.{w32, w64}
use mir.Val.{Fits, SFits, to_z, of_z}
use mir.ValLaws.{to_z-of_z}
use Rattle.base.specs.Choose.{is_at}
use Rattle.base.proofs.Tests.{both, by_if}
use Rattle.base.proofs.Diffs.{sub_ge, sub_lt}
use Rattle.calendar.specs.Calendar.{offset_limit}
use Rattle.parsers.specs.Steps.{byte_from}
use Rattle.parsers.proofs.Steps.{at_there}
use Rattle.timestamp.specs.Rfc3339.{fixed_from, minutes_from, east_of, west_of, zone_from}
use Rattle.timestamp.proofs.Onward.{on_num_lem, on_pos_lem}
use Rattle.timestamp.proofs.Fixed.{fixed_within, either_there}

-- hh:mm
hour_to : (h m : ℕ) → (leb h 23 && leb m 59) ≡ true → h ≤ 23
hour_to h m e = leb-true h 23 (both (leb h 23) (leb m 59) e).0

minute_to : (h m : ℕ) → (leb h 23 && leb m 59) ≡ true → m ≤ 59
minute_to h m e = leb-true m 59 (both (leb h 23) (leb m 59) e).1

pub hours_fit : (h m : ℕ) → (leb h 23 && leb m 59) ≡ true → Fits w32 (h * 60)
hours_fit h m e = record { fits = omega (arith, hour_to h m e) }

pub minutes_fit : (h m : ℕ) → (leb h 23 && leb m 59) ≡ true → Fits w32 (h * 60 + m)
minutes_fit h m e = record { fits = omega (arith, hour_to h m e, minute_to h m e) }

module _ (s : List ℕ) (at : ℕ) (g1 : Option (ℕ × ℕ)) (e1 : g1 ≡ fixed_from 2 s at) where
  pub minutes_hour : g1 ≡ None → None ≡ minutes_from s at
  unfolding minutes_from
  minutes_hour z = rw (← e1, z)

  module _ (h a : ℕ) (z1 : g1 ≡ Some (h, a)) (g2 : Option ℕ) (e2 : g2 ≡ byte_from s a 58) where
    pub minutes_colon : g2 ≡ None → None ≡ minutes_from s at
    unfolding minutes_from
    minutes_colon z = rw (← e1, z1, ← e2, z)

    module _ (b : ℕ) (z2 : g2 ≡ Some b) (g3 : Option (ℕ × ℕ)) (e3 : g3 ≡ fixed_from 2 s b) where
      pub minutes_minute : g3 ≡ None → None ≡ minutes_from s at
      unfolding minutes_from
      minutes_minute z = rw (← e1, z1, ← e2, z2, ← e3, z)

      module _ (m c : ℕ) (z3 : g3 ≡ Some (m, c)) where
        pub minutes_yes : (leb h 23 && leb m 59) ≡ true → Some (h * 60 + m, c) ≡ minutes_from s at
        unfolding minutes_from
        minutes_yes t = rw (← e1, z1, ← e2, z2, ← e3, z3, t)

        pub minutes_no : (leb h 23 && leb m 59) ≡ false → None ≡ minutes_from s at
        unfolding minutes_from
        minutes_no t = rw (← e1, z1, ← e2, z2, ← e3, z3, t)

pub ruleset minutes_laws = (hours_fit, minutes_fit, minutes_hour, minutes_colon, minutes_minute, minutes_yes, minutes_no)

-- at most 23:59, and in the line
abbrev pub MinutesIn : ℕ → Option (ℕ × ℕ) → Type 0
MinutesIn n None = Unit {0}
MinutesIn n (Some x) = (x.0 ≤ offset_limit) × (x.1 ≤ n)

pub minutes_in : (s : List ℕ) (at : ℕ) → MinutesIn (length s) (minutes_from s at)
unfolding minutes_from
minutes_in s at =
    on_num_lem (MinutesIn (length s)) (fixed_from 2 s at) _ _ tt λ h a e1.
    on_pos_lem (MinutesIn (length s)) (byte_from s a 58) _ _ tt λ b e2.
    on_num_lem (MinutesIn (length s)) (fixed_from 2 s b) _ _ tt λ m c e3.
    by_if (MinutesIn (length s)) (leb h 23 && leb m 59) _ _
    (λ t. (omega (arith, hour_to h m t, minute_to h m t), fixed_within 2 (omega arith) s b _ refl m c e3))
    (λ t. tt)

module _ (s : List ℕ) (at : ℕ) (g : Option (ℕ × ℕ)) (e : g ≡ minutes_from s at) (v n : ℕ) (z : g ≡ Some (v, n)) where
  pub minutes_to : v ≤ offset_limit
  minutes_to = (rw (← e, z) at (minutes_in s at)).0

-- An offset as a difference
module _ (a b : ℕ) (h : (a ≤ offset_limit) × (b ≤ offset_limit)) where
  pub diff_to : nat_abs (sub_ℕ a b) ≤ offset_limit
  diff_to = go (dec_le b a)
    where
      go : Dec (b ≤ a) → nat_abs (sub_ℕ a b) ≤ offset_limit
      go (yes p) = rw (sub_ge a b p) (omega arith)
      go (no p) = rw (sub_lt a b (omega arith)) (omega arith)

  diff_mag : mag (sub_ℕ a b) ≤ offset_limit
  diff_mag = go (sub_ℕ a b) diff_to
    where
      go : (z : ℤ) → nat_abs z ≤ offset_limit → mag z ≤ offset_limit
      go (pos n) l = l
      go (negsuc n) l = omega arith

  module _ (r : ℤ) (f : SFits w64 r) (e : r ≡ sub_ℕ a b) where
    pub offset_fits : SFits w32 (to_z w64 (of_z w64 r))
    offset_fits = rw (to_z-of_z w64 r f, e) (record { sfits = omega (arith, diff_mag) })

    pub offset_is : (q : ℤ) → SFits w32 q → q ≡ to_z w64 (of_z w64 r) → to_z w32 (of_z w32 q) ≡ sub_ℕ a b
    offset_is q g eq = to_z-of_z w32 q g ∙ eq ∙ to_z-of_z w64 r f ∙ e

pub ruleset offset_laws = (offset_fits, offset_is)

pub east_diff : (m : ℕ) → sub_ℕ m 0 ≡ pos m
east_diff m = let e : m - 0 ≡ m = omega arith in sub_ge m 0 (omega arith) ∙ ap pos e

pub west_diff : (m : ℕ) → sub_ℕ 0 m ≡ neg_ℤ (pos m)
west_diff zero = refl
west_diff (suc m) = let e : suc m - 1 ≡ m = omega arith in sub_lt 0 (suc m) (omega arith) ∙ ap negsuc e

module _ (s : List ℕ) (at : ℕ) (g : Option (ℕ × ℕ)) (e : g ≡ minutes_from s at) where
  pub east_no : g ≡ None → None ≡ east_of (minutes_from s at)
  east_no z = rw (← e, z)

  pub west_no : g ≡ None → None ≡ west_of (minutes_from s at)
  west_no z = rw (← e, z)

  module _ (m n : ℕ) (z : g ≡ Some (m, n)) (o : ℤ) (f : SFits w32 o) where
    pub east_yes : o ≡ sub_ℕ m 0 → Some (to_z w32 (of_z w32 o), n) ≡ east_of (minutes_from s at)
    east_yes q = rw (← e, z, to_z-of_z w32 o f, q, east_diff m)

    pub west_yes : o ≡ sub_ℕ 0 m → Some (to_z w32 (of_z w32 o), n) ≡ west_of (minutes_from s at)
    west_yes q = rw (← e, z, to_z-of_z w32 o f, q, west_diff m)

pub ruleset east_laws = (minutes_to, east_no, east_yes)

pub ruleset west_laws = (minutes_to, west_no, west_yes)

-- `Z`, `z`, or a sign
pub sign_past : (s : List ℕ) (at b : ℕ) → 0 < b → (t : Bool) → t ≡ is_at s at b → t ≡ true → at + 1 ≤ length s
sign_past s at b p t e h = let l = at_there s at b p (sym e ∙ h) in omega arith

module _ (s : List ℕ) (at : ℕ) (t u : Bool) (et : t ≡ is_at s at 90) (eu : u ≡ is_at s at 122) where
  pub zone_utc : (t || u) ≡ true → Some (pos 0, at + 1) ≡ zone_from s at
  unfolding zone_from
  zone_utc h = rw (← et, ← eu, h)

  module _ (h : (t || u) ≡ false) (p : Bool) (ep : p ≡ is_at s at 43) where
    pub zone_east : p ≡ true → (g : Option (ℤ × ℕ)) → g ≡ east_of (minutes_from s (at + 1)) → g ≡ zone_from s at
    unfolding zone_from
    zone_east hp g e = e ∙ rw (← et, ← eu, h, ← ep, hp)

    module _ (hp : p ≡ false) (q : Bool) (eq : q ≡ is_at s at 45) where
      pub zone_west : q ≡ true → (g : Option (ℤ × ℕ)) → g ≡ west_of (minutes_from s (at + 1)) → g ≡ zone_from s at
      unfolding zone_from
      zone_west hq g e = e ∙ rw (← et, ← eu, h, ← ep, hp, ← eq, hq)

      pub zone_none : q ≡ false → None ≡ zone_from s at
      unfolding zone_from
      zone_none hq = rw (← et, ← eu, h, ← ep, hp, ← eq, hq)

pub ruleset zone_laws = (sign_past, zone_utc, zone_east, zone_west, zone_none)

-- at most 23:59 either way, and in the line
abbrev pub ZoneIn : ℕ → Option (ℤ × ℕ) → Type 0
ZoneIn n None = Unit {0}
ZoneIn n (Some x) = (nat_abs x.0 ≤ offset_limit) × (x.1 ≤ n)

pub zone_in : (s : List ℕ) (at : ℕ) → ZoneIn (length s) (zone_from s at)
unfolding zone_from
zone_in s at =
    by_if (ZoneIn (length s)) (is_at s at 90 || is_at s at 122) _ _ (λ t. (omega arith, let l = either_there s at 90 122 (omega arith, omega arith) t in omega arith)) λ t.
    by_if (ZoneIn (length s)) (is_at s at 43) _ _ (λ p. east (minutes_from s (at + 1)) (minutes_in s (at + 1))) λ p.
    by_if (ZoneIn (length s)) (is_at s at 45) _ _ (λ q. west (minutes_from s (at + 1)) (minutes_in s (at + 1))) λ q.
    tt
  where
    east : (g : Option (ℕ × ℕ)) → MinutesIn (length s) g → ZoneIn (length s) (east_of g)
    east None i = tt
    east (Some x) i = i

    west : (g : Option (ℕ × ℕ)) → MinutesIn (length s) g → ZoneIn (length s) (west_of g)
    west None i = tt
    west (Some x) i = (rw (← west_diff x.0) (diff_to 0 x.0 (omega arith, i.0)), i.1)
