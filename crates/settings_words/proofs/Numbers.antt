-- What a word writes.
use Rattle.std.specs.Prelude.{if◌then◌else◌, Option, Some, None}
use Prim.Native.Nat.{ℕ, zero, suc, min, ◌-◌, ◌≤◌, ◌<◌}
use mathlib.Core.Path.{◌≡◌, refl, sym, ap, ◌∙◌}
use mathlib.Core.Bool.{Bool, true, false, ◌||◌}
use mathlib.Core.List.{List}
use native.Mathlib.Decide.{dec_le}
use native.Mathlib.Omega.{arith}
use lib.IntN.{pos, ◌-ℤ◌, sub_ℕ}
use lib.ListN.{length, drop}
use mir.Syntax.{w32}
use mir.Val.{to_z, of_z}
use Rattle.std.proofs.lemmas.Int.{ints}
use lib.Dec.{ltb}
use borrow.Author.Tests.{lt-ltb, le-ltb}
use Rattle.base.specs.Choose.{is_at}
use Rattle.base.proofs.Diffs.{sub_ge, sub_lt}
use Rattle.base.proofs.Tests.{clash}
use Rattle.base.proofs.Parts.{at_below}
use Rattle.digits.specs.Digits.{number_at}
use Rattle.settings_words.specs.Words.{no_number, number_of, sign_len, no_offset, minutes_of, offset_of}

-- ---- a number

module _ (s : List ℕ) where
  pub number_long : 10 < length s → no_number ≡ number_of s
  unfolding number_of
  number_long l = rw (lt-ltb 10 (length s) l)

  module _ (l : length s ≤ 10) (g : Option (ℕ × ℕ)) (e : g ≡ number_at no_number s) where
    pub number_none : g ≡ None → no_number ≡ number_of s
    unfolding number_of
    number_none z = rw (le-ltb 10 (length s) l, ← e, z)

    module _ (v n : ℕ) (z : g ≡ Some (v, n)) where
      pub number_cut : n < length s → no_number ≡ number_of s
      unfolding number_of
      number_cut h = rw (le-ltb 10 (length s) l, ← e, z, lt-ltb n (length s) h)

      pub number_is : length s ≤ n → v ≡ number_of s
      unfolding number_of
      number_is h = rw (le-ltb 10 (length s) l, ← e, z, le-ltb n (length s) h)

pub ruleset number_laws = (number_long, number_none, number_cut, number_is)

-- ---- an offset

module _ (s : List ℕ) (t u : Bool) (e : t ≡ is_at s 0 45) (f : u ≡ is_at s 0 43) where
  pub sign_some : (t || u) ≡ true → 1 ≡ sign_len s
  unfolding sign_len
  sign_some h = rw (← e, ← f) (go t u h)
    where
      go : (t u : Bool) → (t || u) ≡ true → ◌≡◌ {A = ℕ} 1 (if t then 1 else if u then 1 else 0)
      go true u h = refl
      go false true h = refl
      go false false h = clash (sym h)

  pub sign_room : (t || u) ≡ true → 1 ≤ length s
  sign_room h = go t u e f h
    where
      go : (t u : Bool) → t ≡ is_at s 0 45 → u ≡ is_at s 0 43 → (t || u) ≡ true → 1 ≤ length s
      go true u e f h = omega (arith, at_below s 0 44 (sym e))
      go false true e f h = omega (arith, at_below s 0 42 (sym f))
      go false false e f h = clash (sym h)

  pub sign_none : (t || u) ≡ false → 0 ≡ sign_len s
  unfolding sign_len
  sign_none h = rw (← e, ← f) (go t u h)
    where
      go : (t u : Bool) → (t || u) ≡ false → ◌≡◌ {A = ℕ} 0 (if t then 1 else if u then 1 else 0)
      go false false h = refl
      go false true h = clash h
      go true u h = clash h

pub ruleset sign_laws = (sign_some, sign_room, sign_none)

module _ (s : List ℕ) (k : ℕ) (e : k ≡ sign_len s) (t : List ℕ) (et : t ≡ drop k s) (n : ℕ) (en : n ≡ number_of t) where
  behind : number_of (drop (sign_len s) s) ≡ n
  behind = sym (en ∙ ap number_of (et ∙ ap (λ i. drop i s) e))

  pub minutes_are : min n no_offset ≡ minutes_of s
  unfolding minutes_of
  minutes_are = rw behind (go (dec_le n no_offset))
    where
      go : Dec (n ≤ no_offset) → min n no_offset ≡ (if ltb no_offset n then no_offset else n)
      go (yes h) = rw (le-ltb no_offset n h) (omega arith)
      go (no h) = rw (lt-ltb no_offset n (omega arith)) (omega arith)

west : (m : ℕ) → sub_ℕ 0 m ≡ pos 0 -ℤ pos m
west zero = refl
west (suc m) = let e : suc m - 1 ≡ m = omega arith in sub_lt 0 (suc m) (omega arith) ∙ omega (arith, ints)

east : (m : ℕ) → sub_ℕ m 0 ≡ pos m
east m = let e : m - 0 ≡ m = omega arith in sub_ge m 0 (omega arith) ∙ ap pos e

module _ (s : List ℕ) (m : ℕ) (em : m ≡ minutes_of s) (l : m ≤ no_offset) (t : Bool) (et : t ≡ is_at s 0 45) where
  pub offset_west : t ≡ true → to_z w32 (of_z w32 (pos 0 -ℤ to_z w32 m)) ≡ offset_of s
  unfolding offset_of
  offset_west z =
      let e : to_z w32 (of_z w32 (pos 0 -ℤ to_z w32 m)) ≡ pos 0 -ℤ pos m = omega (arith, ints) in
      e ∙ sym (west m) ∙ rw (← et, z, ← em)

  pub offset_east : t ≡ false → to_z w32 m ≡ offset_of s
  unfolding offset_of
  offset_east z =
      let e : to_z w32 m ≡ pos m = omega (arith, ints) in
      e ∙ sym (east m) ∙ rw (← et, z, ← em)
