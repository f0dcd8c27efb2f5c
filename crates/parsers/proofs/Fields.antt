-- Fields placed in the line: that they lie in it, and so do the positions behind them.
use Rattle.std.specs.Prelude.{Option, Some}
use Prim.Native.Nat.{ℕ, ◌+◌, ◌^◌, ◌≤◌, ◌<◌}
use mathlib.Core.Path.{◌≡◌, sym, ◌∙◌}
use mathlib.Core.List.{List}
use native.Mathlib.Omega.{arith}
use lib.ListN.{length, drop, length-drop}
use Rattle.base.proofs.Pairs.{some_first, some_second}
use Rattle.record.specs.declared.Place.{Place}
use Rattle.parsers.specs.Parsers.{plain_at, host_at, tag_at}
use Rattle.parsers.specs.Passed.{text_passed}
use Rattle.parsers.specs.Steps.{placed, plain_from, host_from, tag_from}
use Rattle.parsers.specs.declared.Text.{Text}
use Rattle.parsers.specs.declared.Text.TheVariants.{Fails, Absent, Given}
use Rattle.parsers.proofs.Texts.{TextIn, plain_in, host_in, tag_in}

-- A field of a line of `n` bytes: its text ends at the position behind it or before, and that lies in the line.
pub record FieldIn (n : ℕ) (p : Place) (next : ℕ) : Type 0 where
  pub ends : p.start + p.len ≤ next
  pub within_line : next ≤ n

-- whatever is read at `at`
module _ (read : List ℕ → Text) (read-in : (s : List ℕ) → TextIn (length s) (read s)) (s : List ℕ) (at : ℕ) where
  text_fits_lem : at ≤ length s → length s < 2 ^ 64 → (p : List ℕ) → p ≡ drop at s → (t : Text) → t ≡ read p → at + text_passed t < 2 ^ 64
  text_fits_lem h l p ep t e = rw (e, ep) (go (read (drop at s)) (read-in (drop at s)))
    where
      go : (t : Text) → TextIn (length (drop at s)) t → at + text_passed t < 2 ^ 64
      go Fails i = omega arith
      go (Absent n) i = omega (arith, length-drop at s)
      go (Given k n) i = omega (arith, length-drop at s)

  text_place_lem : (p : Place) (n : ℕ) → placed at (read (drop at s)) ≡ Some (p, n) → FieldIn (length s) p n
  text_place_lem p n z = go (read (drop at s)) (read-in (drop at s)) z
    where
      at_field : (q : Place) (m : ℕ) → ◌≡◌ {A = Option (Place × ℕ)} (Some (q, m)) (Some (p, n)) → q.start + q.len ≤ m → m ≤ length s → FieldIn (length s) p n
      at_field q m z a b =
          rw (← some_first z, ← some_second z) (record { ends = a; within_line = b })

      go : (t : Text) → TextIn (length (drop at s)) t → placed at t ≡ Some (p, n) → FieldIn (length s) p n
      go Fails i z = cc
      go (Absent k) i z = at_field _ _ z (omega arith) (omega (arith, length-drop at s))
      go (Given k m) i z = at_field _ _ z (omega arith) (omega (arith, length-drop at s))

module _ (s : List ℕ) (at : ℕ) where
  module _ (h : at ≤ length s) (l : length s < 2 ^ 64) (p : List ℕ) (ep : p ≡ drop at s) (t : Text) where
    pub plain_fits : t ≡ plain_at p → at + text_passed t < 2 ^ 64
    plain_fits e = text_fits_lem plain_at plain_in s at h l p ep t e

    pub host_fits : t ≡ host_at p → at + text_passed t < 2 ^ 64
    host_fits e = text_fits_lem host_at host_in s at h l p ep t e

    pub tag_fits : t ≡ tag_at p → at + text_passed t < 2 ^ 64
    tag_fits e = text_fits_lem tag_at tag_in s at h l p ep t e

  module _ (p : List ℕ) (ep : p ≡ drop at s) (t : Text) (g : Option (Place × ℕ)) (eg : g ≡ placed at t) where
    pub plain_placed : t ≡ plain_at p → g ≡ plain_from s at
    unfolding plain_from
    plain_placed e = eg ∙ rw (e, ep)

    pub host_placed : t ≡ host_at p → g ≡ host_from s at
    unfolding host_from
    host_placed e = eg ∙ rw (e, ep)

    pub tag_placed : t ≡ tag_at p → g ≡ tag_from s at
    unfolding tag_from
    tag_placed e = eg ∙ rw (e, ep)

  module _ (g : Option (Place × ℕ)) (p : Place) (n : ℕ) (z : g ≡ Some (p, n)) where
    pub plain_place : g ≡ plain_from s at → FieldIn (length s) p n
    unfolding plain_from
    plain_place e = text_place_lem plain_at plain_in s at p n (sym e ∙ z)

    pub host_place_lem : g ≡ host_from s at → FieldIn (length s) p n
    unfolding host_from
    host_place_lem e = text_place_lem host_at host_in s at p n (sym e ∙ z)

    pub tag_place : g ≡ tag_from s at → FieldIn (length s) p n
    unfolding tag_from
    tag_place e = text_place_lem tag_at tag_in s at p n (sym e ∙ z)

pub ruleset field_laws = (plain_fits, host_fits, tag_fits, plain_placed, host_placed, tag_placed)
