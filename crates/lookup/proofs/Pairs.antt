-- A text in two pieces: where the whole fits, so does each when its turn comes, and the two writes are one.
use Prim.Native.Nat.{ℕ}
use mathlib.Core.Path.{◌≡◌}
use mathlib.Core.List.{List, ◌++◌}
use Rattle.output.specs.Output.{Wrote}
use Rattle.output.specs.Fits.{Fits}
use Rattle.output.proofs.Pieces as pieces

pub record Two (x y t : List ℕ) : Type 0 where
  pub is : x ++ y ≡ t

module _ (x y t : List ℕ) (o : List ℕ) (at : ℕ) (f : Fits o at t) (d : Two x y t) where
  pub first_fits : Fits o at x
  first_fits = pieces.first_fits f (record { others = y; is = d.is })

  module _ (n : ℕ) (p : List ℕ) (w : Wrote o at x n p) where
    pub second_fits : Fits p n y
    second_fits = pieces.next_fits f w (pieces.starts_named (x ++ y) t d.is)

    pub two_are : (m : ℕ) (q : List ℕ) → Wrote p n y m q → Wrote o at t m q
    two_are m q v = pieces.two_are f w v d.is

pub ruleset two_laws = (first_fits, second_fits, two_are)
