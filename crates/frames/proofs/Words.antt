-- A number in a text: it fits, and how far it goes.
use Prim.Native.Nat.{ℕ, ◌+◌, ◌≤◌}
use mathlib.Core.Path.{◌≡◌, ◌∙◌}
use mathlib.Core.List.{List, [], ◌∷◌}
use native.Mathlib.Omega.{arith}
use lib.ListN.{length}
use Rattle.output.specs.Output.{Wrote}
use Rattle.output.specs.Fits.{Fits}
use Rattle.output.specs.Numerals.{numeral, width}
use Rattle.output.proofs.Numerals.{length_fixed, width_le}
use Rattle.output.proofs.Writes.{wrote_length, wrote_then}
use Rattle.frames.specs.Words.{count_text}

module _ (out : List ℕ) (at n : ℕ) (room : at + 11 ≤ length out) where
  pub count_fits : Fits out at (numeral n)
  count_fits = record { fits = omega (arith, length_fixed (width n) n, width_le 9 n) }

  module _ (next : ℕ) (o : List ℕ) (w : Wrote out at (numeral n) next o) where
    pub end_fits : (b : ℕ) → Fits o next (b ∷ [])
    end_fits b = record { fits = omega (arith, length_fixed (width n) n, width_le 9 n, w.behind, wrote_length w count_fits.fits) }

    module _ (b r : ℕ) (p : List ℕ) (v : Wrote o next (b ∷ []) r p) where
      pub count_wrote : Wrote out at (count_text n b) r p
      count_wrote = wrote_then w count_fits.fits v

      pub count_end : r ≤ at + 11
      count_end = omega (arith, length_fixed (width n) n, width_le 9 n, w.behind, v.behind)

      pub count_same : length p ≡ length out
      count_same = wrote_length v (end_fits b).fits ∙ wrote_length w count_fits.fits

pub ruleset count_laws = (count_fits, end_fits, count_wrote, count_end, count_same)
