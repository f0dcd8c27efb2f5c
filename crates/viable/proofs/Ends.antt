-- Runs of a class from a place of a line on, wherever the place is.
use Prim.Native.Nat.{ℕ, ◌+◌, ◌≤◌, ◌<◌}
use mathlib.Core.Path.{◌≡◌, refl, ap, ◌∙◌}
use mathlib.Core.Bool.{Bool, true, false}
use mathlib.Core.List.{List}
use native.Mathlib.Omega.{arith}
use lib.ListN.{length, get_or, drop}
use Rattle.base.specs.Runs.{run}
use Rattle.base.proofs.Parts.{step, ended}
use Rattle.base.proofs.Runs.{run_none, run_yes, run_no}

-- up to i all are of the class
pub record Ends (p : ℕ → Bool) (s : List ℕ) (n i : ℕ) : Type 0 where
  pub ends : n ≡ i + run p (drop i s)

module _ (p : ℕ → Bool) (s : List ℕ) where
  pub ends_start : (at : ℕ) → Ends p s (at + run p (drop at s)) at
  ends_start at = record { ends = refl }

  module _ (n i : ℕ) (w : Ends p s n i) where
    pub ends_out : length s ≤ i → i ≡ n
    ends_out h = omega (arith, w.ends, ap (run p) (ended s i h) ∙ run_none p)

    module _ (h : i < length s) where
      pub ends_yes : p (get_or s i 0) ≡ true → Ends p s n (i + 1)
      ends_yes y = record { ends = omega (arith, w.ends, ap (run p) (step s i h) ∙ run_yes p (get_or s i 0) (drop (i + 1) s) y) }

      pub ends_no : p (get_or s i 0) ≡ false → i ≡ n
      ends_no y = omega (arith, w.ends, ap (run p) (step s i h) ∙ run_no p (get_or s i 0) (drop (i + 1) s) y)

pub ruleset ends_laws = (ends_start, ends_out, ends_yes, ends_no)
