-- What `take_while` takes of a text is the run in front.
use Rattle.std.proofs.Common.{◌≡◌, ◌∙◌, ℕ, Bool, List, [], ◌∷◌, length, take, refl, arith}
use Rattle.std.specs.List.{prefix_len}
use Rattle.std.proofs.lemmas.List.Folds.{length-prefix_len}
use Rattle.base.specs.Runs.{run}

prefix_run : (p : ℕ → Bool) (s : List ℕ) → prefix_len p s ≡ run p s
unfolding run
prefix_run p [] = refl
prefix_run p (b ∷ s) = grind (arith, prefix_run p s)

pub run_taken : (p : ℕ → Bool) (s : List ℕ) → length (take (prefix_len p s) s) ≡ run p s
run_taken p s = length-prefix_len p s ∙ prefix_run p s
