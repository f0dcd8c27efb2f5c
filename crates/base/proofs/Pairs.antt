-- What equal pairs are made of, alone and in an answer.
use Rattle.std.specs.Prelude.{Option, Some}
use mathlib.Core.Path.{◌≡◌, ap}

module _ {A B : Type 0} {a c : A} {b d : B} where
  pub pair_first : ◌≡◌ {A = A × B} (a, b) (c, d) → a ≡ c
  pair_first e = ap (λ (p : A × B). p.0) e

  pub pair_second : ◌≡◌ {A = A × B} (a, b) (c, d) → b ≡ d
  pair_second e = ap (λ (p : A × B). p.1) e

  pub some_first : ◌≡◌ {A = Option (A × B)} (Some (a, b)) (Some (c, d)) → a ≡ c
  some_first e = let p : ◌≡◌ {A = A × B} (a, b) (c, d) = cc in pair_first p

  pub some_second : ◌≡◌ {A = Option (A × B)} (Some (a, b)) (Some (c, d)) → b ≡ d
  some_second e = let p : ◌≡◌ {A = A × B} (a, b) (c, d) = cc in pair_second p
