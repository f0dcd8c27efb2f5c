-- The version of a record that was read is a number of 32 bits, and its counts are far below a word.
use Rattle.std.specs.Prelude.{Option, Some, None}
use Prim.Native.Nat.{ℕ, ◌≤◌, ◌<◌}
use mathlib.Core.Path.{◌≡◌, refl}
use mathlib.Core.List.{List}
use native.Mathlib.Omega.{arith}
use lib.ListN.{drop}
use Rattle.digits.specs.Digits.{number_at}
use Rattle.digits.proofs.Numbers.{number_len}
use Rattle.parsers.specs.Steps.{moved, number_from}

-- ---- the loose reader: a version is what number_from reads

abbrev pub NumIn : Option (ℕ × ℕ) → Type 0
NumIn None = Unit {0}
NumIn (Some x) = x.0 < 4294967296

pub number_in : (s : List ℕ) (at : ℕ) → NumIn (number_from s at)
unfolding number_from
number_in s at = go (number_at 4294967295 (drop at s)) (λ v n e. (number_len 4294967295 (drop at s) v n e).2)
  where
    go : (r : Option (ℕ × ℕ)) → ((v n : ℕ) → r ≡ Some (v, n) → v ≤ 4294967295) → NumIn (moved at r)
    go None h = tt
    go (Some x) h = omega (arith, h x.0 x.1 refl)
