-- The side to which a text goes.
use Prim.Native.Nat.{ℕ, ◌/◌, ◌%◌, ◌≤◌}
use mathlib.Core.List.{List}
use native.Mathlib.Omega.{arith}
use lib.Dec.{eqb}
use lib.ListN.{get_or}
use Rattle.base.proofs.Tests.{by_if}
use Rattle.pairs.specs.Tree.{bit_of, side_of}

pub side_few : (own other : List ℕ) (d : ℕ) → side_of own other d ≤ 2
side_few own other d =
    by_if (λ n. n ≤ 2) (eqb (get_or own (d / 8) 0) (get_or other (d / 8) 0)) 2 (bit_of (get_or own (d / 8) 0) (d % 8)) (λ e. omega arith) (λ e. omega arith)
