-- A number that is answered by a test.
use Rattle.std.specs.Prelude.{if◌then◌else◌, Some, None, Option}
use Prim.Native.Nat.{ℕ}
use mathlib.Core.Path.{◌≡◌, refl}
use mathlib.Core.Bool.{Bool, true, false}
use native.Mathlib.Omega.{arith}
use Rattle.base.proofs.Pairs.{some_first, some_second}

pub record Chosen (t : Bool) (a m v n : ℕ) : Type 0 where
  pub test : t ≡ true
  pub value : a ≡ v
  pub len : m ≡ n

pub chosen : (t : Bool) (a m v n : ℕ) → ◌≡◌ {A = Option (ℕ × ℕ)} (if t then Some (a, m) else None) (Some (v, n)) → Chosen t a m v n
chosen true a m v n e = record { test = refl; value = some_first e; len = some_second e }
chosen false a m v n e = let z : ◌≡◌ {A = ℕ} 0 1 = cc in absurd (omega arith)

pub not_chosen : (t : Bool) (a m : ℕ) → ◌≡◌ {A = Option (ℕ × ℕ)} (if t then Some (a, m) else None) None → t ≡ false
not_chosen true a m e = let z : ◌≡◌ {A = ℕ} 0 1 = cc in absurd (omega arith)
not_chosen false a m e = refl
