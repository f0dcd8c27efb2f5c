-- What a call of the strict reader left in memory and tables is told yes by the call of the check: a statement to be read without its proof, which is in proofs/AfterCall.antt.
use Rattle.std.specs.Prelude.{ℕ, ◌≡◌, List}
use Rattle.exports.specs.Exports.{LeavesStrict}
use Rattle.boundary.specs.Called.{read}
use Rattle.checker.specs.Memory.{ChecksBytes}

abbrev pub LeftIsTold : Type 0
LeftIsTold =
    (line out memory : List ℕ) (e₀ p₀ elements params : List (List ℕ)) (n : ℕ)
    → LeavesStrict line e₀ p₀ out read elements params memory → ChecksBytes line memory elements params n → n ≡ 0
