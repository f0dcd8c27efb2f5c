-- Printing and lookup over the bytes of a record.
use Rattle.std.specs.Prelude.{Result}
use Prim.Native.Nat.{ℕ}
use mathlib.Core.Path.{◌≡◌}
use mathlib.Core.Bool.{true}
use mathlib.Core.List.{List}
use Rattle.record.specs.Answers.{output_answer_of}
use Rattle.record.specs.declared.Record.{Record}
use Rattle.record.specs.declared.Refusal.{Refusal}
use Rattle.record.specs.declared.OutputAnswer.{OutputAnswer}
use Rattle.layout.specs.Incoming.{holds_record, record_at, element_count_at, param_count_at}
use Rattle.exports.specs.Exports.{Serves}
use Rattle.exports.specs.Exports.Serves.{held}

-- where bytes hold a record, what the service does with what they hold
pub served : (bytes : List ℕ) (first : Refusal) (Service : Record → ℕ → ℕ → Result ℕ Refusal → List ℕ → Type 0) (old : List ℕ) (a : OutputAnswer) → holds_record bytes ≡ true
    → (r : Record) → r ≡ record_at bytes → (e : ℕ) → e ≡ element_count_at bytes → (p : ℕ) → p ≡ param_count_at bytes
    → (w : Result ℕ Refusal) (new : List ℕ) → Service r e p w new → a ≡ output_answer_of w → Serves bytes first Service old a new
served bytes first Service old a q r er e ee p ep w new h ea = held q w (rw (← er, ← ee, ← ep) h) ea
