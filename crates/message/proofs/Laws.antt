-- What the contract of printing gives: one result only.
use Rattle.std.specs.Prelude.{Result}
use Prim.Native.Nat.{ℕ}
use mathlib.Core.Path.{◌≡◌, sym, ap, ◌∙◌}
use mathlib.Core.List.{List}
use lib.ListN.{take}
use Rattle.record.specs.declared.Record.{Record}
use Rattle.output.specs.Output.{output_after}
use Rattle.message.specs.Message.{printed}
use Rattle.message.specs.Prints.{Prints}
use Rattle.record.specs.declared.Refusal.{Refusal}

module _ (line : List ℕ) (r : Record) (e p : ℕ) (elements params : List (List ℕ)) (before : List ℕ) where
  pub answers_agree : (v w : Result ℕ Refusal) (after other : List ℕ) → Prints line r e p elements params before v after → Prints line r e p elements params before w other → v ≡ w
  answers_agree v w after other h k = h.answer ∙ sym k.answer

  pub outputs_agree : (v w : Result ℕ Refusal) (after other : List ℕ) → Prints line r e p elements params before v after → Prints line r e p elements params before w other → after ≡ other
  outputs_agree v w after other h k =
      h.output ∙ ap (λ (x : Result ℕ Refusal). output_after x (printed line r (take e elements) (take p params)) before) (answers_agree v w after other h k) ∙ sym k.output
