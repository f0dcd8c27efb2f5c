-- The contract of printing: refusals 1, 7 and 8, the length, and the output.
use Rattle.std.specs.Prelude.{ℕ, ◌≡◌, List, not, ltb, length, take, if◌then◌else◌, Result, Ok, Err}
use Rattle.record.specs.Limits.{line_limit}
use Rattle.record.specs.declared.Record.{Record}
use Rattle.record.specs.declared.Refusal.TheVariants.{LineTooLong, Unsuitable, OutputShort}
use Rattle.output.specs.Output.{output_after}
use Rattle.suits.specs.Suits.{suits}
use Rattle.message.specs.Message.{printed}
use Rattle.record.specs.declared.Refusal.{Refusal}

abbrev pub answered : List ℕ → Record → ℕ → ℕ → List (List ℕ) → List (List ℕ) → List ℕ → ℕ → Result ℕ Refusal
answered line r e p elements params text out =
    if ltb line_limit (length line) then Err LineTooLong
    else if not (suits line r e p elements params) then Err Unsuitable
    else if ltb out (length text) then Err OutputShort
    else Ok (length text)

pub record Prints (line : List ℕ) (r : Record) (e p : ℕ) (elements params : List (List ℕ)) (before : List ℕ) (w : Result ℕ Refusal) (after : List ℕ) : Type 0 where
  pub answer : w ≡ answered line r e p elements params (printed line r (take e elements) (take p params)) (length before)
  pub output : after ≡ output_after w (printed line r (take e elements) (take p params)) before
