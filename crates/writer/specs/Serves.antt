-- The writer over the C boundary: number and length, and the output.
use Rattle.std.specs.Prelude.{ℕ, ◌≡◌, List, length}
use Rattle.record.specs.Answers.{output_answer_of}
use Rattle.record.specs.declared.OutputAnswer.{OutputAnswer}
use Rattle.output.specs.Output.{output_after}
use Rattle.writes.specs.declared.Handed.{Handed}
use Rattle.writes.specs.Written.{written}
use Rattle.writes.specs.Writes.{fields_in, answered}

pub record ServesWrite (text : List ℕ) (h : Handed) (elements params : List (List ℕ)) (before : List ℕ) (a : OutputAnswer) (after : List ℕ) : Type 0 where
  pub answer : a ≡ output_answer_of (answered text h elements params (length before))
  pub output : after ≡ output_after (answered text h elements params (length before)) (written (fields_in text h elements params)) before

-- The contract leaves one answer and one output.
abbrev pub OneAnswer : Type 0
OneAnswer =
    (text : List ℕ) (h : Handed) (elements params : List (List ℕ)) (before : List ℕ) (a b : OutputAnswer) (x y : List ℕ)
    → ServesWrite text h elements params before a x → ServesWrite text h elements params before b y → (a ≡ b) × (x ≡ y)
