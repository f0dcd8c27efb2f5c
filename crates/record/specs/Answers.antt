-- The number (0: done) and the values of each case of an answer. A refusal has the empty record and zeros (RULES Numbers d).
use Rattle.std.specs.Prelude.{ℕ, Bool, true, false, Result, Ok, Err}
use Rattle.record.specs.Refusals.{refusal_number}
use Rattle.record.specs.Records.{empty_record, empty_strict}
use Rattle.record.specs.declared.Reading.{Reading}
use Rattle.record.specs.declared.Reading.TheVariants.{Read, Whole}
use Rattle.record.specs.declared.StrictReading.{StrictReading}
use Rattle.record.specs.declared.Answer.{Answer}
use Rattle.record.specs.declared.StrictAnswer.{StrictAnswer}
use Rattle.record.specs.declared.OutputAnswer.{OutputAnswer}
use Rattle.record.specs.declared.ReadAnswer.{ReadAnswer}
use Rattle.record.specs.declared.Refusal.{Refusal}

abbrev pub answer_of : Result Reading Refusal → Answer
answer_of (Ok (Read r e p)) = record { number = 0; whole = false; reading = r; elements = e; params = p }
answer_of (Ok (Whole r)) = record { number = 0; whole = true; reading = r; elements = 0; params = 0 }
answer_of (Err f) = record { number = refusal_number f; whole = false; reading = empty_record; elements = 0; params = 0 }

abbrev pub strict_answer_of : Result StrictReading Refusal → StrictAnswer
strict_answer_of (Ok x) = record { number = 0; reading = x.reading; elements = x.elements; params = x.params }
strict_answer_of (Err f) = record { number = refusal_number f; reading = empty_strict; elements = 0; params = 0 }

abbrev pub output_answer_of : Result ℕ Refusal → OutputAnswer
output_answer_of (Ok n) = record { number = 0; len = n }
output_answer_of (Err f) = record { number = refusal_number f; len = 0 }

-- 1 where the whole line is the message, else 0
abbrev pub whole_mark : Bool → ℕ
whole_mark true = 1
whole_mark false = 0

-- what a reader answers a C caller by value
abbrev pub read_answer_of : Result Reading Refusal → ReadAnswer
read_answer_of r = record { number = (answer_of r).number; whole = whole_mark (answer_of r).whole; reach = 0 }

abbrev pub strict_read_answer_of : Result StrictReading Refusal → ReadAnswer
strict_read_answer_of r = record { number = (strict_answer_of r).number; whole = 0; reach = 0 }
