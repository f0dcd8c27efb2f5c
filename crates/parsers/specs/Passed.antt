-- For private contracts alone: how many bytes an answer passes, which is what the functions that place it in the line require to fit.
use Rattle.std.specs.Prelude.{ℕ, Option, Some, None}
use Rattle.parsers.specs.declared.Text.{Text}
use Rattle.parsers.specs.declared.Text.TheVariants.{Fails, Absent, Given}

abbrev pub digits_passed : Option (ℕ × ℕ) → ℕ
digits_passed None = 0
digits_passed (Some x) = x.1

abbrev pub text_passed : Text → ℕ
text_passed Fails = 0
text_passed (Absent n) = n
text_passed (Given k n) = n
