-- Each contract determines answer, record, counts, tables and output on all inputs, refusals too: any two results that it allows are equal.
use mathlib.Core.Path.{◌≡◌}
use Rattle.loose.proofs.Determined.{one_reading}
use Rattle.grammar.proofs.Readings.{strict_determined as strict_one}
use Rattle.message.proofs.Laws.{answers_agree, outputs_agree}
use Rattle.lookup.proofs.Answers.{looks_one}
use Rattle.contracts.specs.Services.{Service, Tables, Output}
use Rattle.contracts.specs.Demands.{OneResult}

-- one answer and one state of what was lent are one result
tables_same : {A : Type 0} (x y : Tables A) → (x.answer ≡ y.answer) × (x.elements ≡ y.elements) × (x.params ≡ y.params) → x ≡ y
tables_same x y q = λ i. record { answer = q.0 i; elements = q.1 i; params = q.2 i }

output_same : (x y : Output) → (x.answer ≡ y.answer) × (x.output ≡ y.output) → x ≡ y
output_same x y q = λ i. record { answer = q.0 i; output = q.1 i }

-- the law for all services
pub determined : (s : Service) → OneResult s
determined Service.loose i x y h k = tables_same x y (one_reading _ _ _ _ _ _ _ _ _ _ _ _ h k)
determined Service.strict i x y h k = tables_same x y (strict_one h k)
determined Service.print i x y h k = output_same x y (answers_agree _ _ _ _ _ _ _ _ _ _ _ h k, outputs_agree _ _ _ _ _ _ _ _ _ _ _ h k)
determined Service.lookup i x y h k = output_same x y (looks_one h k)

-- and for each of them
pub loose_determined : OneResult Service.loose
loose_determined = determined Service.loose

pub strict_determined : OneResult Service.strict
strict_determined = determined Service.strict

pub print_determined : OneResult Service.print
print_determined = determined Service.print

pub lookup_determined : OneResult Service.lookup
lookup_determined = determined Service.lookup
