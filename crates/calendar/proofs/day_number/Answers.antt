use Rattle.std.proofs.Common.{rules}
use Rattle.calendar.proofs.Walks.{day_laws}
use Rattle.calendar.proofs.day_number.Goals as goal

pub overflow_add-result : goal.overflow_add-result
overflow_add-result c = search (day_laws, rules)

pub overflow_add-result-2 : goal.overflow_add-result-2
overflow_add-result-2 c = search (day_laws, rules)

pub returns : goal.returns
returns c = search (day_laws, rules)
