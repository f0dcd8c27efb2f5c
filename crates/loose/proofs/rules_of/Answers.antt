use Rattle.std.proofs.Common.{rules}
use Rattle.loose.proofs.Readings.{asked_laws}
use Rattle.loose.proofs.rules_of.Goals as goal

pub returns-in-Settled : goal.returns-in-Settled
returns-in-Settled c = search (asked_laws, rules)

pub returns-in-Fitting : goal.returns-in-Fitting
returns-in-Fitting c = search (asked_laws, rules)
