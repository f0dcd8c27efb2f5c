use Rattle.std.proofs.Common.{rules}
use Rattle.loose.proofs.Readings.{answer_is}
use Rattle.loose.proofs.answer.Goals as goal

pub returns : goal.returns
returns c = search (answer_is, rules)
