use Rattle.std.proofs.Common.{rules}
use Rattle.reach_data.proofs.Messages.{is_mark_lem}
use Rattle.reach_data.proofs.is_mark.Goals as goal

pub returns : goal.returns
returns c = search (is_mark_lem, rules)
