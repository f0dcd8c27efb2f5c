use Rattle.std.proofs.Common.{rules}
use Rattle.reach_data.proofs.Shut.{alike_laws}
use Rattle.reach_data.proofs.mark_one.Goals as goal

pub returns : goal.returns
returns c = search (alike_laws, rules)
