use Rattle.std.proofs.Common.{rules}
use Rattle.reach_data.proofs.Noted.{tell_laws}
use Rattle.reach_data.proofs.tell.Goals as goal

pub judge-requires : goal.judge-requires
judge-requires c = let e = c.in_ok-n.was in search (tell_laws, rules)

pub returns : goal.returns
returns c = let e = c.in_ok-n.was in search (tell_laws, rules)
