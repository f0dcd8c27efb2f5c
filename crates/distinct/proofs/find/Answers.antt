use Rattle.std.proofs.Common.{rules}
use Rattle.distinct.proofs.Walks.{walk_laws, walk_free, walk_on}
use Rattle.distinct.proofs.find.Goals as goal

pub returns-in_err-slot : goal.returns-in_err-slot
returns-in_err-slot c = search (walk_laws, rules)

pub loop-j-smaller : goal.loop-j-smaller
loop-j-smaller c = search (walk_laws, rules)

pub loop-j-preserved : goal.loop-j-preserved
loop-j-preserved c = search (walk_on, c.in-Some.ensures, c.in_ok-slot.was, rules)

pub returns : goal.returns
returns c = walk_free c.args.places c.args.tree c.args.i c.requires c.loop-j.slot c.loop-j.invariant c.in_default.ensures
