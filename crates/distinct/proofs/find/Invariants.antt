use Rattle.std.proofs.Common.{◌+◌, ◌*◌, ◌-◌}
use Rattle.distinct.specs.Tree.{ids_of}
use Rattle.distinct.proofs.Walks.{Walk}
use Rattle.distinct.proofs.find.Given as goal

abbrev pub invariant-loop-j : goal.invariant-loop-j
invariant-loop-j l = Walk (ids_of l.places) l.tree.depths.now l.tree.kids.now l.i l.slot

abbrev pub decreases-loop-j : goal.decreases-loop-j
decreases-loop-j l = 128 + 3 * l.i - l.slot
