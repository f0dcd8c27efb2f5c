use Rattle.std.proofs.Common.{◌+◌, ◌*◌, ◌-◌}
use Rattle.pairs.specs.Keys.{key_of}
use Rattle.pairs.proofs.Walks.{Walk}
use Rattle.pairs.proofs.Texts.find.Given as goal

abbrev pub invariant-loop-j : goal.invariant-loop-j
invariant-loop-j l = Walk (key_of l.self.text.now l.self.ends.now) l.depths l.kids l.i l.slot

abbrev pub decreases-loop-j : goal.decreases-loop-j
decreases-loop-j l = 1 + 3 * l.i - l.slot
