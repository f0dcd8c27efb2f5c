use Rattle.std.proofs.Common.{◌≤◌, length}
use Rattle.case_text.proofs.fields.Fields.bytes.Given as goal

abbrev pub invariant-loop-self : goal.invariant-loop-self
invariant-loop-self l = l.n ≤ length l.out

abbrev pub decreases-loop-self : goal.decreases-loop-self
decreases-loop-self l = length l.self.rest.now
