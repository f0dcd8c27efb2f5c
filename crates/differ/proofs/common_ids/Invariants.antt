use Rattle.differ.proofs.Ids.{Sharing}
use Rattle.differ.proofs.common_ids.Given as goal

abbrev pub invariant-loop-i : goal.invariant-loop-i
invariant-loop-i l = Sharing l.line1 l.elements1 l.n1 l.line2 l.elements2 l.n2 l.i
