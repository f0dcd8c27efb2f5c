use Rattle.stream.proofs.Walks.{Counting}
use Rattle.stream.proofs.count_front.Given as goal

abbrev pub invariant-loop-i : goal.invariant-loop-i
invariant-loop-i l = Counting l.v l.bytes l.value l.i
