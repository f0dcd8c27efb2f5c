use Rattle.tallier.proofs.Texts.{TallyPutting}
use Rattle.tallier.proofs.put_tally.Given as goal

abbrev pub invariant-loop-i : goal.invariant-loop-i
invariant-loop-i l = TallyPutting l.tally l.initial.out l.i l.out l.next
