use Rattle.tallier.proofs.Texts.{RowPutting}
use Rattle.tallier.proofs.put_row.Given as goal

abbrev pub invariant-loop-j : goal.invariant-loop-j
invariant-loop-j l = RowPutting l.tally l.i l.initial.out l.at l.j l.out l.next
