use Rattle.std.proofs.Common.{◌+◌, ◌-◌}
use Rattle.output.proofs.Writes.{Owes}
use Rattle.settings.proofs.Writing.{zeros}
use Rattle.settings.proofs.put_zeros.Given as goal

abbrev pub invariant-loop-i : goal.invariant-loop-i
invariant-loop-i l = Owes l.initial.out l.at (zeros l.n) l.out (l.at + l.i) (zeros (l.n - l.i))
