use Rattle.settings.proofs.Seeking.{Sought}
use Rattle.settings.proofs.last_of.Given as goal

abbrev pub invariant-loop-i : goal.invariant-loop-i
invariant-loop-i l = Sought l.gate l.file l.i
