use Rattle.std.proofs.Common.{◌-◌, length}
use Rattle.strict_data.proofs.Ids.{Listing}
use Rattle.strict_data.proofs.elements.Given as goal

abbrev pub invariant-loop-i : goal.invariant-loop-i
invariant-loop-i l = Listing l.s l.i l.elements l.all l.initial.starts l.initial.lens l.starts l.lens

abbrev pub decreases-loop-i : goal.decreases-loop-i
decreases-loop-i l = length l.s - l.i
