use Rattle.std.proofs.Common.{◌≡◌, length}
use Rattle.comparer.specs.Turns.{Within}
use Rattle.comparer.proofs.run.Given as goal

abbrev pub invariant-loop-t : goal.invariant-loop-t
invariant-loop-t l =
    record {
      first_same : length l.line1 ≡ length l.initial.line1;
      second_same : length l.line2 ≡ length l.initial.line2;
      inside : Within (length l.line1) (length l.line2) (length l.chunk) l.t;
    }

abbrev pub decreases-loop-t : goal.decreases-loop-t
decreases-loop-t l = l.t.state.left
