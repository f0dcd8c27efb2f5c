use Rattle.std.proofs.Common.{◌≡◌, ◌≤◌, length}
use Rattle.lister.proofs.run.Given as goal

abbrev pub invariant-loop-s : goal.invariant-loop-s
invariant-loop-s l = record { line_length : length l.line ≡ length l.fn.line; got_in_bounds : l.s.got ≤ length l.chunk }

abbrev pub decreases-loop-s : goal.decreases-loop-s
decreases-loop-s l = l.s.left
