use Rattle.std.proofs.Common.{◌≤◌, length}
use Rattle.replay.proofs.replay_lines.Given as goal

abbrev pub invariant-loop-len : goal.invariant-loop-len
invariant-loop-len l = length l.rest ≤ length l.text

abbrev pub decreases-loop-len : goal.decreases-loop-len
decreases-loop-len l = length l.rest
