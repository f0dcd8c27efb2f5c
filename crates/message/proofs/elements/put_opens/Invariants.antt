use Rattle.std.proofs.Common.{◌+◌, ◌-◌, ◌≤◌, take, drop}
use Rattle.message.specs.Opens.{opens_text}
use Rattle.output.proofs.Pieces.{Midway}
use Rattle.message.proofs.elements.put_opens.Given as goal

abbrev pub invariant-loop-j : goal.invariant-loop-j
invariant-loop-j l = (l.k ≤ l.j) × (l.j ≤ l.last) × Midway l.initial.out l.at (opens_text l.line (take (l.last - l.k) (drop (l.k + 1) l.ids))) l.out l.pos (opens_text l.line (take (l.last - l.j) (drop (l.j + 1) l.ids)))

abbrev pub decreases-loop-j : goal.decreases-loop-j
decreases-loop-j l = l.last - l.j
