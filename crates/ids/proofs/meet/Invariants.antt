use Rattle.std.proofs.Common.{◌-◌, ◌≡◌, length}
use Rattle.ids.proofs.Many.{Meeting}
use Rattle.ids.proofs.meet.Given as goal

abbrev pub invariant-loop-first : goal.invariant-loop-first
invariant-loop-first l = Meeting l.text l.rows l.a l.first.next l.first.end l.line l.b × (length l.line ≡ length l.initial.line)

abbrev pub decreases-loop-first : goal.decreases-loop-first
decreases-loop-first l = length l.rows - l.b
