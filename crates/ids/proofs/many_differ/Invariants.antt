use Rattle.std.proofs.Common.{◌-◌, ◌≡◌, length, drop}
use Rattle.base.specs.Texts.{all_different}
use Rattle.ids.specs.Ids.{ids_in}
use Rattle.ids.proofs.many_differ.Given as goal

abbrev pub invariant-loop-a : goal.invariant-loop-a
invariant-loop-a l = (all_different (ids_in l.text l.rows) ≡ all_different (ids_in l.text (drop l.a l.rows))) × (length l.line ≡ 8192)

abbrev pub decreases-loop-a : goal.decreases-loop-a
decreases-loop-a l = length l.rows - l.a
