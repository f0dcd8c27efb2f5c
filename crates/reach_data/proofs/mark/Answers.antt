use Rattle.std.proofs.Common.{rules}
use Rattle.reach_data.proofs.Shut.{marking_next}
use Rattle.reach_data.proofs.mark.Goals as goal

pub loop-i-preserved : goal.loop-i-preserved
loop-i-preserved c = marking_next _ _ _ _ _ _ c.loop-i.invariant (search rules) _ _ c.id_at-own.ensures c.id_at-other.ensures _ c.mark_one.ensures
