use Rattle.keyed.proofs.Pieces.{begun_inside, begun_on}
use Rattle.keyed.proofs.put_plain.Goals as goal

pub bounds-out-at : goal.bounds-out-at
bounds-out-at c = begun_inside _ _ _ c.requires _ _ c.loop-i.invariant c.loop-i-test.true c.if-b-eq92.false

pub loop-i-preserved : goal.loop-i-preserved
loop-i-preserved c = begun_on _ _ _ c.requires _ _ c.loop-i.invariant c.loop-i-test.true c.if-b-eq92.false
