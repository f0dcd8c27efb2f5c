use Rattle.std.proofs.Common.{rules}
use Rattle.stream.proofs.Calling.{front_eight}
use Rattle.stream.proofs.free_front.Goals as goal

pub loop-i-preserved : goal.loop-i-preserved
loop-i-preserved c = let q = c.eight_free in front_eight c.args.s.now c.loop-i.i c.loop-i.invariant (search rules) q.result q.ensures (search rules)
