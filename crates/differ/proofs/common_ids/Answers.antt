use Rattle.std.proofs.Common.{arith}
use Rattle.differ.proofs.Ids.{sharing_off, sharing_on, sharing_done}
use Rattle.differ.proofs.common_ids.Goals as goal

pub returns-then-not-same_id : goal.returns-then-not-same_id
returns-then-not-same_id c = sharing_off _ _ _ _ _ _ c.requires.listed c.requires.listed_2 _ c.loop-i.invariant (omega arith) (omega arith) _ c.same_id.ensures c.if-not-same_id.true

pub loop-i-preserved : goal.loop-i-preserved
loop-i-preserved c = sharing_on _ _ _ _ _ _ c.requires.listed c.requires.listed_2 _ c.loop-i.invariant (omega arith) (omega arith) _ c.same_id.ensures c.if-not-same_id.false

pub returns : goal.returns
returns c = sharing_done _ _ _ _ _ _ c.requires.listed c.requires.listed_2 _ c.loop-i.invariant _ c.min-n.ensures c.loop-i-test.false
