use Rattle.std.proofs.Common.{arith}
use Rattle.pairs.proofs.Trees.{sorted_begins, sorted_all, sorted_on}
use Rattle.pairs.proofs.Texts.classify.Goals as goal

pub loop-i-init : goal.loop-i-init
loop-i-init c = sorted_begins _ _ _ _ _ c.requires

pub loop-i-preserved : goal.loop-i-preserved
loop-i-preserved c = sorted_on _ _ _ _ _ _ c.loop-i.invariant (omega arith) _ _ _ c.class_of.ensures

pub returns : goal.returns
returns c = sorted_all _ _ _ _ _ _ c.loop-i.invariant (omega arith)
