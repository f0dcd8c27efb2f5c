use Rattle.std.proofs.Common.{arith}
use Rattle.pairs.proofs.Counts.{count_begins, count_few, count_on}
use Rattle.pairs.proofs.count.Goals as goal

pub loop-c-init : goal.loop-c-init
loop-c-init c = count_begins _ _ c.requires.clear

pub overflow_add-counts : goal.overflow_add-counts
overflow_add-counts c = record { fits = omega (arith, count_few _ _ _ c.loop-c.invariant c.from.result, c.requires.few) }

pub loop-c-preserved : goal.loop-c-preserved
loop-c-preserved c = count_on _ _ _ c.loop-c.invariant _ c.from.ensures (omega (arith, c.requires.below c.loop-c.c-index c.loop-c-test.true))
