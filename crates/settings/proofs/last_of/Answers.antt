use Rattle.std.proofs.Common.{arith}
use Rattle.settings.proofs.Seeking.{sought_at, sought_on}
use Rattle.settings.proofs.last_of.Goals as goal

pub returns-then-from-gate : goal.returns-then-from-gate
returns-then-from-gate c = sought_at _ _ _ c.loop-i.invariant c.loop-i-test.true _ c.pair_at.ensures (omega arith)

pub loop-i-preserved : goal.loop-i-preserved
loop-i-preserved c = sought_on _ _ _ c.loop-i.invariant c.loop-i-test.true _ c.pair_at.ensures (λ e. omega arith)
