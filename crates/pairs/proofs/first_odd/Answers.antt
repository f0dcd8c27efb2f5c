use Rattle.pairs.proofs.Weights.{even_tells}
use Rattle.pairs.proofs.first_odd.Goals as goal

pub returns-then-is_even : goal.returns-then-is_even
returns-then-is_even c = even_tells _ _ _ _ c.requires.halved.first (c.is_even.ensures.even c.if-is_even.true)
