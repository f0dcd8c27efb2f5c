use Rattle.std.proofs.Common.{◌≡◌, drop}
use Rattle.suits.specs.Suits.{elements_suit}
use Rattle.suits.proofs.elements_suit.Given as goal

abbrev pub invariant-loop-row : goal.invariant-loop-row
invariant-loop-row l = elements_suit l.line l.elements ≡ elements_suit l.line (drop l.row-index l.elements)
