use Rattle.std.proofs.Common.{◌≡◌, drop}
use Rattle.record.specs.Params.{rows}
use Rattle.suits.specs.Suits.{params_suit}
use Rattle.suits.proofs.params_suit.Given as goal

abbrev pub invariant-loop-p : goal.invariant-loop-p
invariant-loop-p l = params_suit l.line l.count 0 (rows l.params) ≡ params_suit l.line l.count l.low (rows (drop l.p-index l.params))
