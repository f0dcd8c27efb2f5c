use Rattle.std.proofs.Common.{sym, ◌∙◌}
use Rattle.suits.proofs.Suited.{tables_suited}
use Rattle.lookup.proofs.lookup.Goals as goal

pub find-requires : goal.find-requires
find-requires c = tables_suited c.args.line.now c.args.r _ _ _ _ (sym c.is_suitable.ensures ∙ c.if-not-is_suitable.false)
