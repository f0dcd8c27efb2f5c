use Rattle.std.proofs.Common.{rules}
use Rattle.loose.proofs.Judging.{judge_text_laws}
use Rattle.loose.proofs.judge_text.Goals as goal

pub slice_bounds-by_variant-end : goal.slice_bounds-by_variant-end
slice_bounds-by_variant-end c = search (judge_text_laws, rules)

pub by_variant-requires : goal.by_variant-requires
by_variant-requires c = search (judge_text_laws, rules)

pub returns-in_default : goal.returns-in_default
returns-in_default c = search (judge_text_laws, rules)

pub returns-then-e-elements : goal.returns-then-e-elements
returns-then-e-elements c = search (judge_text_laws, rules)

pub returns-then-p-params : goal.returns-then-p-params
returns-then-p-params c = search (judge_text_laws, rules)

pub returns : goal.returns
returns c = search (judge_text_laws, rules)
