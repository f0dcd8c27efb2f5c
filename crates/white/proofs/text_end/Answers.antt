use Rattle.std.proofs.Common.{rules}
use Rattle.white.proofs.Trims.{end_laws}
use Rattle.white.proofs.text_end.Goals as goal

pub loop-end-init : goal.loop-end-init
loop-end-init c = search (end_laws, rules)

pub white_before-w-requires : goal.white_before-w-requires
white_before-w-requires c = search (end_laws, rules)

pub returns-then-w-eq0 : goal.returns-then-w-eq0
returns-then-w-eq0 c = search (end_laws, rules)

pub overflow_sub-end : goal.overflow_sub-end
overflow_sub-end c = search (end_laws, rules)

pub loop-end-smaller : goal.loop-end-smaller
loop-end-smaller c = search (end_laws, rules)

pub loop-end-preserved : goal.loop-end-preserved
loop-end-preserved c = search (end_laws, rules)

pub returns : goal.returns
returns c = search (end_laws, rules)
