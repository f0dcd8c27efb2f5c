use Rattle.std.proofs.Common.{rules}
use Rattle.white.proofs.Walks.{run_laws}
use Rattle.white.proofs.white_run.Goals as goal

pub loop-i-init : goal.loop-i-init
loop-i-init c = search (run_laws, rules)

pub slice_bounds-white_len-count : goal.slice_bounds-white_len-count
slice_bounds-white_len-count c = search (run_laws, rules)

pub slice_bounds-white_len-start : goal.slice_bounds-white_len-start
slice_bounds-white_len-start c = search (run_laws, rules)

pub slice_bounds-white_len-end : goal.slice_bounds-white_len-end
slice_bounds-white_len-end c = search (run_laws, rules)

pub white_len-w-requires : goal.white_len-w-requires
white_len-w-requires c = search (run_laws, rules)

pub returns-then-w-eq0 : goal.returns-then-w-eq0
returns-then-w-eq0 c = search (run_laws, rules)

pub overflow_add-i : goal.overflow_add-i
overflow_add-i c = search (run_laws, rules)

pub loop-i-smaller : goal.loop-i-smaller
loop-i-smaller c = search (run_laws, rules)

pub loop-i-preserved : goal.loop-i-preserved
loop-i-preserved c = search (run_laws, rules)

pub returns : goal.returns
returns c = search (run_laws, rules)
