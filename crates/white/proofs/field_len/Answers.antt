use Rattle.std.proofs.Common.{rules}
use Rattle.white.proofs.Walks.{field_laws}
use Rattle.white.proofs.field_len.Goals as goal

pub plain_front-i-requires : goal.plain_front-i-requires
plain_front-i-requires c = search (field_laws, rules)

pub loop-i-init : goal.loop-i-init
loop-i-init c = search (field_laws, rules)

pub slice_bounds-white_len-count : goal.slice_bounds-white_len-count
slice_bounds-white_len-count c = search (field_laws, rules)

pub slice_bounds-white_len-start : goal.slice_bounds-white_len-start
slice_bounds-white_len-start c = search (field_laws, rules)

pub slice_bounds-white_len-end : goal.slice_bounds-white_len-end
slice_bounds-white_len-end c = search (field_laws, rules)

pub white_len-w-requires : goal.white_len-w-requires
white_len-w-requires c = search (field_laws, rules)

pub returns-then-w-ne0 : goal.returns-then-w-ne0
returns-then-w-ne0 c = search (field_laws, rules)

pub overflow_add-i : goal.overflow_add-i
overflow_add-i c = search (field_laws, rules)

pub loop-i-smaller : goal.loop-i-smaller
loop-i-smaller c = search (field_laws, rules)

pub loop-i-preserved : goal.loop-i-preserved
loop-i-preserved c = search (field_laws, rules)

pub returns : goal.returns
returns c = search (field_laws, rules)
