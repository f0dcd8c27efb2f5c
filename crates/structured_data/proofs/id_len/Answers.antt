use Rattle.std.proofs.Common.{rules}
use Rattle.structured_data.proofs.Ids.{id_laws}
use Rattle.structured_data.proofs.id_len.Goals as goal

pub id_front-i-requires : goal.id_front-i-requires
id_front-i-requires c = search (id_laws, rules)

pub loop-i-init : goal.loop-i-init
loop-i-init c = search (id_laws, rules)

pub bounds-s-i : goal.bounds-s-i
bounds-s-i c = search (id_laws, rules)

pub is_named-requires : goal.is_named-requires
is_named-requires c = search (id_laws, rules)

pub returns-then-not-is_named : goal.returns-then-not-is_named
returns-then-not-is_named c = search (id_laws, rules)

pub overflow_add-i : goal.overflow_add-i
overflow_add-i c = search (id_laws, rules)

pub loop-i-smaller-then-b : goal.loop-i-smaller-then-b
loop-i-smaller-then-b c = search (id_laws, rules)

pub loop-i-preserved-then-b : goal.loop-i-preserved-then-b
loop-i-preserved-then-b c = search (id_laws, rules)

pub slice_bounds-white_len-count : goal.slice_bounds-white_len-count
slice_bounds-white_len-count c = search (id_laws, rules)

pub slice_bounds-white_len-start : goal.slice_bounds-white_len-start
slice_bounds-white_len-start c = search (id_laws, rules)

pub slice_bounds-white_len-end : goal.slice_bounds-white_len-end
slice_bounds-white_len-end c = search (id_laws, rules)

pub white_len-w-requires : goal.white_len-w-requires
white_len-w-requires c = search (id_laws, rules)

pub returns-then-w-ne0 : goal.returns-then-w-ne0
returns-then-w-ne0 c = search (id_laws, rules)

pub overflow_add-i-else-b : goal.overflow_add-i-else-b
overflow_add-i-else-b c = search (id_laws, rules)

pub loop-i-smaller : goal.loop-i-smaller
loop-i-smaller c = search (id_laws, rules)

pub loop-i-preserved : goal.loop-i-preserved
loop-i-preserved c = search (id_laws, rules)

pub returns : goal.returns
returns c = search (id_laws, rules)
