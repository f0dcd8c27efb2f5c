use Rattle.std.proofs.Common.{rules}
use Rattle.escaping.proofs.Escapes.{put_laws}
use Rattle.escaping.proofs.put_escaped.Goals as goal

pub plain_end-i-requires : goal.plain_end-i-requires
plain_end-i-requires c = search (put_laws, rules)

pub slice_bounds-put_text-count : goal.slice_bounds-put_text-count
slice_bounds-put_text-count c = search (put_laws, rules)

pub slice_bounds-put_text-start : goal.slice_bounds-put_text-start
slice_bounds-put_text-start c = search (put_laws, rules)

pub slice_bounds-put_text-end : goal.slice_bounds-put_text-end
slice_bounds-put_text-end c = search (put_laws, rules)

pub put_text-to-requires : goal.put_text-to-requires
put_text-to-requires c = search (put_laws, rules)

pub loop-i-init : goal.loop-i-init
loop-i-init c = search (put_laws, rules)

pub overflow_add-i : goal.overflow_add-i
overflow_add-i c = search (put_laws, rules)

pub plain_end-j-requires : goal.plain_end-j-requires
plain_end-j-requires c = search (put_laws, rules)

pub put_marked-to-requires-clause-fits : goal.put_marked-to-requires-clause-fits
put_marked-to-requires-clause-fits c = search (put_laws, rules)

pub put_marked-to-requires-clause-i_le_j : goal.put_marked-to-requires-clause-i_le_j
put_marked-to-requires-clause-i_le_j c = search (put_laws, rules)

pub put_marked-to-requires-clause-j_in_bounds : goal.put_marked-to-requires-clause-j_in_bounds
put_marked-to-requires-clause-j_in_bounds c = search (put_laws, rules)

pub loop-i-smaller : goal.loop-i-smaller
loop-i-smaller c = search (put_laws, rules)

pub loop-i-preserved : goal.loop-i-preserved
loop-i-preserved c = search (put_laws, rules)

pub shape_of-out : goal.shape_of-out
shape_of-out c = search (put_laws, rules)

pub returns : goal.returns
returns c = search (put_laws, rules)
