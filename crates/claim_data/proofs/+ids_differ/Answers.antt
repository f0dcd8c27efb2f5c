use Rattle.std.proofs.Common.{rules}
use Rattle.claim_data.proofs.Notes.{differ_laws}
use Rattle.claim_data.proofs.+ids_differ.Goals as goal

pub few_differ-requires : goal.few_differ-requires
few_differ-requires t c = search (differ_laws, rules)

pub returns-then-n-le8 : goal.returns-then-n-le8
returns-then-n-le8 t c = search (differ_laws, rules)

pub slice_bounds-ids_differ-count : goal.slice_bounds-ids_differ-count
slice_bounds-ids_differ-count t c = search (differ_laws, rules)

pub slice_bounds-ids_differ-start : goal.slice_bounds-ids_differ-start
slice_bounds-ids_differ-start t c = search (differ_laws, rules)

pub slice_bounds-ids_differ-end : goal.slice_bounds-ids_differ-end
slice_bounds-ids_differ-end t c = search (differ_laws, rules)

pub ids_differ-requires : goal.ids_differ-requires
ids_differ-requires t c = search (differ_laws, rules)

pub returns-then-not-ids_differ : goal.returns-then-not-ids_differ
returns-then-not-ids_differ t c = search (differ_laws, rules)

pub some_differ-requires : goal.some_differ-requires
some_differ-requires t c = search (differ_laws, rules)

pub returns-then-n-le64 : goal.returns-then-n-le64
returns-then-n-le64 t c = search (differ_laws, rules)

pub many_differ-requires : goal.many_differ-requires
many_differ-requires t c = search (differ_laws, rules)

pub returns-then-n-le512 : goal.returns-then-n-le512
returns-then-n-le512 t c = search (differ_laws, rules)

pub most_differ-requires : goal.most_differ-requires
most_differ-requires t c = search (differ_laws, rules)

pub returns : goal.returns
returns t c = search (differ_laws, rules)
