use Rattle.std.proofs.Common.{rules}
use Rattle.strict_data.proofs.Differing.{differ_laws}
use Rattle.strict_data.proofs.+ids_differ.Goals as goal

pub first_of_few-requires : goal.first_of_few-requires
first_of_few-requires t c = search (differ_laws, rules)

pub returns-then-count-noted : goal.returns-then-count-noted
returns-then-count-noted t c = search (differ_laws, rules)

pub ids_differ-requires : goal.ids_differ-requires
ids_differ-requires t c = search (differ_laws, rules)

pub returns-then-not-ids_differ : goal.returns-then-not-ids_differ
returns-then-not-ids_differ t c = search (differ_laws, rules)

pub some_differ-requires : goal.some_differ-requires
some_differ-requires t c = search (differ_laws, rules)

pub returns-then-count-le64 : goal.returns-then-count-le64
returns-then-count-le64 t c = search (differ_laws, rules)

pub many_differ-requires : goal.many_differ-requires
many_differ-requires t c = search (differ_laws, rules)

pub returns-then-count-le512 : goal.returns-then-count-le512
returns-then-count-le512 t c = search (differ_laws, rules)

pub most_differ-requires : goal.most_differ-requires
most_differ-requires t c = search (differ_laws, rules)

pub returns : goal.returns
returns t c = search (differ_laws, rules)
