use Rattle.std.proofs.Common.{rules}
use Rattle.settings.proofs.Seeking.{read_laws}
use Rattle.settings.proofs.read_up_to.Goals as goal

pub returns-then-file-ne0 : goal.returns-then-file-ne0
returns-then-file-ne0 c = search (read_laws, rules)

pub returns-in_default : goal.returns-in_default
returns-in_default c = search (read_laws, rules)

pub overflow_mul-start : goal.overflow_mul-start
overflow_mul-start c = search (read_laws, rules)

pub overflow_add-end : goal.overflow_add-end
overflow_add-end c = search (read_laws, rules)

pub slice_bounds-take_record-end : goal.slice_bounds-take_record-end
slice_bounds-take_record-end c = search (read_laws, rules)

pub take_record-requires : goal.take_record-requires
take_record-requires c = search (read_laws, rules)

pub returns : goal.returns
returns c = search (read_laws, rules)
