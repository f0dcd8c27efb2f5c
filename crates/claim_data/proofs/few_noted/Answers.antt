use Rattle.std.proofs.Common.{rules}
use Rattle.claim_data.proofs.Notes.{differ_laws}
use Rattle.claim_data.proofs.few_noted.Goals as goal

pub note-requires : goal.note-requires
note-requires c = search (differ_laws, rules)

pub first_of_few-requires : goal.first_of_few-requires
first_of_few-requires c = search (differ_laws, rules)

pub shape_of-starts : goal.shape_of-starts
shape_of-starts c = search (differ_laws, rules)

pub shape_of-lens : goal.shape_of-lens
shape_of-lens c = search (differ_laws, rules)

pub returns : goal.returns
returns c = search (differ_laws, rules)
