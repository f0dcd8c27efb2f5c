use Rattle.std.proofs.Common.{◌∙◌, rules}
use Rattle.strict_data.proofs.Counting.{elements_laws}
use Rattle.strict_data.proofs.Ids.{listing_laws}
use Rattle.strict_data.proofs.elements.Goals as goal

pub loop-i-init : goal.loop-i-init
loop-i-init c = search (listing_laws, elements_laws, rules)

pub returns-then-b-ne91-clause-value : goal.returns-then-b-ne91-clause-value
returns-then-b-ne91-clause-value c = search (listing_laws, elements_laws, rules)

pub returns-then-b-ne91-clause-listed : goal.returns-then-b-ne91-clause-listed
returns-then-b-ne91-clause-listed c = search (listing_laws, elements_laws, rules)

pub returns-in_err-len-clause-value : goal.returns-in_err-len-clause-value
returns-in_err-len-clause-value c = c.from_residual.ensures ∙ search (listing_laws, elements_laws, c.in_err-len.was, rules)

pub returns-in_err-len-clause-listed : goal.returns-in_err-len-clause-listed
returns-in_err-len-clause-listed c = search (listing_laws, elements_laws, c.in_err-len.was, rules)

pub note_id-requires : goal.note_id-requires
note_id-requires c = search (listing_laws, elements_laws, c.in_ok-len.was, rules)

pub overflow_add-i : goal.overflow_add-i
overflow_add-i c = search (listing_laws, elements_laws, c.in_ok-len.was, rules)

pub overflow_add-all : goal.overflow_add-all
overflow_add-all c = search (listing_laws, elements_laws, c.in_ok-len.was, rules)

pub loop-i-preserved : goal.loop-i-preserved
loop-i-preserved c = search (listing_laws, elements_laws, c.in_ok-len.was, rules)

pub returns-clause-value : goal.returns-clause-value
returns-clause-value c = search (listing_laws, elements_laws, rules)

pub returns-clause-listed : goal.returns-clause-listed
returns-clause-listed c = search (listing_laws, elements_laws, rules)
