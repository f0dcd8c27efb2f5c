use Rattle.std.proofs.Common.{rules}
use Rattle.claim_header.proofs.Texts.{text_next_laws}
use Rattle.claim_header.proofs.text.Goals as goal

pub text_holds-requires : goal.text_holds-requires
text_holds-requires c = search (text_next_laws, rules)

pub returns-then-not-text_holds : goal.returns-then-not-text_holds
returns-then-not-text_holds c = search (text_next_laws, rules)

pub len_of-requires : goal.len_of-requires
len_of-requires c = search (text_next_laws, rules)

pub overflow_add-at : goal.overflow_add-at
overflow_add-at c = search (text_next_laws, rules)

pub byte_next-requires : goal.byte_next-requires
byte_next-requires c = search (text_next_laws, rules)

pub returns : goal.returns
returns c = search (text_next_laws, rules)
