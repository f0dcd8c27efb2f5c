use Rattle.std.proofs.Common.{rules}
use Rattle.rfc3164.proofs.Splits.{place_laws}
use Rattle.rfc3164.proofs.Hosts.{names_laws}
use Rattle.rfc3164.proofs.with_tag.Goals as goal

pub returns-then-not-tag : goal.returns-then-not-tag
returns-then-not-tag c = search (place_laws, names_laws, rules)

pub returns-in_default : goal.returns-in_default
returns-in_default c = search (place_laws, names_laws, rules)

pub overflow_add-start : goal.overflow_add-start
overflow_add-start c = search (place_laws, names_laws, rules)

pub overflow_add-start-2 : goal.overflow_add-start-2
overflow_add-start-2 c = search (place_laws, names_laws, rules)

pub returns : goal.returns
returns c = search (place_laws, names_laws, rules)
