use Rattle.std.proofs.Common.{rules}
use Rattle.rfc3164.proofs.Spaced.{spaced_laws}
use Rattle.rfc3164.proofs.spaced_tag.Goals as goal

pub returns-in_err-a : goal.returns-in_err-a
returns-in_err-a c = search (spaced_laws, rules)

pub tag_from-requires : goal.tag_from-requires
tag_from-requires c = search (spaced_laws, c.in_ok-a.was, rules)

pub returns : goal.returns
returns c = search (spaced_laws, c.in_ok-a.was, rules)
