use Rattle.std.proofs.Common.{rules}
use Rattle.rfc3164.proofs.Lines.{rest_laws}
use Rattle.rfc3164.proofs.rest_from.Goals as goal

pub returns-in_default : goal.returns-in_default
returns-in_default c = search (rest_laws, rules)

pub blanks_from-requires-2 : goal.blanks_from-requires-2
blanks_from-requires-2 c = search (rest_laws, rules)

pub returns : goal.returns
returns c = search (rest_laws, rules)
