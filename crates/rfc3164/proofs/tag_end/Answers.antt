use Rattle.std.proofs.Common.{rules}
use Rattle.rfc3164.proofs.Lines.{end_laws}
use Rattle.rfc3164.proofs.tag_end.Goals as goal

pub blanks_from-requires : goal.blanks_from-requires
blanks_from-requires c = search (end_laws, rules)

pub returns : goal.returns
returns c = search (end_laws, rules)
