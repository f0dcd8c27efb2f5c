use Rattle.std.proofs.Common.{rules}
use Rattle.white.proofs.Trims.{trim_laws}
use Rattle.white.proofs.trim.Goals as goal

pub returns-then-end-eq0 : goal.returns-then-end-eq0
returns-then-end-eq0 c = search (trim_laws, rules)

pub returns : goal.returns
returns c = search (trim_laws, rules)
