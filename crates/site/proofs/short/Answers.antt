use Rattle.std.proofs.Common.{rules}
use Rattle.site.proofs.Answers.{short_laws}
use Rattle.site.proofs.short.Goals as goal

pub returns-then-a-eq0 : goal.returns-then-a-eq0
returns-then-a-eq0 c = search (short_laws, rules)

pub returns : goal.returns
returns c = search (short_laws, rules)
