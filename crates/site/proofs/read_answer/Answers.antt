use Rattle.std.proofs.Common.{rules}
use Rattle.site.proofs.Answers.{holder_laws}
use Rattle.site.proofs.read_answer.Goals as goal

pub returns-in-Nowhere : goal.returns-in-Nowhere
returns-in-Nowhere c = search (holder_laws, rules)

pub returns-in-InLine : goal.returns-in-InLine
returns-in-InLine c = search (holder_laws, rules)

pub returns-in-InSettings : goal.returns-in-InSettings
returns-in-InSettings c = search (holder_laws, rules)
