use Rattle.std.proofs.Common.{rules}
use Rattle.site.proofs.Hosts.{text_laws}
use Rattle.site.proofs.host.Goals as goal

pub returns-in-InLine : goal.returns-in-InLine
returns-in-InLine c = search (text_laws, rules)

pub returns-in-InSettings : goal.returns-in-InSettings
returns-in-InSettings c = search (text_laws, rules)
