use Rattle.std.proofs.Common.{rules}
use Rattle.loose.proofs.Settings.{settings_are}
use Rattle.loose.proofs.settings_ok.Goals as goal

pub returns : goal.returns
returns c = search (settings_are, rules)
