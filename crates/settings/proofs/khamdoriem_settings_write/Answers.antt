use Rattle.std.proofs.Common.{rules}
use Rattle.settings.proofs.Telling.{writes_numbers}
use Rattle.settings.proofs.khamdoriem_settings_write.Goals as goal

pub returns : goal.returns
returns c = search (writes_numbers, rules)
