use Rattle.std.proofs.Common.{rules}
use Rattle.settings_words.proofs.Records.{record_laws}
use Rattle.settings_words.proofs.is_last.Goals as goal

pub returns : goal.returns
returns c = search (record_laws, rules)
