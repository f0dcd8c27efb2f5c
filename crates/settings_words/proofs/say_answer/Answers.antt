use Rattle.std.proofs.Common.{rules}
use Rattle.settings_words.proofs.Records.{record_laws}
use Rattle.settings_words.proofs.say_answer.Goals as goal

pub say_settings-requires : goal.say_settings-requires
say_settings-requires c = search (record_laws, rules)
