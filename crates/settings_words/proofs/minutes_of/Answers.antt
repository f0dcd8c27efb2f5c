use Rattle.std.proofs.Common.{◌∙◌}
use Rattle.settings_words.proofs.Numbers.{minutes_are}
use Rattle.settings_words.proofs.minutes_of.Goals as goal

pub returns-clause-value : goal.returns-clause-value
returns-clause-value c = c.min.ensures ∙ minutes_are c.args.text.now _ c.sign_len.ensures.value _ c.past.ensures _ c.number_of.ensures
