use Rattle.std.proofs.Common.{rules}
use Rattle.settings_words.proofs.Numbers.{number_laws}
use Rattle.settings_words.proofs.number_of.Goals as goal

pub returns-then-text-gt10 : goal.returns-then-text-gt10
returns-then-text-gt10 c = search (number_laws, rules)

pub returns-in_default : goal.returns-in_default
returns-in_default c = search (number_laws, rules)

pub returns-then-len-text : goal.returns-then-len-text
returns-then-len-text c = search (number_laws, rules)

pub returns : goal.returns
returns c = search (number_laws, rules)
