use Rattle.std.proofs.Common.{rules}
use Rattle.settings_words.proofs.Numbers.{sign_laws}
use Rattle.settings_words.proofs.sign_len.Goals as goal

pub returns-then-is_at-clause-value : goal.returns-then-is_at-clause-value
returns-then-is_at-clause-value c = search (sign_laws, rules)

pub returns-then-is_at-clause-upper_bound : goal.returns-then-is_at-clause-upper_bound
returns-then-is_at-clause-upper_bound c = search (sign_laws, rules)

pub returns-else-is_at-clause-value : goal.returns-else-is_at-clause-value
returns-else-is_at-clause-value c = search (sign_laws, rules)
