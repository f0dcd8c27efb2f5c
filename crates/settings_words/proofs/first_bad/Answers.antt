use Rattle.std.proofs.Common.{rules}
use Rattle.settings_words.proofs.Ranges.{bad_laws}
use Rattle.settings_words.proofs.first_bad.Goals as goal

pub returns-then-not-w : goal.returns-then-not-w
returns-then-not-w c = search (bad_laws, rules)

pub returns-then-w-gt65535 : goal.returns-then-w-gt65535
returns-then-w-gt65535 c = search (bad_laws, rules)

pub returns-then-w-gt-LAST_YEAR : goal.returns-then-w-gt-LAST_YEAR
returns-then-w-gt-LAST_YEAR c = search (bad_laws, rules)

pub returns-then-not-is_offset : goal.returns-then-not-is_offset
returns-then-not-is_offset c = search (bad_laws, rules)

pub returns-then-last_variant-w : goal.returns-then-last_variant-w
returns-then-last_variant-w c = search (bad_laws, rules)

pub returns-else-last_variant-w : goal.returns-else-last_variant-w
returns-else-last_variant-w c = search (bad_laws, rules)
