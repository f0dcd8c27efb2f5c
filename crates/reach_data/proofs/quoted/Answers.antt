use Rattle.std.proofs.Common.{rules}
use Rattle.viable.proofs.Walks.{fits_laws}
use Rattle.reach_data.proofs.Items.{quoted_behind}
use Rattle.reach_data.proofs.quoted.Goals as goal

pub returns-then-not-is_at : goal.returns-then-not-is_at
returns-then-not-is_at c = search (quoted_behind.no, quoted_behind.yes, fits_laws, rules)

pub overflow_add-at : goal.overflow_add-at
overflow_add-at c = search (quoted_behind.no, quoted_behind.yes, fits_laws, rules)

pub returns : goal.returns
returns c = search (quoted_behind.no, quoted_behind.yes, fits_laws, rules)
