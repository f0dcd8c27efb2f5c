use Rattle.std.proofs.Common.{rules}
use Rattle.viable.proofs.Walks.{fits_laws}
use Rattle.reach_header.proofs.Pieces.{secfrac_laws}
use Rattle.reach_header.proofs.secfrac.Goals as goal

pub returns-then-not-is_at : goal.returns-then-not-is_at
returns-then-not-is_at c = search (secfrac_laws, fits_laws, rules)

pub overflow_add-at : goal.overflow_add-at
overflow_add-at c = search (secfrac_laws, fits_laws, rules)

pub returns : goal.returns
returns c = search (secfrac_laws, fits_laws, rules)
