use Rattle.std.proofs.Common.{rules}
use Rattle.viable.proofs.Walks.{fits_laws}
use Rattle.reach_data.proofs.Noted.{walk_laws}
use Rattle.reach_data.proofs.note_all.Goals as goal

pub loop-at-init : goal.loop-at-init
loop-at-init c = search (walk_laws, fits_laws, rules)

pub returns-then-k-starts : goal.returns-then-k-starts
returns-then-k-starts c = search (walk_laws, fits_laws, rules)

pub returns-in_default : goal.returns-in_default
returns-in_default c = search (walk_laws, fits_laws, rules)

pub loop-at-smaller : goal.loop-at-smaller
loop-at-smaller c = search (walk_laws, fits_laws, rules)

pub loop-at-preserved : goal.loop-at-preserved
loop-at-preserved c = search (walk_laws, fits_laws, rules)

pub returns : goal.returns
returns c = search (walk_laws, fits_laws, rules)
