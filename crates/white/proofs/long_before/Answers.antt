use Rattle.std.proofs.Common.{rules}
use Rattle.white.proofs.Trims.{before_laws}
use Rattle.white.proofs.long_before.Goals as goal

pub returns-then-end-lt2 : goal.returns-then-end-lt2
returns-then-end-lt2 c = search (before_laws, rules)

pub returns-then-white_pair : goal.returns-then-white_pair
returns-then-white_pair c = search (before_laws, rules)

pub returns-then-end-lt3 : goal.returns-then-end-lt3
returns-then-end-lt3 c = search (before_laws, rules)

pub returns-then-white_triple : goal.returns-then-white_triple
returns-then-white_triple c = search (before_laws, rules)

pub returns : goal.returns
returns c = search (before_laws, rules)
