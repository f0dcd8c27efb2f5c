use Rattle.std.proofs.Common.{rules}
use Rattle.white.proofs.Bytes.{front_laws}
use Rattle.white.proofs.long_len.Goals as goal

pub returns-then-s-lt2 : goal.returns-then-s-lt2
returns-then-s-lt2 c = search (front_laws, rules)

pub returns-then-white_pair : goal.returns-then-white_pair
returns-then-white_pair c = search (front_laws, rules)

pub returns-then-s-lt3 : goal.returns-then-s-lt3
returns-then-s-lt3 c = search (front_laws, rules)

pub returns-then-white_triple : goal.returns-then-white_triple
returns-then-white_triple c = search (front_laws, rules)

pub returns : goal.returns
returns c = search (front_laws, rules)
