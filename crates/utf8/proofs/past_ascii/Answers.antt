use Rattle.std.proofs.Common.{rules}
use Rattle.utf8.proofs.Passing.{then_passed, ascii_laws}
use Rattle.utf8.proofs.past_ascii.Goals as goal

pub returns-then-s-at : goal.returns-then-s-at
returns-then-s-at c = search (ascii_laws, rules)

pub bounds-s-at : goal.bounds-s-at
bounds-s-at c = search (ascii_laws, rules)

pub returns-then-s-at-ge128 : goal.returns-then-s-at-ge128
returns-then-s-at-ge128 c = search (ascii_laws, rules)

pub past_eight-requires : goal.past_eight-requires
past_eight-requires c = search (ascii_laws, rules)

pub past_one-requires : goal.past_one-requires
past_one-requires c = search (ascii_laws, rules)

pub returns : goal.returns
returns c = then_passed c.args.s.now c.args.at c.past_eight.result c.past_one.result c.past_eight.ensures c.past_one.ensures
