use Rattle.std.proofs.Common.{rules}
use Rattle.strict_data.proofs.Values.{value_closed, value_laws}
use Rattle.strict_data.proofs.value.Goals as goal

pub returns-then-not-is_at : goal.returns-then-not-is_at
returns-then-not-is_at c = search (value_laws, rules)

pub returns-then-not-is_utf8 : goal.returns-then-not-is_utf8
returns-then-not-is_utf8 c = search (value_laws, rules)

pub returns : goal.returns
returns c = value_closed c.args.s.now c.stop-n.result c.stop-n.ensures c.is_at.result c.is_at.ensures (search rules)
    c.is_utf8.result c.is_utf8.ensures (search rules)
