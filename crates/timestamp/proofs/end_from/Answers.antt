use Rattle.std.proofs.Common.{rules}
use Rattle.timestamp.proofs.Within.{nanos_within, nanos_onward, nanos_few}
use Rattle.timestamp.proofs.Stamps.{end_laws}
use Rattle.timestamp.proofs.end_from.Goals as goal

pub returns-in_err-nanos : goal.returns-in_err-nanos
returns-in_err-nanos c = search (end_laws, rules)

pub zone_from-requires : goal.zone_from-requires
zone_from-requires c = search (nanos_within, c.in_ok-nanos.was, rules)

pub returns-in_err-offset : goal.returns-in_err-offset
returns-in_err-offset c = search (end_laws, c.in_ok-nanos.was, rules)

pub returns-then-not-is_at : goal.returns-then-not-is_at
returns-then-not-is_at c = search (end_laws, c.in_ok-nanos.was, c.in_ok-offset.was, rules)

pub overflow_sub-a : goal.overflow_sub-a
overflow_sub-a c = search (nanos_onward, c.in_ok-nanos.was, c.in_ok-offset.was, rules)

pub after_point-requires : goal.after_point-requires
after_point-requires c = search (nanos_few, c.in_ok-nanos.was, c.in_ok-offset.was, rules)

pub returns : goal.returns
returns c = search (end_laws, c.in_ok-nanos.was, c.in_ok-offset.was, rules)
