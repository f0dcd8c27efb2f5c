use Rattle.std.proofs.Common.{rules}
use Rattle.strict_header.proofs.Offsets.{zone_laws}
use Rattle.strict_header.proofs.zone.Goals as goal

pub returns-in_err-hour : goal.returns-in_err-hour
returns-in_err-hour c = search (zone_laws, c.in_err-hour.was, rules)

pub past-requires : goal.past-requires
past-requires c = search (zone_laws, c.in_ok-hour.was, rules)

pub returns-in_err-minute : goal.returns-in_err-minute
returns-in_err-minute c = search (zone_laws, c.in_ok-hour.was, c.in_err-minute.was, rules)

pub returns-then-not-hour-minute : goal.returns-then-not-hour-minute
returns-then-not-hour-minute c = search (zone_laws, c.in_ok-hour.was, c.in_ok-minute.was, rules)

pub overflow_add-result-2 : goal.overflow_add-result-2
overflow_add-result-2 c = search (zone_laws, c.in_ok-hour.was, c.in_ok-minute.was, rules)

pub returns : goal.returns
returns c = search (zone_laws, c.in_ok-hour.was, c.in_ok-minute.was, rules)
