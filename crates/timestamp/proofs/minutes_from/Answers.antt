use Rattle.std.proofs.Common.{rules}
use Rattle.parsers.proofs.Steps.{byte_within}
use Rattle.timestamp.proofs.Zones.{minutes_laws}
use Rattle.timestamp.proofs.minutes_from.Goals as goal

pub returns-in_err-hour : goal.returns-in_err-hour
returns-in_err-hour c = search (minutes_laws, rules)

pub returns-in_err-b : goal.returns-in_err-b
returns-in_err-b c = search (minutes_laws, c.in_ok-hour.was, rules)

pub two_from-requires-2 : goal.two_from-requires-2
two_from-requires-2 c = search (byte_within, c.in_ok-hour.was, c.in_ok-b.was, rules)

pub returns-in_err-minute : goal.returns-in_err-minute
returns-in_err-minute c = search (minutes_laws, c.in_ok-hour.was, c.in_ok-b.was, rules)

pub overflow_mul-result : goal.overflow_mul-result
overflow_mul-result c = search (minutes_laws, c.in_ok-hour.was, c.in_ok-b.was, c.in_ok-minute.was, rules)

pub overflow_add-result : goal.overflow_add-result
overflow_add-result c = search (minutes_laws, c.in_ok-hour.was, c.in_ok-b.was, c.in_ok-minute.was, rules)

pub returns-then-hour-minute : goal.returns-then-hour-minute
returns-then-hour-minute c = search (minutes_laws, c.in_ok-hour.was, c.in_ok-b.was, c.in_ok-minute.was, rules)

pub returns : goal.returns
returns c = search (minutes_laws, c.in_ok-hour.was, c.in_ok-b.was, c.in_ok-minute.was, rules)
