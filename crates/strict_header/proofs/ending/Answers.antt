use Rattle.std.proofs.Common.{rules}
use Rattle.strict_header.proofs.Stamps.{ending_laws}
use Rattle.strict_header.proofs.ending.Goals as goal

pub returns-in_err-nanos : goal.returns-in_err-nanos
returns-in_err-nanos c = search (ending_laws, c.in_err-nanos.was, rules)

pub past-requires : goal.past-requires
past-requires c = search (ending_laws, c.in_ok-nanos.was, rules)

pub returns-in_err-minutes : goal.returns-in_err-minutes
returns-in_err-minutes c = search (ending_laws, c.in_ok-nanos.was, c.in_err-minutes.was, rules)

pub after_point-requires : goal.after_point-requires
after_point-requires c = search (ending_laws, c.in_ok-nanos.was, c.in_ok-minutes.was, rules)

pub overflow_add-result : goal.overflow_add-result
overflow_add-result c = search (ending_laws, c.in_ok-nanos.was, c.in_ok-minutes.was, rules)

pub returns : goal.returns
returns c = search (ending_laws, c.in_ok-nanos.was, c.in_ok-minutes.was, rules)
