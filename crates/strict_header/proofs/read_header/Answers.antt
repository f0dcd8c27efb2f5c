use Rattle.std.proofs.Common.{rules}
use Rattle.strict_header.proofs.Headers.{header_is, header_laws, start_within, stamp_within, stamp_some_bytes, names_within, names_place}
use Rattle.strict_header.proofs.Steps.{sum_fits, sums_fit}
use Rattle.strict_header.proofs.read_header.Goals as goal

pub returns-in_err-prival : goal.returns-in_err-prival
returns-in_err-prival c = search (header_laws, c.in_err-prival.was, rules)

pub past-s-requires : goal.past-s-requires
past-s-requires c = search (start_within, c.in_ok-prival.was, rules)

pub returns-in_err-timestamp : goal.returns-in_err-timestamp
returns-in_err-timestamp c = search (header_laws, c.in_ok-prival.was, c.in_err-timestamp.was, rules)

pub past-t-requires : goal.past-t-requires
past-t-requires c = search (stamp_within, c.in_ok-prival.was, c.in_ok-timestamp.was, rules)

pub overflow_add-at : goal.overflow_add-at
overflow_add-at c = search (sum_fits, start_within, stamp_within, c.in_ok-prival.was, c.in_ok-timestamp.was, rules)

pub names-requires : goal.names-requires
names-requires c = search (names_place, c.in_ok-prival.was, c.in_ok-timestamp.was, rules)

pub returns-in_err-host : goal.returns-in_err-host
returns-in_err-host c = search (header_laws, c.in_ok-prival.was, c.in_ok-timestamp.was, c.in_err-host.was, rules)

pub overflow_add-next : goal.overflow_add-next
overflow_add-next c = search (sum_fits, stamp_within, names_within, c.in_ok-prival.was, c.in_ok-timestamp.was, c.in_ok-host.was)

pub overflow_add-next-2 : goal.overflow_add-next-2
overflow_add-next-2 c = search (sums_fit, start_within, stamp_within, names_within, c.well_formed.0.0, c.in_ok-prival.was, c.in_ok-timestamp.was, c.in_ok-host.was)

pub text_place-requires : goal.text_place-requires
text_place-requires c = search (stamp_some_bytes, c.in_ok-prival.was, c.in_ok-timestamp.was, rules)

pub returns : goal.returns
returns c = search (header_is, c.pri_version.ensures, c.in_ok-prival.was, c.in_ok-timestamp.was, c.in_ok-host.was, c.past-s.ensures, rules)
