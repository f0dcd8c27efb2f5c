use Rattle.std.proofs.Common.{rules, ap, not}
use Rattle.strict_header.proofs.Steps.{behind_fits}
use Rattle.strict_header.proofs.Offsets.{zone_within, sign_there, offset_laws}
use Rattle.strict_header.proofs.offset.Goals as goal

pub returns-then-is_at : goal.returns-then-is_at
returns-then-is_at c = search (offset_laws, rules)

pub returns-then-not-east-is_at : goal.returns-then-not-east-is_at
returns-then-not-east-is_at c = search (offset_laws, rules)

pub returns-in_err-value : goal.returns-in_err-value
returns-in_err-value c = search (offset_laws, c.in_err-value.was, rules)

pub minutes-requires : goal.minutes-requires
minutes-requires c = search (offset_laws, c.in_ok-value.was, rules)

pub overflow_add-result : goal.overflow_add-result
overflow_add-result c = search (behind_fits, zone_within, sign_there c.args.s.now _ _ c.is_at-east.ensures c.is_at-2.ensures (ap not c.if-not-east-is_at.false), c.in_ok-value.was, rules)

pub returns : goal.returns
returns c = search (offset_laws, c.in_ok-value.was, rules)
