use Rattle.std.proofs.Common.{arith, ◌∙◌}
use Rattle.calendar.proofs.Dates.{valid_parts}
use Rattle.calendar.proofs.Days.{month_to}
use Rattle.calendar.proofs.Clocks.{local_is}
use Rattle.calendar.proofs.local_seconds.Goals as goal

pub day_number-requires : goal.day_number-requires
day_number-requires c = let p = valid_parts _ c.requires in omega (arith, month_to c.args.t.year c.args.t.month p.month_to)

pub overflow_mul-t : goal.overflow_mul-t
overflow_mul-t c = let p = valid_parts _ c.requires in omega arith

pub overflow_mul-t-2 : goal.overflow_mul-t-2
overflow_mul-t-2 c = let p = valid_parts _ c.requires in omega arith

pub overflow_add-t : goal.overflow_add-t
overflow_add-t c = let p = valid_parts _ c.requires in omega arith

pub overflow_add-t-2 : goal.overflow_add-t-2
overflow_add-t-2 c = let p = valid_parts _ c.requires in omega arith

pub returns : goal.returns
returns c = rw c.from-clock.ensures (local_is c.args.t _ (c.from-days.ensures ∙ c.day_number.ensures))
