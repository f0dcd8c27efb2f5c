use Rattle.std.proofs.Common.{arith}
use Rattle.std.proofs.lemmas.Int.{ints}
use Rattle.calendar.specs.Instant.{seconds_of}
use Rattle.calendar.proofs.Clocks.{local_below}
use Rattle.calendar.proofs.seconds_of.Goals as goal

pub overflow_cast-result : goal.overflow_cast-result
overflow_cast-result c = let p = local_below c.args.t c.requires in omega (arith, ints)

pub overflow_sub-result : goal.overflow_sub-result
overflow_sub-result c = let p = local_below c.args.t c.requires in omega (arith, ints)

pub overflow_sub-result-2 : goal.overflow_sub-result-2
overflow_sub-result-2 c = let p = local_below c.args.t c.requires in omega (arith, ints)

pub returns : goal.returns
unfolding seconds_of
returns c = let p = local_below c.args.t c.requires in omega (arith, ints)
