use Rattle.frames.proofs.States.{refill_chunk}
use Rattle.frames.proofs.refill.Goals as goal

pub returns-in-Some-clause-refills : goal.returns-in-Some-clause-refills
returns-in-Some-clause-refills c = refill_chunk _ _ _ c.in-Some.got c.read.new.chunk c.in-Some.ensures.in_bounds c.read.auto.chunk
