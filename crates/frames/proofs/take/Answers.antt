use Rattle.std.proofs.Common.{rules}
use Rattle.frames.proofs.States.{turn_sum}
use Rattle.frames.proofs.take.Goals as goal

pub overflow_add-s : goal.overflow_add-s
overflow_add-s c = search (turn_sum, rules)
