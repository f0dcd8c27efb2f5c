use Rattle.std.proofs.Common.{arith}
use Rattle.strict_data.proofs.Differing.{room_made}
use Rattle.strict_data.proofs.many_differ.Goals as goal

pub noted_differ-requires-clause-among : goal.noted_differ-requires-clause-among
noted_differ-requires-clause-among c = c.requires.among

pub noted_differ-requires-clause-spacious : goal.noted_differ-requires-clause-spacious
noted_differ-requires-clause-spacious c = room_made _ 512 1664 c.requires.count_bound (omega arith) (omega arith)
