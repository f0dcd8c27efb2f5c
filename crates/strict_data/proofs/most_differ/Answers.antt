use Rattle.std.proofs.Common.{arith}
use Rattle.strict_data.proofs.Differing.{room_made, among_most}
use Rattle.strict_data.proofs.most_differ.Goals as goal

pub noted_differ-requires-clause-among : goal.noted_differ-requires-clause-among
noted_differ-requires-clause-among c = c.requires

pub noted_differ-requires-clause-spacious : goal.noted_differ-requires-clause-spacious
noted_differ-requires-clause-spacious c = room_made _ 2730 8318 (among_most _ _ c.requires) (omega arith) (omega arith)
