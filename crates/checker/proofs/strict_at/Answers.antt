use Rattle.std.proofs.Common.{rules}
use Rattle.checker.proofs.Memories.{strict_room, strict_record, strict_laws}
use Rattle.checker.proofs.strict_at.Goals as goal

pub record_at-requires : goal.record_at-requires
record_at-requires c = strict_record _ c.requires

pub strict_word-requires-clause-strict_size_in_bounds : goal.strict_word-requires-clause-strict_size_in_bounds
strict_word-requires-clause-strict_size_in_bounds c = strict_room _ c.requires

pub strict_word-requires-2-clause-strict_size_in_bounds : goal.strict_word-requires-2-clause-strict_size_in_bounds
strict_word-requires-2-clause-strict_size_in_bounds c = strict_room _ c.requires

pub strict_word-requires-3-clause-strict_size_in_bounds : goal.strict_word-requires-3-clause-strict_size_in_bounds
strict_word-requires-3-clause-strict_size_in_bounds c = strict_room _ c.requires

pub strict_word-requires-4-clause-strict_size_in_bounds : goal.strict_word-requires-4-clause-strict_size_in_bounds
strict_word-requires-4-clause-strict_size_in_bounds c = strict_room _ c.requires

pub returns : goal.returns
returns c = search (strict_laws, rules)
