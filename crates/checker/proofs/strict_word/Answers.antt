use Rattle.std.proofs.Common.{rules}
use Rattle.checker.proofs.Memories.{word_laws}
use Rattle.checker.proofs.strict_word.Goals as goal

pub word_at-requires-clause-record_size_in_bounds : goal.word_at-requires-clause-record_size_in_bounds
word_at-requires-clause-record_size_in_bounds c = search (word_laws, rules)

pub returns : goal.returns
returns c = search (word_laws, rules)
