use Rattle.layout.proofs.Numbers.{held}
use Rattle.layout.proofs.param_count.Goals as goal

pub word_at-requires-clause-record_size_in_bounds : goal.word_at-requires-clause-record_size_in_bounds
word_at-requires-clause-record_size_in_bounds c = (held _ c.requires).long
