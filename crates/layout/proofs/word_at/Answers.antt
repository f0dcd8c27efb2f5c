use Rattle.std.proofs.Common.{◌∙◌}
use Rattle.layout.proofs.Numbers.{word_is}
use Rattle.layout.proofs.word_at.Goals as goal

pub returns : goal.returns
returns c = c.from_le_bytes.ensures ∙ word_is _ _ c.requires.record_size_in_bounds c.requires.i_lt_word_count
