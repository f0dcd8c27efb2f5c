use Rattle.differ.proofs.Whole.{differs_is}
use Rattle.differ.proofs.differ_in.Goals as goal

pub returns : goal.returns
returns c =
    differs_is _ _ _ _ _ _ _ c.elements_part-part.ensures _ _ _ _ c.head_marks-head.ensures c.text_marks-texts.ensures c.message_mark-message.ensures _ c.is_some.ensures c.from-data.ensures _ c.unwrap_or-position.ensures
