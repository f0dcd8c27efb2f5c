use Rattle.settings_words.proofs.Numbers.{offset_west, offset_east}
use Rattle.settings_words.proofs.offset_of.Goals as goal

pub returns-then-is_at : goal.returns-then-is_at
returns-then-is_at c = offset_west c.args.text.now _ c.minutes_of-minutes.ensures.value c.minutes_of-minutes.ensures.upper_bound _ c.is_at.ensures c.if-is_at.true

pub returns-else-is_at : goal.returns-else-is_at
returns-else-is_at c = offset_east c.args.text.now _ c.minutes_of-minutes.ensures.value c.minutes_of-minutes.ensures.upper_bound _ c.is_at.ensures c.if-is_at.false
