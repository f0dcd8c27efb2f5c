use Rattle.std.proofs.Common.{rules, ap, not}
use Rattle.settings.proofs.Taking.{take_read, take_laws}
use Rattle.settings.proofs.take_record.Goals as goal

pub returns-then-not-is_version : goal.returns-then-not-is_version
returns-then-not-is_version c = search (take_laws, rules)

pub returns-then-not-is_sound : goal.returns-then-not-is_sound
returns-then-not-is_sound c = search (take_laws, rules)

pub returns-else-not-is_sound : goal.returns-else-not-is_sound
returns-else-not-is_sound c = take_read _ _ _ c.fields_at-s.ensures _ (search rules) (search rules) _ c.is_version.ensures (ap not c.if-not-is_version.false) _ c.is_sound.ensures (ap not c.if-not-is_sound.false)
