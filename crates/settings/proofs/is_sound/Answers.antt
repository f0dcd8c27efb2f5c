use Rattle.std.proofs.Common.{rules}
use Rattle.settings.proofs.Taking.{sound_laws}
use Rattle.settings.proofs.is_sound.Goals as goal

pub returns-then-len-gt-HOST_ROOM : goal.returns-then-len-gt-HOST_ROOM
returns-then-len-gt-HOST_ROOM c = search (sound_laws, rules)

pub returns : goal.returns
returns c = search (sound_laws, rules)
