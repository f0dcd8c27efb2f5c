use Rattle.std.proofs.Common.{rules}
use Rattle.strict_data.proofs.Ids.{note_out, note_inside}
use Rattle.strict_data.proofs.note_id.Goals as goal

pub returns-else-k-starts : goal.returns-else-k-starts
returns-else-k-starts c = search (note_out, note_inside, rules)
