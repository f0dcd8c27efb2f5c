use Rattle.layout.proofs.Fields.{record_filled}
use Rattle.layout.proofs.put_record.Goals as goal

pub returns : goal.returns
returns c = record_filled _ _ _ _ _ _ c.put_common.ensures
