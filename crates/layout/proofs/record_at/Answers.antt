use Rattle.layout.proofs.Numbers.{held}
use Rattle.layout.proofs.record_at.Goals as goal

pub invariant_of-memory : goal.invariant_of-memory
invariant_of-memory c = record { long = (held _ c.requires).long }

pub protocol-requires : goal.protocol-requires
protocol-requires c = (held _ c.requires).protocol

pub level-requires-clause-i_value : goal.level-requires-clause-i_value
level-requires-clause-i_value c = (held _ c.requires).facility

pub level-requires-2-clause-i_value : goal.level-requires-2-clause-i_value
level-requires-2-clause-i_value c = (held _ c.requires).severity

pub stamp-requires : goal.stamp-requires
stamp-requires c = (held _ c.requires).timestamp
