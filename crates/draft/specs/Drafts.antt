-- For private contracts alone: what the code keeps of an outcome before the tables are filled.
use Rattle.std.specs.Prelude.{length, Option, Some, None}
use Rattle.record.specs.declared.Protocol.{Protocol}
use Rattle.record.specs.declared.Protocol.TheVariants.{Rfc3164, Rfc5424}
use Rattle.structured_data.specs.declared.Rules.{Rules}
use Rattle.structured_data.specs.declared.Rules.TheVariants.{Rfc3164Rules, Rfc5424Rules}
use Rattle.draft.specs.Outcome.{Outcome}
use Rattle.draft.specs.Outcome.Outcome.{no_reading, is_reading}
use Rattle.draft.specs.declared.Draft.{Draft}

-- a line's structured data is read by the rules of its protocol
abbrev pub rules_by : Protocol → Rules
rules_by Rfc3164 = Rfc3164Rules
rules_by (Rfc5424 version) = Rfc5424Rules

-- the rows are counted
abbrev pub draft_of : Outcome → Option Draft
draft_of no_reading = None
draft_of (is_reading r at rows) = Some (record { rules = rules_by r.protocol; read = r; at = at; elements = length rows.elements; params = length rows.params })
