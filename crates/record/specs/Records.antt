-- The empty records, which a refusal returns, and the record with a message alone.
use Rattle.std.specs.Prelude.{ℕ, false, None}
use Rattle.record.specs.Places.{absent}
use Rattle.record.specs.declared.Protocol.TheVariants.{Rfc3164}
use Rattle.record.specs.declared.Record.{Record}
use Rattle.record.specs.declared.StrictRecord.{StrictRecord}

-- protocol RFC 3164, the first `len` bytes of the line as the message, nothing else set
abbrev pub message_alone : ℕ → Record
message_alone len =
    record {
      protocol = Rfc3164;
      facility = None;
      severity = None;
      timestamp = None;
      host = absent;
      app = absent;
      procid = absent;
      msgid = absent;
      message = record { start = 0; len = len };
    }

-- nothing set, the message of start and length 0
abbrev pub empty_record : Record
empty_record = message_alone 0

abbrev pub empty_strict : StrictRecord
empty_strict = record { common = empty_record; timestamp_text = absent; has_message = false }
