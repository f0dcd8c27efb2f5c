-- rfc3164.rs: priority, blanks, timestamp, optional one space and host, optional one space and tag, blanks, optional `:`, blanks, optional
-- structured data, blanks, message. The text ends where the trimmed line ends; `start` is where that starts.
use Rattle.std.specs.Prelude.{ℕ, ◌+◌, ◌-◌, List, length, drop, ℤ, Option, Some, None}
use Rattle.record.specs.Places.{absent}
use Rattle.record.specs.declared.Place.{Place}
use Rattle.record.specs.declared.Protocol.TheVariants.{Rfc3164}
use Rattle.pri.specs.Pri.{pri_at}
use Rattle.pri.specs.declared.Pri.{Pri}
use Rattle.parsers.specs.Steps.{blanks_from, byte_from, colon_from, host_from, tag_from, on_some, on_read}
use Rattle.timestamp.specs.Timestamp.{rfc3164_from}
use Rattle.structured_data.specs.Data.{data_from, rows_or}
use Rattle.structured_data.specs.declared.Rules.TheVariants.{Rfc3164Rules}
use Rattle.draft.specs.Outcome.{Outcome}
use Rattle.draft.specs.Outcome.Outcome.{no_reading, is_reading}
use Rattle.rfc3164.specs.Names.{no_names, host_and_tag}
use Rattle.rfc3164.specs.declared.Header.{Header}
use Rattle.record.specs.declared.Timestamp.{Timestamp}

-- one space and a field
unfoldable pub spaced_host : List ℕ → ℕ → Option (Place × ℕ)
spaced_host s at = on_some (byte_from s at 32) None (λ a. host_from s a)

unfoldable pub spaced_tag : List ℕ → ℕ → Option (Place × ℕ)
spaced_tag s at = on_some (byte_from s at 32) None (λ a. tag_from s a)

-- where reading goes on: after the field, or where it was
abbrev pub behind_field : ℕ → Option (Place × ℕ) → ℕ
behind_field at None = at
behind_field at (Some x) = x.1

-- blanks, an optional `:`, blanks
unfoldable pub tag_end : List ℕ → ℕ → ℕ
tag_end s at = blanks_from s (colon_from s (blanks_from s at))

-- after the host: the tag, and what both give
abbrev pub tagged_from : List ℕ → Place → ℕ → Header
tagged_from s host at =
    let tag = spaced_tag s at in
    record { names = host_and_tag s host tag; next = behind_field at tag }

-- host and tag; where there is no host, no tag is tried
unfoldable pub header_from : List ℕ → ℕ → Header
header_from s at = on_read (spaced_host s at) (record { names = no_names; next = at }) λ host a. tagged_from s host a

-- after the timestamp: all that is left of the line
unfoldable pub body_from : Pri → Option Timestamp → List ℕ → ℕ → Outcome
body_from pri stamp s at =
    let header = header_from s at in
    let b = tag_end s header.next in
    let rows = rows_or b (data_from Rfc3164Rules s b) in
    let message = blanks_from s rows.next in
    is_reading
    (record {
      protocol = Rfc3164;
      facility = pri.facility;
      severity = pri.severity;
      timestamp = stamp;
      host = header.names.host;
      app = header.names.app;
      procid = header.names.procid;
      msgid = absent;
      message = record { start = message; len = length s - message };
    })
    b
    rows

unfoldable pub rfc3164 : ℕ → ℤ → List ℕ → ℕ → Outcome
rfc3164 year offset s start =
    let pri = pri_at (drop start s) in
    on_read (rfc3164_from year offset s (blanks_from s (start + pri.next))) no_reading λ stamp a.
    body_from pri stamp s a
