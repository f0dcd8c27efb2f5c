-- rfc5424.rs: priority, at once the version (32 bits), then timestamp, host, app, process id, message id, each after at least one blank, then
-- optional blanks, structured data, optional blanks, message. The text ends where the trimmed line ends; `start` is where that starts.
use Rattle.std.specs.Prelude.{ℕ, ◌+◌, ◌-◌, List, length, drop, Option, Some, None}
use Rattle.record.specs.declared.Place.{Place}
use Rattle.record.specs.declared.Protocol.TheVariants.{Rfc5424}
use Rattle.pri.specs.Pri.{pri_at}
use Rattle.pri.specs.declared.Pri.{Pri}
use Rattle.parsers.specs.Steps.{blanks_from, some_blanks_from, number_from, host_from, plain_from, on_some, on_read}
use Rattle.timestamp.specs.Rfc3339.{rfc3339_from}
use Rattle.structured_data.specs.Data.{Data, Rows, data_from}
use Rattle.structured_data.specs.Data.Data.{no_data, is_data}
use Rattle.structured_data.specs.declared.Rules.TheVariants.{Rfc5424Rules}
use Rattle.draft.specs.Outcome.{Outcome}
use Rattle.draft.specs.Outcome.Outcome.{no_reading, is_reading}
use Rattle.rfc5424.specs.declared.Start.{Start}
use Rattle.rfc5424.specs.declared.Four.{Four}
use Rattle.record.specs.declared.Timestamp.{Timestamp}

-- at least one blank, and a field
unfoldable pub blank_host : List ℕ → ℕ → Option (Place × ℕ)
blank_host s at = on_some (some_blanks_from s at) None (λ a. host_from s a)

unfoldable pub blank_plain : List ℕ → ℕ → Option (Place × ℕ)
blank_plain s at = on_some (some_blanks_from s at) None (λ a. plain_from s a)

abbrev pub start_of : ℕ → Option (Option Timestamp × ℕ) → Option (Start × ℕ)
start_of version None = None
start_of version (Some x) = Some (record { version = version; timestamp = x.0 }, x.1)

-- version and timestamp
unfoldable pub start_from : List ℕ → ℕ → Option (Start × ℕ)
start_from s at =
    on_read (number_from s at) None λ version a.
    on_some (some_blanks_from s a) None λ b.
    start_of version (rfc3339_from s b)

abbrev pub on_start : {R : Type 0} → Option (Start × ℕ) → R → (ℕ → Option Timestamp → ℕ → R) → R
on_start None r k = r
on_start (Some x) r k = k x.0.version x.0.timestamp x.1

-- host, app, process id, message id
unfoldable pub four_from : List ℕ → ℕ → Option (Four × ℕ)
four_from s at =
    on_read (blank_host s at) None λ host a.
    on_read (blank_plain s a) None λ app b.
    on_read (blank_plain s b) None λ procid c.
    on_read (blank_plain s c) None λ msgid d.
    Some (record { host = host; app = app; procid = procid; msgid = msgid }, d)

abbrev pub on_four : {R : Type 0} → Option (Four × ℕ) → R → (Place → Place → Place → Place → ℕ → R) → R
on_four None r k = r
on_four (Some x) r k = k x.0.host x.0.app x.0.procid x.0.msgid x.1

abbrev pub on_data : {R : Type 0} → Data → R → (Rows → R) → R
on_data no_data r k = r
on_data (is_data rows) r k = k rows

-- after the timestamp
unfoldable pub body_from : Pri → ℕ → Option Timestamp → List ℕ → ℕ → Outcome
body_from pri version stamp s at =
    on_four (four_from s at) no_reading λ host app procid msgid a.
    let b = blanks_from s a in
    on_data (data_from Rfc5424Rules s b) no_reading λ rows.
    let message = blanks_from s rows.next in
    is_reading
    (record {
      protocol = Rfc5424 version;
      facility = pri.facility;
      severity = pri.severity;
      timestamp = stamp;
      host = host;
      app = app;
      procid = procid;
      msgid = msgid;
      message = record { start = message; len = length s - message };
    })
    b
    rows

unfoldable pub rfc5424 : List ℕ → ℕ → Outcome
rfc5424 s start =
    let pri = pri_at (drop start s) in
    on_start (start_from s (start + pri.next)) no_reading λ version stamp a.
    body_from pri version stamp s a
