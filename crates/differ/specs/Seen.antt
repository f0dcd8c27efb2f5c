-- A reading as a user sees it: numbers and bytes. No place, no digit count and no escape is in it.
use Rattle.std.specs.Prelude.{ℕ, List, map, true, get_or, ℤ, if◌then◌else◌, Option, Some, None}
use Rattle.base.specs.Texts.{text_at}
use Rattle.record.specs.declared.Place.{Place}
use Rattle.record.specs.declared.Protocol.{Protocol}
use Rattle.record.specs.declared.Record.{Record}
use Rattle.lookup.specs.Unescape.{unescaped}
use Rattle.record.specs.declared.Timestamp.{Timestamp}

-- a text that may be absent; an empty one is there
pub data Text : Type 0 where
  missing : Text
  given : List ℕ → Text

-- an instant, in seconds and nanoseconds, and the offset at which it is shown
pub data Time : Type 0 where
  untimed : Time
  timed : (seconds : ℤ) (nanos : ℕ) (offset : ℤ) → Time

-- a parameter: the position of its element, its name and its unescaped value
pub record Pair : Type 0 where
  pub element : ℕ
  pub name : List ℕ
  pub value : List ℕ

-- the elements as their ids, and all parameters, in the order of the line
pub record Seen : Type 0 where
  pub protocol : Protocol
  pub facility : Option ℕ
  pub severity : Option ℕ
  pub time : Time
  pub host : Text
  pub app : Text
  pub procid : Text
  pub msgid : Text
  pub ids : List (List ℕ)
  pub pairs : List Pair
  pub message : List ℕ

abbrev pub text_of : List ℕ → Place → Text
text_of line p = if p.present then Text.given (text_at line p.start p.len) else Text.missing

abbrev pub time_of : Option Timestamp → Time
time_of None = Time.untimed
time_of (Some t) = Time.timed t.seconds t.nanos t.offset

abbrev pub id_of : List ℕ → List ℕ → List ℕ
id_of line row = text_at line (get_or row 0 0) (get_or row 1 0)

-- unescaped as the loose rules have it
abbrev pub pair_of : List ℕ → List ℕ → Pair
pair_of line row =
    record {
      element = get_or row 0 0;
      name = text_at line (get_or row 1 0) (get_or row 2 0);
      value = unescaped true (text_at line (get_or row 3 0) (get_or row 4 0));
    }

-- cut out of a line by its record and the rows of both tables
abbrev pub seen_of : List ℕ → Record → List (List ℕ) → List (List ℕ) → Seen
seen_of line r elements params =
    record {
      protocol = r.protocol;
      facility = r.facility;
      severity = r.severity;
      time = time_of r.timestamp;
      host = text_of line r.host;
      app = text_of line r.app;
      procid = text_of line r.procid;
      msgid = text_of line r.msgid;
      ids = map (id_of line) elements;
      pairs = map (pair_of line) params;
      message = text_at line r.message.start r.message.len;
    }
