-- For private contracts alone: what the first pass keeps of a line that the parser of `grammar` divides: the record, where the structured data stands, and the counts;
-- and what is answered before a table is touched.
use Rattle.std.specs.Prelude.{ℕ, ◌/◌, ◌%◌, Bool, true, false, List, [], ltb, length, if◌then◌else◌, Option, Some, None, Result, Ok, Err}
use Rattle.record.specs.Limits.{line_limit}
use Rattle.grammar.specs.Line.{Division, data_then}
use Rattle.grammar.specs.Parse.{Parsed, parse}
use Rattle.grammar.specs.Parse.Parsed.{failed, found}
use Rattle.grammar.specs.Reading.{record_of, data_at, param_count}
use Rattle.strict_header.specs.declared.HeaderAt.{HeaderAt}
use Rattle.record.specs.declared.Protocol.TheVariants.{Rfc5424}
use Rattle.record.specs.declared.Span.{Span}
use Rattle.record.specs.declared.StrictRecord.{StrictRecord}
use Rattle.record.specs.declared.StrictReading.{StrictReading}
use Rattle.record.specs.declared.Refusal.TheVariants.{LineTooLong, NoReading, TooManyElements, TooManyParams}
use Rattle.record.specs.declared.Refusal.{Refusal}
use Rattle.strict.specs.declared.Scan.{Scan}

-- the record of a header and a message
unfoldable pub record_with : HeaderAt → Span → Bool → StrictRecord
record_with h message present =
    record {
      common = record {
        protocol = Rfc5424 h.version;
        facility = Some (h.prival / 8);
        severity = Some (h.prival % 8);
        timestamp = h.timestamp;
        host = h.host;
        app = h.app;
        procid = h.procid;
        msgid = h.msgid;
        message = message;
      };
      timestamp_text = h.timestamp_text;
      has_message = present;
    }

abbrev pub scan_of : Parsed Division → Option Scan
scan_of failed = None
scan_of (found d n) =
    Some (record {
      reading = record_of d;
      at = data_at d;
      len = length (data_then d.elements []);
      elements = length d.elements;
      params = param_count d.elements;
    })

-- refusals 4, 5 and 6: tables of `e` and `p` entries
abbrev pub fitting : Option Scan → ℕ → ℕ → Result Scan Refusal
fitting None e p = Err NoReading
fitting (Some s) e p =
    if ltb e s.elements then Err TooManyElements
    else if ltb p s.params then Err TooManyParams
    else Ok s

unfoldable pub judged : List ℕ → ℕ → ℕ → Result Scan Refusal
judged line e p = if ltb line_limit (length line) then Err LineTooLong else fitting (scan_of (parse line)) e p

abbrev pub reading_of : Scan → StrictReading
reading_of s = record { reading = s.reading; elements = s.elements; params = s.params }

abbrev pub told : Result Scan Refusal → Result StrictReading Refusal
told (Err f) = Err f
told (Ok s) = Ok (reading_of s)

-- what reading answers to tables of `e` and `p` entries
unfoldable pub answered : List ℕ → ℕ → ℕ → Result StrictReading Refusal
answered line e p = told (judged line e p)
