-- For private contracts alone: what the code keeps of a header that the parser of `grammar` finds: numbers and places of the line.
use Rattle.std.specs.Prelude.{ℕ, ◌+◌, [], length, Some, None}
use Rattle.std.specs.Prelude as std
use Rattle.std.proofs.Math.Option.{Option, none, some}
use Rattle.digits.specs.Digits.{decimal}
use Rattle.record.specs.Places.{absent, place}
use Rattle.record.specs.declared.Place.{Place}
use Rattle.grammar.specs.Line.{Timestamp, timestamp_then}
use Rattle.grammar.specs.Parse.{Parsed, Header}
use Rattle.grammar.specs.Parse.Parsed.{failed, found}
use Rattle.grammar.specs.Reading.{place_of, stamp_of}
use Rattle.strict_header.specs.declared.HeaderAt.{HeaderAt}

-- the place of the timestamp's text, which starts at `at`
abbrev pub text_place : ℕ → Option Timestamp → Place
text_place at none = absent
text_place at (some t) = place at (length (timestamp_then (some t) []))

unfoldable pub header_at : Header → ℕ → HeaderAt
header_at h next =
    let at = length h.0.0 + length h.0.1 + 3 in
    let host = at + length (timestamp_then h.1.0 []) + 1 in
    let app = host + length h.1.1.0 + 1 in
    let procid = app + length h.1.1.1.0 + 1 in
    let msgid = procid + length h.1.1.1.1.0 + 1 in
    record {
      prival = decimal h.0.0;
      version = decimal h.0.1;
      timestamp = stamp_of h.1.0;
      timestamp_text = text_place at h.1.0;
      host = place_of host h.1.1.0;
      app = place_of app h.1.1.1.0;
      procid = place_of procid h.1.1.1.1.0;
      msgid = place_of msgid h.1.1.1.1.1;
      next = next;
    }

abbrev pub heading : Parsed Header → std.Option HeaderAt
heading failed = None
heading (found h n) = Some (header_at h n)
