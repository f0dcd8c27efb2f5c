-- Worked examples, computed from the definitions: timestamps that are read and printed again.
use Rattle.std.specs.Prelude as std
use Rattle.std.specs.Prelude.{Some, None}
use Prim.Native.Nat.{ℕ}
use mathlib.Core.Path.{◌≡◌, refl}
use mathlib.Core.List.{List, [], ◌∷◌, map}
use mathlib.Core.Option.{Option, none, some}
use lib.IntN.{pos}
use Rattle.base.specs.Bytes.{bytes}
use Rattle.base.specs.Runs.{run}
use Rattle.digits.specs.Digits.{decimal_from, number_at, fixed_at, fraction_at}
use Rattle.calendar.specs.Calendar.{leap, month_days, valid_date, valid_time, valid, year_days, days_before_year, days_of_months, day_number}
use Rattle.calendar.specs.Instant.{local_seconds, seconds_of, span_from, year_of, month_of, clock_of, shown}
use Rattle.parsers.specs.Steps.{some_blanks_from, byte_from, number_from}
use Rattle.timestamp.specs.Month.{named_from, month_of as numbered, month_from}
use Rattle.timestamp.specs.Clock.{clock_from}
use Rattle.timestamp.specs.Rfc3339.{fixed_from, either_from, date_from, time_from, nanos_from, minutes_from, zone_from, end_from, full_from, rfc3339_from}
use Rattle.timestamp.specs.Timestamp.{day_from, without_year, with_year, rfc3164_from}
use Rattle.grammar.specs.Line.{Offset, Timestamp}
use Rattle.grammar.specs.Reading.{stamp_of}
use Rattle.output.specs.Numerals.{fixed}
use Rattle.message_stamp.specs.Stamps.{date_text, time_text, clock_text, fraction_text, offset_text, stamp_text}
use Rattle.record.specs.declared.Timestamp as stamped

abbrev printed : std.Option (std.Option stamped.Timestamp × ℕ) → List ℕ
printed None = []
printed (Some x) = stamp_text x.0

-- the digits as they stand: zeros at the end and zeros alone, none, nine, one; RFC 3164's own clock has none
loose : map (λ t. printed (rfc3164_from 2023 (pos 0) (bytes t) 0))
    ("2023-02-05T10:01:02.500000Z x" ∷ "2023-02-05T10:01:02.000Z x" ∷ "2023-02-05T10:01:02Z x" ∷ "2023-02-05T10:01:02.123456789Z x" ∷ "2023-02-05T10:01:02.5Z x" ∷ "Feb  5 10:01:02 x" ∷ "Feb 5 2023 10:01:02 x" ∷ [])
    ≡ map bytes
    ("2023-02-05T10:01:02.500000+00:00" ∷ "2023-02-05T10:01:02.000+00:00" ∷ "2023-02-05T10:01:02+00:00" ∷ "2023-02-05T10:01:02.123456789+00:00" ∷ "2023-02-05T10:01:02.5+00:00" ∷ "2023-02-05T10:01:02+00:00" ∷ "2023-02-05T10:01:02+00:00" ∷ [])
unfolding rfc3164_from with_year without_year day_from month_from numbered named_from clock_from some_blanks_from byte_from number_from number_at decimal_from run rfc3339_from full_from date_from time_from end_from nanos_from zone_from minutes_from fixed_from either_from fixed_at fraction_at valid valid_date valid_time leap month_days seconds_of local_seconds day_number days_before_year year_days days_of_months span_from year_of month_of clock_of shown fixed date_text time_text clock_text fraction_text offset_text
loose = refl

-- a strict timestamp with the fraction
abbrev morning : Option (List ℕ) → Option Timestamp
morning f =
    some (record {
      year = bytes "2023";
      month = bytes "02";
      day = bytes "05";
      hour = bytes "10";
      minute = bytes "01";
      second = bytes "02";
      secfrac = f;
      offset = Offset.utc;
    })

strict : map (λ f. stamp_text (stamp_of (morning f))) (some (bytes "500000") ∷ some (bytes "000") ∷ none ∷ [])
    ≡ map bytes ("2023-02-05T10:01:02.500000+00:00" ∷ "2023-02-05T10:01:02.000+00:00" ∷ "2023-02-05T10:01:02+00:00" ∷ [])
unfolding decimal_from seconds_of local_seconds day_number days_before_year year_days days_of_months leap month_days span_from year_of month_of clock_of shown fixed date_text time_text clock_text fraction_text offset_text
strict = refl
