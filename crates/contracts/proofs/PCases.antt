-- The table of specs/PCases.antt holds: each row is computed from the definitions, and what the parser finds of a strict line is its division.
use Rattle.std.specs.Prelude.{Option, Some, None}
use Prim.Native.Nat.{ℕ}
use mathlib.Core.Path.{◌≡◌, refl}
use mathlib.Core.Bool.{true, false}
use mathlib.Core.List.{List}
use Rattle.base.specs.Runs.{run}
use Rattle.base.proofs.Tests.{clash}
use Rattle.utf8.specs.Lead.{lead_of, well_formed, char_len, utf8_from}
use Rattle.white.specs.White.{is_white, code_point, white_len}
use Rattle.white.specs.Trim.{field_len, white_from, text_end, trimmed}
use Rattle.digits.specs.Digits.{decimal_from, number_at, fixed_at, fraction_at}
use Rattle.calendar.specs.Calendar.{leap, month_days, valid_date, valid_time, valid, year_days, days_before_year, days_of_months, day_number}
use Rattle.calendar.specs.Instant.{local_seconds, seconds_of, span_from, year_of, month_of, clock_of, shown}
use Rattle.pri.specs.Pri.{pri_at}
use Rattle.parsers.specs.Parsers.{plain_at, host_at, tag_len, tag_at}
use Rattle.parsers.specs.Steps.{some_blanks_from, byte_from, number_from, plain_from, host_from, tag_from}
use Rattle.timestamp.specs.Month.{named_from, month_of as month_number, month_from}
use Rattle.timestamp.specs.Clock.{clock_from}
use Rattle.timestamp.specs.Rfc3339.{fixed_from, either_from, date_from, time_from, nanos_from, minutes_from, zone_from, end_from, full_from, rfc3339_from}
use Rattle.timestamp.specs.Timestamp.{day_from, without_year, with_year, rfc3164_from}
use Rattle.structured_data.specs.Param.{quoted_len, param_at}
use Rattle.structured_data.specs.Element.{id_len, more_params, params_from, element_from}
use Rattle.structured_data.specs.Data.{item_from, elements_from, data_from}
use Rattle.rfc3164.specs.Names.{split_at, split_of, host_and_tag}
use Rattle.rfc3164.specs.Rfc3164.{spaced_host, spaced_tag, tag_end, header_from, body_from, rfc3164}
use Rattle.rfc5424.specs.Rfc5424.{blank_host, blank_plain, start_from, four_from, body_from as body_from5424, rfc5424}
use Rattle.loose.specs.Loose.{by_variant, outcome_of}
use Rattle.output.specs.Numerals.{fixed as fixed_text, width_from}
use Rattle.message_stamp.specs.Stamps.{date_text, time_text, clock_text, fraction_text, offset_text}
use Rattle.message.specs.Message.{pri_text, field_text, param_text, params_text, other_params, open_text, elements_text, head_text, printed}
use Rattle.grammar.specs.Line.{Division}
use Rattle.grammar.specs.Parse.{Parsed, choose, closed, only, many_from, ◌next◌, into, repeat, fixed, stop, until_quote, all_left, at_end, pri, version, pri_version, date, clock, secfrac, zone, offset, full, timestamp, names, value, param, element, listed, structured, message, header, parse}
use Rattle.grammar.specs.Parse.Parsed.{failed, found}
use Rattle.grammar.proofs.Lines.{parse_sound, none_derived}
use Rattle.contracts.specs.PCases.{Strict, strict_of, Divides, table, PCases}

-- what the parser finds is the line's division

found_as : Parsed Division → Option Strict
found_as failed = None
found_as (found d n) = Some (strict_of d)

divided : (line : List ℕ) (p : Parsed Division) (t : Strict) → parse line ≡ p → found_as p ≡ Some t → Divides line t
unfolding found_as
divided line failed t e h = let z : true ≡ false = cc in clash z
divided line (found d n) t e h = record { division = d; derived = parse_sound line d n e; texts_are = cc }

infixr 4 ◌and◌
abbrev ◌and◌ : {A B : Type 0} → A → B → A × B
◌and◌ a b = (a, b)

pub p_cases : PCases
unfolding table found_as
    run
    utf8_from char_len well_formed lead_of
    white_len code_point is_white trimmed text_end white_from field_len
    decimal_from number_at fixed_at fraction_at
    leap month_days valid_date valid_time valid year_days days_before_year days_of_months day_number local_seconds seconds_of span_from year_of month_of clock_of shown
    pri_at
    plain_at host_at tag_len tag_at some_blanks_from byte_from number_from plain_from host_from tag_from
    named_from month_number month_from clock_from fixed_from either_from date_from time_from nanos_from minutes_from zone_from end_from full_from rfc3339_from day_from without_year with_year rfc3164_from
    quoted_len param_at id_len more_params params_from element_from item_from elements_from data_from
    split_at split_of host_and_tag spaced_host spaced_tag tag_end header_from body_from rfc3164
    blank_host blank_plain start_from four_from body_from5424 rfc5424
    outcome_of by_variant
    fixed_text width_from
    date_text time_text clock_text fraction_text offset_text
    pri_text field_text param_text params_text other_params open_text elements_text head_text printed
    choose closed only many_from ◌next◌ into repeat fixed stop until_quote all_left at_end pri version pri_version date clock secfrac zone offset full timestamp names value param element listed structured message header parse
p_cases =
    (refl and refl and refl and refl and refl and refl and tt)
    and (refl and refl and tt)
    and (refl and tt)
    and (refl and refl and tt)
    and (refl and tt)
    and (refl and tt)
    and (none_derived _ refl and refl and tt)
    and (divided _ _ _ refl refl and refl and tt)
    and (none_derived _ refl and divided _ _ _ refl refl and refl and refl and tt)
    and tt
