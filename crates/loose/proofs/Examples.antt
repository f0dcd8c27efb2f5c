-- The lines of RULES Cases for the loose reader, and each refusal in its order, computed from the definitions.
use Rattle.std.specs.Prelude.{Option, Some, None, Result, Ok, Err}
use Prim.Native.Nat.{ℕ}
use mathlib.Core.Path.{◌≡◌, refl}
use mathlib.Core.List.{List, [], ◌∷◌, map}
use lib.ListN.{replicate}
use lib.IntN.{ℤ, pos, negsuc}
use Rattle.base.specs.Bytes.{bytes}
use Rattle.base.specs.Runs.{run}
use Rattle.utf8.specs.Lead.{lead_of, well_formed, char_len, utf8_from}
use Rattle.white.specs.White.{is_white, code_point, white_len}
use Rattle.white.specs.Trim.{field_len, white_from, text_end, trimmed}
use Rattle.digits.specs.Digits.{decimal_from, number_at, fixed_at, fraction_at}
use Rattle.calendar.specs.Calendar.{leap, month_days, valid_date, valid_time, valid, year_days, days_before_year, days_of_months, day_number}
use Rattle.calendar.specs.Instant.{local_seconds, seconds_of, span_from, year_of, month_of, clock_of, shown}
use Rattle.record.specs.Places.{absent, place}
use Rattle.record.specs.Records.{message_alone}
use Rattle.record.specs.declared.Protocol.TheVariants.{Rfc3164, Rfc5424}
use Rattle.pri.specs.Pri.{pri_at}
use Rattle.parsers.specs.Parsers.{plain_at, host_at, tag_len, tag_at}
use Rattle.parsers.specs.Steps.{some_blanks_from, byte_from, number_from, plain_from, host_from, tag_from}
use Rattle.timestamp.specs.Month.{named_from, month_of as month_number, month_from}
use Rattle.timestamp.specs.Clock.{clock_from}
use Rattle.timestamp.specs.Rfc3339.{fixed_from, either_from, date_from, time_from, nanos_from, minutes_from, zone_from, end_from, full_from, rfc3339_from}
use Rattle.timestamp.specs.Timestamp.{day_from, without_year, with_year, rfc3164_from}
use Rattle.structured_data.specs.Param.{quoted_len, param_at}
use Rattle.structured_data.specs.Element.{id_len, more_params, params_from, element_from}
use Rattle.structured_data.specs.Data.{item_from, elements_from, data_from}
use Rattle.draft.specs.Outcome.{Outcome}
use Rattle.draft.specs.Outcome.Outcome.{no_reading, is_reading}
use Rattle.rfc3164.specs.Names.{split_at, split_of, host_and_tag}
use Rattle.rfc3164.specs.Rfc3164.{spaced_host, spaced_tag, tag_end, header_from, body_from, rfc3164}
use Rattle.rfc5424.specs.Rfc5424.{blank_host, blank_plain, start_from, four_from, body_from as body_from5424, rfc5424}
use Rattle.record.specs.declared.Place.{Place}
use Rattle.record.specs.declared.Protocol.{Protocol}
use Rattle.record.specs.declared.Reading.{Reading}
use Rattle.record.specs.declared.Reading.TheVariants.{Whole}
use Rattle.record.specs.declared.Refusal.TheVariants.{LineTooLong, BadSetting, NotUtf8, TooManyElements, TooManyParams}
use Rattle.loose.specs.Loose.{by_variant, outcome_of, answered}
use Rattle.record.specs.declared.Timestamp.{Timestamp}
use Rattle.record.specs.declared.Refusal.{Refusal}

-- what is read, where the structured data stands and ends, and its rows
abbrev reading : Protocol → Option ℕ → Option ℕ → Option Timestamp → Place → Place → Place → Place → ℕ → ℕ → ℕ → List (List ℕ) → List (List ℕ) → ℕ → Outcome
reading protocol facility severity stamp host app procid msgid start len at elements params next =
    is_reading
    (record {
      protocol = protocol;
      facility = facility;
      severity = severity;
      timestamp = stamp;
      host = host;
      app = app;
      procid = procid;
      msgid = msgid;
      message = record { start = start; len = len };
    })
    at
    (record { elements = elements; params = params; next = next })

-- at +60
abbrev stamped : ℕ → Option Timestamp
stamped seconds = Some (record { seconds = pos seconds; nanos = 0; digits = 0; offset = pos 60 })

-- a line by a variant, in 2023 at +60
abbrev read : ℕ × List ℕ → Outcome
read c = outcome_of c.1 c.0 2023 (pos 60)

-- the answer with tables of `e` and `p` entries
abbrev answer : ℕ → ℕ → ℤ → ℕ → ℕ → List ℕ → Result Reading Refusal
answer variant year offset e p line = answered line variant year offset e p

abbrev two : List ℕ
two = bytes "<13>1 - h a p m [x a=\"1\"][y]"

cases : (map read
    ((0, bytes "<13>Feb  5 10:01:02 gate7 reader[42]: tap ok")
    ∷ (0, bytes "\t <13>Feb  5 10:01:02 gate7 reader[42]: tap ok \n")
    ∷ (1, bytes "<191>Feb 5 10:01:02 h t: [x]")
    ∷ (1, bytes "<192>Feb 5 10:01:02 h t: -5 ms")
    ∷ (1, bytes "<256>Feb 5 10:01:02 h t: m")
    ∷ (1, bytes "Feb 5 10:01:02 gate7 - m")
    ∷ (1, bytes "Feb 5 2023 10:01:02 h t: m")
    ∷ (2, bytes "<13>1 - h a p m [id a=\"x]y\" b]")
    ∷ (2, bytes "<13>1 - h a p m [id a=\"x]y\"]")
    ∷ (2, bytes "<13>1 - h: a p m - m")
    ∷ (2, bytes "<13>1 2024-02-29T10:01:02+01:00 h a p m - m")
    ∷ (2, bytes "<13>1 2023-02-29T10:01:02+01:00 h a p m - m")
    ∷ (1, bytes "<13>1 - h a p m - m")
    ∷ (0, bytes "<13>1 - h a p m - m")
    ∷ (2, bytes "<13>Feb 5 10:01:02 h t: m")
    ∷ (0, bytes "")
    ∷ [])
    ≡ reading Rfc3164 (Some 1) (Some 5) (stamped 1675587662) (place 20 5) (place 26 6) (place 33 2) absent 38 6 38 [] [] 38
    ∷ reading Rfc3164 (Some 1) (Some 5) (stamped 1675587662) (place 22 5) (place 28 6) (place 35 2) absent 40 6 40 [] [] 40
    ∷ reading Rfc3164 (Some 23) (Some 7) (stamped 1675587662) (place 20 1) (place 22 1) absent absent 25 3 25 [] [] 25
    ∷ reading Rfc3164 None (Some 0) (stamped 1675587662) (place 20 1) (place 22 1) absent absent 25 5 25 [] [] 25
    ∷ no_reading
    ∷ reading Rfc3164 None None (stamped 1675587662) absent absent absent absent 23 1 23 [] [] 23
    ∷ reading Rfc3164 None None (stamped 1675591262) (place 20 1) (place 22 1) absent absent 25 1 25 [] [] 25
    ∷ reading (Rfc5424 1) (Some 1) (Some 5) None (place 8 1) (place 10 1) (place 12 1) (place 14 1) 25 5 16 [] [] 25
    ∷ reading (Rfc5424 1) (Some 1) (Some 5) None (place 8 1) (place 10 1) (place 12 1) (place 14 1) 28 0 16 ((17 ∷ 2 ∷ []) ∷ []) ((0 ∷ 20 ∷ 1 ∷ 23 ∷ 3 ∷ []) ∷ []) 28
    ∷ no_reading
    ∷ reading (Rfc5424 1) (Some 1) (Some 5) (stamped 1709197262) (place 32 1) (place 34 1) (place 36 1) (place 38 1) 42 1 40 [] [] 41
    ∷ no_reading
    ∷ no_reading
    ∷ reading (Rfc5424 1) (Some 1) (Some 5) None (place 8 1) (place 10 1) (place 12 1) (place 14 1) 18 1 16 [] [] 17
    ∷ no_reading
    ∷ no_reading
    ∷ [])
    × (map (answer 0 2023 (pos 60) 0 0) (bytes "" ∷ (0xC3 ∷ 0x28 ∷ []) ∷ bytes " hello " ∷ two ∷ [])
    ≡ Ok (Whole (message_alone 0)) ∷ Err NotUtf8 ∷ Ok (Whole (message_alone 7)) ∷ Err TooManyElements ∷ [])
    × (answer 3 2023 (pos 60) 2 1 two ∷ answer 2 10000 (pos 60) 2 1 two ∷ answer 2 2023 (pos 1440) 2 1 two ∷ answer 2 2023 (negsuc 1439) 2 1 two
    ∷ answer 2 9999 (negsuc 1438) 1 0 two ∷ answer 2 0 (pos 1439) 2 0 two ∷ answer 3 2023 (pos 60) 2 1 (0xFF ∷ []) ∷ []
    ≡ Err BadSetting ∷ Err BadSetting ∷ Err BadSetting ∷ Err BadSetting
    ∷ Err TooManyElements ∷ Err TooManyParams ∷ Err BadSetting ∷ [])
    × (map (λ n. answer 3 2023 (pos 60) 0 0 (replicate n 97)) (8192 ∷ 8193 ∷ []) ≡ Err BadSetting ∷ Err LineTooLong ∷ [])
unfolding outcome_of by_variant utf8_from trimmed text_end white_from white_len code_point is_white char_len well_formed lead_of run field_len decimal_from number_at fixed_at fraction_at leap month_days valid_date valid_time valid year_days days_before_year days_of_months day_number local_seconds seconds_of span_from year_of month_of clock_of shown pri_at plain_at host_at tag_len tag_at some_blanks_from byte_from number_from plain_from host_from tag_from named_from month_number month_from clock_from fixed_from either_from date_from time_from nanos_from minutes_from zone_from end_from full_from rfc3339_from day_from without_year with_year rfc3164_from quoted_len param_at id_len more_params params_from element_from item_from elements_from data_from split_at split_of host_and_tag spaced_host spaced_tag tag_end header_from body_from rfc3164 blank_host blank_plain start_from four_from body_from5424 rfc5424
cases = (refl, refl, refl, refl)

-- a line that is the message, written out
whole_line : message_alone 7 ≡ record {
  protocol = Rfc3164;
  facility = None;
  severity = None;
  timestamp = None;
  host = absent;
  app = absent;
  procid = absent;
  msgid = absent;
  message = record { start = 0; len = 7 };
}
whole_line = refl
