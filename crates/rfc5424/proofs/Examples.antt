-- RULES Rfc5424 as worked examples, computed from the definition.
use Rattle.std.specs.Prelude.{Option, Some, None}
use Prim.Native.Nat.{ℕ}
use mathlib.Core.Path.{◌≡◌, refl}
use mathlib.Core.List.{List, [], ◌∷◌, map}
use lib.IntN.{pos, negsuc}
use Rattle.base.specs.Bytes.{bytes}
use Rattle.base.specs.Runs.{run}
use Rattle.utf8.specs.Lead.{lead_of, well_formed, char_len}
use Rattle.white.specs.White.{is_white, code_point, white_len}
use Rattle.white.specs.Trim.{field_len}
use Rattle.digits.specs.Digits.{decimal_from, number_at, fixed_at, fraction_at}
use Rattle.calendar.specs.Calendar.{leap, month_days, valid_date, valid_time, valid, year_days, days_before_year, days_of_months, day_number}
use Rattle.calendar.specs.Instant.{local_seconds, seconds_of}
use Rattle.record.specs.Places.{absent, place}
use Rattle.record.specs.declared.Place.{Place}
use Rattle.record.specs.declared.Protocol.TheVariants.{Rfc5424}
use Rattle.pri.specs.Pri.{pri_at}
use Rattle.parsers.specs.Parsers.{plain_at, host_at}
use Rattle.parsers.specs.Steps.{some_blanks_from, byte_from, number_from, plain_from, host_from}
use Rattle.timestamp.specs.Rfc3339.{fixed_from, either_from, date_from, time_from, nanos_from, minutes_from, zone_from, end_from, full_from, rfc3339_from}
use Rattle.structured_data.specs.Param.{quoted_len, param_at}
use Rattle.structured_data.specs.Element.{id_len, more_params, params_from, element_from}
use Rattle.structured_data.specs.Data.{item_from, elements_from, data_from}
use Rattle.draft.specs.Outcome.{Outcome}
use Rattle.draft.specs.Outcome.Outcome.{no_reading, is_reading}
use Rattle.rfc5424.specs.Rfc5424.{blank_host, blank_plain, start_from, four_from, body_from, rfc5424}
use Rattle.record.specs.declared.Timestamp.{Timestamp}

-- priority, version, timestamp, host, app, process id and message id; where the structured data stands, its rows and its end; the message
abbrev reading : Option ℕ → Option ℕ → ℕ → Option Timestamp → Place → Place → Place → Place → ℕ → List (List ℕ) → List (List ℕ) → ℕ → ℕ → ℕ → Outcome
reading facility severity version stamp host app procid msgid at elements params next start len =
    is_reading
    (record {
      protocol = Rfc5424 version;
      facility = facility;
      severity = severity;
      timestamp = stamp;
      host = host;
      app = app;
      procid = procid;
      msgid = msgid;
      message = record { start = start; len = len };
    })
    at
    (record { elements = elements; params = params; next = next })

lines : map (λ t. rfc5424 t 0)
    (bytes "<13>1 - h a p m [id a=\"x]y\" b]"
    ∷ bytes "<192>1 - h a p m - x"
    ∷ bytes "007 - h a p m - \t x"
    ∷ bytes "1 - - - - - -"
    ∷ bytes "1 - h a p m [x] y"
    ∷ bytes "1\t-\th \ta p m\t[x a=\"1\" b= \"]\"][y c=\"\"]z"
    ∷ bytes "1 2024-02-29t10:01:02.5-00:30 h a p m - x"
    ∷ bytes "1 2024-02-29T10:01:02Z\th a p m - x"
    ∷ bytes "1 2023-02-29T10:01:02Z h a p m - x"
    ∷ bytes "1 - h: a p m - x"
    ∷ bytes "<13> 1 - h a p m - x"
    ∷ bytes "4294967296 - h a p m - x"
    ∷ bytes "1 - h a p m"
    ∷ bytes "1 - h a p m [x"
    ∷ [])
    ≡ reading (Some 1) (Some 5) 1 None (place 8 1) (place 10 1) (place 12 1) (place 14 1) 16 [] [] 25 25 5
    ∷ reading None (Some 0) 1 None (place 9 1) (place 11 1) (place 13 1) (place 15 1) 17 [] [] 18 19 1
    ∷ reading None None 7 None (place 6 1) (place 8 1) (place 10 1) (place 12 1) 14 [] [] 15 18 1
    ∷ reading None None 1 None absent absent absent absent 12 [] [] 13 13 0
    ∷ reading None None 1 None (place 4 1) (place 6 1) (place 8 1) (place 10 1) 12 ((13 ∷ 1 ∷ []) ∷ []) [] 15 16 1
    ∷ reading None None 1 None (place 4 1) (place 7 1) (place 9 1) (place 11 1) 13
    ((14 ∷ 1 ∷ []) ∷ (30 ∷ 1 ∷ []) ∷ [])
    ((0 ∷ 16 ∷ 1 ∷ 19 ∷ 1 ∷ []) ∷ (0 ∷ 22 ∷ 1 ∷ 26 ∷ 1 ∷ []) ∷ (1 ∷ 32 ∷ 1 ∷ 35 ∷ 0 ∷ []) ∷ [])
    37 37 1
    ∷ reading None None 1 (Some (record { seconds = pos 1709202662; nanos = 500000000; digits = 1; offset = negsuc 29 })) (place 30 1) (place 32 1) (place 34 1) (place 36 1) 38 [] [] 39 40 1
    ∷ no_reading
    ∷ no_reading
    ∷ no_reading
    ∷ no_reading
    ∷ no_reading
    ∷ no_reading
    ∷ no_reading
    ∷ []
unfolding run lead_of well_formed char_len is_white code_point white_len field_len decimal_from number_at fixed_at fraction_at leap month_days valid_date valid_time valid year_days days_before_year days_of_months day_number local_seconds seconds_of pri_at plain_at host_at some_blanks_from byte_from number_from plain_from host_from fixed_from either_from date_from time_from nanos_from minutes_from zone_from end_from full_from rfc3339_from quoted_len param_at id_len more_params params_from element_from item_from elements_from data_from blank_host blank_plain start_from four_from body_from rfc5424
lines = refl
