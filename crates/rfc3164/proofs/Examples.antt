-- The lines of RULES Cases, and what runs showed of the Rust, computed from the definitions.
use Rattle.std.specs.Prelude.{Option, Some, None}
use Prim.Native.Nat.{ℕ}
use mathlib.Core.Path.{◌≡◌, refl}
use mathlib.Core.List.{[], ◌∷◌, map}
use Prim.Native.String.{String}
use lib.IntN.{pos}
use Rattle.base.specs.Bytes.{bytes}
use Rattle.base.specs.Runs.{run}
use Rattle.utf8.specs.Lead.{lead_of, well_formed, char_len}
use Rattle.white.specs.White.{is_white, code_point, white_len}
use Rattle.white.specs.Trim.{field_len}
use Rattle.digits.specs.Digits.{decimal_from, number_at, fixed_at}
use Rattle.calendar.specs.Calendar.{leap, month_days, valid_date, valid_time, valid, year_days, days_before_year, days_of_months, day_number}
use Rattle.calendar.specs.Instant.{local_seconds, seconds_of}
use Rattle.record.specs.Places.{absent, place}
use Rattle.record.specs.declared.Place.{Place}
use Rattle.record.specs.declared.Protocol.TheVariants.{Rfc3164}
use Rattle.pri.specs.Pri.{pri_at}
use Rattle.parsers.specs.Parsers.{host_at, tag_len, tag_at}
use Rattle.parsers.specs.Steps.{some_blanks_from, byte_from, number_from, host_from, tag_from}
use Rattle.timestamp.specs.Month.{named_from, month_of, month_from}
use Rattle.timestamp.specs.Clock.{clock_from}
use Rattle.timestamp.specs.Rfc3339.{fixed_from, date_from, full_from, rfc3339_from}
use Rattle.timestamp.specs.Timestamp.{day_from, without_year, with_year, rfc3164_from}
use Rattle.structured_data.specs.Param.{quoted_len, param_at}
use Rattle.structured_data.specs.Element.{id_len, more_params, params_from, element_from}
use Rattle.structured_data.specs.Data.{Rows, end_at, item_from, elements_from, data_from}
use Rattle.draft.specs.Outcome.{Outcome}
use Rattle.draft.specs.Outcome.Outcome.{no_reading, is_reading}
use Rattle.rfc3164.specs.Names.{split_at, split_of, host_and_tag}
use Rattle.rfc3164.specs.Rfc3164.{spaced_host, spaced_tag, tag_end, header_from, body_from, rfc3164}
use Rattle.record.specs.declared.Timestamp.{Timestamp}

splits : map split_at (bytes "a[1]" ∷ bytes "[1]" ∷ bytes "a[[1]" ∷ bytes "a" ∷ bytes "a[]" ∷ bytes "a[1" ∷ bytes "a[1]b" ∷ bytes "a[1]b]" ∷ bytes "a:b[1]" ∷ [])
    ≡ Some (1, 1) ∷ Some (0, 1) ∷ Some (1, 2) ∷ None ∷ None ∷ None ∷ None ∷ None ∷ None ∷ []
unfolding split_at run
splits = refl

-- a reading by the places of host, app and process id, the message's start and length, the position of the structured data, and its rows
abbrev read : Option ℕ → Option ℕ → Option Timestamp → Place → Place → Place → ℕ → ℕ → ℕ → Rows → Outcome
read facility severity stamp host app procid start len at rows =
    is_reading
    (record {
      protocol = Rfc3164;
      facility = facility;
      severity = severity;
      timestamp = stamp;
      host = host;
      app = app;
      procid = procid;
      msgid = absent;
      message = record { start = start; len = len };
    })
    at
    rows

abbrev bare : Place → Place → Place → ℕ → ℕ → ℕ → Rows → Outcome
bare = read None None None

-- 10:01:02 on 5 February 2023 at +60
abbrev morning : Option Timestamp
morning = Some (record { seconds = pos 1675587662; nanos = 0; digits = 0; offset = pos 60 })

abbrev reading : ℕ → String → Outcome
reading start line = rfc3164 2023 (pos 60) (bytes line) start

lines : (reading 0 "<13>Feb  5 10:01:02 gate7 reader[42]: tap ok" ≡ read (Some 1) (Some 5) morning (place 20 5) (place 26 6) (place 33 2) 38 6 38 (end_at 38))
    -- no fraction and no zone: the message is `Z h t: m`
    × (reading 0 "Feb 5 10:01:02Z h t: m" ≡ read None None morning absent absent absent 14 8 14 (end_at 14))
    -- the places are those of the line, wherever the text starts
    × (reading 2 "  - h t: m" ≡ bare (place 4 1) (place 6 1) absent 9 1 9 (end_at 9))
    -- structured data, and what is none: `[x]` stays in the message, so does a hyphen, and a tag takes `[a`
    × (reading 0 "- h t: [a b=\"c\"] m"
    ≡ bare (place 2 1) (place 4 1) absent 17 1 7 (record { elements = (8 ∷ 1 ∷ []) ∷ []; params = (0 ∷ 10 ∷ 1 ∷ 13 ∷ 1 ∷ []) ∷ []; next = 16 }))
    × (reading 0 "- h t: [x]" ≡ bare (place 2 1) (place 4 1) absent 7 3 7 (end_at 7))
    × (reading 0 "- h t: -5 ms" ≡ bare (place 2 1) (place 4 1) absent 7 5 7 (end_at 7))
    × (reading 0 "- h t: - ok" ≡ bare (place 2 1) (place 4 1) absent 7 4 7 (end_at 7))
    × (reading 0 "- h t:-" ≡ bare (place 2 1) (place 4 1) absent 6 1 6 (end_at 6))
    × (reading 0 "- h t: -[a b=\"c\"] x" ≡ bare (place 2 1) (place 4 1) absent 7 12 7 (end_at 7))
    × (reading 0 "- : --" ≡ bare absent absent absent 4 2 4 (end_at 4))
    × (reading 0 "- h [a b=\"c\"] m" ≡ bare (place 2 1) (place 4 2) absent 7 8 7 (end_at 7))
    -- an empty app is present
    × (reading 0 "- h [1]: m" ≡ bare (place 2 1) (place 4 0) (place 5 1) 9 1 9 (end_at 9))
    × (reading 0 "- [1]: m" ≡ bare absent (place 2 0) (place 3 1) 7 1 7 (end_at 7))
    -- a lone field that does not split is the host; `-` for a tag, or alone, makes all three absent
    × (reading 0 "- h" ≡ bare (place 2 1) absent absent 3 0 3 (end_at 3))
    × (reading 0 "- - t: m" ≡ bare absent (place 4 1) absent 7 1 7 (end_at 7))
    × (reading 0 "- gate7 - m" ≡ bare absent absent absent 10 1 10 (end_at 10))
    × (reading 0 "- -" ≡ bare absent absent absent 3 0 3 (end_at 3))
    -- a line that begins with `-` always has a reading
    × (reading 0 "-" ≡ bare absent absent absent 1 0 1 (end_at 1))
    × (reading 0 "-x" ≡ bare absent absent absent 1 1 1 (end_at 1))
    × (reading 0 "---" ≡ bare absent absent absent 1 2 1 (end_at 1))
    × (reading 0 "<13>x" ≡ no_reading)
unfolding rfc3164 pri_at number_at decimal_from run rfc3164_from without_year with_year day_from month_from month_of named_from some_blanks_from number_from clock_from byte_from valid valid_date valid_time month_days leap seconds_of local_seconds day_number days_before_year year_days days_of_months rfc3339_from full_from date_from fixed_from fixed_at body_from header_from spaced_host host_from host_at spaced_tag tag_from tag_at tag_len tag_end field_len white_len is_white code_point char_len well_formed lead_of host_and_tag split_of split_at data_from elements_from item_from element_from id_len params_from more_params param_at quoted_len
lines = (refl, refl, refl, refl, refl, refl, refl, refl, refl, refl, refl, refl, refl, refl, refl, refl, refl, refl, refl, refl, refl)
