-- Worked examples: pairs of lines, and each refusal in its order, computed from the definitions.
use Rattle.std.specs.Prelude.{Result, Ok, Err}
use Prim.Native.Nat.{ℕ}
use mathlib.Core.Path.{◌≡◌, refl}
use mathlib.Core.List.{List, [], ◌∷◌, map}
use lib.IntN.{pos}
use Rattle.base.specs.Bytes.{bytes}
use Rattle.base.specs.Runs.{run}
use Rattle.utf8.specs.Lead.{lead_of, well_formed, char_len, utf8_from}
use Rattle.white.specs.White.{is_white, code_point, white_len}
use Rattle.white.specs.Trim.{field_len, white_from, text_end, trimmed}
use Rattle.digits.specs.Digits.{decimal_from, number_at, fixed_at, fraction_at}
use Rattle.calendar.specs.Calendar.{leap, month_days, valid_date, valid_time, valid, year_days, days_before_year, days_of_months, day_number}
use Rattle.calendar.specs.Instant.{local_seconds, seconds_of, span_from, year_of, month_of, clock_of, shown}
use Rattle.pri.specs.Pri.{pri_at}
use Rattle.parsers.specs.Parsers.{plain_at, host_at, tag_len, tag_at}
use Rattle.parsers.specs.Steps.{some_blanks_from, byte_from, number_from, plain_from, host_from, tag_from}
use Rattle.timestamp.specs.Month.{named_from, month_of as month_number, month_from}
use Rattle.timestamp.specs.Clock.{clock_from}
use Rattle.timestamp.specs.Rfc3339.{fixed_from, either_from, date_from, time_from, nanos_from, minutes_from, zone_from, end_from, full_from, rfc3339_from}
use Rattle.timestamp.specs.Timestamp.{day_from, without_year, with_year, rfc3164_from}
use Rattle.structured_data.specs.Param.{quoted_len, param_at}
use Rattle.structured_data.specs.Element.{id_len, more_params, params_from, element_from}
use Rattle.structured_data.specs.Data.{item_from, elements_from, data_from}
use Rattle.rfc3164.specs.Names.{split_at, split_of, host_and_tag}
use Rattle.rfc3164.specs.Rfc3164.{spaced_host, spaced_tag, tag_end, header_from, body_from, rfc3164}
use Rattle.rfc5424.specs.Rfc5424.{blank_host, blank_plain, start_from, four_from, body_from as body_from5424, rfc5424}
use Rattle.record.specs.declared.Refusal.{Refusal}
use Rattle.record.specs.declared.Refusal.TheVariants.{BadSetting, NotUtf8, NoReading, TooManyElements, TooManyParams, LineTooLong}
use Rattle.loose.specs.Loose.{by_variant, outcome_of, answered}
use Rattle.lookup.specs.Unescape.{unescaped_from}
use Rattle.differ.specs.declared.Differences.{Differences}
use Rattle.differ.specs.Differences.{occurs, before, differences_of}
use Rattle.compare.specs.declared.CompareAnswer.{CompareAnswer}
use Rattle.compare.specs.declared.Refused.{Refused}
use Rattle.compare.specs.Compare.{nothing, compared_of, seen_in, table_after}
use Rattle.compare.specs.Numbers.{answer_of}

-- what a comparison answers, in 2023 at +60, with tables of so many entries for each line
abbrev compared : ℕ → ℕ → ℕ → ℕ → ℕ → List ℕ × List ℕ → Result Differences Refused
compared variant e₁ p₁ e₂ p₂ c =
    compared_of (answered c.0 variant 2023 (pos 60) e₁ p₁) (answered c.1 variant 2023 (pos 60) e₂ p₂)
    (differences_of (seen_in c.0 (outcome_of c.0 variant 2023 (pos 60))) (seen_in c.1 (outcome_of c.1 variant 2023 (pos 60))))

abbrev done : ℕ → ℕ → ℕ → ℕ → Result Differences Refused
done fields position line entry = Ok (record { fields = fields; position = position; pair_line = line; pair_entry = entry })

abbrev refused : ℕ → Refusal → Result Differences Refused
refused line f = Err (record { line = line; refusal = f })

abbrev one : List ℕ
one = bytes "<13>1 - h a p m [x a=\"1\"] t"

abbrev no_text : List ℕ
no_text = 0xC3 ∷ 0x28 ∷ []

-- Repeats are counted; escapes are of no account; elements match by position; the order of pairs is of no account; a longer list differs; the second line's pair. Then the
-- version; facility and severity; the timestamp, without its digit count; the texts, an absent one too; the message; and all but the elements.
lines : map (compared 0 2 2 2 2)
    ((bytes "<13>1 - h a p m [x a=\"1\" a=\"1\"] t", one)
    ∷ (bytes "<13>1 - h a p m [x a=\"\\]\"] t", bytes "<13>1 - h a p m [x a=\"]\"] t")
    ∷ (bytes "<13>1 - h a p m [x a=\"1\"][y] t", bytes "<13>1 - h a p m [y][x a=\"1\"] t")
    ∷ (bytes "<13>1 - h a p m [x a=\"1\" b=\"2\"] t", bytes "<13>1 - h a p m [x b=\"2\" a=\"1\"] t")
    ∷ (one, bytes "<13>1 - h a p m [x a=\"1\"][y] t")
    ∷ (bytes "<13>1 - h a p m [x][y a=\"1\"] t", bytes "<13>1 - h a p m [x][y a=\"1\" b=\"2\"] t")
    ∷ (one, bytes "<13>2 - h a p m [x a=\"1\"] t")
    ∷ (one, bytes "<21>1 - h a p m [x a=\"1\"] t")
    ∷ (one, bytes "<14>1 - h a p m [x a=\"1\"] t")
    ∷ (bytes "<13>1 2023-02-05T10:01:02.5Z h a p m - t", bytes "<13>1 2023-02-05T10:01:02.500Z h a p m - t")
    ∷ (bytes "<13>1 2023-02-05T10:01:02.5Z h a p m - t", bytes "<13>1 2023-02-05T11:01:02.5+01:00 h a p m - t")
    ∷ (one, bytes "<13>1 - - a p m [x a=\"1\"] t")
    ∷ (one, bytes "<13>1 - h b p m [x a=\"1\"] t")
    ∷ (one, bytes "<13>1 - h a q m [x a=\"1\"] t")
    ∷ (one, bytes "<13>1 - h a p - [x a=\"1\"] t")
    ∷ (one, bytes "<13>1 - h a p m [x a=\"1\"] u")
    ∷ (bytes "<13>1 - h a p m - t", bytes "<6>Feb  5 10:01:02 g b[q]: u")
    ∷ [])
    ≡ done 256 0 1 0
    ∷ done 0 0 0 0
    ∷ done 256 0 0 0
    ∷ done 0 0 0 0
    ∷ done 256 1 0 0
    ∷ done 256 1 2 1
    ∷ done 1 0 0 0
    ∷ done 2 0 0 0
    ∷ done 4 0 0 0
    ∷ done 0 0 0 0
    ∷ done 8 0 0 0
    ∷ done 16 0 0 0
    ∷ done 32 0 0 0
    ∷ done 64 0 0 0
    ∷ done 128 0 0 0
    ∷ done 512 0 0 0
    ∷ done 767 0 0 0
    ∷ []
unfolding outcome_of by_variant utf8_from trimmed text_end white_from white_len code_point is_white char_len well_formed lead_of run field_len decimal_from number_at fixed_at fraction_at leap month_days valid_date valid_time valid year_days days_before_year days_of_months day_number local_seconds seconds_of span_from year_of month_of clock_of shown pri_at plain_at host_at tag_len tag_at some_blanks_from byte_from number_from plain_from host_from tag_from named_from month_number month_from clock_from fixed_from either_from date_from time_from nanos_from minutes_from zone_from end_from full_from rfc3339_from day_from without_year with_year rfc3164_from quoted_len param_at id_len more_params params_from element_from item_from elements_from data_from split_at split_of host_and_tag spaced_host spaced_tag tag_end header_from body_from rfc3164 blank_host blank_plain start_from four_from body_from5424 rfc5424 unescaped_from occurs before
lines = refl

-- nothing differs, field by field
nothing_told : Ok nothing ≡ done 0 0 0 0
nothing_told = refl

-- The first line's refusal, whatever the second's is; then the second's. A line with no reading is refused with 4.
refusals : (map (compared 0 2 2 2 2) ((no_text, no_text) ∷ (one, no_text) ∷ (bytes "hello", no_text) ∷ (bytes "hello", one) ∷ (one, bytes "hello") ∷ (one, one) ∷ [])
    ≡ refused 1 NotUtf8 ∷ refused 2 NotUtf8 ∷ refused 1 NoReading ∷ refused 1 NoReading ∷ refused 2 NoReading ∷ done 0 0 0 0 ∷ [])
    × (compared 3 2 2 2 2 (one, no_text) ∷ compared 0 0 0 0 0 (one, one) ∷ compared 0 1 0 0 0 (one, one) ∷ compared 0 1 1 0 0 (one, one) ∷ compared 0 1 1 1 0 (one, one) ∷ compared 0 1 1 1 1 (one, one) ∷ []
    ≡ refused 1 BadSetting ∷ refused 1 TooManyElements ∷ refused 1 TooManyParams ∷ refused 2 TooManyElements ∷ refused 2 TooManyParams ∷ done 0 0 0 0 ∷ [])
unfolding outcome_of by_variant utf8_from trimmed text_end white_from white_len code_point is_white char_len well_formed lead_of run field_len decimal_from number_at fixed_at fraction_at leap month_days valid_date valid_time valid year_days days_before_year days_of_months day_number local_seconds seconds_of span_from year_of month_of clock_of shown pri_at plain_at host_at tag_len tag_at some_blanks_from byte_from number_from plain_from host_from tag_from named_from month_number month_from clock_from fixed_from either_from date_from time_from nanos_from minutes_from zone_from end_from full_from rfc3339_from day_from without_year with_year rfc3164_from quoted_len param_at id_len more_params params_from element_from item_from elements_from data_from split_at split_of host_and_tag spaced_host spaced_tag tag_end header_from body_from rfc3164 blank_host blank_plain start_from four_from body_from5424 rfc5424 unescaped_from occurs before
refusals = (refl, refl)

-- ---- in numbers, and the tables

abbrev told : ℕ → ℕ → ℕ → ℕ → ℕ → ℕ → CompareAnswer
told number line fields pair-line position entry = record { number = number; line = line; fields = fields; pair_line = pair-line; position = position; pair_entry = entry }

answers : map answer_of (refused 1 LineTooLong ∷ refused 2 NoReading ∷ done 0 0 0 0 ∷ done 257 3 2 5 ∷ []) ≡ told 1 1 0 0 0 0 ∷ told 4 2 0 0 0 0 ∷ told 0 0 0 0 0 0 ∷ told 0 0 257 2 3 5 ∷ []
answers = refl

tables : map (λ (c : Result Differences Refused). table_after c ((7 ∷ []) ∷ []) ((8 ∷ []) ∷ (9 ∷ []) ∷ [])) (refused 1 NotUtf8 ∷ refused 2 NoReading ∷ done 0 0 0 0 ∷ [])
    ≡ ((8 ∷ []) ∷ (9 ∷ []) ∷ []) ∷ ((8 ∷ []) ∷ (9 ∷ []) ∷ []) ∷ ((7 ∷ []) ∷ (9 ∷ []) ∷ []) ∷ []
tables = refl
