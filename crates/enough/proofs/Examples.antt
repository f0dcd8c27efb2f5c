-- The sizes as numbers, and lines that need all of them, computed from the definitions.
use Prim.Native.Nat.{ℕ}
use mathlib.Core.Path.{◌≡◌, refl}
use mathlib.Core.List.{List, [], ◌∷◌, map}
use lib.IntN.{pos}
use lib.ListN.{length}
use Rattle.base.specs.Bytes.{bytes}
use Rattle.base.specs.Runs.{run}
use Rattle.utf8.specs.Lead.{lead_of, well_formed, char_len}
use Rattle.white.specs.White.{is_white, code_point, white_len}
use Rattle.white.specs.Trim.{field_len, white_from, text_end, trimmed}
use Rattle.digits.specs.Digits.{decimal_from, number_at}
use Rattle.calendar.specs.Calendar.{leap, month_days, valid_date, valid_time, valid, year_days, days_before_year, days_of_months, day_number}
use Rattle.calendar.specs.Instant.{local_seconds, seconds_of, span_from, year_of, month_of, clock_of, shown}
use Rattle.output.specs.Numerals.{fixed, width_from}
use Rattle.pri.specs.Pri.{pri_at}
use Rattle.parsers.specs.Parsers.{host_at}
use Rattle.parsers.specs.Steps.{some_blanks_from, byte_from, number_from, host_from}
use Rattle.timestamp.specs.Month.{named_from, month_of as month_number, month_from}
use Rattle.timestamp.specs.Clock.{clock_from}
use Rattle.timestamp.specs.Timestamp.{day_from, without_year, rfc3164_from}
use Rattle.structured_data.specs.Param.{quoted_len, param_at}
use Rattle.structured_data.specs.Element.{id_len, more_params, params_from, element_from}
use Rattle.structured_data.specs.Data.{item_from, elements_from, data_from, rows_or}
use Rattle.structured_data.specs.declared.Rules.TheVariants.{Rfc5424Rules}
use Rattle.draft.specs.Outcome.{Outcome}
use Rattle.draft.specs.Outcome.Outcome.{no_reading, is_reading}
use Rattle.rfc3164.specs.Rfc3164.{spaced_host, tag_end, header_from, body_from, rfc3164}
use Rattle.loose.specs.Loose.{by_variant, outcome_of}
use Rattle.lookup.specs.Lookup.{Found, found}
use Rattle.message_stamp.specs.Stamps.{date_text, time_text, clock_text, fraction_text, offset_text}
use Rattle.message.specs.Message.{pri_text, field_text, param_text, params_text, other_params, open_text, elements_text, head_text, printed}
use Rattle.enough.specs.Enough.{elements_for, params_for, print_for, elements_enough, params_enough, print_enough, value_enough}

numbers : (elements_enough ≡ 2730) × (params_enough ≡ 1638) × (print_enough ≡ 9385) × (value_enough ≡ 8192)
numbers = (refl, refl, refl, refl)

-- shorter lines: the last of the elements, of the parameters and of the bytes fits one byte earlier, or not
steps : (map elements_for (5 ∷ 6 ∷ []) ≡ 1 ∷ 2 ∷ []) × (map params_for (9 ∷ 10 ∷ []) ≡ 1 ∷ 2 ∷ []) × (map print_for (17 ∷ 18 ∷ 24 ∷ 25 ∷ []) ≡ 42 ∷ 44 ∷ 50 ∷ 52 ∷ [])
steps = (refl, refl, refl)

-- structured data of which every third byte is an element, and every fifth a parameter
abbrev elements_in : List ℕ → ℕ
elements_in s = length (rows_or 0 (data_from Rfc5424Rules s 0)).elements

abbrev params_in : List ℕ → ℕ
params_in s = length (rows_or 0 (data_from Rfc5424Rules s 0)).params

abbrev two : List ℕ
two = bytes "[a][b]"

abbrev named : List ℕ
named = bytes "[x\n=\"\" a=\"\"]"

rows : (elements_in two ≡ elements_for (length two)) × (elements_in two ≡ 2) × (params_in named ≡ params_for (length named)) × (params_in named ≡ 2)
unfolding data_from elements_from item_from element_from id_len white_len is_white code_point char_len well_formed lead_of run params_from more_params param_at quoted_len
rows = (refl, refl, refl, refl)

-- what is printed of a line read as RFC 3164, in 2023 and UTC
abbrev text_of : List ℕ → Outcome → List ℕ
text_of line no_reading = []
text_of line (is_reading r at rows) = printed line r rows.elements rows.params

abbrev text : List ℕ → List ℕ
text line = text_of line (outcome_of line 1 2023 (pos 0))

abbrev grown : List ℕ
grown = bytes "Feb 5 1:2:3[x\n=\"\"]"

abbrev longer : List ℕ
longer = bytes "Feb 5 1:2:3[x\n=\"\"][y\n=\"\"]"

-- they fill all that is enough for them
prints : (text grown ≡ bytes "<47> 2023-02-05T01:02:03+00:00 - : [x \n=\"\"] ") × (length (text grown) ≡ print_for (length grown)) × (length (text longer) ≡ print_for (length longer))
unfolding outcome_of by_variant trimmed text_end white_from white_len code_point is_white char_len well_formed lead_of run field_len decimal_from number_at leap month_days valid_date valid_time valid year_days days_before_year days_of_months day_number local_seconds seconds_of span_from year_of month_of clock_of shown pri_at host_at some_blanks_from byte_from number_from host_from named_from month_number month_from clock_from day_from without_year rfc3164_from quoted_len param_at id_len more_params params_from element_from item_from elements_from data_from spaced_host tag_end header_from body_from rfc3164 printed head_text pri_text field_text open_text param_text params_text other_params elements_text fixed width_from date_text time_text clock_text fraction_text offset_text
prints = (refl, refl, refl)

-- a value may be the whole line, where a host says so
value : found (bytes "ab") ((0 ∷ 0 ∷ []) ∷ []) [] [] ((0 ∷ 0 ∷ 0 ∷ 0 ∷ 2 ∷ []) ∷ []) ≡ Found.value (bytes "ab")
unfolding found
value = refl
