-- Worked examples of `reach`, each beside what the reference that was written from the RFC answers.
use Rattle.std.specs.Prelude.{if◌then◌else◌}
use Prim.Native.Nat.{ℕ, zero, suc}
use mathlib.Core.Path.{◌≡◌, refl, sym, subst}
use mathlib.Core.Bool.{Bool, true, false}
use mathlib.Core.List.{List, [], ◌∷◌, ◌++◌, map}
use lib.ListN.{length, replicate}
use Rattle.base.proofs.Tests.{clash}
use Rattle.grammar.specs.Abnf.{sd_name_byte}
use Rattle.grammar.specs.Line.{Division}
use Rattle.base.specs.Bytes.{bytes}
use Rattle.base.specs.Runs.{run}
use Rattle.utf8.specs.Lead.{lead_of, utf8_from}
use Rattle.digits.specs.Digits.{decimal_from}
use Rattle.calendar.specs.Calendar.{valid_date, valid_time, month_days, leap}
use Rattle.grammar.specs.Parse.{Parsed, choose, closed, only, many_from, ◌next◌, into, repeat, fixed, stop, until_quote, all_left, at_end, pri, version, pri_version, date, clock, secfrac, zone, offset, full, timestamp, names, value, param, message, header}
use Rattle.grammar.specs.Parse.Parsed.{failed, found}
use Rattle.viable.specs.Viable.{Longest}
use Rattle.viable.specs.Far.{choose_far, closed_far, next_far, follow, each_from, each_far}
use Rattle.viable.specs.Leaves.{repeat_far, fixed_far, prival_far, version_far, ranged, ranged_far, utf8_far_from, value_far, message_far}
use Rattle.viable.specs.Ids.{any_below, alive, id_of, id_far_from}
use Rattle.viable.specs.Reach.{pri_far, version_sp_far, date_far, clock_far, zone_far, secfrac_far, offset_far, full_far, timestamp_far, names_far, header_far, param_far, params_far, element_in, element_far, elements, elements_far, structured_in, structured_far, end_far, parse_in, reach}
use Rattle.viable.proofs.Lines.{none_derived, reach_longest}

-- how far, computed
far : List ℕ → ℕ
unfolding run lead_of utf8_from decimal_from valid_date valid_time month_days leap choose closed only many_from ◌next◌ into repeat fixed stop until_quote all_left at_end pri version pri_version date clock secfrac zone offset full timestamp names value param message header choose_far closed_far next_far follow each_from each_far repeat_far fixed_far prival_far version_far ranged ranged_far utf8_far_from value_far message_far any_below alive id_of id_far_from pri_far version_sp_far date_far clock_far zone_far secfrac_far offset_far full_far timestamp_far names_far header_far param_far params_far element_in element_far elements elements_far structured_in structured_far end_far reach
far line = reach line

examples : map far (
    bytes "<34>1 2023-02-29T10:00:00Z - - - - -" ∷
    bytes "<34>1 2024-02-30T10:00:00Z - - - - -" ∷
    bytes "<34>1 2023-13-01" ∷
    bytes "<34>1 2023-04-31T" ∷
    bytes "<192>1 - - - - - -" ∷
    bytes "<01>1 " ∷
    bytes "<1911>" ∷
    bytes "<34>0 " ∷
    bytes "<34>1000 " ∷
    bytes "<34>1 2023-01-01T24:" ∷
    bytes "<34>1 2023-01-01T10:00:60Z" ∷
    bytes "<34>1 2023-01-01T10:00:00.1234567Z" ∷
    bytes "<34>1 2023-01-01T10:00:00.Z" ∷
    bytes "<34>1 2023-01-01T10:00:00+24:00" ∷
    bytes "<34>1 2023-01-01T10:00:0" ∷
    bytes "" ∷
    bytes "<34>1 - - - - - [a][a]" ∷
    bytes "<34>1 - - - - - [a][ab x=\"1\"][a x=\"2\"]" ∷
    bytes "<34>1 - - - - - [a" ∷
    bytes "<34>1 - - - - - [a b=\"c]" ∷
    bytes "<34>1 - - - - - [a b=\"c\\" ∷
    bytes "<34>1 - - - - - []" ∷
    bytes "<34>1 - - - - - -x" ∷
    bytes "<34>1 - - - - - x" ∷
    bytes "<34>1 - - - - - [aaaaaaaaaaaaaaaaaaaaaaaaaaaaaaaaa" ∷
    bytes "<34>1 - - - - - [aaaaaaaaaaaaaaaaaaaaaaaaaaaaaaaa][aaaaaaaaaaaaaaaaaaaaaaaaaaaaaaaa" ∷
    (60 ∷ 51 ∷ 52 ∷ 62 ∷ 49 ∷ 32 ∷ 45 ∷ 32 ∷ 45 ∷ 32 ∷ 45 ∷ 32 ∷ 45 ∷ 32 ∷ 45 ∷ 32 ∷ 91 ∷ 97 ∷ 32 ∷ 98 ∷ 61 ∷ 34 ∷ 195 ∷ 40 ∷ []) ∷
    (60 ∷ 51 ∷ 52 ∷ 62 ∷ 49 ∷ 32 ∷ 45 ∷ 32 ∷ 45 ∷ 32 ∷ 45 ∷ 32 ∷ 45 ∷ 32 ∷ 45 ∷ 32 ∷ 91 ∷ 97 ∷ 32 ∷ 98 ∷ 61 ∷ 34 ∷ 226 ∷ 130 ∷ 34 ∷ 93 ∷ []) ∷
    (60 ∷ 51 ∷ 52 ∷ 62 ∷ 49 ∷ 32 ∷ 45 ∷ 32 ∷ 45 ∷ 32 ∷ 45 ∷ 32 ∷ 45 ∷ 32 ∷ 45 ∷ 32 ∷ 91 ∷ 97 ∷ 32 ∷ 98 ∷ 61 ∷ 34 ∷ 92 ∷ 226 ∷ 130 ∷ 172 ∷ 255 ∷ []) ∷
    (60 ∷ 51 ∷ 52 ∷ 62 ∷ 49 ∷ 32 ∷ 45 ∷ 32 ∷ 45 ∷ 32 ∷ 45 ∷ 32 ∷ 45 ∷ 32 ∷ 45 ∷ 32 ∷ 45 ∷ 32 ∷ 239 ∷ 187 ∷ 191 ∷ 237 ∷ 160 ∷ 128 ∷ []) ∷
    (60 ∷ 51 ∷ 52 ∷ 62 ∷ 49 ∷ 32 ∷ 45 ∷ 32 ∷ 45 ∷ 32 ∷ 45 ∷ 32 ∷ 45 ∷ 32 ∷ 45 ∷ 32 ∷ 45 ∷ 32 ∷ 239 ∷ 187 ∷ 191 ∷ 97 ∷ 244 ∷ 144 ∷ []) ∷
    []) ≡ 15 ∷ 14 ∷ 12 ∷ 15 ∷ 3 ∷ 2 ∷ 4 ∷ 4 ∷ 7 ∷ 18 ∷ 23 ∷ 32 ∷ 26 ∷ 27 ∷ 24 ∷ 0 ∷ 21 ∷ 31 ∷ 18 ∷ 23 ∷ 24 ∷ 17 ∷ 17 ∷ 16 ∷ 49 ∷ 82 ∷ 23 ∷ 24 ∷ 26 ∷ 22 ∷ 23 ∷ []
unfolding far
examples = refl

-- ---- read alone

-- whether the line is refused, computed
abbrev is_refused : Parsed Division → Bool
is_refused failed = true
is_refused (found d n) = false

refused : List ℕ → Bool
unfolding run lead_of utf8_from decimal_from valid_date valid_time month_days leap choose closed only many_from ◌next◌ into repeat fixed stop until_quote all_left at_end pri version pri_version date clock secfrac zone offset full timestamp names value param message header follow each_from id_of element_in elements structured_in parse_in
refused line = is_refused (parse_in line)

was_failed : (o : Parsed Division) → is_refused o ≡ true → o ≡ failed
was_failed failed h = refl
was_failed (found d n) h = clash (sym h)

-- what is computed is the longest beginning
is_longest : (line : List ℕ) (n : ℕ) → refused line ≡ true → far line ≡ n → Longest line n
unfolding refused far
is_longest line n r e = subst (Longest line) e (reach_longest line (none_derived line (was_failed (parse_in line) r)))

-- In 2023 February has no 29th: the line breaks after the `2` of the day.
pub day_29 : Longest (bytes "<34>1 2023-02-2" ++ bytes "9T10:00:00Z - - - - -") (length (bytes "<34>1 2023-02-2"))
unfolding refused far
day_29 = is_longest (bytes "<34>1 2023-02-2" ++ bytes "9T10:00:00Z - - - - -") (length (bytes "<34>1 2023-02-2")) refl refl

-- A line cut short in its structured data breaks nowhere.
pub cut_in_value : Longest (bytes "<34>1 - - - - - [a b=\"c") (length (bytes "<34>1 - - - - - [a b=\"c"))
unfolding refused far
cut_in_value = is_longest (bytes "<34>1 - - - - - [a b=\"c") (length (bytes "<34>1 - - - - - [a b=\"c")) refl refl

-- An id that is used can still become another: the line breaks after its last byte.
pub id_again : Longest (bytes "<34>1 - - - - - [a][a" ++ bytes "]") (length (bytes "<34>1 - - - - - [a][a"))
unfolding refused far
id_again = is_longest (bytes "<34>1 - - - - - [a][a" ++ bytes "]") (length (bytes "<34>1 - - - - - [a][a")) refl refl

-- The trap: an id of 31 bytes is used, and so are all 91 ids of 32 bytes that begin with it. It cannot be begun again: 30 bytes of it can.
abbrev run31 : List ℕ
run31 = replicate 31 113

abbrev bracketed : List (List ℕ) → List ℕ
bracketed [] = []
bracketed (i ∷ l) = 91 ∷ (i ++ (93 ∷ bracketed l))

-- the bytes of a name up to 126
abbrev name_bytes : ℕ → List ℕ
name_bytes zero = []
name_bytes (suc n) = if sd_name_byte n then n ∷ name_bytes n else name_bytes n

abbrev all_used : List (List ℕ)
all_used = run31 ∷ map (λ (c : ℕ). run31 ++ (c ∷ [])) (name_bytes 127)

trap : map (λ (used : List (List ℕ)). far (bytes "<1>1 - - - - - " ++ (bracketed used ++ (91 ∷ run31)))) (all_used ∷ (run31 ∷ []) ∷ []) ≡ 3173 ∷ 80 ∷ []
unfolding far
trap = refl
