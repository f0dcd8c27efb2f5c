-- For private contracts alone: how far the readers of a line reach, and the reader of a line with R-5.
use Rattle.std.specs.Prelude.{ℕ, true, List, [], ◌∷◌}
use Rattle.std.proofs.Math.Option.{none, some}
use Rattle.digits.specs.Digits.{decimal}
use Rattle.calendar.specs.Calendar.{month_days}
use Rattle.grammar.specs.Abnf.{is_digit, print_us_ascii, sd_name_byte}
use Rattle.grammar.specs.Line.{Element, Division}
use Rattle.grammar.specs.Parse.{Reader, Three, always, choose, behind, closed, only, many, into, ◌next◌, repeat, fixed, is_prival, is_version, pri, pri_version, date, clock, secfrac, full, timestamp, printable, header, sd_name, param, element_of, message, division_of}
use Rattle.viable.specs.Far.{Far, none_far, choose_far, behind_far, closed_far, next_far, follow, each_from, each_far}
use Rattle.viable.specs.Leaves.{repeat_far, fixed_far, prival_far, version_far, ranged, ranged_far, value_far, message_far}
use Rattle.viable.specs.Ids.{room, id_of, id_far}

-- ---- PRI VERSION SP

unfoldable pub pri_far : Far
pri_far = behind_far 60 (closed_far (only is_prival (repeat 3 is_digit)) prival_far)

unfoldable pub version_sp_far : Far
version_sp_far = closed_far (only is_version (repeat 3 is_digit)) version_far

-- ---- TIMESTAMP SP

-- the byte b and then 2DIGIT ; lo-hi
abbrev pub two_in : ℕ → ℕ → ℕ → Reader (List ℕ)
two_in b lo hi = behind b (ranged lo hi)

abbrev pub two_in_far : ℕ → ℕ → ℕ → Far
two_in_far b lo hi = behind_far b (ranged_far lo hi)

-- FULL-DATE, number by number: the month's range, and the day's by year and month
unfoldable pub date_by : Reader Three
date_by = follow (fixed 4) (λ y. follow (two_in 45 1 12) (λ m. two_in 45 1 (month_days (decimal y) (decimal m))))

unfoldable pub date_far : Far
date_far = next_far (fixed 4) fixed_far (λ y. next_far (two_in 45 1 12) (two_in_far 45 1 12) (λ m. two_in_far 45 1 (month_days (decimal y) (decimal m))))

unfoldable pub clock_by : Reader Three
clock_by = two_in 84 0 23 next two_in 58 0 59 next two_in 58 0 59

unfoldable pub clock_far : Far
clock_far = next_far (two_in 84 0 23) (two_in_far 84 0 23) (λ _. next_far (two_in 58 0 59) (two_in_far 58 0 59) (λ _. two_in_far 58 0 59))

unfoldable pub zone_by : Reader (List ℕ × List ℕ)
zone_by = ranged 0 23 next two_in 58 0 59

unfoldable pub zone_far : Far
zone_far = next_far (ranged 0 23) (ranged_far 0 23) (λ _. two_in_far 58 0 59)

unfoldable pub secfrac_far : Far
secfrac_far = choose_far 46 (repeat_far 6 is_digit) none_far

unfoldable pub offset_far : Far
offset_far = choose_far 90 none_far (choose_far 43 zone_far (behind_far 45 zone_far))

unfoldable pub full_far : Far
full_far = next_far date date_far (λ _. next_far clock clock_far (λ _. next_far secfrac secfrac_far (λ _. offset_far)))

unfoldable pub timestamp_far : Far
timestamp_far = closed_far (choose 45 (always none) (into some full)) (choose_far 45 none_far full_far)

-- ---- HOSTNAME SP APP-NAME SP PROCID SP MSGID SP

abbrev pub printable_far : ℕ → Far
printable_far most = closed_far (repeat most print_us_ascii) (repeat_far most print_us_ascii)

unfoldable pub names_far : Far
names_far =
    next_far (printable 255) (printable_far 255) (λ _.
    next_far (printable 48) (printable_far 48) (λ _.
    next_far (printable 128) (printable_far 128) (λ _. printable_far 32)))

unfoldable pub header_far : Far
header_far = next_far pri_version (next_far pri pri_far (λ _. version_sp_far)) (λ _. next_far timestamp timestamp_far (λ _. names_far))

-- ---- STRUCTURED-DATA

unfoldable pub param_far : Far
param_far = next_far (closed sd_name 61) (closed_far sd_name (repeat_far 32 sd_name_byte)) (λ _. behind_far 34 value_far)

unfoldable pub params_far : Far
params_far = each_far 32 (λ (u : Unit {0}). param) (λ u. param_far) (λ u p. u) (λ u. true) tt 0

-- what is behind the "[" of an SD-ELEMENT, with an id that is not used
unfoldable pub element_in : List (List ℕ) → Reader Element
element_in used = into element_of (id_of used next closed (many 32 param) 93)

unfoldable pub element_far : List (List ℕ) → Far
element_far used = next_far (id_of used) (id_far used) (λ _. closed_far (many 32 param) params_far)

abbrev pub used_and : List (List ℕ) → Element → List (List ℕ)
used_and used e = e.id ∷ used

abbrev pub cons_of : Element × List Element → List Element
cons_of t = t.0 ∷ t.1

-- 1*SD-ELEMENT
unfoldable pub elements : Reader (List Element)
elements = into cons_of (follow (behind 91 (element_in [])) (λ e. each_from 91 element_in used_and (e.id ∷ []) 0))

unfoldable pub elements_far : Far
elements_far = next_far (behind 91 (element_in [])) (behind_far 91 (element_far [])) (λ e. each_far 91 element_in element_far used_and room (e.id ∷ []) 0)

unfoldable pub structured_in : Reader (List Element)
structured_in = choose 45 (always []) elements

unfoldable pub structured_far : Far
structured_far = choose_far 45 none_far elements_far

-- ---- SYSLOG-MSG

unfoldable pub end_far : Far
end_far = choose_far 32 message_far none_far

-- the division of a line, and its length
unfoldable pub parse_in : Reader Division
parse_in = into division_of (header next structured_in next message)

-- How many bytes of a line that is refused some line of the strict grammar also begins with, at most.
unfoldable pub reach : Far
reach = next_far header header_far (λ _. next_far structured_in structured_far (λ _. end_far))
