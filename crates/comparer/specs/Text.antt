-- What the program writes of a pair of lines: each word and each number behind a blank (32). The first blank is not written.
use Rattle.std.specs.Prelude.{ℕ, ◌/◌, ◌%◌, Bool, true, List, [], ◌∷◌, ◌++◌, eqb, if◌then◌else◌, Result, Ok, Err}
use Rattle.base.specs.Bytes.{bytes}
use Rattle.record.specs.Refusals.{refusal_number}
use Rattle.record.specs.declared.Refusal.{Refusal}
use Rattle.output.specs.Numerals.{numeral}
use Rattle.differ.specs.declared.Differences.{Differences}
use Rattle.compare.specs.declared.Refused.{Refused}

abbrev pub is_odd : ℕ → Bool
is_odd n = eqb (n % 2) 1

-- a count in 32 bits, which hold every count of a line
abbrev pub shown_of : ℕ → ℕ
shown_of n = n % 4294967296

unfoldable pub name_text : Bool → List ℕ → List ℕ
name_text differs name = if differs then 32 ∷ name else []

unfoldable pub spaced : ℕ → List ℕ
spaced n = 32 ∷ numeral n

-- ---- the fields that differ: bit k of the fields is the k-th

unfoldable pub levels_text : ℕ → List ℕ
levels_text fields = name_text (is_odd fields) (bytes "protocol") ++ (name_text (is_odd (fields / 2)) (bytes "facility") ++ name_text (is_odd (fields / 4)) (bytes "severity"))

unfoldable pub places_text : ℕ → List ℕ
places_text fields = name_text (is_odd (fields / 8)) (bytes "timestamp") ++ (name_text (is_odd (fields / 16)) (bytes "host") ++ name_text (is_odd (fields / 32)) (bytes "app"))

unfoldable pub ids_text : ℕ → List ℕ
ids_text fields = name_text (is_odd (fields / 64)) (bytes "procid") ++ name_text (is_odd (fields / 128)) (bytes "msgid")

unfoldable pub names_text : ℕ → List ℕ
names_text fields = levels_text fields ++ (places_text fields ++ ids_text fields)

-- ---- the pair that one line has more often: ` NAME="VALUE"` (61 is `=`, 34 is `"`), behind the number of its line; 0 is none

unfoldable pub named_text : List ℕ → List ℕ
named_text name = (32 ∷ []) ++ (name ++ (61 ∷ 34 ∷ []))

unfoldable pub quoted_text : List ℕ → List ℕ
quoted_text value = value ++ (34 ∷ [])

unfoldable pub pair_text : ℕ → List ℕ → List ℕ → List ℕ
pair_text number name value = if eqb number 0 then [] else spaced number ++ (named_text name ++ quoted_text value)

-- ---- the elements, with the position and the pair, and all fields

unfoldable pub elements_text : Differences → List ℕ → List ℕ → List ℕ
elements_text d name value =
    if is_odd (d.fields / 256) then name_text true (bytes "elements") ++ (spaced (shown_of d.position) ++ pair_text d.pair_line name value)
    else []

unfoldable pub fields_text : Differences → List ℕ → List ℕ → List ℕ
fields_text d name value = names_text d.fields ++ (elements_text d name value ++ name_text (is_odd (d.fields / 512)) (bytes "message"))

-- ---- an answer, with name and value of the pair that it names

unfoldable pub refused_text : ℕ → Refusal → List ℕ
refused_text line f = name_text true (bytes "refuse") ++ (spaced line ++ spaced (refusal_number f))

unfoldable pub done_text : Differences → List ℕ → List ℕ → List ℕ
done_text d name value = if eqb d.fields 0 then name_text true (bytes "same") else fields_text d name value

unfoldable pub answer_text : Result Differences Refused → List ℕ → List ℕ → List ℕ
answer_text (Err x) name value = refused_text x.line x.refusal
answer_text (Ok d) name value = done_text d name value

-- with LF
unfoldable pub line_text : Result Differences Refused → List ℕ → List ℕ → List ℕ
line_text c name value = answer_text c name value ++ (10 ∷ [])
