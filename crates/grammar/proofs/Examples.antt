-- Worked examples: RFC 5424's sections 6.2.3.1, 6.3.5 and 6.5, the strict lines of RULES Cases, and what the reader answers to some of them.
use Rattle.std.specs.Prelude.{Some, Ok, Err}
use Prim.Native.Nat.{ℕ, ◌-◌}
use Prim.Native.String.{String}
use mathlib.Core.Path.{◌≡◌, refl}
use mathlib.Core.Bool.{true, false}
use mathlib.Core.List.{List, [], ◌∷◌, ◌++◌, map}
use mathlib.Core.Option.{Option, none, some}
use lib.ListN.{length, replicate}
use lib.IntN.{pos, neg_ℤ}
use borrow.Author.Tests.{leb-true}
use Rattle.base.specs.Bytes.{bytes}
use Rattle.base.specs.Runs.{run}
use Rattle.base.proofs.Tests.{clash}
use Rattle.utf8.specs.Lead.{lead_of, utf8_from}
use Rattle.digits.specs.Digits.{decimal_from}
use Rattle.calendar.specs.Calendar.{valid_date, valid_time, month_days, leap, year_days, days_before_year, days_of_months, day_number}
use Rattle.calendar.specs.Instant.{local_seconds, seconds_of}
use Rattle.record.specs.Places.{absent, place}
use Rattle.record.specs.declared.Record.{Record}
use Rattle.record.specs.declared.Protocol.TheVariants.{Rfc5424}
use Rattle.record.specs.declared.Refusal.TheVariants.{LineTooLong}
use Rattle.grammar.specs.Line.{Param, Element, Offset, Timestamp, Division, Each, Derives}
use Rattle.grammar.specs.Parse.{Parsed, choose, closed, only, many_from, ◌next◌, into, repeat, fixed, stop, until_quote, all_left, at_end, pri, version, pri_version, date, clock, secfrac, zone, offset, full, timestamp, names, value, param, element, listed, structured, message, header, parse}
use Rattle.grammar.specs.Parse.Parsed.{failed, found}
use Rattle.grammar.specs.Reading.{data_at, place_of, offset_of, nanos_of, digits_of, record_of, element_rows, param_rows, StrictReads}
use Rattle.grammar.specs.Reading.StrictReads.{too_long, accepted}
use Rattle.grammar.proofs.Lines.{parse_sound, none_derived}

-- ---- what the grammar says of a line

-- a line, and its division or none
abbrev Example : Type 0
Example = List ℕ × Option Division

abbrev Derived : List ℕ → Option Division → Type 0
Derived line none = (d : Division) → Derives line d → ⊥
Derived line (some d) = Derives line d

abbrev divided : Parsed Division → Option Division
divided failed = none
divided (found d n) = some d

-- what the parser finds, computed
verdict : List ℕ → Option Division
unfolding run lead_of utf8_from decimal_from valid_date valid_time month_days leap choose closed only many_from ◌next◌ into repeat fixed stop until_quote all_left at_end pri version pri_version date clock secfrac zone offset full timestamp names value param element listed structured message header parse
verdict line = divided (parse line)

derived : (line : List ℕ) (p : Parsed Division) (o : Option Division) → parse line ≡ p → divided p ≡ o → Derived line o
derived line failed none e h = none_derived line e
derived line failed (some d) e h = let z : true ≡ false = cc in clash z
derived line (found d n) none e h = let z : true ≡ false = cc in clash z
derived line (found d n) (some c) e h = parse_sound line c n (let z : d ≡ c = cc in rw (← z) e)

-- each line of a table has the division that the table says
abbrev Holds : List Example → Type 0
Holds = Each (λ (x : Example). Derived x.0 x.1)

-- the parser's answers are the table's
abbrev Found : List Example → Type 0
Found t = map (λ (x : Example). verdict x.0) t ≡ map (λ (x : Example). x.1) t

-- a table of examples holds where that is so
told : (t : List Example) → Found t → Holds t
unfolding verdict
told [] h = tt
told (x ∷ t) h = (derived x.0 (parse x.0) x.1 refl cc, told t cc)

-- ---- fields by their texts

-- EF BB BF
mark : List ℕ
mark = 0xEF ∷ 0xBB ∷ 0xBF ∷ []

abbrev clock_at : (year month day hour minute second : String) → Option (List ℕ) → Offset → Option Timestamp
clock_at y m d h i s f o = some (record { year = bytes y; month = bytes m; day = bytes d; hour = bytes h; minute = bytes i; second = bytes s; secfrac = f; offset = o })

abbrev pair : String → String → Param
pair n v = record { name = bytes n; value = bytes v }

abbrev group : String → List Param → Element
group i ps = record { id = bytes i; params = ps }

abbrev division : String → Option Timestamp → (host app procid msgid : String) → List Element → Option (List ℕ) → Division
division p t h a i m es msg =
    record { prival = bytes p; version = bytes "1"; timestamp = t; hostname = bytes h; app_name = bytes a; procid = bytes i; msgid = bytes m; elements = es; message = msg }

-- ---- RFC 5424 section 6.5

october : Option Timestamp
october = clock_at "2003" "10" "11" "22" "14" "15" (some (bytes "003")) Offset.utc

august : Option Timestamp
august = clock_at "2003" "08" "24" "05" "14" "15" (some (bytes "000003")) (Offset.west (bytes "07") (bytes "00"))

event : Element
event = group "exampleSDID@32473" (pair "iut" "3" ∷ pair "eventSource" "Application" ∷ pair "eventID" "1011" ∷ [])

priority : Element
priority = group "examplePriority@32473" (pair "class" "high" ∷ [])

first : Division
first = division "34" october "mymachine.example.com" "su" "-" "ID47" [] (some (mark ++ bytes "'su root' failed for lonvick on /dev/pts/8"))

second : Division
second = division "165" august "192.0.2.1" "myproc" "8710" "-" [] (some (bytes "%% It's time to make the do-nuts."))

third : Division
third = division "165" october "mymachine.example.com" "evntslog" "-" "ID47" (event ∷ []) (some (mark ++ bytes "An application event log entry..."))

fourth : Division
fourth = division "165" october "mymachine.example.com" "evntslog" "-" "ID47" (event ∷ priority ∷ []) none

rfc : List Example
rfc =
    (bytes "<34>1 2003-10-11T22:14:15.003Z mymachine.example.com su - ID47 - " ++ mark ++ bytes "'su root' failed for lonvick on /dev/pts/8", some first)
    ∷ (bytes "<165>1 2003-08-24T05:14:15.000003-07:00 192.0.2.1 myproc 8710 - - %% It's time to make the do-nuts.", some second)
    ∷ (bytes "<165>1 2003-10-11T22:14:15.003Z mymachine.example.com evntslog - ID47 [exampleSDID@32473 iut=\"3\" eventSource=\"Application\" eventID=\"1011\"] " ++ mark ++ bytes "An application event log entry...", some third)
    ∷ (bytes "<165>1 2003-10-11T22:14:15.003Z mymachine.example.com evntslog - ID47 [exampleSDID@32473 iut=\"3\" eventSource=\"Application\" eventID=\"1011\"][examplePriority@32473 class=\"high\"]", some fourth)
    ∷ []

rfc_read : Found rfc
unfolding verdict rfc first second third fourth october august event priority mark
rfc_read = refl

rfc_examples : Holds rfc
rfc_examples = told rfc rfc_read

-- ---- RULES Strict

-- with the version 1 and nothing in the other fields
abbrev data_of : List Element → Option (List ℕ) → Option Division
data_of es m = some (division "1" none "-" "-" "-" "-" es m)

abbrev stamped : Option Timestamp → Option Division
stamped t = some (division "1" t "-" "-" "-" "-" [] none)

abbrev letters : ℕ → List ℕ
letters n = replicate n 120

-- fields of so many bytes
abbrev wide : (host app procid msgid : ℕ) → List ℕ
wide h a p m = bytes "<1>1 - " ++ letters h ++ 32 ∷ letters a ++ 32 ∷ letters p ++ 32 ∷ letters m ++ bytes " -"

strict : List Example
strict =
    (bytes "<34>1 - gate7 reader 42 TAP [t@32473 ms=\"212\"] ok", some (division "34" none "gate7" "reader" "42" "TAP" (group "t@32473" (pair "ms" "212" ∷ []) ∷ []) (some (bytes "ok"))))
    ∷ (bytes "<192>1 - gate7 reader 42 TAP - ok", none)
    ∷ (bytes "", none)
    ∷ (bytes "<191>1 - h: - - - -", some (division "191" none "h:" "-" "-" "-" [] none))
    ∷ (bytes "<0>1 - - - - - -", some (division "0" none "-" "-" "-" "-" [] none))
    ∷ (bytes "<01>1 - - - - - -", none)
    ∷ (bytes "<>1 - - - - - -", none)
    ∷ (bytes "<1>0 - - - - - -", none)
    ∷ (bytes "<1>01 - - - - - -", none)
    ∷ (bytes "<1>1000 - - - - - -", none)
    ∷ (bytes "<1>1  - - - - - -", none)
    ∷ (bytes " <1>1 - - - - - -", none)
    ∷ (bytes "<1>1 2024-02-29T00:00:00Z - - - - -", stamped (clock_at "2024" "02" "29" "00" "00" "00" none Offset.utc))
    ∷ (bytes "<1>1 2023-02-29T00:00:00Z - - - - -", none)
    ∷ (bytes "<1>1 2024-02-29t00:00:00Z - - - - -", none)
    ∷ (bytes "<1>1 2024-02-29T00:00:00z - - - - -", none)
    ∷ (bytes "<1>1 2024-02-29T00:00:60Z - - - - -", none)
    ∷ (bytes "<1>1 2024-02-29T24:00:00Z - - - - -", none)
    ∷ (bytes "<1>1 2024-02-29T00:00:00.Z - - - - -", none)
    ∷ (bytes "<1>1 2024-02-29T00:00:00.1234567Z - - - - -", none)
    ∷ (bytes "<1>1 2024-02-29T00:00:00.123456+23:59 - - - - -", stamped (clock_at "2024" "02" "29" "00" "00" "00" (some (bytes "123456")) (Offset.east (bytes "23") (bytes "59"))))
    ∷ (bytes "<1>1 2024-02-29T00:00:00+24:00 - - - - -", none)
    ∷ (bytes "<1>1 2024-02-29T00:00:00-00:60 - - - - -", none)
    ∷ (bytes "<1>1 2024-02-29T00:00:00 - - - - -", none)
    ∷ (bytes "<1>1 - - - - - [id a=\"x\\]y\" b=\"\"][Id c=\"\\n\"]", data_of (group "id" (pair "a" "x\\]y" ∷ pair "b" "" ∷ []) ∷ group "Id" (pair "c" "\\n" ∷ []) ∷ []) none)
    ∷ (bytes "<1>1 - - - - - [id a=\"x\\]y\" b=\"\"][id c=\"\\n\"]", none)
    ∷ (bytes "<1>1 - - - - - [a][b][id x=\"1\" x=\"1\"]", data_of (group "a" [] ∷ group "b" [] ∷ group "id" (pair "x" "1" ∷ pair "x" "1" ∷ []) ∷ []) none)
    ∷ (bytes "<1>1 - - - - - [a][b][a]", none)
    ∷ (bytes "<1>1 - - - - - [t@32473][T@32473]", data_of (group "t@32473" [] ∷ group "T@32473" [] ∷ []) none)
    ∷ (bytes "<1>1 - - - - - [x][t@32473][y][t@32473]", none)
    ∷ (bytes "<1>1 - - - - - [id a=\"x]y\"]", none)
    ∷ (bytes "<1>1 - - - - - [id a=\"x\\\"]", none)
    ∷ (bytes "<1>1 - - - - - [id a=\"\\\\\"]", data_of (group "id" (pair "a" "\\\\" ∷ []) ∷ []) none)
    ∷ (bytes "<1>1 - - - - - [id  a=\"x\"]", none)
    ∷ (bytes "<1>1 - - - - - [id a=\"x\" ]", none)
    ∷ (bytes "<1>1 - - - - - [id a=\"x\"", none)
    ∷ (bytes "<1>1 - - - - - [id] [id]", data_of (group "id" [] ∷ []) (some (bytes "[id]")))
    ∷ (bytes "<1>1 - - - - - []", none)
    ∷ (bytes "<1>1 - - - - - [id a=\"" ++ 0xFF ∷ bytes "\"]", none)
    ∷ (bytes "<1>1 - - - - - -x", none)
    ∷ (bytes "<1>1 - - - - - - ", data_of [] (some []))
    ∷ (bytes "<1>1 - - - - - - " ++ mark, data_of [] (some mark))
    ∷ (bytes "<1>1 - - - - - - " ++ mark ++ 0xFF ∷ [], none)
    ∷ (bytes "<1>1 - - - - - - " ++ 0xFF ∷ mark, data_of [] (some (0xFF ∷ mark)))
    ∷ (wide 255 48 128 32, some (record { prival = bytes "1"; version = bytes "1"; timestamp = none; hostname = letters 255; app_name = letters 48; procid = letters 128; msgid = letters 32; elements = []; message = none }))
    ∷ (wide 256 48 128 32, none)
    ∷ (wide 255 49 128 32, none)
    ∷ (wide 255 48 129 32, none)
    ∷ (wide 255 48 128 33, none)
    ∷ (bytes "<1>1 - - - - - [" ++ letters 32 ++ 32 ∷ letters 32 ++ bytes "=\"\"]", data_of (record { id = letters 32; params = record { name = letters 32; value = [] } ∷ [] } ∷ []) none)
    ∷ (bytes "<1>1 - - - - - [" ++ letters 33 ++ 32 ∷ letters 32 ++ bytes "=\"\"]", none)
    ∷ (bytes "<1>1 - - - - - [" ++ letters 32 ++ 32 ∷ letters 33 ++ bytes "=\"\"]", none)
    ∷ []

strict_read : Found strict
unfolding verdict strict mark
strict_read = refl

strict_examples : Holds strict
strict_examples = told strict strict_read

-- ---- RFC 5424 section 6.2.3.1

-- with a timestamp's text alone
abbrev timed : String → List ℕ
timed t = bytes "<1>1 " ++ bytes t ++ bytes " - - - - -"

-- Examples 1 to 4; Example 5 has nine digits of a second, and is none
timestamps : List Example
timestamps =
    (timed "1985-04-12T23:20:50.52Z", stamped (clock_at "1985" "04" "12" "23" "20" "50" (some (bytes "52")) Offset.utc))
    ∷ (timed "1985-04-12T19:20:50.52-04:00", stamped (clock_at "1985" "04" "12" "19" "20" "50" (some (bytes "52")) (Offset.west (bytes "04") (bytes "00"))))
    ∷ (timed "2003-10-11T22:14:15.003Z", stamped october)
    ∷ (timed "2003-08-24T05:14:15.000003-07:00", stamped august)
    ∷ (timed "2003-08-24T05:14:15.000000003-07:00", none)
    ∷ []

timestamps_read : Found timestamps
unfolding verdict timestamps october august
timestamps_read = refl

timestamp_examples : Holds timestamps
timestamp_examples = told timestamps timestamps_read

-- ---- RFC 5424 section 6.3.5

-- with structured data and nothing else
abbrev holding : List ℕ → List ℕ
holding t = bytes "<1>1 - - - - - " ++ t

event_text : List ℕ
event_text = bytes "[exampleSDID@32473 iut=\"3\" eventSource=\"Application\" eventID=\"1011\"]"

priority_text : List ℕ
priority_text = bytes "[examplePriority@32473 class=\"high\"]"

-- Examples 1 and 2. Example 3 has a space between the elements: the first is all the structured data, and the second is the message.
-- Example 4 has one after a bracket, and is none. The dots of Example 5 stand for what the RFC leaves out: they are no parameter, but may be a value.
elements : List Example
elements =
    (holding event_text, data_of (event ∷ []) none)
    ∷ (holding (event_text ++ priority_text), data_of (event ∷ priority ∷ []) none)
    ∷ (holding (event_text ++ 32 ∷ priority_text), data_of (event ∷ []) (some priority_text))
    ∷ (holding (bytes "[ exampleSDID@32473 iut=\"3\" eventSource=\"Application\" eventID=\"1011\"]" ++ priority_text), none)
    ∷ (holding (bytes "[sigSig ver=\"1\" rsID=\"1234\" ... signature=\"...\"]"), none)
    ∷ (holding (bytes "[sigSig ver=\"1\" rsID=\"1234\" signature=\"...\"]"), data_of (group "sigSig" (pair "ver" "1" ∷ pair "rsID" "1234" ∷ pair "signature" "..." ∷ []) ∷ []) none)
    ∷ []

elements_read : Found elements
unfolding verdict elements event_text priority_text event priority
elements_read = refl

element_examples : Holds elements
element_examples = told elements elements_read

-- ---- every bound from both sides: the last that is in, and the first that is out

abbrev headed : (prival version : String) → Option Division
headed p v =
    some (record { prival = bytes p; version = bytes v; timestamp = none; hostname = bytes "-"; app_name = bytes "-"; procid = bytes "-"; msgid = bytes "-"; elements = []; message = none })

abbrev at : (hour minute second : String) → Option (List ℕ) → Offset → Option Division
at h i s f o = stamped (clock_at "2024" "01" "31" h i s f o)

-- the text in each of the four fields of names
abbrev in_names : List ℕ → List (List ℕ)
in_names t =
    (bytes "<1>1 - " ++ t ++ bytes " - - - -") ∷ (bytes "<1>1 - - " ++ t ++ bytes " - - -") ∷ (bytes "<1>1 - - - " ++ t ++ bytes " - -") ∷ (bytes "<1>1 - - - - " ++ t ++ bytes " -")
    ∷ []

-- the text as an id, and as a name
abbrev in_element : List ℕ → List (List ℕ)
in_element t = holding (bytes "[" ++ t ++ bytes "]") ∷ holding (bytes "[a " ++ t ++ bytes "=\"\"]") ∷ []

abbrev in_value : List ℕ → List ℕ
in_value t = holding (bytes "[a b=\"" ++ t ++ bytes "\"]")

abbrev valued : List ℕ → Option Division
valued t = data_of (record { id = bytes "a"; params = record { name = bytes "b"; value = t } ∷ [] } ∷ []) none

abbrev saying : List ℕ → Example
saying m = (holding (bytes "- " ++ m), data_of [] (some m))

taken : List Example
taken =
    (bytes "<9>1 - - - - - -", headed "9" "1")
    ∷ (bytes "<10>10 - - - - - -", headed "10" "10")
    ∷ (bytes "<100>999 - - - - - -", headed "100" "999")
    ∷ (timed "0000-01-01T00:00:00Z", stamped (clock_at "0000" "01" "01" "00" "00" "00" none Offset.utc))
    ∷ (timed "9999-12-31T23:59:59Z", stamped (clock_at "9999" "12" "31" "23" "59" "59" none Offset.utc))
    ∷ (timed "2024-01-31T00:00:00.0-00:00", at "00" "00" "00" (some (bytes "0")) (Offset.west (bytes "00") (bytes "00")))
    ∷ (timed "2024-01-31T00:00:00.999999-23:59", at "00" "00" "00" (some (bytes "999999")) (Offset.west (bytes "23") (bytes "59")))
    ∷ (bytes "<1>1 - !~ !~ !~ !~ -", some (division "1" none "!~" "!~" "!~" "!~" [] none))
    ∷ (holding (bytes "[!~ !~=\"\"]"), data_of (group "!~" (pair "!~" "" ∷ []) ∷ []) none)
    ∷ (holding (bytes "[#<>\\^ #<>\\^=\"\"]"), data_of (group "#<>\\^" (pair "#<>\\^" "" ∷ []) ∷ []) none)
    ∷ (in_value (bytes "!#[^ =\\\"\\\\\\]\\[" ++ 0 ∷ 127 ∷ []), valued (bytes "!#[^ =\\\"\\\\\\]\\[" ++ 0 ∷ 127 ∷ []))
    ∷ saying (0 ∷ 255 ∷ [])
    ∷ saying (0xEE ∷ 0xBB ∷ 0xBF ∷ 0xFF ∷ [])
    ∷ saying (0xF0 ∷ 0xBB ∷ 0xBF ∷ 0xFF ∷ [])
    ∷ saying (0xEF ∷ 0xBA ∷ 0xBF ∷ 0xFF ∷ [])
    ∷ saying (0xEF ∷ 0xBC ∷ 0xBF ∷ 0xFF ∷ [])
    ∷ saying (0xEF ∷ 0xBB ∷ 0xBE ∷ 0xFF ∷ [])
    ∷ saying (0xEF ∷ 0xBB ∷ 0xC0 ∷ 0xFF ∷ [])
    ∷ []

taken_read : Found taken
unfolding verdict taken
taken_read = refl

taken_edges : Holds taken
taken_edges = told taken taken_read

-- numbers; fields that are empty, or hold a byte outside their class; a value that no quote ends
refused : List (List ℕ)
refused =
    map bytes ("<00>1 - - - - - -" ∷ "<1000>1 - - - - - -" ∷ "</>1 - - - - - -" ∷ "<:>1 - - - - - -" ∷ "<1> - - - - - -" ∷ "<1>/ - - - - - -" ∷ "<1>: - - - - - -" ∷ [])
    ++ map timed
    ("999-01-01T00:00:00Z" ∷ "10000-01-01T00:00:00Z" ∷ "2024-1-31T00:00:00Z" ∷ "2024-001-31T00:00:00Z" ∷ "2024-01-3T00:00:00Z" ∷ "2024-01-031T00:00:00Z"
    ∷ "2024-00-31T00:00:00Z" ∷ "2024-13-31T00:00:00Z" ∷ "2024-01-00T00:00:00Z" ∷ "2024-01-32T00:00:00Z"
    ∷ "2024-01-31T0:00:00Z" ∷ "2024-01-31T000:00:00Z" ∷ "2024-01-31T00:0:00Z" ∷ "2024-01-31T00:000:00Z" ∷ "2024-01-31T00:00:0Z" ∷ "2024-01-31T00:00:000Z" ∷ "2024-01-31T00:60:00Z"
    ∷ "2024-01-31T00:00:00+0:00" ∷ "2024-01-31T00:00:00+000:00" ∷ "2024-01-31T00:00:00+00:0" ∷ "2024-01-31T00:00:00+00:000" ∷ "2024-01-31T00:00:00+0000" ∷ "" ∷ [])
    ++ in_names [] ++ in_names (31 ∷ []) ++ in_names (32 ∷ []) ++ in_names (127 ∷ []) ++ in_names (128 ∷ [])
    ++ in_element [] ++ in_element (31 ∷ []) ++ in_element (32 ∷ []) ++ in_element (127 ∷ []) ++ in_element (128 ∷ []) ++ in_element (bytes "a\"b") ++ in_element (bytes "a=b") ++ in_element (bytes "a]b")
    ++ map (λ v. in_value (bytes v)) ("\"" ∷ "]" ∷ "\\" ∷ "\\\\\\" ∷ "\\\\\"" ∷ [])
    ++ in_value (128 ∷ []) ∷ map (λ t. holding (bytes t)) ("" ∷ "--" ∷ "[a]-" ∷ "[a]x" ∷ [])

refused_read : Found (map (λ l. (l, none)) refused)
unfolding verdict refused
refused_read = refl

refused_edges : Holds (map (λ l. (l, none)) refused)
refused_edges = told (map (λ l. (l, none)) refused) refused_read

-- ---- the record and the tables

first_record : record_of first ≡ record {
  common = record {
    protocol = Rfc5424 1;
    facility = Some 4;
    severity = Some 2;
    timestamp = Some (record { seconds = pos 1065910455; nanos = 3000000; digits = 3; offset = pos 0 });
    host = place 31 21;
    app = place 53 2;
    procid = absent;
    msgid = place 58 4;
    message = record { start = 65; len = 45 };
  };
  timestamp_text = place 6 24;
  has_message = true;
}
unfolding record_of decimal_from seconds_of local_seconds day_number days_before_year days_of_months year_days month_days leap first october mark
first_record = refl

second_stamp : (record_of second).common.timestamp ≡ Some (record { seconds = pos 1061727255; nanos = 3000; digits = 6; offset = neg_ℤ (pos 420) })
unfolding record_of decimal_from seconds_of local_seconds day_number days_before_year days_of_months year_days month_days leap second august
second_stamp = refl

-- no message: absent, of start and length 0
fourth_message : ((record_of fourth).has_message ≡ false) × ((record_of fourth).common.message ≡ record { start = 0; len = 0 })
unfolding record_of fourth
fourth_message = (refl, refl)

fourth_elements : element_rows (data_at fourth) fourth.elements ≡ (71 ∷ 17 ∷ []) ∷ (139 ∷ 21 ∷ []) ∷ []
unfolding fourth october event priority
fourth_elements = refl

fourth_params : param_rows 0 (data_at fourth) fourth.elements ≡
    (0 ∷ 89 ∷ 3 ∷ 94 ∷ 1 ∷ [])
    ∷ (0 ∷ 97 ∷ 11 ∷ 110 ∷ 11 ∷ [])
    ∷ (0 ∷ 123 ∷ 7 ∷ 132 ∷ 4 ∷ [])
    ∷ (1 ∷ 161 ∷ 5 ∷ 168 ∷ 4 ∷ [])
    ∷ []
unfolding fourth october event priority
fourth_params = refl

-- ---- the bounds of the record and of a line

-- with a PRIVAL, and with a timestamp, and nothing else
abbrev record_with : String → Option Timestamp → Record
record_with p t = (record_of (division p t "-" "-" "-" "-" [] none)).common

levels : (map (λ p. (record_with p none).facility) ("0" ∷ "7" ∷ "8" ∷ "191" ∷ []) ≡ Some 0 ∷ Some 0 ∷ Some 1 ∷ Some 23 ∷ [])
    × (map (λ p. (record_with p none).severity) ("0" ∷ "7" ∷ "8" ∷ "191" ∷ []) ≡ Some 0 ∷ Some 7 ∷ Some 0 ∷ Some 7 ∷ [])
unfolding record_of decimal_from
levels = (refl, refl)

-- `-` is absent, and nothing else is
absences : map (λ t. place_of 7 (bytes t)) ("-" ∷ "--" ∷ "," ∷ "." ∷ []) ≡ absent ∷ place 7 2 ∷ place 7 1 ∷ place 7 1 ∷ []
absences = refl

offsets : map offset_of (Offset.utc ∷ Offset.east (bytes "00") (bytes "01") ∷ Offset.west (bytes "01") (bytes "00") ∷ Offset.east (bytes "23") (bytes "59") ∷ Offset.west (bytes "23") (bytes "59") ∷ [])
    ≡ pos 0 ∷ pos 1 ∷ neg_ℤ (pos 60) ∷ pos 1439 ∷ neg_ℤ (pos 1439) ∷ []
unfolding decimal_from
offsets = refl

-- the digits of a fraction are counted, its zeros too
fractions : (map nanos_of (none ∷ some (bytes "9") ∷ some (bytes "900") ∷ some (bytes "000001") ∷ some (bytes "999999") ∷ []) ≡ 0 ∷ 900000000 ∷ 900000000 ∷ 1000 ∷ 999999000 ∷ [])
    × (map digits_of (none ∷ some (bytes "9") ∷ some (bytes "900") ∷ some (bytes "000") ∷ some (bytes "999999") ∷ []) ≡ 0 ∷ 1 ∷ 3 ∷ 3 ∷ 6 ∷ [])
unfolding decimal_from
fractions = (refl, refl)

-- RFC 5424 section 6.2.3.1: Examples 1 and 2 are one instant
instants : map (λ t. (record_with "1" t).timestamp)
    (clock_at "1985" "04" "12" "23" "20" "50" (some (bytes "52")) Offset.utc ∷ clock_at "1985" "04" "12" "19" "20" "50" (some (bytes "52")) (Offset.west (bytes "04") (bytes "00")) ∷ [])
    ≡ Some (record { seconds = pos 482196050; nanos = 520000000; digits = 2; offset = pos 0 }) ∷ Some (record { seconds = pos 482196050; nanos = 520000000; digits = 2; offset = neg_ℤ (pos 240) }) ∷ []
unfolding record_of decimal_from seconds_of local_seconds day_number days_before_year days_of_months year_days month_days leap
instants = refl

-- a line of so many bytes, from 17 on
abbrev long : ℕ → List ℕ
long n = holding (bytes "- " ++ letters (n - 17))

abbrev long_division : Division
long_division = division "1" none "-" "-" "-" "-" [] (some (letters 8175))

-- 8,192 bytes are read, 8,193 are not
longest : StrictReads (long 8192) [] [] (Ok (record { reading = record_of long_division; elements = 0; params = 0 })) [] []
unfolding verdict
longest =
    accepted long_division (leb-true (length (long 8192)) 8192 refl) (derived (long 8192) (parse (long 8192)) (some long_division) refl refl)
    (leb-true 0 0 refl) (leb-true 0 0 refl) refl refl refl

too_long_line : StrictReads (long 8193) [] [] (Err LineTooLong) [] []
too_long_line = too_long (leb-true 8193 (length (long 8193)) refl) refl refl refl
