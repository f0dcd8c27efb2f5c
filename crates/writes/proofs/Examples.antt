-- Worked examples, computed from the definitions: fields and the lines that are written of them, and what is refused.
use Rattle.std.specs.Prelude as std
use Rattle.std.specs.Prelude.{Some, None, Result, Ok, Err}
use Prim.Native.Nat.{ℕ}
use mathlib.Core.Path.{◌≡◌, refl}
use mathlib.Core.Bool.{true, false}
use mathlib.Core.List.{List, [], ◌∷◌, map}
use mathlib.Core.Option.{Option, none, some}
use native.Mathlib.Omega.{arith}
use lib.IntN.{ℤ, pos, negsuc}
use lib.ListN.{replicate}
use Rattle.base.specs.Bytes.{bytes}
use Rattle.base.specs.Runs.{run}
use Rattle.utf8.specs.Lead.{lead_of, utf8_from}
use Rattle.calendar.specs.Calendar.{leap, month_days, year_days, days_before_year, days_of_months}
use Rattle.calendar.specs.Instant.{span_from, year_of, month_of, clock_of, shown}
use Rattle.record.specs.declared.Refusal.TheVariants.{Unsuitable, Unwritable, LineTooLong, OutputShort}
use Rattle.digits.specs.Digits.{decimal_from}
use Rattle.output.specs.Numerals.{fixed, width_from}
use Rattle.lookup.specs.Unescape.{unescaped_from}
use Rattle.grammar.specs.Line.{Offset}
use Rattle.grammar.specs.Reading.{record_of}
use Rattle.suits.specs.Suits.{record_suits, elements_suit, params_suit, tables_suit, suits}
use Rattle.writes.specs.declared.Part.{Part}
use Rattle.writes.specs.declared.Handed.{Handed}
use Rattle.writes.specs.Fields.{Fields}
use Rattle.writes.specs.Written.{escape, division_of, written, OwnOffset, OwnValue}
use Rattle.writes.specs.Written.OwnValue.{nothing, plain, pair as marked}
use Rattle.writes.specs.Says.{fields_of}
use Rattle.claims.specs.Claims.{claim_of}
use Rattle.writes.specs.Told.{told_fields}
use Rattle.writes.specs.Fits.{fields_fit}
use Rattle.writes.specs.Writes.{place_in, fields_in, answered}
use Rattle.record.specs.declared.Timestamp.{Timestamp}
use Rattle.record.specs.declared.Refusal.{Refusal}

abbrev stamp : ℤ → ℕ → ℕ → ℤ → std.Option Timestamp
stamp s n d o = Some (record { seconds = s; nanos = n; digits = d; offset = o })

abbrev tap : std.Option Timestamp → List ℕ → Option (List ℕ) → Fields
tap t value m =
    record {
      priority = 34;
      version = 1;
      timestamp = t;
      host = some (bytes "gate7");
      app = some (bytes "reader");
      procid = none;
      msgid = some (bytes "TAP");
      elements = record { id = bytes "t@32473"; params = record { name = bytes "ms"; value = value } ∷ [] } ∷ [];
      message = m;
    }

-- an absent and an empty message, NUL in a value, the digits of the count, an offset of 0, one and almost two hours east, one hour and the most west
lines : map written
    (tap None (bytes "212") (some (bytes "ok"))
    ∷ tap None (bytes "a\"b\\c]d\\n") none
    ∷ tap None (65 ∷ 0 ∷ 66 ∷ []) none
    ∷ tap (stamp (pos 1675587662) 500000000 6 (pos 60)) [] (some [])
    ∷ tap (stamp (pos 0) 0 1 (pos 0)) [] none
    ∷ tap (stamp (pos 0) 0 0 (pos 119)) [] none
    ∷ tap (stamp (pos 0) 0 0 (negsuc 59)) [] none
    ∷ tap (stamp (negsuc 0) 0 0 (negsuc 1438)) [] none
    ∷ [])
    ≡ bytes "<34>1 - gate7 reader - TAP [t@32473 ms=\"212\"] ok"
    ∷ bytes "<34>1 - gate7 reader - TAP [t@32473 ms=\"a\\\"b\\\\c\\]d\\\\n\"]"
    ∷ bytes "<34>1 - gate7 reader - TAP [t@32473 ms=\"A\0B\"]"
    ∷ bytes "<34>1 2023-02-05T10:01:02.500000+01:00 gate7 reader - TAP [t@32473 ms=\"\"] "
    ∷ bytes "<34>1 1970-01-01T00:00:00.0+00:00 gate7 reader - TAP [t@32473 ms=\"\"]"
    ∷ bytes "<34>1 1970-01-01T01:59:00+01:59 gate7 reader - TAP [t@32473 ms=\"\"]"
    ∷ bytes "<34>1 1969-12-31T23:00:00-01:00 gate7 reader - TAP [t@32473 ms=\"\"]"
    ∷ bytes "<34>1 1969-12-31T00:00:59-23:59 gate7 reader - TAP [t@32473 ms=\"\"]"
    ∷ []
unfolding escape division_of fixed width_from leap month_days year_days days_before_year days_of_months span_from year_of month_of clock_of shown
lines = refl

-- two elements, three parameters, texts absent and given: what the line's division says, and what record and rows tell
abbrev pair : Fields
pair =
    record {
      priority = 165;
      version = 12;
      timestamp = None;
      host = none;
      app = some (bytes "a");
      procid = some (bytes "-7");
      msgid = none;
      elements =
          record { id = bytes "x"; params = record { name = bytes "k"; value = bytes "v\"" } ∷ record { name = bytes "k"; value = [] } ∷ [] }
          ∷ record { id = bytes "y@1"; params = record { name = bytes "q"; value = bytes "\\n" } ∷ [] }
          ∷ [];
      message = some (bytes "on");
    }

told : fields_of (division_of pair) ∷ told_fields (written pair) (claim_of (division_of pair)) ∷ [] ≡ pair ∷ pair ∷ []
unfolding fields_of told_fields claim_of record_of escape unescaped_from division_of decimal_from fixed width_from
told = refl

-- ---- the writer's own form: a backslash before what needs one alone, and `-00:00` is not of it

own_value : OwnValue (65 ∷ 92 ∷ 93 ∷ [])
own_value = plain refl (marked refl nothing)

own_west : OwnOffset (Offset.west (bytes "00") (bytes "01"))
unfolding decimal_from
own_west e = omega (arith, e)

not_own : OwnOffset (Offset.west (bytes "00") (bytes "00")) → ⊥
unfolding decimal_from
not_own f = f refl

-- ---- what breaks the grammar: on each side of each limit

abbrev bare : ℕ → ℕ → std.Option Timestamp → Fields
bare p v t = record { priority = p; version = v; timestamp = t; host = none; app = none; procid = none; msgid = none; elements = []; message = none }

numbers : map fields_fit
    (bare 191 1 None
    ∷ bare 192 1 None
    ∷ bare 0 0 None
    ∷ bare 0 999 None
    ∷ bare 0 1000 None
    ∷ bare 0 1 (stamp (pos 0) 0 6 (pos 0))
    ∷ bare 0 1 (stamp (pos 0) 0 7 (pos 0))
    ∷ [])
    ≡ true ∷ false ∷ false ∷ true ∷ false ∷ true ∷ false ∷ []
unfolding fields_fit
numbers = refl

abbrev named : Option (List ℕ) → Option (List ℕ) → Option (List ℕ) → Option (List ℕ) → Fields
named h a p m = record { priority = 0; version = 1; timestamp = None; host = h; app = a; procid = p; msgid = m; elements = []; message = none }

texts : map fields_fit
    (named (some (replicate 255 33)) (some (replicate 48 126)) (some (replicate 128 33)) (some (replicate 32 126))
    ∷ named (some (replicate 256 33)) none none none
    ∷ named none (some (replicate 49 33)) none none
    ∷ named none none (some (replicate 129 33)) none
    ∷ named none none none (some (replicate 33 33))
    ∷ named (some (bytes "-")) none none none
    ∷ named (some (bytes "--")) none none none
    ∷ named (some []) none none none
    ∷ named (some (32 ∷ [])) none none none
    ∷ named (some (127 ∷ [])) none none none
    ∷ [])
    ≡ true ∷ false ∷ false ∷ false ∷ false ∷ false ∷ true ∷ false ∷ false ∷ false ∷ []
unfolding fields_fit run
texts = refl

abbrev given : List (List ℕ) → List ℕ → List ℕ → Option (List ℕ) → Fields
given ids name value m =
    record {
      priority = 0;
      version = 1;
      timestamp = None;
      host = none;
      app = none;
      procid = none;
      msgid = none;
      elements = map (λ (id : List ℕ). record { id = id; params = record { name = name; value = value } ∷ record { name = name; value = value } ∷ [] }) ids;
      message = m;
    }

-- ids and names; values; messages after EF BB BF
data_of : map fields_fit
    (given (replicate 32 98 ∷ bytes "A" ∷ []) (replicate 32 97) (0 ∷ 0xC3 ∷ 0xA4 ∷ []) (some (0xFF ∷ []))
    ∷ given (bytes "a" ∷ bytes "a" ∷ []) (bytes "b") [] none
    ∷ given (replicate 33 97 ∷ []) (bytes "b") [] none
    ∷ given ([] ∷ []) (bytes "b") [] none
    ∷ given (bytes "a" ∷ []) (replicate 33 97) [] none
    ∷ given (bytes "a" ∷ []) [] [] none
    ∷ given (bytes "a" ∷ []) (bytes "b=") [] none
    ∷ given (bytes "a]" ∷ []) (bytes "b") [] none
    ∷ given (bytes "a\"" ∷ []) (bytes "b") [] none
    ∷ given (bytes "a" ∷ []) (bytes "b") (0xC3 ∷ []) none
    ∷ given [] [] [] (some (0xEF ∷ 0xBB ∷ 0xBF ∷ 0xFF ∷ []))
    ∷ given [] [] [] (some (0xEF ∷ 0xBB ∷ 0xBF ∷ 0x41 ∷ []))
    ∷ [])
    ≡ true ∷ false ∷ false ∷ false ∷ false ∷ false ∷ false ∷ false ∷ false ∷ false ∷ false ∷ true ∷ []
unfolding fields_fit run lead_of utf8_from
data_of = refl

-- ---- the answer: 7, 17, 1, 8 in that order, or the length

abbrev part : ℕ → ℕ → ℕ → Part
part m s n = record { present = m; start = s; len = n }

abbrev handed : ℕ → Part → Part → ℕ → Handed
handed v host message digits =
    record {
      priority = 5;
      version = v;
      seconds = pos 0;
      stamped = 1;
      nanos = 0;
      digits = digits;
      offset = pos 0;
      host = host;
      app = part 0 0 0;
      procid = part 0 0 0;
      msgid = part 0 0 0;
      message = message;
      element_count = 1;
      param_count = 1;
    }

-- any mark but 0 is a place that is there
marks : map (λ (mark : ℕ). (place_in (part mark 3 4)).present) (0 ∷ 1 ∷ 2 ∷ []) ≡ false ∷ true ∷ true ∷ []
marks = refl

-- over the text `ab`, with the element `a` and in it the parameter `b`, whose value is `ab`
abbrev answers : Handed → ℕ → ℕ → Result ℕ Refusal
answers h number room = answered (bytes "ab") h ((0 ∷ 1 ∷ []) ∷ []) ((number ∷ 1 ∷ 1 ∷ 0 ∷ 2 ∷ []) ∷ []) room

written_or_not :
    answers (handed 1 (part 1 0 2) (part 0 0 0) 0) 0 50
    ∷ answers (handed 1 (part 1 0 2) (part 2 2 0) 0) 0 51
    ∷ answers (handed 1 (part 1 0 2) (part 0 0 0) 0) 0 49
    ∷ answers (handed 0 (part 1 0 2) (part 0 0 0) 0) 0 0
    ∷ answers (handed 0 (part 1 0 3) (part 0 0 0) 0) 0 0
    ∷ answers (handed 1 (part 0 3 0) (part 0 0 0) 0) 0 51
    ∷ answers (handed 1 (part 1 0 2) (part 0 0 0) 0) 1 51
    ∷ answers (handed 1 (part 1 0 2) (part 0 0 0) 10) 0 51
    ∷ answers (handed 1 (part 1 0 2) (part 0 0 0) 7) 0 51
    ∷ []
    ≡ Ok 50
    ∷ Ok 51
    ∷ Err OutputShort
    ∷ Err Unwritable
    ∷ Err Unsuitable
    ∷ Err Unsuitable
    ∷ Err Unsuitable
    ∷ Err Unsuitable
    ∷ Err Unwritable
    ∷ []
unfolding answered fields_in fields_fit suits record_suits tables_suit elements_suit params_suit run lead_of utf8_from escape division_of fixed width_from leap month_days year_days days_before_year days_of_months span_from year_of month_of clock_of shown
written_or_not = refl

-- a message of 8,175 bytes makes a line of 8,192 bytes, and one byte more makes one that is too long
abbrev long : ℕ → Result ℕ Refusal
long n =
    answered (replicate 8176 97)
    (record {
      priority = 5;
      version = 1;
      seconds = pos 0;
      stamped = 0;
      nanos = 0;
      digits = 0;
      offset = pos 0;
      host = part 0 0 0;
      app = part 0 0 0;
      procid = part 0 0 0;
      msgid = part 0 0 0;
      message = part 1 0 n;
      element_count = 0;
      param_count = 0;
    })
    [] [] 8192

limit : long 8175 ∷ long 8176 ∷ [] ≡ Ok 8192 ∷ Err LineTooLong ∷ []
unfolding answered fields_in fields_fit suits record_suits tables_suit elements_suit params_suit run lead_of utf8_from escape division_of fixed width_from
limit = refl
