-- Worked examples, computed from the definitions.
use Rattle.std.specs.Prelude.{Option, Some, None}
use Prim.Native.Nat.{ℕ}
use mathlib.Core.Path.{◌≡◌, refl}
use mathlib.Core.List.{List, [], ◌∷◌, map}
use lib.IntN.{ℤ, pos, negsuc}
use Rattle.base.specs.Bytes.{bytes}
use Rattle.record.specs.Records.{message_alone}
use Rattle.record.specs.declared.Protocol.{Protocol}
use Rattle.record.specs.declared.Protocol.TheVariants.{Rfc3164, Rfc5424}
use Rattle.lookup.specs.Unescape.{unescaped_from}
use Rattle.differ.specs.declared.Differences.{Differences}
use Rattle.differ.specs.Seen.{Text, Time, Seen, time_of, seen_of}
use Rattle.differ.specs.Seen.Text.{missing, given}
use Rattle.differ.specs.Differences.{occurs, before, differences_of}

abbrev answer : ℕ → ℕ → ℕ → ℕ → Differences
answer fields position line entry = record { fields = fields; position = position; pair_line = line; pair_entry = entry }

-- ---- elements: a line, the rows of its elements and of its parameters

abbrev data_of : List ℕ → List (List ℕ) → List (List ℕ) → Seen
data_of line elements params = seen_of line (message_alone 0) elements params

-- `[x a="1" a="1"]` and `[x a="1"]`
abbrev twice : Seen
twice = data_of (bytes "[x a=\"1\" a=\"1\"]") ((1 ∷ 1 ∷ []) ∷ []) ((0 ∷ 3 ∷ 1 ∷ 6 ∷ 1 ∷ []) ∷ (0 ∷ 9 ∷ 1 ∷ 12 ∷ 1 ∷ []) ∷ [])

abbrev once : Seen
once = data_of (bytes "[x a=\"1\"]") ((1 ∷ 1 ∷ []) ∷ []) ((0 ∷ 3 ∷ 1 ∷ 6 ∷ 1 ∷ []) ∷ [])

-- `[x a="\]"]` and `[x a="]"]`
abbrev escaped : Seen
escaped = data_of (bytes "[x a=\"\\]\"]") ((1 ∷ 1 ∷ []) ∷ []) ((0 ∷ 3 ∷ 1 ∷ 6 ∷ 2 ∷ []) ∷ [])

abbrev bare : Seen
bare = data_of (bytes "[x a=\"]\"]") ((1 ∷ 1 ∷ []) ∷ []) ((0 ∷ 3 ∷ 1 ∷ 6 ∷ 1 ∷ []) ∷ [])

-- `[x a="1"][y]` and `[y][x a="1"]`
abbrev x_then_y : Seen
x_then_y = data_of (bytes "[x a=\"1\"][y]") ((1 ∷ 1 ∷ []) ∷ (10 ∷ 1 ∷ []) ∷ []) ((0 ∷ 3 ∷ 1 ∷ 6 ∷ 1 ∷ []) ∷ [])

abbrev y_then_x : Seen
y_then_x = data_of (bytes "[y][x a=\"1\"]") ((1 ∷ 1 ∷ []) ∷ (4 ∷ 1 ∷ []) ∷ []) ((1 ∷ 6 ∷ 1 ∷ 9 ∷ 1 ∷ []) ∷ [])

-- `[x a="1" b="2"]`, and the same in the other order
abbrev a_then_b : Seen
a_then_b = data_of (bytes "[x a=\"1\" b=\"2\"]") ((1 ∷ 1 ∷ []) ∷ []) ((0 ∷ 3 ∷ 1 ∷ 6 ∷ 1 ∷ []) ∷ (0 ∷ 9 ∷ 1 ∷ 12 ∷ 1 ∷ []) ∷ [])

abbrev b_then_a : Seen
b_then_a = data_of (bytes "[x b=\"2\" a=\"1\"]") ((1 ∷ 1 ∷ []) ∷ []) ((0 ∷ 3 ∷ 1 ∷ 6 ∷ 1 ∷ []) ∷ (0 ∷ 9 ∷ 1 ∷ 12 ∷ 1 ∷ []) ∷ [])

-- `[x b="1"]`; and `[x][y]`, `[x][z]`, `[x][y a="1"]`
abbrev renamed : Seen
renamed = data_of (bytes "[x b=\"1\"]") ((1 ∷ 1 ∷ []) ∷ []) ((0 ∷ 3 ∷ 1 ∷ 6 ∷ 1 ∷ []) ∷ [])

abbrev x_and_y : Seen
x_and_y = data_of (bytes "[x][y]") ((1 ∷ 1 ∷ []) ∷ (4 ∷ 1 ∷ []) ∷ []) []

abbrev x_and_z : Seen
x_and_z = data_of (bytes "[x][z]") ((1 ∷ 1 ∷ []) ∷ (4 ∷ 1 ∷ []) ∷ []) []

abbrev x_and_more : Seen
x_and_more = data_of (bytes "[x][y a=\"1\"]") ((1 ∷ 1 ∷ []) ∷ (4 ∷ 1 ∷ []) ∷ []) ((1 ∷ 6 ∷ 1 ∷ 9 ∷ 1 ∷ []) ∷ [])

-- Repeats are counted, and the first line's pair comes first; escapes are of no account; elements match by position; order is of no account; a longer list differs; the second
-- line's pair where the first has none; another value, another name, another id, and a pair of the second element.
elements_compared : differences_of twice once
    ∷ differences_of once twice
    ∷ differences_of escaped bare
    ∷ differences_of x_then_y y_then_x
    ∷ differences_of a_then_b b_then_a
    ∷ differences_of once x_then_y
    ∷ differences_of x_then_y once
    ∷ differences_of once a_then_b
    ∷ differences_of a_then_b once
    ∷ differences_of once bare
    ∷ differences_of once renamed
    ∷ differences_of x_and_y x_and_z
    ∷ differences_of x_and_y x_and_more
    ∷ []
    ≡ answer 256 0 1 0
    ∷ answer 256 0 1 0
    ∷ answer 0 0 0 0
    ∷ answer 256 0 0 0
    ∷ answer 0 0 0 0
    ∷ answer 256 1 0 0
    ∷ answer 256 1 0 0
    ∷ answer 256 0 2 1
    ∷ answer 256 0 1 1
    ∷ answer 256 0 1 0
    ∷ answer 256 0 1 0
    ∷ answer 256 1 0 0
    ∷ answer 256 1 2 0
    ∷ []
unfolding occurs before unescaped_from
elements_compared = refl

-- ---- the other fields: each alone, in order

abbrev seen : Protocol → Option ℕ → Option ℕ → Time → Text → Text → Text → Text → List ℕ → Seen
seen protocol facility severity time host app procid msgid message =
    record { protocol = protocol; facility = facility; severity = severity; time = time; host = host; app = app; procid = procid; msgid = msgid; ids = []; pairs = []; message = message }

abbrev at : ℤ → ℕ → ℕ → ℤ → Time
at seconds nanos digits offset = time_of (Some (record { seconds = seconds; nanos = nanos; digits = digits; offset = offset }))

abbrev plain : Seen
plain = seen (Rfc5424 1) (Some 3) (Some 4) (at (negsuc 4) 500000000 1 (pos 60)) (given (bytes "h")) (given (bytes "a")) missing (given []) (bytes "m")

-- Another version, and the other protocol; a facility; a severity that is absent; the instant by a second, by a nanosecond; the offset; texts; absent and empty; the message.
fields_compared : map (λ (b : Seen). differences_of plain b)
    (seen (Rfc5424 2) (Some 3) (Some 4) (at (negsuc 4) 500000000 1 (pos 60)) (given (bytes "h")) (given (bytes "a")) missing (given []) (bytes "m")
    ∷ seen Rfc3164 (Some 3) (Some 4) (at (negsuc 4) 500000000 1 (pos 60)) (given (bytes "h")) (given (bytes "a")) missing (given []) (bytes "m")
    ∷ seen (Rfc5424 1) (Some 4) (Some 4) (at (negsuc 4) 500000000 1 (pos 60)) (given (bytes "h")) (given (bytes "a")) missing (given []) (bytes "m")
    ∷ seen (Rfc5424 1) (Some 3) None (at (negsuc 4) 500000000 1 (pos 60)) (given (bytes "h")) (given (bytes "a")) missing (given []) (bytes "m")
    ∷ seen (Rfc5424 1) (Some 3) (Some 4) (at (pos 4) 500000000 1 (pos 60)) (given (bytes "h")) (given (bytes "a")) missing (given []) (bytes "m")
    ∷ seen (Rfc5424 1) (Some 3) (Some 4) (at (negsuc 4) 500000001 9 (pos 60)) (given (bytes "h")) (given (bytes "a")) missing (given []) (bytes "m")
    ∷ seen (Rfc5424 1) (Some 3) (Some 4) (at (negsuc 4) 500000000 1 (pos 0)) (given (bytes "h")) (given (bytes "a")) missing (given []) (bytes "m")
    ∷ seen (Rfc5424 1) (Some 3) (Some 4) (at (negsuc 4) 500000000 1 (pos 60)) (given (bytes "H")) (given (bytes "a")) missing (given []) (bytes "m")
    ∷ seen (Rfc5424 1) (Some 3) (Some 4) (at (negsuc 4) 500000000 1 (pos 60)) (given (bytes "h")) (given (bytes "ab")) missing (given []) (bytes "m")
    ∷ seen (Rfc5424 1) (Some 3) (Some 4) (at (negsuc 4) 500000000 1 (pos 60)) (given (bytes "h")) (given (bytes "a")) (given []) (given []) (bytes "m")
    ∷ seen (Rfc5424 1) (Some 3) (Some 4) (at (negsuc 4) 500000000 1 (pos 60)) (given (bytes "h")) (given (bytes "a")) missing missing (bytes "m")
    ∷ seen (Rfc5424 1) (Some 3) (Some 4) (at (negsuc 4) 500000000 1 (pos 60)) (given (bytes "h")) (given (bytes "a")) missing (given []) []
    -- the digit count is none of it
    ∷ seen (Rfc5424 1) (Some 3) (Some 4) (at (negsuc 4) 500000000 6 (pos 60)) (given (bytes "h")) (given (bytes "a")) missing (given []) (bytes "m")
    -- all but the elements
    ∷ seen Rfc3164 None None Time.untimed missing missing (given (bytes "1")) missing (bytes "n")
    ∷ [])
    ≡ map (λ (n : ℕ). answer n 0 0 0) (1 ∷ 1 ∷ 2 ∷ 4 ∷ 8 ∷ 8 ∷ 8 ∷ 16 ∷ 32 ∷ 64 ∷ 128 ∷ 512 ∷ 0 ∷ 767 ∷ [])
unfolding occurs before
fields_compared = refl
