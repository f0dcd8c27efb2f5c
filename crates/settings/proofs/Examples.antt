-- Worked examples, computed from the definitions: every number of a settings file from both sides.
use Rattle.std.specs.Prelude.{Ok, Err}
use Prim.Native.Nat.{ℕ}
use mathlib.Core.Path.{◌≡◌, refl, sym, ap, ◌∙◌}
use mathlib.Core.Bool.{true, false}
use mathlib.Core.List.{List, [], ◌∷◌, ◌++◌, map}
use native.Mathlib.Omega.{arith}
use lib.IntN.{ℤ, pos, negsuc}
use lib.ListN.{replicate}
use Rattle.base.specs.Bytes.{bytes}
use Rattle.base.specs.Runs.{run}
use Rattle.record.specs.declared.Refusal.TheVariants.{NotFound, BadLength, OutputShort, UnknownVersion, BadField}
use Rattle.settings.specs.Record.{Meaning, meant, last_version, is_version, is_variant, all_within, is_host, in_range, pair, bits, record_of}
use Rattle.settings.specs.File.{record_count, record_at, version_of, gate_of, Chosen, settings_of, Reads}
use Rattle.settings.specs.File.Reads.{bad_length, no_record, unknown_version, taken}
use Rattle.settings.specs.Writes.{writing}
use Rattle.settings.specs.Numbers.{settings_answer_of}

-- ---- ranges

versions : (map (is_version last_version) (0 ∷ 1 ∷ 2 ∷ 3 ∷ []) ≡ false ∷ true ∷ true ∷ false ∷ []) × (map (is_version 1) (0 ∷ 1 ∷ 2 ∷ []) ≡ false ∷ true ∷ false ∷ [])
versions = (refl, refl)

-- version 1 has variant 0 alone
variants : (map (is_variant 1) (0 ∷ 1 ∷ 2 ∷ []) ≡ true ∷ false ∷ false ∷ []) × (map (is_variant 2) (0 ∷ 1 ∷ 2 ∷ 3 ∷ []) ≡ true ∷ true ∷ true ∷ false ∷ [])
variants = (refl, refl)

-- 20 bytes and not 21, bytes 33 to 126; an empty host is one
hosts : (map (λ (n : ℕ). is_host (replicate n 97)) (0 ∷ 1 ∷ 19 ∷ 20 ∷ 21 ∷ []) ≡ true ∷ true ∷ true ∷ true ∷ false ∷ [])
    × (map (λ (b : ℕ). is_host (97 ∷ b ∷ 97 ∷ [])) (0 ∷ 32 ∷ 33 ∷ 126 ∷ 127 ∷ 255 ∷ []) ≡ false ∷ false ∷ true ∷ true ∷ false ∷ false ∷ [])
unfolding all_within run
hosts = (refl, refl)

-- a gate, a year, an offset, a variant and a host, each one past its range
abbrev one : ℕ → ℕ → ℤ → ℕ → List ℕ → Meaning
one gate year offset variant host = meant 2 gate year offset variant host

in_range_lem : map in_range (one 65535 9999 (pos 1439) 2 (bytes "gate7") ∷ one 0 0 (negsuc 1438) 0 [] ∷ one 65536 0 (pos 0) 0 [] ∷ one 0 10000 (pos 0) 0 [] ∷ one 0 0 (pos 1440) 0 []
    ∷ one 0 0 (negsuc 1439) 0 [] ∷ one 0 0 (pos 0) 3 [] ∷ one 0 0 (pos 0) 0 (bytes "gate 7") ∷ [])
    ≡ true ∷ true ∷ false ∷ false ∷ false ∷ false ∷ false ∷ false ∷ []
unfolding in_range all_within run
in_range_lem = refl

-- ---- records

-- 2023 is 7 * 256 + 231
abbrev first : Meaning
first = meant 1 7 2023 (pos 60) 0 (bytes "gate7")

first_record : record_of first ≡ 1 ∷ 5 ∷ 231 ∷ 7 ∷ 60 ∷ 0 ∷ 7 ∷ 0 ∷ 103 ∷ 97 ∷ 116 ∷ 101 ∷ 55 ∷ replicate 19 0
unfolding record_of
first_record = refl

-- gate 519 is 2 * 256 + 7, and -90 minutes are 65446, 255 * 256 + 166
abbrev second : Meaning
second = meant 2 519 9999 (negsuc 89) 2 (bytes "abcdefghijklmnopqrst")

second_record : record_of second ≡ (2 ∷ 20 ∷ 15 ∷ 39 ∷ 166 ∷ 255 ∷ 7 ∷ 2 ∷ bytes "abcdefghijklmnopqrst") ++ (2 ∷ 0 ∷ 0 ∷ 0 ∷ [])
unfolding record_of
second_record = refl

-- an empty host
third : record_of (meant 1 0 0 (pos 0) 0 []) ≡ 1 ∷ replicate 31 0
unfolding record_of
third = refl

-- the least and the greatest offset
offsets : map (λ (o : ℤ). pair (bits o)) (negsuc 1438 ∷ negsuc 0 ∷ pos 0 ∷ pos 1439 ∷ []) ≡ (97 ∷ 250 ∷ []) ∷ (255 ∷ 255 ∷ []) ∷ (0 ∷ 0 ∷ []) ∷ (159 ∷ 5 ∷ []) ∷ []
offsets = refl

-- ---- files

counts : map (λ (n : ℕ). record_count (replicate n 0)) (0 ∷ 31 ∷ 32 ∷ 63 ∷ 64 ∷ 95 ∷ 96 ∷ []) ≡ 0 ∷ 0 ∷ 1 ∷ 1 ∷ 2 ∷ 2 ∷ 3 ∷ []
counts = refl

-- by their places
fields : (version_of (9 ∷ 8 ∷ 7 ∷ []) ≡ 9) × (gate_of (0 ∷ 1 ∷ 2 ∷ 3 ∷ 4 ∷ 5 ∷ 6 ∷ 7 ∷ 8 ∷ []) ≡ 1798)
fields = (refl, refl)

-- a record of gate 8 that holds nothing that could be read
abbrev other : List ℕ
other = 255 ∷ 255 ∷ 255 ∷ 255 ∷ 255 ∷ 255 ∷ 8 ∷ 0 ∷ replicate 24 255

abbrev later : Meaning
later = meant 2 7 2024 (negsuc 59) 1 (bytes "g")

-- the last of gate 7 counts, whatever the records of gate 8 hold
abbrev some : List ℕ
some = record_of first ++ (other ++ (record_of later ++ other))

records : (record_at some 1 ≡ other) × (record_at some 2 ≡ record_of later)
unfolding record_of
records = (refl, refl)

chosen : Chosen 7 some 2
unfolding record_of
chosen =
    record {
      whole = refl;
      inside = omega arith;
      own = refl;
      last = λ k l m e.
          let z : k ≡ 3 = omega arith in
          let g : ◌≡◌ {A = ℕ} 8 7 = ap (λ (j : ℕ). gate_of (record_at some j)) (sym z) ∙ e in
          omega arith;
    }

read_some : Reads last_version some 7 (Ok (record { version = 2; gate = 7; year = 2024; offset = negsuc 59; variant = 1; host = record { start = 72; len = 1 } }))
unfolding record_of in_range all_within run
read_some = taken 2 later chosen refl (record { known = refl; in_range_lem = refl; bytes_are = refl }) refl

-- the reader of version 1 says that it does not know version 2
read_old : Reads 1 some 7 (Err UnknownVersion)
unfolding record_of
read_old = unknown_version 2 chosen refl refl

-- the empty file has no record, and 31 or 33 bytes are no whole ones
read_empty : (gate : ℕ) → Reads last_version [] gate (Err NotFound)
read_empty gate = no_record (record { whole = refl; none = λ i l e. omega arith }) refl

read_uneven : (gate : ℕ) → (Reads last_version (replicate 31 0) gate (Err BadLength)) × (Reads last_version (replicate 33 0) gate (Err BadLength))
read_uneven gate = (bad_length (λ h. omega arith) refl, bad_length (λ h. omega arith) refl)

-- ---- writing: 14, 15, 8 in this order

writes : map (writing first) (0 ∷ 31 ∷ 32 ∷ 33 ∷ []) ≡ Err OutputShort ∷ Err OutputShort ∷ Ok 32 ∷ Ok 32 ∷ []
unfolding writing in_range all_within run
writes = refl

writes_order : map (λ (m : Meaning). writing m 0) (meant 3 65536 0 (pos 0) 9 [] ∷ meant 0 0 0 (pos 0) 0 [] ∷ meant 1 0 0 (pos 0) 1 [] ∷ meant 2 0 0 (pos 0) 1 [] ∷ [])
    ≡ Err UnknownVersion ∷ Err UnknownVersion ∷ Err BadField ∷ Err OutputShort ∷ []
unfolding writing in_range all_within run
writes_order = refl

-- ---- in numbers

numbers : (settings_answer_of (Ok (settings_of later 72)) ≡ record { number = 0; version = 2; gate = 7; year = 2024; offset = negsuc 59; variant = 1; host_start = 72; host_len = 1 })
    × (settings_answer_of (Err BadField) ≡ record { number = 15; version = 0; gate = 0; year = 0; offset = pos 0; variant = 0; host_start = 0; host_len = 0 })
numbers = (refl, refl)
