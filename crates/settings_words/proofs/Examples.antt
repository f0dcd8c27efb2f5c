-- Worked examples, computed from the definitions.
use Prim.Native.Nat.{ℕ}
use mathlib.Core.Path.{◌≡◌, refl}
use mathlib.Core.List.{[], ◌∷◌, map}
use lib.IntN.{ℤ, pos, negsuc}
use Rattle.base.specs.Bytes.{bytes}
use Rattle.digits.specs.Digits.{number_at, decimal_from}
use Rattle.base.specs.Runs.{run}
use Rattle.settings_words.specs.declared.Words.{Words}
use Rattle.settings_words.specs.declared.Field.TheVariants as field
use Rattle.settings_words.specs.Words.{no_number, number_of, sign_len, minutes_of, offset_of, first_bad}

-- numbers, and words that are none
numbers : map number_of (map bytes ("0" ∷ "7" ∷ "0065535" ∷ "4294967295" ∷ "0000000007" ∷ []))
    ≡ 0 ∷ 7 ∷ 65535 ∷ 4294967295 ∷ 7 ∷ []
unfolding number_of number_at decimal_from run
numbers = refl

no_word : number_of [] ≡ 4294967295
unfolding number_of number_at decimal_from run
no_word = refl

no_numbers : map number_of (map bytes ("" ∷ "-1" ∷ "7x" ∷ " 7" ∷ "4294967296" ∷ "00000000007" ∷ []))
    ≡ no_number ∷ no_number ∷ no_number ∷ no_number ∷ no_number ∷ no_number ∷ []
unfolding number_of number_at decimal_from run
no_numbers = refl

-- offsets at their limits and past them, and words that are none
offsets : map offset_of (map bytes ("0" ∷ "60" ∷ "+60" ∷ "-300" ∷ "1439" ∷ "-1439" ∷ "-0" ∷ []))
    ≡ pos 0 ∷ pos 60 ∷ pos 60 ∷ negsuc 299 ∷ pos 1439 ∷ negsuc 1438 ∷ pos 0 ∷ []
unfolding offset_of minutes_of sign_len number_of number_at decimal_from run
offsets = refl

no_offsets : map offset_of (map bytes ("1440" ∷ "-1440" ∷ "" ∷ "-" ∷ "--1" ∷ "+-1" ∷ "99999" ∷ []))
    ≡ pos 1440 ∷ negsuc 1439 ∷ pos 1440 ∷ negsuc 1439 ∷ negsuc 1439 ∷ pos 1440 ∷ pos 1440 ∷ []
unfolding offset_of minutes_of sign_len number_of number_at decimal_from run
no_offsets = refl

-- each limit from both sides; what is good but for the host is the host
words : ℕ → ℕ → ℕ → ℤ → ℕ → Words
words version gate year offset variant = record { version = version; gate = gate; year = year; offset = offset; variant = variant }

in_range_lem : map first_bad (words 1 65535 9999 (pos 1439) 0 ∷ words 2 0 0 (negsuc 1438) 2 ∷ []) ≡ field.Host ∷ field.Host ∷ []
unfolding words first_bad
in_range_lem = refl

out_of_range : map first_bad (words 0 0 0 (pos 0) 0 ∷ words 3 65536 0 (pos 0) 0 ∷ words 2 65536 10000 (pos 0) 0 ∷ words 2 7 10000 (pos 1440) 0
    ∷ words 2 7 0 (pos 1440) 3 ∷ words 2 7 0 (negsuc 1439) 0 ∷ words 2 7 0 (pos 0) 3 ∷ words 1 7 0 (pos 0) 1 ∷ [])
    ≡ field.Version ∷ field.Version ∷ field.Gate ∷ field.Year ∷ field.Offset ∷ field.Offset ∷ field.Variant ∷ field.Variant ∷ []
unfolding words first_bad
out_of_range = refl
