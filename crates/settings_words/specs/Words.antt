-- Which record of a file counts, what a word writes, and which word is wrong.
use Rattle.std.specs.Prelude.{ℕ, ◌≡◌, Bool, true, not, List, eqb, ltb, ℤ, length, drop, if◌then◌else◌, Option, Some, None}
use Rattle.std.proofs.Math.IntN.{sub_ℕ}
use Rattle.base.specs.Choose.{is_at}
use Rattle.calendar.specs.Calendar.{last_year, valid_offset}
use Rattle.digits.specs.Digits.{number_at}
use Rattle.settings.specs.Record.{last_version, is_version}
use Rattle.settings.specs.File.{NoneOf}
use Rattle.settings_words.specs.declared.Field.{Field}
use Rattle.settings_words.specs.declared.Field.TheVariants as field
use Rattle.settings_words.specs.declared.Words.{Words}

-- a record counts exactly where no record of its gate stands in what is behind it
pub record Last (gate : ℕ) (rest : List ℕ) (r : Bool) : Type 0 where
  pub counts : r ≡ true → NoneOf gate rest
  pub alone : NoneOf gate rest → r ≡ true

-- what a word is that writes no number: out of every range
abbrev pub no_number : ℕ
no_number = 4294967295

-- a number that all of a word writes
abbrev pub whole : ℕ → Option (ℕ × ℕ) → ℕ
whole len None = no_number
whole len (Some x) = if ltb x.1 len then no_number else x.0

-- the number that a word of at most ten digits writes
unfoldable pub number_of : List ℕ → ℕ
number_of s = if ltb 10 (length s) then no_number else whole (length s) (number_at no_number s)

-- how many bytes of a word are a sign
unfoldable pub sign_len : List ℕ → ℕ
sign_len s = if is_at s 0 45 then 1 else if is_at s 0 43 then 1 else 0

-- what minutes are that a word does not write: out of range
abbrev pub no_offset : ℕ
no_offset = 1440

-- the minutes behind the sign
unfoldable pub minutes_of : List ℕ → ℕ
minutes_of s = if ltb no_offset (number_of (drop (sign_len s) s)) then no_offset else number_of (drop (sign_len s) s)

-- with the sign: `-` is west
unfoldable pub offset_of : List ℕ → ℤ
offset_of s = if is_at s 0 45 then sub_ℕ 0 (minutes_of s) else sub_ℕ (minutes_of s) 0

-- the greatest variant of a version
abbrev pub last_variant : ℕ → ℕ
last_variant version = if eqb version 1 then 0 else 2

-- the first word that is out of its range; the host where no other is
unfoldable pub first_bad : Words → Field
first_bad w =
    if not (is_version last_version w.version) then field.Version
    else if ltb 65535 w.gate then field.Gate
    else if ltb last_year w.year then field.Year
    else if not (valid_offset w.offset) then field.Offset
    else if ltb (last_variant w.version) w.variant then field.Variant
    else field.Host
