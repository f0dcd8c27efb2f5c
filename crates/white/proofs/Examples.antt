-- Worked examples: the white characters as their bytes in UTF-8, the code points beside them, and texts trimmed.
use Prim.Native.Nat.{ℕ}
use mathlib.Core.Path.{◌≡◌, refl}
use mathlib.Core.List.{List, [], ◌∷◌, ◌++◌, map}
use lib.ListN.{replicate}
use Rattle.base.specs.Bytes.{bytes}
use Rattle.utf8.specs.Lead.{lead_of, well_formed, char_len}
use Rattle.white.specs.White.{is_white, code_point, white_len}
use Rattle.white.specs.Trim.{field_len, white_from, text_end, trimmed}
use Rattle.white.specs.declared.Ends.{Ends}

-- U+0009-000D, 0020, 0085, 00A0, 1680, 2000-200A, 2028, 2029, 202F, 205F, 3000
abbrev whites : List (List ℕ)
whites =
    (0x09 ∷ []) ∷ (0x0A ∷ []) ∷ (0x0B ∷ []) ∷ (0x0C ∷ []) ∷ (0x0D ∷ []) ∷ (0x20 ∷ []) ∷ (0xC2 ∷ 0x85 ∷ []) ∷ (0xC2 ∷ 0xA0 ∷ []) ∷
    (0xE1 ∷ 0x9A ∷ 0x80 ∷ []) ∷ (0xE2 ∷ 0x80 ∷ 0x80 ∷ []) ∷ (0xE2 ∷ 0x80 ∷ 0x81 ∷ []) ∷ (0xE2 ∷ 0x80 ∷ 0x82 ∷ []) ∷ (0xE2 ∷ 0x80 ∷ 0x83 ∷ []) ∷
    (0xE2 ∷ 0x80 ∷ 0x84 ∷ []) ∷ (0xE2 ∷ 0x80 ∷ 0x85 ∷ []) ∷ (0xE2 ∷ 0x80 ∷ 0x86 ∷ []) ∷ (0xE2 ∷ 0x80 ∷ 0x87 ∷ []) ∷ (0xE2 ∷ 0x80 ∷ 0x88 ∷ []) ∷
    (0xE2 ∷ 0x80 ∷ 0x89 ∷ []) ∷ (0xE2 ∷ 0x80 ∷ 0x8A ∷ []) ∷ (0xE2 ∷ 0x80 ∷ 0xA8 ∷ []) ∷ (0xE2 ∷ 0x80 ∷ 0xA9 ∷ []) ∷ (0xE2 ∷ 0x80 ∷ 0xAF ∷ []) ∷
    (0xE2 ∷ 0x81 ∷ 0x9F ∷ []) ∷ (0xE3 ∷ 0x80 ∷ 0x80 ∷ []) ∷ []

white_points : map code_point whites ≡
    0x0009 ∷ 0x000A ∷ 0x000B ∷ 0x000C ∷ 0x000D ∷ 0x0020 ∷ 0x0085 ∷ 0x00A0 ∷ 0x1680 ∷ 0x2000 ∷ 0x2001 ∷ 0x2002 ∷ 0x2003 ∷ 0x2004 ∷ 0x2005 ∷ 0x2006 ∷
    0x2007 ∷ 0x2008 ∷ 0x2009 ∷ 0x200A ∷ 0x2028 ∷ 0x2029 ∷ 0x202F ∷ 0x205F ∷ 0x3000 ∷ []
unfolding code_point
white_points = refl

white_lengths : map white_len whites ≡ replicate 6 1 ++ replicate 2 2 ++ replicate 17 3
unfolding lead_of well_formed char_len is_white code_point white_len
white_lengths = refl

-- the code points just below and just above each range
abbrev neighbours : List (List ℕ)
neighbours =
    (0x08 ∷ []) ∷ (0x0E ∷ []) ∷ (0x1F ∷ []) ∷ (0x21 ∷ []) ∷ (0xC2 ∷ 0x84 ∷ []) ∷ (0xC2 ∷ 0x86 ∷ []) ∷ (0xC2 ∷ 0x9F ∷ []) ∷ (0xC2 ∷ 0xA1 ∷ []) ∷
    (0xE1 ∷ 0x99 ∷ 0xBF ∷ []) ∷ (0xE1 ∷ 0x9A ∷ 0x81 ∷ []) ∷ (0xE1 ∷ 0xBF ∷ 0xBF ∷ []) ∷ (0xE2 ∷ 0x80 ∷ 0x8B ∷ []) ∷ (0xE2 ∷ 0x80 ∷ 0xA7 ∷ []) ∷
    (0xE2 ∷ 0x80 ∷ 0xAA ∷ []) ∷ (0xE2 ∷ 0x80 ∷ 0xAE ∷ []) ∷ (0xE2 ∷ 0x80 ∷ 0xB0 ∷ []) ∷ (0xE2 ∷ 0x81 ∷ 0x9E ∷ []) ∷ (0xE2 ∷ 0x81 ∷ 0xA0 ∷ []) ∷
    (0xE2 ∷ 0xBF ∷ 0xBF ∷ []) ∷ (0xE3 ∷ 0x80 ∷ 0x81 ∷ []) ∷ []

neighbour_points : map code_point neighbours ≡
    0x0008 ∷ 0x000E ∷ 0x001F ∷ 0x0021 ∷ 0x0084 ∷ 0x0086 ∷ 0x009F ∷ 0x00A1 ∷ 0x167F ∷ 0x1681 ∷ 0x1FFF ∷ 0x200B ∷ 0x2027 ∷ 0x202A ∷ 0x202E ∷ 0x2030 ∷
    0x205E ∷ 0x2060 ∷ 0x2FFF ∷ 0x3001 ∷ []
unfolding code_point
neighbour_points = refl

neighbours_not_white : map white_len neighbours ≡ replicate 20 0
unfolding lead_of well_formed char_len is_white code_point white_len
neighbours_not_white = refl

-- U+0085 and U+00A0 without their lead byte, U+2000 cut short, U+0020 in two bytes and U+0085 in three
no_characters : map white_len ((0x85 ∷ []) ∷ (0xA0 ∷ []) ∷ (0xE2 ∷ 0x80 ∷ []) ∷ (0xC0 ∷ 0xA0 ∷ []) ∷ (0xE0 ∷ 0x82 ∷ 0x85 ∷ []) ∷ []) ≡ replicate 5 0
unfolding lead_of well_formed char_len is_white code_point white_len
no_characters = refl

-- after the field a tab, U+00A0, U+2028, nothing; U+0145, whose last byte is 0x85, is no white character
fields : map field_len (
    bytes "ab\tc"
    ∷ (0x61 ∷ 0xC2 ∷ 0xA0 ∷ [])
    ∷ (0x61 ∷ 0xE2 ∷ 0x80 ∷ 0xA8 ∷ 0x62 ∷ [])
    ∷ bytes "abc"
    ∷ (0xC5 ∷ 0x85 ∷ 0x20 ∷ [])
    ∷ []
    ) ≡ 2 ∷ 1 ∷ 1 ∷ 3 ∷ 2 ∷ []
unfolding lead_of well_formed char_len is_white code_point white_len field_len
fields = refl

abbrev ends : ℕ → ℕ → Ends
ends a e = record { start = a; end = e }

-- nothing; white characters alone, of one, two and three bytes; no white character
trims_whole : map trimmed ([] ∷ bytes " \t " ∷ (0xE3 ∷ 0x80 ∷ 0x80 ∷ 0xC2 ∷ 0x85 ∷ 0x20 ∷ []) ∷ bytes "a b" ∷ [])
    ≡ ends 0 0 ∷ ends 0 0 ∷ ends 0 0 ∷ ends 0 3 ∷ []
unfolding lead_of well_formed char_len is_white code_point white_len white_from text_end trimmed
trims_whole = refl

-- U+3000 a b U+0085 U+2028; a blank, U+0145, a blank; a, U+2000 cut short
trims : map trimmed (
    (0xE3 ∷ 0x80 ∷ 0x80 ∷ 0x61 ∷ 0x20 ∷ 0x62 ∷ 0xC2 ∷ 0x85 ∷ 0xE2 ∷ 0x80 ∷ 0xA8 ∷ [])
    ∷ (0x20 ∷ 0xC5 ∷ 0x85 ∷ 0x20 ∷ [])
    ∷ (0x61 ∷ 0xE2 ∷ 0x80 ∷ [])
    ∷ []
    ) ≡ ends 3 6 ∷ ends 1 3 ∷ ends 0 3 ∷ []
unfolding lead_of well_formed char_len is_white code_point white_len white_from text_end trimmed
trims = refl

-- the least and the greatest code point of one, two, three and four bytes
points : map code_point
    ((0x00 ∷ []) ∷ (0x7F ∷ []) ∷ (0xC2 ∷ 0x80 ∷ []) ∷ (0xDF ∷ 0xBF ∷ []) ∷ (0xE0 ∷ 0xA0 ∷ 0x80 ∷ []) ∷ (0xEF ∷ 0xBF ∷ 0xBF ∷ []) ∷ (0xF0 ∷ 0x90 ∷ 0x80 ∷ 0x80 ∷ []) ∷ (0xF4 ∷ 0x8F ∷ 0xBF ∷ 0xBF ∷ []) ∷ [])
    ≡ 0x00 ∷ 0x7F ∷ 0x80 ∷ 0x7FF ∷ 0x800 ∷ 0xFFFF ∷ 0x10000 ∷ 0x10FFFF ∷ []
unfolding code_point
points = refl
