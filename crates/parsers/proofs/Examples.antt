-- RULES Parsers as worked examples, computed from the definitions.
use Rattle.std.specs.Prelude.{Some, None}
use mathlib.Core.Path.{◌≡◌, refl}
use mathlib.Core.List.{[], ◌∷◌, ◌++◌, map}
use Rattle.base.specs.Bytes.{bytes}
use Rattle.base.specs.Runs.{run}
use Rattle.utf8.specs.Lead.{lead_of, well_formed, char_len}
use Rattle.utf8.specs.Characters.{char_run}
use Rattle.white.specs.White.{is_white, code_point, white_len}
use Rattle.white.specs.Trim.{field_len}
use Rattle.digits.specs.Digits.{decimal_from, number_at}
use Rattle.record.specs.Places.{absent, place}
use Rattle.parsers.specs.Parsers.{plain_at, host_at, tag_len, tag_at}
use Rattle.parsers.specs.Characters.{tag_of}
use Rattle.parsers.specs.Steps.{blanks_from, some_blanks_from, byte_from, colon_from, is_inside, number_from, plain_from, host_from, tag_from}
use Rattle.parsers.specs.declared.Text.TheVariants.{Fails, Absent, Given}

-- `:` alone fails; a host that ends in `:` gives the text before it and leaves the colon; `-` is absent
hosts : map host_at (bytes "" ∷ bytes " h" ∷ bytes ": m" ∷ bytes "h: m" ∷ bytes "-: m" ∷ bytes ":: m" ∷ bytes "- m" ∷ bytes "a:b m" ∷ [])
    ≡ Fails ∷ Fails ∷ Fails ∷ Given 1 1 ∷ Given 1 1 ∷ Given 1 1 ∷ Absent 1 ∷ Given 3 3 ∷ []
unfolding host_at field_len white_len is_white code_point char_len well_formed lead_of
hosts = refl

-- any other field keeps its colon
plains : map plain_at (bytes "" ∷ bytes " h" ∷ bytes ": m" ∷ bytes "h: m" ∷ bytes "-: m" ∷ bytes ":: m" ∷ bytes "- m" ∷ bytes "a:b m" ∷ [])
    ≡ Fails ∷ Fails ∷ Fails ∷ Given 2 2 ∷ Given 2 2 ∷ Given 2 2 ∷ Absent 1 ∷ Given 3 3 ∷ []
unfolding plain_at field_len white_len is_white code_point char_len well_formed lead_of
plains = refl

-- a tag stops at `:`
tags : map tag_at (bytes "" ∷ bytes " t" ∷ bytes ": m" ∷ bytes "t: m" ∷ bytes "-: m" ∷ bytes "a[1]:b m" ∷ bytes "- m" ∷ [])
    ≡ Fails ∷ Fails ∷ Fails ∷ Given 1 1 ∷ Absent 1 ∷ Given 4 4 ∷ Absent 1 ∷ []
unfolding tag_at tag_len white_len is_white code_point char_len well_formed lead_of
tags = refl

-- fields end at a tab, U+0085, U+00A0 and U+3000, and not at U+00E9 or U+200B
whites : map plain_at (bytes "ab\tc" ∷ (bytes "ab" ++ 0xC2 ∷ 0x85 ∷ bytes "c") ∷ (bytes "ab" ++ 0xC2 ∷ 0xA0 ∷ bytes "c") ∷ (bytes "ab" ++ 0xE3 ∷ 0x80 ∷ 0x80 ∷ bytes "c") ∷ (bytes "ab" ++ 0xC3 ∷ 0xA9 ∷ bytes "c") ∷ (bytes "ab" ++ 0xE2 ∷ 0x80 ∷ 0x8B ∷ bytes "c") ∷ [])
    ≡ Given 2 2 ∷ Given 2 2 ∷ Given 2 2 ∷ Given 2 2 ∷ Given 5 5 ∷ Given 6 6 ∷ []
unfolding plain_at field_len white_len is_white code_point char_len well_formed lead_of
whites = refl

-- each is read from the rest of the line, and its place is one of the line
placed : (host_from (bytes "x gate7: m") 2 ≡ Some (place 2 5, 7))
    × (tag_from (bytes "x gate7: m") 2 ≡ Some (place 2 5, 7))
    × (plain_from (bytes "x gate7: m") 2 ≡ Some (place 2 6, 8))
    × (plain_from (bytes "x - m") 2 ≡ Some (absent, 3))
    × (tag_from (bytes "x gate7: m") 7 ≡ None)
unfolding host_from tag_from plain_from host_at tag_at plain_at tag_len field_len white_len is_white code_point char_len well_formed lead_of
placed = (refl, refl, refl, refl, refl)

-- blanks are spaces and tabs
blanks : (map (blanks_from (bytes "a \t b")) (0 ∷ 1 ∷ 3 ∷ 5 ∷ []) ≡ 0 ∷ 4 ∷ 4 ∷ 5 ∷ [])
    × (map (some_blanks_from (bytes "a \t b")) (0 ∷ 1 ∷ 3 ∷ 5 ∷ []) ≡ None ∷ Some 4 ∷ Some 4 ∷ None ∷ [])
    × (map (λ b. byte_from (bytes "a:") 1 b) (58 ∷ 59 ∷ []) ≡ Some 2 ∷ None ∷ [])
unfolding some_blanks_from byte_from run
blanks = (refl, refl, refl)

-- digits of any count within 32 bits
numbers : map (λ t. number_from t 1) (bytes "x" ∷ bytes "x7 " ∷ bytes "x007:" ∷ bytes "x4294967295" ∷ bytes "x4294967296" ∷ bytes "x+7" ∷ [])
    ≡ None ∷ Some (7, 2) ∷ Some (7, 4) ∷ Some (4294967295, 11) ∷ None ∷ None ∷ []
unfolding number_from number_at decimal_from run
numbers = refl

-- by characters: é before a `:`; a before U+3000
tags_by_characters : map tag_of (((0xC3 ∷ 0xA9 ∷ []) ∷ (58 ∷ []) ∷ []) ∷ ((0x61 ∷ []) ∷ (0xE3 ∷ 0x80 ∷ 0x80 ∷ []) ∷ []) ∷ []) ≡ 2 ∷ 1 ∷ []
unfolding char_run is_white code_point
tags_by_characters = refl

-- a `:` is passed if it stands there, and no other byte
colons : map (λ t. colon_from t 1) (bytes "x:" ∷ bytes "x9" ∷ bytes "x;" ∷ bytes "x" ∷ []) ≡ 2 ∷ 1 ∷ 1 ∷ 1 ∷ []
colons = refl

-- a process id, and what is skipped, ends at `]`
insides : map (run is_inside) (map bytes ("]" ∷ "4[2\\^]" ∷ "42" ∷ [])) ≡ 0 ∷ 5 ∷ 2 ∷ []
unfolding run
insides = refl
