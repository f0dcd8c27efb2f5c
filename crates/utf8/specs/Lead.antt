-- What a lead byte asks for (RULES Strict 16); from it the character at the front of a text, and a text byte by byte.
use Rattle.std.specs.Prelude.{ℕ, zero, suc, ◌-◌, List, [], ◌∷◌, Bool, ◌&&◌, ◌||◌, leb, ltb, eqb, length, get_or, if◌then◌else◌}
use Rattle.base.specs.Choose.{within}
use Rattle.utf8.specs.Rfc3629.{is_tail}
use Rattle.utf8.specs.declared.Lead.{Lead}

abbrev pub asks : ℕ → ℕ → ℕ → Lead
asks n lo hi = record { len = n; low = lo; high = hi }

-- The length of the character that the byte begins, and the range of the byte after it. Length 0: it begins none.
unfoldable pub lead_of : ℕ → Lead
lead_of b =
    if within 0x00 0x7F b then asks 1 0 0
    else if within 0xC2 0xDF b then asks 2 0x80 0xBF
    else if eqb b 0xE0 then asks 3 0xA0 0xBF
    else if within 0xE1 0xEC b then asks 3 0x80 0xBF
    else if eqb b 0xED then asks 3 0x80 0x9F
    else if within 0xEE 0xEF b then asks 3 0x80 0xBF
    else if eqb b 0xF0 then asks 4 0x90 0xBF
    else if within 0xF1 0xF3 b then asks 4 0x80 0xBF
    else if eqb b 0xF4 then asks 4 0x80 0x8F
    else asks 0 0 0

-- whether the bytes after the lead byte are as it asks
unfoldable pub well_formed : Lead → List ℕ → Bool
well_formed l s =
    leb 1 l.len
    && (ltb l.len 2 || within l.low l.high (get_or s 1 0))
    && (ltb l.len 3 || is_tail (get_or s 2 0))
    && (ltb l.len 4 || is_tail (get_or s 3 0))

-- the length in bytes of the character at the front of `s`, or 0 where none stands there
unfoldable pub char_len : List ℕ → ℕ
char_len s =
    let l = lead_of (get_or s 0 0) in
    if leb l.len (length s) && well_formed l s then l.len else 0

-- by bytes: `more` bytes of a character are to come, the first of them from `lo` to `hi` and the others tails
unfoldable pub utf8_from : ℕ → ℕ → ℕ → List ℕ → Bool
utf8_from more lo hi [] = eqb more 0
utf8_from zero lo hi (b ∷ s) = leb 1 (lead_of b).len && utf8_from ((lead_of b).len - 1) (lead_of b).low (lead_of b).high s
utf8_from (suc k) lo hi (b ∷ s) = within lo hi b && utf8_from k 0x80 0xBF s

-- whether the text is UTF-8
abbrev pub is_utf8 : List ℕ → Bool
is_utf8 s = utf8_from 0 0x80 0xBF s
