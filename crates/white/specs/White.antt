-- Unicode's White_Space, and the white character at the front of a text.
use Rattle.std.specs.Prelude.{ℕ, ◌+◌, ◌*◌, ◌%◌, List, [], ◌∷◌, Bool, ◌||◌, eqb, take, if◌then◌else◌}
use Rattle.base.specs.Choose.{within}
use Rattle.utf8.specs.Lead.{char_len}

-- the property White_Space of a code point
unfoldable pub is_white : ℕ → Bool
is_white u =
    within 0x0009 0x000D u
    || eqb u 0x0020
    || eqb u 0x0085
    || eqb u 0x00A0
    || eqb u 0x1680
    || within 0x2000 0x200A u
    || eqb u 0x2028
    || eqb u 0x2029
    || eqb u 0x202F
    || eqb u 0x205F
    || eqb u 0x3000

-- the code point that the bytes of a character write (RFC 3629 section 3: the low bits of each, 7, 5, 4 or 3 of the first and 6 of the others)
unfoldable pub code_point : List ℕ → ℕ
code_point [] = 0
code_point (a ∷ []) = a
code_point (a ∷ b ∷ []) = a % 0x20 * 0x40 + b % 0x40
code_point (a ∷ b ∷ c ∷ []) = a % 0x10 * 0x1000 + b % 0x40 * 0x40 + c % 0x40
code_point (a ∷ b ∷ c ∷ d ∷ s) = a % 0x08 * 0x40000 + b % 0x40 * 0x1000 + c % 0x40 * 0x40 + d % 0x40

-- the length in bytes of the white character at the front of `s`, or 0 where none stands there
unfoldable pub white_len : List ℕ → ℕ
white_len s = if is_white (code_point (take (char_len s) s)) then char_len s else 0
