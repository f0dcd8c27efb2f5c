-- For private contracts alone: how far the readers of bytes reach, where they fail.
use Rattle.std.specs.Prelude.{ℕ, zero, suc, ◌+◌, ◌-◌, ◌*◌, Bool, false, ◌&&◌, ◌||◌, List, [], ◌∷◌, get_or, take, drop, leb, eqb, if◌then◌else◌}
use Rattle.base.specs.Choose.{within, is_at}
use Rattle.base.specs.Runs.{run}
use Rattle.utf8.specs.Lead.{lead_of}
use Rattle.digits.specs.Digits.{decimal}
use Rattle.grammar.specs.Abnf.{is_digit}
use Rattle.grammar.specs.Parse.{Reader, stop}
use Rattle.grammar.specs.Parse.Parsed.{failed, found}
use Rattle.viable.specs.Far.{Far}

-- 1*most of a class: none stands there, or too many
unfoldable pub repeat_far : ℕ → (ℕ → Bool) → Far
repeat_far most c s = if leb 1 (run c s) then most else 0

-- kDIGIT
unfoldable pub fixed_far : Far
fixed_far s = run is_digit s

-- PRIVAL: no digit; a zero and more digits; a third digit that takes it over 191; a fourth digit
unfoldable pub prival_far : Far
prival_far s = if eqb (run is_digit s) 0 then 0 else if is_at s 0 48 then 1 else if leb (decimal (take 3 s)) 191 then 3 else 2

-- VERSION: no digit or a zero; a fourth digit
unfoldable pub version_far : Far
version_far s = if eqb (run is_digit s) 0 || is_at s 0 48 then 0 else 3

-- 2DIGIT ; lo-hi
unfoldable pub ranged : ℕ → ℕ → Reader (List ℕ)
ranged lo hi [] = failed
ranged lo hi (c ∷ []) = failed
ranged lo hi (c ∷ d ∷ s) = if is_digit c && is_digit d && within lo hi (decimal (c ∷ d ∷ [])) then found (c ∷ d ∷ []) 2 else failed

-- c is the first digit of a number from lo to hi
abbrev pub is_tens : ℕ → ℕ → ℕ → Bool
is_tens lo hi c = is_digit c && leb lo ((c - 48) * 10 + 9) && leb ((c - 48) * 10) hi

unfoldable pub ranged_far : ℕ → ℕ → Far
ranged_far lo hi s = if is_tens lo hi (get_or s 0 0) then 1 else 0

-- UTF-8: up to the first byte that goes on with no character. (`more`, `lo`, `hi` as in utf8_from.)
unfoldable pub utf8_far_from : ℕ → ℕ → ℕ → Far
utf8_far_from more lo hi [] = 0
utf8_far_from zero lo hi (b ∷ s) = if leb 1 (lead_of b).len then suc (utf8_far_from ((lead_of b).len - 1) (lead_of b).low (lead_of b).high s) else 0
utf8_far_from (suc k) lo hi (b ∷ s) = if within lo hi b then suc (utf8_far_from k 0x80 0xBF s) else 0

abbrev pub utf8_far : Far
utf8_far s = utf8_far_from 0 0x80 0xBF s

-- PARAM-VALUE %d34: up to the first bare '"' or ']', and no further than UTF-8 goes
unfoldable pub value_far : Far
value_far s = if leb (stop false s) (utf8_far s) then stop false s else utf8_far s

-- MSG with the mark: the mark, and as far as UTF-8 goes
unfoldable pub message_far : Far
message_far s = 3 + utf8_far (drop 3 s)
