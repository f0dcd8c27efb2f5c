-- Numbers as decimal digits.
use Rattle.std.specs.Prelude.{ℕ, zero, suc, ◌+◌, ◌/◌, ◌%◌, List, [], ◌∷◌, ◌++◌, ltb, if◌then◌else◌}

-- the last `k` decimal digits of `n`
unfoldable pub fixed : ℕ → ℕ → List ℕ
fixed zero n = []
fixed (suc k) n = fixed k (n / 10) ++ ((48 + n % 10) ∷ [])

-- how many digits a number has, up to `k` more than those passed
unfoldable pub width_from : ℕ → ℕ → ℕ
width_from zero n = 1
width_from (suc k) n = if ltb n 10 then 1 else suc (width_from k (n / 10))

-- of a 32-bit number
abbrev pub width : ℕ → ℕ
width n = width_from 9 n

-- a 32-bit number in as few digits as it has
abbrev pub numeral : ℕ → List ℕ
numeral n = fixed (width n) n
