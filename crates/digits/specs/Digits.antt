-- ASCII digits as numbers.
use Rattle.std.specs.Prelude.{ℕ, ◌+◌, ◌-◌, ◌*◌, ◌^◌, List, [], ◌∷◌, Bool, ◌&&◌, leb, take, if◌then◌else◌, Option, Some, None}
use Rattle.base.specs.Choose.{within}
use Rattle.base.specs.Runs.{run}

-- `0` to `9`
abbrev pub is_digit : ℕ → Bool
is_digit b = within 48 57 b

-- how many digits `s` begins with
abbrev pub digit_run : List ℕ → ℕ
digit_run s = run is_digit s

-- the number that the digits of `t` write in base ten, after those that wrote `v`
unfoldable pub decimal_from : ℕ → List ℕ → ℕ
decimal_from v [] = v
decimal_from v (b ∷ t) = decimal_from (v * 10 + (b - 48)) t

abbrev pub decimal : List ℕ → ℕ
decimal t = decimal_from 0 t

-- All the digits at the front of `s`, one or more, as a number of at most `max`. Nothing: no digit, or a larger number.
unfoldable pub number_at : ℕ → List ℕ → Option (ℕ × ℕ)
number_at max s =
    let n = digit_run s in
    let v = decimal (take n s) in
    if leb 1 n && leb v max then Some (v, n) else None

-- The first `k` bytes of `s`, which are digits, as a number. What stands after them does not matter.
unfoldable pub fixed_at : ℕ → List ℕ → Option (ℕ × ℕ)
fixed_at k s = if leb k (digit_run s) then Some (decimal (take k s), k) else None

-- All the digits at the front of `s`, from 1 to `most` of them, as a fraction of a second in nanoseconds. (`most` is at most 9.)
unfoldable pub fraction_at : ℕ → List ℕ → Option (ℕ × ℕ)
fraction_at most s =
    let n = digit_run s in
    if leb 1 n && leb n most then Some (decimal (take n s) * 10 ^ (9 - n), n) else None
