-- For private contracts alone: the white character that ends at a place, which `text_end`, going from the back, asks for at each step.
use Rattle.std.specs.Prelude.{ℕ, ◌-◌, List, Bool, ◌&&◌, leb, eqb, take, drop, if◌then◌else◌}
use Rattle.white.specs.White.{white_len}

-- whether the `n` bytes before place `e` are a white character
unfoldable pub ends_white : List ℕ → ℕ → ℕ → Bool
ends_white s e n = leb n e && eqb (white_len (take n (drop (e - n) s))) n

-- the length of the white character that ends at place `e`, or 0 where none does; none is longer than three bytes
unfoldable pub white_before : List ℕ → ℕ → ℕ
white_before s e =
    if ends_white s e 1 then 1
    else if ends_white s e 2 then 2
    else if ends_white s e 3 then 3
    else 0
