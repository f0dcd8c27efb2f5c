-- For private contracts alone: the entries of both tables in the order of the line. The numbers of the parameters' elements never fall, so one walk over the parameters
-- opens each element in its turn. Rows are as the element table has them.
use Rattle.std.specs.Prelude.{ℕ, ◌+◌, ◌-◌, List, [], ◌∷◌, eqb, length, get_or, take, drop, if◌then◌else◌, Option, Some}
use Rattle.claims.specs.Claims.{pair_of}
use Rattle.claims.specs.Holds.{on_next, byte_next, id_next, param_next}

-- "[" and the id of the first element, if there is one
unfoldable pub first_next : List ℕ → ℕ → List (List ℕ) → Option ℕ
first_next line at ids = if eqb (length ids) 0 then Some at else id_next line at (pair_of (get_or ids 0 []))

-- "]" and the next element's "[" and id
unfoldable pub open_next : List ℕ → ℕ → List ℕ → Option ℕ
open_next line at row = on_next (byte_next line at 93) λ b. id_next line b (pair_of row)

-- the same of each element from the next one on, up to a parameter's own
unfoldable pub opens_next : List ℕ → ℕ → List (List ℕ) → Option ℕ
opens_next line at [] = Some at
opens_next line at (row ∷ rows) = on_next (open_next line at row) λ b. opens_next line b rows

-- a parameter, where element k is open
unfoldable pub turn_next : List ℕ → ℕ → List (List ℕ) → ℕ → List ℕ → Option ℕ
turn_next line at ids k row =
    on_next (opens_next line at (take (get_or row 0 0 - k) (drop (k + 1) ids))) λ b. param_next line (get_or row 0 0) b row

-- what is behind the last parameter, where element k is open: the elements after k and the last one's "]"; "-" where there is no element
unfoldable pub last_next : List ℕ → ℕ → List (List ℕ) → ℕ → Option ℕ
last_next line at ids k =
    if eqb (length ids) 0 then byte_next line at 45
    else on_next (opens_next line at (take (length ids - 1 - k) (drop (k + 1) ids))) λ b. byte_next line b 93
