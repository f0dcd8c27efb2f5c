-- A month's name: three letters in any case.
use Rattle.std.specs.Prelude.{ℕ, ◌+◌, List, [], ◌∷◌, map, eqb, take, drop, if◌then◌else◌, Option, Some, None}
use Rattle.base.specs.Choose.{within}
use Rattle.base.specs.Texts.{same_text}
use Rattle.base.specs.Bytes.{bytes}

abbrev pub lower : ℕ → ℕ
lower b = if within 65 90 b then b + 32 else b

abbrev pub month_names : List (List ℕ)
month_names =
    bytes "jan" ∷ bytes "feb" ∷ bytes "mar" ∷ bytes "apr" ∷ bytes "may" ∷ bytes "jun"
    ∷ bytes "jul" ∷ bytes "aug" ∷ bytes "sep" ∷ bytes "oct" ∷ bytes "nov" ∷ bytes "dec" ∷ []

-- the number of the first name that is `t`, where the first of them has the number `m`; 0 where none is
unfoldable pub named_from : ℕ → List (List ℕ) → List ℕ → ℕ
named_from m [] t = 0
named_from m (n ∷ ns) t = if same_text n t then m else named_from (m + 1) ns t

-- 1 to 12, or 0
unfoldable pub month_of : List ℕ → ℕ
month_of t = named_from 1 month_names (map lower t)

unfoldable pub month_from : List ℕ → ℕ → Option (ℕ × ℕ)
month_from s at =
    let m = month_of (take 3 (drop at s)) in
    if eqb m 0 then None else Some (m, at + 3)
