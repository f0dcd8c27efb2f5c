-- For private contracts alone: the order of dates and clocks, by the numbers of a timestamp as it is read.
use Rattle.std.specs.Prelude.{ℕ, List, [], ◌∷◌, Bool, false, ltb, eqb, if◌then◌else◌}
use Rattle.calendar.specs.declared.DateTime.{DateTime}

-- the first number that differs decides
unfoldable pub before : List ℕ → List ℕ → Bool
before (a ∷ s) (b ∷ t) = if eqb a b then before s t else ltb a b
before (a ∷ s) [] = false
before [] t = false

abbrev pub numbers : DateTime → List ℕ
numbers t = t.year ∷ t.month ∷ t.day ∷ t.hour ∷ t.minute ∷ t.second ∷ []

abbrev pub earlier : DateTime → DateTime → Bool
earlier t u = before (numbers t) (numbers u)
