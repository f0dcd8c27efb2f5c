-- For private contracts alone: bytes that stand in a value with no backslash in front.
use Rattle.std.specs.Prelude.{ℕ, Bool, not, List, take, drop}
use Rattle.std.specs.List.{list_all}
use Rattle.lookup.specs.Unescape.{is_escaped}

abbrev pub plain : ℕ → Bool
plain b = not (is_escaped b)

-- the sixteen bytes of `s` from place `i` on pass the test
abbrev pub sixteen : (ℕ → Bool) → List ℕ → ℕ → Bool
sixteen p s i = list_all p (take 16 (drop i s))
