-- Worked examples: which bytes get a backslash.
use mathlib.Core.Path.{◌≡◌, refl}
use mathlib.Core.Bool.{true, false}
use mathlib.Core.List.{[], ◌∷◌, map}
use Rattle.base.specs.Bytes.{bytes}
use Rattle.writes.specs.Written.{escape}
use Rattle.escaping.specs.Plain.{plain}

bytes_are : map plain (33 ∷ 34 ∷ 35 ∷ 91 ∷ 92 ∷ 93 ∷ 94 ∷ 0 ∷ 255 ∷ []) ≡ true ∷ false ∷ true ∷ true ∷ false ∷ false ∷ true ∷ true ∷ true ∷ []
bytes_are = refl

values : map escape (bytes "" ∷ bytes "a\0b" ∷ bytes "\"\\]" ∷ bytes "a]b[c" ∷ []) ≡ bytes "" ∷ bytes "a\0b" ∷ bytes "\\\"\\\\\\]" ∷ bytes "a\\]b[c" ∷ []
unfolding escape
values = refl
