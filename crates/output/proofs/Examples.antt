-- Worked examples, computed from the definitions.
use mathlib.Core.Path.{◌≡◌, refl}
use mathlib.Core.List.{[], ◌∷◌, map}
use Rattle.base.specs.Bytes.{bytes}
use Rattle.output.specs.Output.{written}
use Rattle.output.specs.Numerals.{fixed, width_from, numeral}

numerals : map numeral (0 ∷ 7 ∷ 9 ∷ 10 ∷ 99 ∷ 100 ∷ 191 ∷ 1000 ∷ 4294967295 ∷ [])
    ≡ bytes "0" ∷ bytes "7" ∷ bytes "9" ∷ bytes "10" ∷ bytes "99" ∷ bytes "100" ∷ bytes "191" ∷ bytes "1000" ∷ bytes "4294967295" ∷ []
unfolding fixed width_from
numerals = refl

-- zeros in front, and only the last digits
cut : map (fixed 2) (0 ∷ 5 ∷ 59 ∷ 123 ∷ []) ≡ bytes "00" ∷ bytes "05" ∷ bytes "59" ∷ bytes "23" ∷ []
unfolding fixed
cut = refl

inside : written (bytes "abcdef") 2 (bytes "XY") ≡ bytes "abXYef"
unfolding written
inside = refl
