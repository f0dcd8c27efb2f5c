-- Worked examples, computed from the definitions.
use Rattle.std.specs.Prelude.{Some, None}
use mathlib.Core.Path.{◌≡◌, refl}
use mathlib.Core.List.{[], ◌∷◌, map}
use Rattle.base.specs.Bytes.{bytes}
use Rattle.base.specs.Runs.{run}
use Rattle.digits.specs.Digits.{decimal_from, number_at, fixed_at, fraction_at}

-- leading zeros count as digits, and the limit is the number's alone
numbers : map (number_at 255) (map bytes ("0" ∷ "007" ∷ "255" ∷ "256" ∷ "0256" ∷ "" ∷ "x1" ∷ "12x" ∷ []))
    ≡ Some (0, 1) ∷ Some (7, 3) ∷ Some (255, 3) ∷ None ∷ None ∷ None ∷ None ∷ Some (12, 2) ∷ []
unfolding number_at run decimal_from
numbers = refl

wide_numbers : map (number_at 4294967295) (map bytes ("4294967295" ∷ "4294967296" ∷ "99999999999999999999999" ∷ "0000000000000000000000000000001" ∷ []))
    ≡ Some (4294967295, 10) ∷ None ∷ None ∷ Some (1, 31) ∷ []
unfolding number_at run decimal_from
wide_numbers = refl

twos : map (fixed_at 2) (map bytes ("" ∷ "1" ∷ "12" ∷ "09" ∷ "123" ∷ "1x" ∷ "x1" ∷ []))
    ≡ None ∷ None ∷ Some (12, 2) ∷ Some (9, 2) ∷ Some (12, 2) ∷ None ∷ None ∷ []
unfolding fixed_at run decimal_from
twos = refl

fours : map (fixed_at 4) (map bytes ("197" ∷ "1970" ∷ "0000" ∷ "9999" ∷ "2023-" ∷ "20230" ∷ "19x0" ∷ []))
    ≡ None ∷ Some (1970, 4) ∷ Some (0, 4) ∷ Some (9999, 4) ∷ Some (2023, 4) ∷ Some (2023, 4) ∷ None ∷ []
unfolding fixed_at run decimal_from
fours = refl

nines : map (fraction_at 9) (map bytes ("5" ∷ "5Z" ∷ "123456" ∷ "000000001" ∷ "999999999" ∷ "1234567890" ∷ "0000000000" ∷ "" ∷ "Z" ∷ []))
    ≡ Some (500000000, 1) ∷ Some (500000000, 1) ∷ Some (123456000, 6) ∷ Some (1, 9) ∷ Some (999999999, 9) ∷ None ∷ None ∷ None ∷ None ∷ []
unfolding fraction_at run decimal_from
nines = refl

sixes : map (fraction_at 6) (map bytes ("000003" ∷ "123456" ∷ "1234567" ∷ [])) ≡ Some (3000, 6) ∷ Some (123456000, 6) ∷ None ∷ []
unfolding fraction_at run decimal_from
sixes = refl

-- the bytes before `0` and after `9` are no digits
edges : map (number_at 99) (map bytes ("/" ∷ "0/" ∷ "9:" ∷ ":" ∷ [])) ≡ None ∷ Some (0, 1) ∷ Some (9, 1) ∷ None ∷ []
unfolding number_at run decimal_from
edges = refl
