-- RULES Data as worked examples, computed from the definitions.
use Rattle.std.specs.Prelude.{Some, None}
use Prim.Native.Nat.{ℕ}
use mathlib.Core.Path.{◌≡◌, refl}
use mathlib.Core.Bool.{false}
use mathlib.Core.List.{List, [], ◌∷◌, ◌++◌, map}
use Rattle.base.specs.Bytes.{bytes}
use Rattle.base.specs.Runs.{run}
use Rattle.utf8.specs.Lead.{lead_of, well_formed, char_len}
use Rattle.white.specs.White.{is_white, code_point, white_len}
use Rattle.structured_data.specs.Param.{quoted_len, param_at}
use Rattle.structured_data.specs.Element.{id_len, more_params, params_from, element_from}
use Rattle.structured_data.specs.Characters.{quoted_of}
use Rattle.structured_data.specs.Data.{Data, item_from, elements_from, data_from}
use Rattle.structured_data.specs.Data.Data.{no_data, is_data}
use Rattle.structured_data.specs.declared.Rules.TheVariants.{Rfc3164Rules, Rfc5424Rules}

abbrev by3164 : List ℕ → Data
by3164 t = data_from Rfc3164Rules t 0

abbrev by5424 : List ℕ → Data
by5424 t = data_from Rfc5424Rules t 0

abbrev found : List (List ℕ) → List (List ℕ) → ℕ → Data
found elements params next = is_data (record { elements = elements; params = params; next = next })

abbrev place : ℕ → ℕ → List ℕ
place start len = start ∷ len ∷ []

-- element, name, value
abbrev pair : ℕ → List ℕ → List ℕ → List ℕ
pair e name value = e ∷ name ++ value

-- `-` consumes one byte; what is no element is no structured data
none : map by5424 (bytes "-" ∷ bytes "--" ∷ bytes "" ∷ bytes "x" ∷ bytes "x[a]" ∷ []) ≡ found [] [] 1 ∷ found [] [] 1 ∷ no_data ∷ no_data ∷ no_data ∷ []
unfolding data_from elements_from item_from element_from params_from more_params param_at quoted_len id_len run white_len is_white code_point char_len well_formed lead_of
none = refl

-- but a hyphen of an RFC 3164 line is the message's, also before an element
none_3164 : map by3164 (bytes "-5 ms" ∷ bytes "- ok" ∷ bytes "-" ∷ bytes "-[a b=\"c\"]" ∷ bytes "" ∷ bytes "x" ∷ []) ≡ no_data ∷ no_data ∷ no_data ∷ no_data ∷ no_data ∷ no_data ∷ []
unfolding data_from elements_from item_from element_from params_from more_params param_at quoted_len id_len run white_len is_white code_point char_len well_formed lead_of
none_3164 = refl

-- an element with no parameters: of an RFC 5424 line alone
bare : (by5424 (bytes "[x]") ≡ found (place 1 1 ∷ []) [] 3) × (by3164 (bytes "[x]") ≡ no_data)
unfolding data_from elements_from item_from element_from params_from more_params param_at quoted_len id_len run white_len is_white code_point char_len well_formed lead_of
bare = (refl, refl)

-- a bare `]` is allowed in a value; an element that fails is skipped through the next `]`, and ends the list of an RFC 3164 line
bracket : (by5424 (bytes "[id a=\"x]y\"]") ≡ found (place 1 2 ∷ []) (pair 0 (place 4 1) (place 7 3) ∷ []) 12)
    × (by3164 (bytes "[id a=\"x]y\"]") ≡ found (place 1 2 ∷ []) (pair 0 (place 4 1) (place 7 3) ∷ []) 12)
    × (by5424 (bytes "[id a=\"x]y\" b]") ≡ found [] [] 9)
    × (by3164 (bytes "[id a=\"x]y\" b]") ≡ no_data)
unfolding data_from elements_from item_from element_from params_from more_params param_at quoted_len id_len run white_len is_white code_point char_len well_formed lead_of
bracket = (refl, refl, refl, refl)

-- a name, `=`, blanks and a value: backslash takes the next character with it, and an empty value lies between its quotes
params : map (λ t. param_at (bytes t)) ("b=\"c\\\"d\"]" ∷ "b=\"c\\\\\"]" ∷ "b=\"c\\]\"]" ∷ "b=\"\"]" ∷ "b= \t\"1\"" ∷ " c=\"2\"" ∷ "b c=\"\"" ∷ [])
    ≡ Some (record { name = 1; value = 3; value_len = 4; len = 8 }) ∷ Some (record { name = 1; value = 3; value_len = 3; len = 7 }) ∷ Some (record { name = 1; value = 3; value_len = 3; len = 7 }) ∷ Some (record { name = 1; value = 3; value_len = 0; len = 4 }) ∷ Some (record { name = 1; value = 5; value_len = 1; len = 7 }) ∷ Some (record { name = 2; value = 4; value_len = 1; len = 6 }) ∷ Some (record { name = 3; value = 5; value_len = 0; len = 6 }) ∷ []
unfolding param_at quoted_len run
params = refl

no_params : map (λ t. param_at (bytes t)) ("" ∷ "=\"1\"" ∷ "b" ∷ "b]=\"1\"" ∷ "b =1" ∷ "b=\"1" ∷ "b=\"1\\\"" ∷ "b=\"\\" ∷ [])
    ≡ None ∷ None ∷ None ∷ None ∷ None ∷ None ∷ None ∷ None ∷ []
unfolding param_at quoted_len run
no_params = refl

-- blanks behind the id; one space between parameters, and a second one is the name's; white space other than a blank opens the first name
spaces : map by5424 (bytes "[a  b=\"1\"]" ∷ bytes "[a b=\"1\"  c=\"2\"]" ∷ bytes "[a b= \"1\"]" ∷ bytes "[a\nb=\"1\"]" ∷ bytes "[a b=\"1\" ]" ∷ [])
    ≡ found (place 1 1 ∷ []) (pair 0 (place 4 1) (place 7 1) ∷ []) 10
    ∷ found (place 1 1 ∷ []) (pair 0 (place 3 1) (place 6 1) ∷ pair 0 (place 9 2) (place 13 1) ∷ []) 16
    ∷ found (place 1 1 ∷ []) (pair 0 (place 3 1) (place 7 1) ∷ []) 10
    ∷ found (place 1 1 ∷ []) (pair 0 (place 2 2) (place 6 1) ∷ []) 9
    ∷ found [] [] 10
    ∷ []
unfolding data_from elements_from item_from element_from params_from more_params param_at quoted_len id_len run white_len is_white code_point char_len well_formed lead_of
spaces = refl

-- an id ends at white space, `]` or `=`, and has a character
ids : map by5424 (bytes "[]" ∷ bytes "[ a]" ∷ bytes "[=]" ∷ bytes "[a=\"1\"]" ∷ (bytes "[a" ++ 0xC2 ∷ 0xA0 ∷ bytes "b=\"\"]") ∷ [])
    ≡ found [] [] 2
    ∷ found [] [] 4
    ∷ found [] [] 3
    ∷ found [] [] 7
    ∷ found (place 1 1 ∷ []) (pair 0 (place 2 3) (place 7 0) ∷ []) 9
    ∷ []
unfolding data_from elements_from item_from element_from params_from more_params param_at quoted_len id_len run white_len is_white code_point char_len well_formed lead_of
ids = refl

-- elements are numbered from 0, and a skipped one has no number; with no `]` ahead the list ends before it
lists : map by5424 (bytes "[a][b c=\"d\"]" ∷ bytes "[a][b =][c d=\"e\"] m" ∷ bytes "[a][b c" ∷ bytes "[a b" ∷ bytes "[a b=\"\\" ∷ [])
    ≡ found (place 1 1 ∷ place 4 1 ∷ []) (pair 1 (place 6 1) (place 9 1) ∷ []) 12
    ∷ found (place 1 1 ∷ place 9 1 ∷ []) (pair 1 (place 11 1) (place 14 1) ∷ []) 17
    ∷ found (place 1 1 ∷ []) [] 3
    ∷ no_data
    ∷ no_data
    ∷ []
unfolding data_from elements_from item_from element_from params_from more_params param_at quoted_len id_len run white_len is_white code_point char_len well_formed lead_of
lists = refl

lists_3164 : map by3164 (bytes "[a b=\"c\"][d e=\"f\"]" ∷ bytes "[a b=\"c\"][d]" ∷ bytes "[a b=\"c\"][d e]" ∷ [])
    ≡ found (place 1 1 ∷ place 10 1 ∷ []) (pair 0 (place 3 1) (place 6 1) ∷ pair 1 (place 12 1) (place 15 1) ∷ []) 18
    ∷ found (place 1 1 ∷ []) (pair 0 (place 3 1) (place 6 1) ∷ []) 9
    ∷ found (place 1 1 ∷ []) (pair 0 (place 3 1) (place 6 1) ∷ []) 9
    ∷ []
unfolding data_from elements_from item_from element_from params_from more_params param_at quoted_len id_len run white_len is_white code_point char_len well_formed lead_of
lists_3164 = refl

-- places are those of the line
later : data_from Rfc5424Rules (bytes "h [a b=\"c\"] m") 2 ≡ found (place 3 1 ∷ []) (pair 0 (place 5 1) (place 8 1) ∷ []) 11
unfolding data_from elements_from item_from element_from params_from more_params param_at quoted_len id_len run white_len is_white code_point char_len well_formed lead_of
later = refl

-- by characters: a backslash takes é with it, and a quote
values_by_characters : map (quoted_of false) (
    ((92 ∷ []) ∷ (0xC3 ∷ 0xA9 ∷ []) ∷ (34 ∷ []) ∷ [])
    ∷ ((92 ∷ []) ∷ (34 ∷ []) ∷ (0xC3 ∷ 0xA9 ∷ []) ∷ (34 ∷ []) ∷ [])
    ∷ []
    ) ≡ 3 ∷ 4 ∷ []
unfolding quoted_of
values_by_characters = refl
