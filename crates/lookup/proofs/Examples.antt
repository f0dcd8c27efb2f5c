-- Worked examples, computed from the definitions.
use Rattle.std.specs.Prelude.{Result, Ok, Err}
use Prim.Native.Nat.{ℕ, ◌-◌}
use mathlib.Core.Path.{◌≡◌, refl}
use mathlib.Core.Bool.{true, false}
use mathlib.Core.List.{List, [], ◌∷◌, ◌++◌, map}
use lib.ListN.{replicate}
use Rattle.base.specs.Bytes.{bytes}
use Rattle.record.specs.Records.{empty_record}
use Rattle.record.specs.declared.Refusal.TheVariants.{LineTooLong, BadSetting, Unsuitable, NotFound, OutputShort}
use Rattle.suits.specs.Suits.{record_suits, elements_suit, params_suit, tables_suit, suits}
use Rattle.lookup.specs.Unescape.{unescaped_from, unescaped}
use Rattle.lookup.specs.Lookup.{Found, found, answered, Looks}
use Rattle.record.specs.declared.Refusal.{Refusal}

-- a letter, then a letter of two bytes after a backslash
abbrev accented : List ℕ
accented = 97 ∷ 92 ∷ 195 ∷ 169 ∷ []

-- `a\"b\\c\]d`, `\n`, `\x`, `\\n` and `a\`, that letter, nothing
abbrev values : List (List ℕ)
values = bytes "a\\\"b\\\\c\\]d" ∷ bytes "\\n" ∷ bytes "\\x" ∷ bytes "\\\\n" ∷ bytes "a\\" ∷ accented ∷ [] ∷ []

-- a pair of backslashes is one, and what follows it is plain; a lone last backslash goes
loose : map (unescaped true) values ≡ bytes "a\"b\\c]d" ∷ (10 ∷ []) ∷ bytes "\\x" ∷ bytes "\\n" ∷ bytes "a" ∷ accented ∷ [] ∷ []
unfolding unescaped_from
loose = refl

-- `\n` stays, and so does a lone last backslash
strict : map (unescaped false) values ≡ bytes "a\"b\\c]d" ∷ bytes "\\n" ∷ bytes "\\x" ∷ bytes "\\n" ∷ bytes "a\\" ∷ accented ∷ [] ∷ []
unfolding unescaped_from
strict = refl

-- `[a x="1"][b x="2" x="3"]`
abbrev line : List ℕ
line = bytes "[a x=\"1\"][b x=\"2\" x=\"3\"]"

abbrev elements : List (List ℕ)
elements = (1 ∷ 1 ∷ []) ∷ (10 ∷ 1 ∷ []) ∷ []

abbrev params : List (List ℕ)
params = (0 ∷ 3 ∷ 1 ∷ 6 ∷ 1 ∷ []) ∷ (1 ∷ 12 ∷ 1 ∷ 15 ∷ 1 ∷ []) ∷ (1 ∷ 18 ∷ 1 ∷ 21 ∷ 1 ∷ []) ∷ []

abbrev look : List ℕ → List ℕ → Found
look id name = found line elements id name params

-- by id and name, the first that matches
firsts : look (bytes "a") (bytes "x") ∷ look (bytes "b") (bytes "x") ∷ look (bytes "b") (bytes "y") ∷ look (bytes "bx") [] ∷ []
    ≡ Found.value (bytes "1") ∷ Found.value (bytes "2") ∷ Found.nothing ∷ Found.nothing ∷ []
unfolding found
firsts = refl

-- the answer for a kind, a count of parameters, a name under `b` and an output's length
abbrev answer : ℕ → ℕ → List ℕ → ℕ → Result ℕ Refusal
answer kind p name out = answered line empty_record 2 p elements params kind (look (bytes "b") name) out

-- each refusal, where those that are checked after it would be given too
refusals : answered (replicate 8193 32) empty_record 3 3 elements params 2 Found.nothing 0
    ∷ answer 2 4 [] 0
    ∷ answer 1 4 [] 0
    ∷ answer 1 3 [] 0
    ∷ answer 1 3 (bytes "x") 0
    ∷ answer 0 3 (bytes "x") 1
    ∷ []
    ≡ Err LineTooLong ∷ Err BadSetting ∷ Err Unsuitable ∷ Err NotFound ∷ Err OutputShort ∷ Ok 1 ∷ []
unfolding found unescaped_from suits tables_suit record_suits elements_suit params_suit
refusals = refl

-- `[a x="\\n"]`, whose value is one byte by kind 0 and two by kind 1, in a line of so many bytes
abbrev padded : ℕ → List ℕ
padded n = bytes "[a x=\"\\n\"]" ++ replicate (n - 10) 32

abbrev one_element : List (List ℕ)
one_element = (1 ∷ 1 ∷ []) ∷ []

abbrev one_param : List (List ℕ)
one_param = (0 ∷ 3 ∷ 1 ∷ 6 ∷ 2 ∷ []) ∷ []

abbrev looked : ℕ → ℕ → Result ℕ Refusal
looked n kind = answered (padded n) empty_record 1 1 one_element one_param kind (found (padded n) one_element (bytes "a") (bytes "x") one_param) 2

-- both kinds, and the longest line
kinds : looked 10 0 ∷ looked 10 1 ∷ looked 10 2 ∷ looked 8192 1 ∷ looked 8193 1 ∷ []
    ≡ Ok 1 ∷ Ok 2 ∷ Err BadSetting ∷ Ok 2 ∷ Err LineTooLong ∷ []
unfolding found unescaped_from suits tables_suit record_suits elements_suit params_suit
kinds = refl

-- the contract on that value: the length and the output's front, and what was after it
abbrev served : ℕ → Result ℕ Refusal → List ℕ → Type 0
served kind w after = Looks (padded 10) empty_record 1 1 one_element one_param (bytes "a") (bytes "x") kind (7 ∷ 8 ∷ 9 ∷ []) w after

by_kind : served 0 (Ok 1) (10 ∷ 8 ∷ 9 ∷ []) × served 1 (Ok 2) (92 ∷ 110 ∷ 9 ∷ []) × served 2 (Err BadSetting) (7 ∷ 8 ∷ 9 ∷ [])
unfolding found unescaped_from suits tables_suit record_suits elements_suit params_suit
by_kind = (record { answer = refl; output = refl }, record { answer = refl; output = refl }, record { answer = refl; output = refl })
