-- Worked examples, computed from the definitions: the borders of every range of RULES Strict 16, and RFC 3629's own texts.
use Prim.Native.Nat.{ℕ, suc, ◌-◌}
use mathlib.Core.Path.{◌≡◌, refl}
use mathlib.Core.Bool.{Bool, true, false, not}
use mathlib.Core.List.{List, [], ◌∷◌, ◌++◌, map}
use Rattle.utf8.specs.Lead.{asks, lead_of, well_formed, char_len, utf8_from, is_utf8}
use Rattle.utf8.specs.Characters.{is_char, char_run}

-- the answer for each byte, with `front` before it and `back` after it
abbrev between : List ℕ → List ℕ → List ℕ → List Bool
between front back = map (λ b. is_utf8 (front ++ b ∷ back))

-- there the range is from `lo` to `hi`: these two are taken and the two bytes outside are not
abbrev Ranges : List ℕ → List ℕ → ℕ → ℕ → Type 0
Ranges front back lo hi = between front back ((lo - 1) ∷ lo ∷ hi ∷ suc hi ∷ []) ≡ false ∷ true ∷ true ∷ false ∷ []

-- lead bytes: alone, and before one, two and three bytes
lead_alone : between [] [] (0x00 ∷ 0x7F ∷ 0x80 ∷ 0xBF ∷ 0xC0 ∷ 0xFF ∷ []) ≡ true ∷ true ∷ false ∷ false ∷ false ∷ false ∷ []
unfolding lead_of utf8_from
lead_alone = refl

lead_before_one : Ranges [] (0x80 ∷ []) 0xC2 0xDF
unfolding lead_of utf8_from
lead_before_one = refl

lead_before_two : (between [] (0x80 ∷ 0x80 ∷ []) (0xDF ∷ 0xE0 ∷ 0xE1 ∷ 0xEC ∷ 0xED ∷ 0xEE ∷ 0xEF ∷ 0xF0 ∷ []) ≡ false ∷ false ∷ true ∷ true ∷ true ∷ true ∷ true ∷ false ∷ [])
    × (between [] (0xA0 ∷ 0x80 ∷ []) (0xDF ∷ 0xE0 ∷ 0xE1 ∷ 0xEC ∷ 0xED ∷ 0xEE ∷ 0xEF ∷ 0xF0 ∷ []) ≡ false ∷ true ∷ true ∷ true ∷ false ∷ true ∷ true ∷ false ∷ [])
unfolding lead_of utf8_from
lead_before_two = (refl, refl)

lead_before_three : (between [] (0x80 ∷ 0x80 ∷ 0x80 ∷ []) (0xEF ∷ 0xF0 ∷ 0xF1 ∷ 0xF3 ∷ 0xF4 ∷ 0xF5 ∷ []) ≡ false ∷ false ∷ true ∷ true ∷ true ∷ false ∷ [])
    × (between [] (0x90 ∷ 0x80 ∷ 0x80 ∷ []) (0xEF ∷ 0xF0 ∷ 0xF1 ∷ 0xF3 ∷ 0xF4 ∷ 0xF5 ∷ []) ≡ false ∷ true ∷ true ∷ true ∷ false ∷ false ∷ [])
unfolding lead_of utf8_from
lead_before_three = (refl, refl)

-- the byte after a lead byte
next_byte : Ranges (0xC2 ∷ []) [] 0x80 0xBF
    × Ranges (0xDF ∷ []) [] 0x80 0xBF
    × Ranges (0xE0 ∷ []) (0x80 ∷ []) 0xA0 0xBF
    × Ranges (0xE1 ∷ []) (0x80 ∷ []) 0x80 0xBF
    × Ranges (0xEC ∷ []) (0x80 ∷ []) 0x80 0xBF
    × Ranges (0xED ∷ []) (0x80 ∷ []) 0x80 0x9F
    × Ranges (0xEE ∷ []) (0x80 ∷ []) 0x80 0xBF
    × Ranges (0xEF ∷ []) (0x80 ∷ []) 0x80 0xBF
    × Ranges (0xF0 ∷ []) (0x80 ∷ 0x80 ∷ []) 0x90 0xBF
    × Ranges (0xF1 ∷ []) (0x80 ∷ 0x80 ∷ []) 0x80 0xBF
    × Ranges (0xF3 ∷ []) (0x80 ∷ 0x80 ∷ []) 0x80 0xBF
    × Ranges (0xF4 ∷ []) (0x80 ∷ 0x80 ∷ []) 0x80 0x8F
unfolding lead_of utf8_from
next_byte = (refl, refl, refl, refl, refl, refl, refl, refl, refl, refl, refl, refl)

-- the other tails
other_tails : Ranges (0xE0 ∷ 0xA0 ∷ []) [] 0x80 0xBF
    × Ranges (0xED ∷ 0x80 ∷ []) [] 0x80 0xBF
    × Ranges (0xEF ∷ 0x80 ∷ []) [] 0x80 0xBF
    × Ranges (0xF0 ∷ 0x90 ∷ []) (0x80 ∷ []) 0x80 0xBF
    × Ranges (0xF0 ∷ 0x90 ∷ 0x80 ∷ []) [] 0x80 0xBF
    × Ranges (0xF4 ∷ 0x80 ∷ []) (0x80 ∷ []) 0x80 0xBF
    × Ranges (0xF4 ∷ 0x80 ∷ 0x80 ∷ []) [] 0x80 0xBF
unfolding lead_of utf8_from
other_tails = (refl, refl, refl, refl, refl, refl, refl)

-- no character is cut short, at the end or before another, nor has a tail too many
whole_characters : map is_utf8
    ([]
    ∷ (0xC2 ∷ [])
    ∷ (0xE1 ∷ 0x80 ∷ [])
    ∷ (0xF1 ∷ 0x80 ∷ 0x80 ∷ [])
    ∷ (0xE1 ∷ 0x80 ∷ 0x41 ∷ [])
    ∷ (0xC2 ∷ 0x80 ∷ 0x80 ∷ [])
    ∷ (0x41 ∷ 0xC2 ∷ 0x80 ∷ 0x41 ∷ [])
    ∷ [])
    ≡ true ∷ false ∷ false ∷ false ∷ false ∷ false ∷ true ∷ []
unfolding lead_of utf8_from
whole_characters = refl

-- RFC 3629's examples, section 7, and what sections 3 and 10 warn of: the NUL and the dots written too long, and a pair of surrogates
rfc_examples : map is_utf8
    ((0x41 ∷ 0xE2 ∷ 0x89 ∷ 0xA2 ∷ 0xCE ∷ 0x91 ∷ 0x2E ∷ [])
    ∷ (0xED ∷ 0x95 ∷ 0x9C ∷ 0xEA ∷ 0xB5 ∷ 0xAD ∷ 0xEC ∷ 0x96 ∷ 0xB4 ∷ [])
    ∷ (0xE6 ∷ 0x97 ∷ 0xA5 ∷ 0xE6 ∷ 0x9C ∷ 0xAC ∷ 0xE8 ∷ 0xAA ∷ 0x9E ∷ [])
    ∷ (0xEF ∷ 0xBB ∷ 0xBF ∷ 0xF0 ∷ 0xA3 ∷ 0x8E ∷ 0xB4 ∷ [])
    ∷ (0xC0 ∷ 0x80 ∷ [])
    ∷ (0x2F ∷ 0xC0 ∷ 0xAE ∷ 0x2E ∷ 0x2F ∷ [])
    ∷ (0xED ∷ 0xA1 ∷ 0x8C ∷ 0xED ∷ 0xBE ∷ 0xB4 ∷ [])
    ∷ [])
    ≡ true ∷ true ∷ true ∷ true ∷ false ∷ false ∷ false ∷ []
unfolding lead_of utf8_from
rfc_examples = refl

-- the length of the character at the front
lengths : map char_len
    ([]
    ∷ (0x41 ∷ 0xE2 ∷ [])
    ∷ (0xCE ∷ 0x91 ∷ 0x2E ∷ [])
    ∷ (0xE2 ∷ 0x89 ∷ 0xA2 ∷ 0xCE ∷ [])
    ∷ (0xF0 ∷ 0xA3 ∷ 0x8E ∷ 0xB4 ∷ 0x41 ∷ [])
    ∷ (0xCE ∷ [])
    ∷ (0xE2 ∷ 0x89 ∷ [])
    ∷ (0xE2 ∷ 0x89 ∷ 0x41 ∷ [])
    ∷ (0xF0 ∷ 0xA3 ∷ 0x8E ∷ [])
    ∷ (0xED ∷ 0xA1 ∷ 0x8C ∷ [])
    ∷ (0x91 ∷ 0x2E ∷ [])
    ∷ [])
    ≡ 0 ∷ 1 ∷ 2 ∷ 3 ∷ 4 ∷ 0 ∷ 0 ∷ 0 ∷ 0 ∷ 0 ∷ 0 ∷ []
unfolding lead_of well_formed char_len
lengths = refl

-- the characters before the first `:`, in bytes: none, é before it, it first, a and € with none
runs : map (char_run (λ c. not (is_char 58 c)))
    ([]
    ∷ ((0xC3 ∷ 0xA9 ∷ []) ∷ (0x3A ∷ []) ∷ (0x61 ∷ []) ∷ [])
    ∷ ((0x3A ∷ []) ∷ (0xC3 ∷ 0xA9 ∷ []) ∷ [])
    ∷ ((0x61 ∷ []) ∷ (0xE2 ∷ 0x82 ∷ 0xAC ∷ []) ∷ [])
    ∷ [])
    ≡ 0 ∷ 2 ∷ 0 ∷ 4 ∷ []
unfolding char_run
runs = refl

-- what a byte of each range asks for, the first and the last; and what begins no character
leads : map lead_of (0x00 ∷ 0x7F ∷ 0x80 ∷ 0xC1 ∷ 0xC2 ∷ 0xDF ∷ 0xE0 ∷ 0xE1 ∷ 0xEC ∷ 0xED ∷ 0xEE ∷ 0xEF ∷ 0xF0 ∷ 0xF1 ∷ 0xF3 ∷ 0xF4 ∷ 0xF5 ∷ 0xFF ∷ [])
    ≡ asks 1 0 0 ∷ asks 1 0 0 ∷ asks 0 0 0 ∷ asks 0 0 0 ∷ asks 2 0x80 0xBF ∷ asks 2 0x80 0xBF ∷ asks 3 0xA0 0xBF ∷ asks 3 0x80 0xBF ∷ asks 3 0x80 0xBF ∷ asks 3 0x80 0x9F
    ∷ asks 3 0x80 0xBF ∷ asks 3 0x80 0xBF ∷ asks 4 0x90 0xBF ∷ asks 4 0x80 0xBF ∷ asks 4 0x80 0xBF ∷ asks 4 0x80 0x8F ∷ asks 0 0 0 ∷ asks 0 0 0 ∷ []
unfolding lead_of
leads = refl

-- each byte after a lead byte is asked for in its own place
places : map char_len
    ((0xCE ∷ 0x2E ∷ 0x91 ∷ [])
    ∷ (0xE2 ∷ 0x41 ∷ 0x89 ∷ 0x89 ∷ [])
    ∷ (0xE2 ∷ 0x89 ∷ 0x41 ∷ 0x89 ∷ [])
    ∷ (0xF0 ∷ 0x41 ∷ 0x90 ∷ 0x90 ∷ 0x90 ∷ [])
    ∷ (0xF0 ∷ 0x90 ∷ 0x41 ∷ 0x90 ∷ 0x90 ∷ [])
    ∷ (0xF0 ∷ 0x90 ∷ 0x90 ∷ 0x41 ∷ 0x90 ∷ [])
    ∷ [])
    ≡ 0 ∷ 0 ∷ 0 ∷ 0 ∷ 0 ∷ 0 ∷ []
unfolding lead_of well_formed char_len
places = refl
