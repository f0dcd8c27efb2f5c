-- Fields and trimming, by bytes. (Characters.antt says the same by characters.)
use Rattle.std.specs.Prelude.{ℕ, zero, suc, ◌-◌, List, [], ◌∷◌, eqb, length, if◌then◌else◌}
use Rattle.white.specs.White.{white_len}
use Rattle.white.specs.declared.Ends.{Ends}

-- how many bytes come before the first white character
unfoldable pub field_len : List ℕ → ℕ
field_len [] = 0
field_len (b ∷ s) = if eqb (white_len (b ∷ s)) 0 then suc (field_len s) else 0

-- how many bytes the white characters at the front take, after the `k` bytes that still belong to the one before
unfoldable pub white_from : ℕ → List ℕ → ℕ
white_from k [] = 0
white_from zero (b ∷ s) = if eqb (white_len (b ∷ s)) 0 then 0 else suc (white_from (white_len (b ∷ s) - 1) s)
white_from (suc k) (b ∷ s) = suc (white_from k s)

abbrev pub white_run : List ℕ → ℕ
white_run s = white_from 0 s

-- where the text ends: the first place after which there are white characters alone
unfoldable pub text_end : List ℕ → ℕ
text_end [] = 0
text_end (b ∷ s) = if eqb (white_run (b ∷ s)) (length (b ∷ s)) then 0 else suc (text_end s)

-- the text without the white characters at both ends; of nothing but such, both ends at 0
unfoldable pub trimmed : List ℕ → Ends
trimmed s =
    if eqb (text_end s) 0 then record { start = 0; end = 0 }
    else record { start = white_run s; end = text_end s }
