-- For private contracts alone: a value and its quote, byte by byte, as the code walks. `paired`: the byte before is a backslash that begins a pair; `more`, `lo`, `hi`
-- as in utf8_from.
use Rattle.std.specs.Prelude.{ℕ, zero, suc, ◌-◌, Bool, false, not, ◌&&◌, List, [], ◌∷◌, drop, leb, eqb, if◌then◌else◌, Result, Ok, Err}
use Rattle.base.specs.Choose.{within}
use Rattle.utf8.specs.Lead.{lead_of}
use Rattle.viable.specs.Walks.{onward_of}

unfoldable pub value_walk : Bool → ℕ → ℕ → ℕ → List ℕ → Result ℕ ℕ
value_walk paired more lo hi [] = Err 0
value_walk paired zero lo hi (b ∷ s) =
    if not paired && eqb b 34 then Ok 1
    else if not paired && eqb b 93 then Err 0
    else if leb 1 (lead_of b).len then onward_of 1 (value_walk (not paired && eqb b 92) ((lead_of b).len - 1) (lead_of b).low (lead_of b).high s)
    else Err 0
value_walk paired (suc k) lo hi (b ∷ s) = if within lo hi b then onward_of 1 (value_walk false k 0x80 0xBF s) else Err 0

-- UTF-8 to the end, likewise
unfoldable pub utf8_walk : ℕ → ℕ → ℕ → List ℕ → Result ℕ ℕ
utf8_walk more lo hi [] = if eqb more 0 then Ok 0 else Err 0
utf8_walk zero lo hi (b ∷ s) = if leb 1 (lead_of b).len then onward_of 1 (utf8_walk ((lead_of b).len - 1) (lead_of b).low (lead_of b).high s) else Err 0
utf8_walk (suc k) lo hi (b ∷ s) = if within lo hi b then onward_of 1 (utf8_walk k 0x80 0xBF s) else Err 0

abbrev pub utf8_at : List ℕ → ℕ → Result ℕ ℕ
utf8_at s at = onward_of at (utf8_walk 0 0x80 0xBF (drop at s))
