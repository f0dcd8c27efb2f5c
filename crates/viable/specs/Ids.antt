-- For private contracts alone: SD-IDs that are used once in a line (R-5): how far one reaches that has to differ from those before it.
use Rattle.std.specs.Prelude.{ℕ, zero, suc, Bool, true, false, not, ◌&&◌, ◌||◌, List, [], ◌∷◌, ◌++◌, length, take, leb, if◌then◌else◌}
use Rattle.base.specs.Runs.{run}
use Rattle.base.specs.Texts.{same_text}
use Rattle.grammar.specs.Abnf.{sd_name_byte}
use Rattle.grammar.specs.Parse.{Reader, only, repeat}
use Rattle.viable.specs.Far.{Far}

-- t is one of the ids that are used
abbrev pub is_used : List (List ℕ) → List ℕ → Bool
is_used [] t = false
is_used (u ∷ used) t = same_text u t || is_used used t

abbrev pub is_unused : List (List ℕ) → List ℕ → Bool
is_unused used t = not (is_used used t)

-- an id that can stand: not empty, and not used
abbrev pub is_free : List (List ℕ) → List ℕ → Bool
is_free used t = leb 1 (length t) && is_unused used t

-- some number below n passes the test
unfoldable pub any_below : ℕ → (ℕ → Bool) → Bool
any_below zero f = false
any_below (suc n) f = elim (f n) [ true ↦ true | false ↦ any_below n f ]

-- t, or t with up to m bytes more, is an id that can stand
unfoldable pub alive : List (List ℕ) → ℕ → List ℕ → Bool
alive used zero t = is_free used t
alive used (suc m) t = if is_free used t then true else any_below 127 (λ c. elim (sd_name_byte c) [ true ↦ alive used m (t ++ c ∷ []) | false ↦ false ])

-- some id is left
abbrev pub room : List (List ℕ) → Bool
room used = alive used 32 []

-- SD-ID, not used before
unfoldable pub id_of : List (List ℕ) → Reader (List ℕ)
id_of used = only (is_unused used) (repeat 32 sd_name_byte)

-- behind the bytes t of an id, up to m bytes of it are to come
unfoldable pub id_far_from : List (List ℕ) → ℕ → List ℕ → Far
id_far_from used zero t s = 0
id_far_from used (suc m) t [] = 0
id_far_from used (suc m) t (c ∷ s) = if sd_name_byte c && alive used m (t ++ c ∷ []) then suc (id_far_from used m (t ++ c ∷ []) s) else 0

abbrev pub id_far : List (List ℕ) → Far
id_far used s = id_far_from used 32 [] s

-- ---- what code can go by: in a line of at most 8,192 bytes fewer than 91 * 91 ids are used

-- t, of 31 bytes, is used, and so are all ids of 32 bytes that begin with it
abbrev pub is_shut : List (List ℕ) → List ℕ → Bool
is_shut used t = not (alive used 1 t)

-- Up to 30 bytes of a name can always be gone on with. The 31st asks whether it shuts, the 32nd whether the id is used.
unfoldable pub id_near : List (List ℕ) → Far
id_near used s =
    let n = run sd_name_byte s in
    if leb n 30 then n else if is_shut used (take 31 s) then 30 else if leb 32 n && is_unused used (take 32 s) then 32 else 31
