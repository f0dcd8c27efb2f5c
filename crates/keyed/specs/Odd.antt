-- For private contracts alone: the pair of two lines that is odd, by the texts of their rows.
use Rattle.std.specs.Prelude.{ℕ, ◌+◌, ◌*◌, ◌≤◌, ◌<◌, List, [], ◌++◌, map, length, get_or, take}
use Rattle.message.specs.Rooms.{param_size, total}
use Rattle.pairs.specs.Odd.{is_odd, element_of, Least}
use Rattle.pairs.specs.declared.Odd.{Odd}
use Rattle.keyed.specs.Keys.{key_text}
use Rattle.keyed.specs.Notes.{rows_from, Listed}

-- the texts of the rows of both lines
abbrev pub keys_of : List ℕ → List (List ℕ) → List ℕ → List (List ℕ) → List (List ℕ)
keys_of s₁ rows₁ s₂ rows₂ = map (key_text s₁) rows₁ ++ map (key_text s₂) rows₂

-- of those that do not occur as often in both lines, the first one of the least element
pub record FirstOdd (s₁ : List ℕ) (rows₁ : List (List ℕ)) (s₂ : List ℕ) (rows₂ : List (List ℕ)) (r : Odd) : Type 0 where
  pub is : Least (is_odd (λ k. get_or (keys_of s₁ rows₁ s₂ rows₂) k []) (length rows₁) (length rows₁ + length rows₂)) (λ k. element_of (get_or (keys_of s₁ rows₁ s₂ rows₂) k []))
      (length rows₁ + length rows₂) r

-- the rows of the first n elements
abbrev pub rows_of : List ℕ → List (List ℕ) → ℕ → List (List ℕ)
rows_of s elements n = rows_from s 0 (take n elements)

-- what the rows of both lines take fits tables for `size` bytes and for fewer texts than `most`
pub record Enough (rows₁ rows₂ : List (List ℕ)) (size most : ℕ) : Type 0 where
  pub fits : total param_size rows₁ + total param_size rows₂ ≤ size
  pub many : length rows₁ + length rows₂ < most

-- two lines: their ids are in them, and what their rows take is bounded by `bytes`, the bytes of both
pub record Bounded (s₁ : List ℕ) (elements₁ : List (List ℕ)) (n₁ : ℕ) (s₂ : List ℕ) (elements₂ : List (List ℕ)) (n₂ bytes : ℕ) : Type 0 where
  pub listed₁ : Listed s₁ elements₁ n₁
  pub listed₂ : Listed s₂ elements₂ n₂
  pub sizes : 7 * (total param_size (rows_of s₁ elements₁ n₁) + total param_size (rows_of s₂ elements₂ n₂)) ≤ 8 * bytes
  pub counts : 5 * (length (rows_of s₁ elements₁ n₁) + length (rows_of s₂ elements₂ n₂)) ≤ bytes
