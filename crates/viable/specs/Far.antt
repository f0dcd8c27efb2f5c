-- For private contracts alone: how far a reader of a text came that it does not read: the length of the longest beginning of the text that could still be gone on with.
-- For each way to make a reader p there is one to make its `far`, which counts where p fails.
use Rattle.std.specs.Prelude.{ℕ, zero, suc, ◌+◌, Bool, ◌&&◌, List, [], ◌∷◌, drop, eqb, if◌then◌else◌}
use Rattle.base.specs.Choose.{is_at}
use Rattle.grammar.specs.Parse.{Parsed, Reader, on_found, item_and}
use Rattle.grammar.specs.Parse.Parsed.{failed, found}

abbrev pub Far : Type 0
Far = List ℕ → ℕ

-- where a reader failed, k; where it found a value, what f says
abbrev pub reached : {A : Type 0} → Parsed A → ℕ → (A → ℕ → ℕ) → ℕ
reached failed k f = k
reached (found a n) k f = f a n

-- the byte b and then what has the far f; where b does not stand in front, what has the far g
unfoldable pub choose_far : ℕ → Far → Far → Far
choose_far b f g s = if is_at s 0 b then f (drop 1 s) + 1 else g s

-- the byte b is missing
abbrev pub none_far : Far
none_far s = 0

abbrev pub behind_far : ℕ → Far → Far
behind_far b f = choose_far b f none_far

module _ {A : Type 0} where
  unfoldable pub closed_far : Reader A → Far → Far
  closed_far p f s = reached (p s) (f s) λ a n. n

  -- p and then what has the far g, which may go by what p found
  unfoldable pub next_far : Reader A → Far → (A → Far) → Far
  next_far p f g s = reached (p s) (f s) λ a n. n + g a (drop n s)

-- p and then q, which may go by what p found
unfoldable pub follow : {A B : Type 0} → Reader A → (A → Reader B) → Reader (A × B)
follow p q s = on_found (p s) λ a n. on_found (q a (drop n s)) λ b m. found (a, b) (n + m)

-- ---- items that go by a state: what the items before have left

module _ {A S : Type 0} where
  -- items, each the byte b and then what `p u` reads in the state u that the items before left, up to what b does not stand in front of; k bytes are left of the item before
  unfoldable pub each_from : ℕ → (S → Reader A) → (S → A → S) → S → ℕ → Reader (List A)
  each_from b p step u k [] = found [] 0
  each_from b p step u zero (x ∷ s) = if eqb x b then on_found (p u s) (λ a n. item_and a n (each_from b p step (step u a) n s)) else found [] 0
  each_from b p step u (suc k) (x ∷ s) = each_from b p step u k s

  -- `room u`: some item can stand in the state u
  unfoldable pub each_far : ℕ → (S → Reader A) → (S → Far) → (S → A → S) → (S → Bool) → S → ℕ → Far
  each_far b p f step room u k [] = 0
  each_far b p f step room u zero (x ∷ s) = if eqb x b && room u then reached (p u s) (f u s + 1) (λ a n. n + 1 + each_far b p f step room (step u a) n s) else 0
  each_far b p f step room u (suc k) (x ∷ s) = each_far b p f step room u k s
