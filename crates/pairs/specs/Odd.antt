-- For private contracts alone: how often a text occurs among the first and among the others, and the first one that does not occur as often.
use Rattle.std.specs.Prelude.{ℕ, zero, suc, ◌+◌, ◌-◌, ◌*◌, ◌≤◌, ◌<◌, ◌≡◌, List, Bool, true, false, not, eqb, length, get_or, if◌then◌else◌}
use Rattle.base.specs.Texts.{same_text}
use Rattle.pairs.specs.Keys.{key_of, Keys}
use Rattle.pairs.specs.declared.Odd.{Odd}

-- how many of the n numbers from `from` on pass a test
unfoldable pub tally : (ℕ → Bool) → ℕ → ℕ → ℕ
tally test from zero = 0
tally test from (suc n) = tally test from n + (if test (from + n) then 1 else 0)

-- text k does not occur as often among the first m of n texts as among the others
unfoldable pub is_odd : (ℕ → List ℕ) → ℕ → ℕ → ℕ → Bool
is_odd key m n k = not (eqb (tally (λ j. same_text (key j) (key k)) 0 m) (tally (λ j. same_text (key j) (key k)) m (n - m)))

-- the number in a text's first two bytes
abbrev pub element_of : List ℕ → ℕ
element_of t = get_or t 0 0 + 256 * get_or t 1 0

unfoldable pub element_at : List ℕ → List ℕ → ℕ → ℕ
element_at text ends k = element_of (key_of text ends k)

-- Of those below n that are odd, the first one of the least element; none, where its number is n.
pub data Least (odd : ℕ → Bool) (element : ℕ → ℕ) (n : ℕ) (r : Odd) : Type 0 where
  none : r.entry ≡ n → ((k : ℕ) → k < n → odd k ≡ false) → Least odd element n r
  some : r.entry < n → odd r.entry ≡ true → r.element ≡ element r.entry → ((k : ℕ) → k < n → odd k ≡ true → r.element ≤ element k)
      → ((k : ℕ) → k < r.entry → odd k ≡ true → r.element < element k) → Least odd element n r

-- ---- the steps

-- the counts of the classes of the n texts from `from` on
abbrev pub Counted : List ℕ → ℕ → ℕ → List ℕ → Type 0
Counted classes from n counts = (c : ℕ) → get_or counts c 0 ≡ tally (λ j. eqb (get_or classes j 0) c) from n

pub record Counting (classes counts : List ℕ) : Type 0 where
  pub few : length classes < 65536
  pub below : (k : ℕ) → k < length classes → get_or classes k 0 < length counts
  pub clear : (c : ℕ) → get_or counts c 0 ≡ 0

-- whether the class of text k has unlike counts
unfoldable pub unlike : List ℕ → List ℕ → List ℕ → ℕ → Bool
unlike classes left right k = not (eqb (get_or left (get_or classes k 0) 0) (get_or right (get_or classes k 0) 0))

pub record Weighing (n : ℕ) (classes left right : List ℕ) : Type 0 where
  pub all : length classes ≡ n
  pub left_given : (k : ℕ) → k < n → get_or classes k 0 < length left
  pub right_given : (k : ℕ) → k < n → get_or classes k 0 < length right

-- the others are the first, one by one
pub record Even (key : ℕ → List ℕ) (m n : ℕ) : Type 0 where
  pub halves : n ≡ m + m
  pub pairwise : (k : ℕ) → k < m → key k ≡ key (m + k)

pub record IfEven (key : ℕ → List ℕ) (m n : ℕ) (r : Bool) : Type 0 where
  pub even : r ≡ true → Even key m n

-- what is asked of a caller: the texts, of which the first m are set against the others
pub record Halved (text ends : List ℕ) (m n : ℕ) : Type 0 where
  pub keys : Keys text ends n
  pub first : m ≤ n
  pub few : n < 65536
