-- Sizes that stop at 8,193.
use Prim.Native.Nat.{ℕ, ◌+◌, ◌≤◌, ◌<◌}
use mathlib.Core.Path.{◌≡◌, refl}
use mathlib.Core.List.{List}
use native.Mathlib.Omega.{arith}
use lib.ListN.{length}
use Rattle.record.specs.Limits.{line_limit}
use Rattle.writes.specs.Written.{escape}
use Rattle.escaping.proofs.Escapes.{escape_longer}
use Rattle.writer_data.specs.Sizes.{Capped}
use Rattle.writer_data.specs.Sizes.Capped.{exact, over}

pub cap_over : (n : ℕ) → line_limit < n → Capped n (line_limit + 1)
cap_over n h = over h refl

pub cap_exact : (n : ℕ) → n ≤ line_limit → Capped n n
cap_exact n h = exact h refl

pub ruleset cap_laws = (cap_over, cap_exact)

pub capped_to : (n r : ℕ) → Capped n r → r ≤ line_limit + 1
capped_to n r (exact h e) = omega arith
capped_to n r (over h e) = omega arith

-- the sum of two sizes
pub capped_sum : (a x b y r : ℕ) → Capped a x → Capped b y → Capped (x + y) r → Capped (a + b) r
capped_sum a x b y r (exact h e) (exact k f) (exact l g) = exact (omega arith) (omega arith)
capped_sum a x b y r (exact h e) (exact k f) (over l g) = over (omega arith) g
capped_sum a x b y r (exact h e) (over k f) (exact l g) = absurd (omega arith)
capped_sum a x b y r (exact h e) (over k f) (over l g) = over (omega arith) g
capped_sum a x b y r (over h e) c (exact l g) = absurd (omega arith)
capped_sum a x b y r (over h e) c (over l g) = over (omega arith) g

pub capped_more : (a x n r : ℕ) → Capped a x → Capped (x + n) r → Capped (a + n) r
capped_more a x n r (exact h e) (exact l g) = exact (omega arith) (omega arith)
capped_more a x n r (exact h e) (over l g) = over (omega arith) g
capped_more a x n r (over h e) (exact l g) = absurd (omega arith)
capped_more a x n r (over h e) (over l g) = over (omega arith) g

-- a value
module _ (v : List ℕ) where
  pub value_over : line_limit < length v → Capped (length (escape v)) (line_limit + 1)
  value_over h = over (omega (arith, escape_longer v)) refl

  pub value_capped : (n : ℕ) → n ≡ length (escape v) → (r : ℕ) → Capped n r → Capped (length (escape v)) r
  value_capped n e r c = rw (← e) c

pub ruleset value_laws = (value_over, value_capped)
