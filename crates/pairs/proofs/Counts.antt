-- Counting: how many pass a test, and one class more.
use Rattle.std.specs.Prelude.{if◌then◌else◌}
use Prim.Native.Nat.{ℕ, zero, suc, ◌+◌, ◌≤◌, ◌<◌}
use mathlib.Core.Path.{◌≡◌, refl, sym, ap, ap₂, ◌∙◌}
use mathlib.Core.Bool.{Bool}
use mathlib.Core.List.{List}
use native.Mathlib.Decide.{ℕ_discrete}
use native.Mathlib.Omega.{arith}
use Rattle.std.proofs.Math.Numerals.{add-one}
use lib.Dec.{eqb}
use lib.ListN.{length, get_or, set}
use lib.Seq.{get_or-set_same, get_or-set_other}
use borrow.Author.Tests.{eq-eqb, ne_eqb}
use Rattle.base.proofs.Tests.{by_if}
use Rattle.pairs.specs.Odd.{tally, Counted}

-- no more pass than there are
pub tally_le : (test : ℕ → Bool) (from n : ℕ) → tally test from n ≤ n
unfolding tally
tally_le test from zero = omega arith
tally_le test from (suc n) =
    by_if (λ x. tally test from n + x ≤ suc n) (test (from + n)) 1 0 (λ e. omega (arith, tally_le test from n)) (λ e. omega (arith, tally_le test from n))

-- tests that are alike where they are asked
pub tally_alike : (a b : ℕ → Bool) (f g n : ℕ) → ((j : ℕ) → j < n → a (f + j) ≡ b (g + j)) → tally a f n ≡ tally b g n
unfolding tally
tally_alike a b f g zero h = refl
tally_alike a b f g (suc n) h =
    ap₂ ◌+◌ (tally_alike a b f g n (λ j l. h j (omega arith))) (ap (λ (t : Bool). if t then 1 else 0) (h n (omega arith)))

-- one more
tally_next : (test : ℕ → Bool) (i : ℕ) → tally test 0 (i + 1) ≡ tally test 0 i + (if test i then 1 else 0)
unfolding tally
tally_next test i = let z : 0 + i ≡ i = omega arith in rw (add-one, z) refl

add_zero : (n : ℕ) → n + 0 ≡ n
add_zero n = omega arith

-- ---- the loop

pub count_begins : (classes counts : List ℕ) → ((c : ℕ) → get_or counts c 0 ≡ 0) → Counted classes 0 0 counts
unfolding tally
count_begins classes counts h c = h c

module _ (classes counts : List ℕ) (i : ℕ) (w : Counted classes 0 i counts) where
  pub count_few : (c : ℕ) → get_or counts c 0 ≤ i
  count_few c = omega (arith, w c, tally_le (λ j. eqb (get_or classes j 0) c) 0 i)

  pub count_on : (c : ℕ) → c ≡ get_or classes i 0 → c < length counts → Counted classes 0 (i + 1) (set counts c (get_or counts c 0 + 1))
  count_on c ec h d = go (ℕ_discrete d c)
    where
      go : Dec (d ≡ c) → get_or (set counts c (get_or counts c 0 + 1)) d 0 ≡ tally (λ j. eqb (get_or classes j 0) d) 0 (i + 1)
      go (yes e) =
          rw (e, get_or-set_same counts c (get_or counts c 0 + 1) 0 h, tally_next (λ j. eqb (get_or classes j 0) c) i, eq-eqb (get_or classes i 0) c (sym ec), ← w c)
          refl
      go (no n) =
          rw (get_or-set_other counts c d (get_or counts c 0 + 1) 0 n, tally_next (λ j. eqb (get_or classes j 0) d) i, ne_eqb (get_or classes i 0) d (λ q. n (sym q ∙ sym ec)))
          (w d ∙ sym (add_zero (tally (λ j. eqb (get_or classes j 0) d) 0 i)))
