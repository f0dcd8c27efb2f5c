-- Several content bytes at once: how many they then are, and which are held.
use Prim.Native.Nat.{ℕ, zero, suc, ◌+◌, ◌-◌, min, ◌≤◌, ◌<◌}
use mathlib.Core.Path.{◌≡◌, refl, sym, ap, ◌∙◌}
use mathlib.Core.List.{List, [], ◌∷◌, ◌++◌, append_assoc, append-nil}
use native.Mathlib.Omega.{arith}
use lib.Dec.{leb, ltb}
use lib.ListN.{length, take, drop, length-append}
use lib.Seq.{take-nil, length-take-le, append_snoc}
use Rattle.std.proofs.lemmas.List.{take_min}
use borrow.Author.Tests.{lt-ltb, le-ltb, le-leb, lt-leb, ltb-true, ltb-false, leb-true, leb-false}
use Rattle.base.proofs.Tests.{by_test, by_if}
use Rattle.output.specs.Output.{written, Wrote}
use Rattle.record.specs.Limits.{line_limit}
use Rattle.stream.specs.Machine.{more, keep}
use Rattle.stream.specs.Feeds.{kept}
use Rattle.stream.specs.Steps.{mores, keeps, Grew}

pub more_below : (n : ℕ) → n < 4294967295 → more n ≡ suc n
unfolding more
more_below n h = rw (lt-ltb n 4294967295 h)

pub more_top : (n : ℕ) → 4294967295 ≤ n → more n ≡ n
unfolding more
more_top n h = rw (le-ltb n 4294967295 h)

mores_top : (n k : ℕ) → 4294967295 ≤ n → mores n k ≡ n
unfolding mores
mores_top n zero h = refl
mores_top n (suc k) h = rw (more_top n h) (mores_top n k h)

mores_sum : (n k : ℕ) → n + k ≤ 4294967295 → n + k ≡ mores n k
unfolding mores
mores_sum n zero h = omega arith
mores_sum n (suc k) h = let q : suc n + k ≡ mores (suc n) k = mores_sum (suc n) k (omega arith) in rw (more_below n (omega arith)) (omega arith)

mores_over : (n k : ℕ) → n ≤ 4294967295 → 4294967295 ≤ n + k → 4294967295 ≡ mores n k
unfolding mores
mores_over n zero l h = omega arith
mores_over n (suc k) l h =
    by_test (λ b. 4294967295 ≡ mores n (suc k)) (ltb n 4294967295)
    (λ e. rw (more_below n (ltb-true n _ e)) (mores_over (suc n) k (omega (arith, ltb-true n _ e)) (omega arith)))
    (λ e. rw (more_top n (ltb-false n _ e)) (omega (arith, mores_top n k (ltb-false n _ e), ltb-false n _ e)))

-- what `grown` answers
pub grown_is : (n k : ℕ) → n ≤ 4294967295 → min (n + min k 4294967295) 4294967295 ≡ mores n k
grown_is n k l =
    by_test (λ b. min (n + min k 4294967295) 4294967295 ≡ mores n k) (leb (n + k) 4294967295)
    (λ e. omega (arith, mores_sum n k (leb-true (n + k) _ e), leb-true (n + k) _ e))
    (λ e. omega (arith, mores_over n k l (omega (arith, leb-false (n + k) _ e)), leb-false (n + k) _ e))

pub keep_in : (c : List ℕ) (b : ℕ) → length c < line_limit → keep c b ≡ c ++ b ∷ []
unfolding keep
keep_in c b h = rw (lt-ltb (length c) line_limit h)

pub keep_full : (c : List ℕ) (b : ℕ) → line_limit ≤ length c → keep c b ≡ c
unfolding keep
keep_full c b h = rw (le-ltb (length c) line_limit h)

keeps_is : (c xs : List ℕ) → keeps c xs ≡ c ++ take (line_limit - length c) xs
unfolding keeps
keeps_is c [] = rw (take-nil {A = ℕ} (line_limit - length c)) (sym (append-nil c))
keeps_is c (b ∷ xs) =
    by_test (λ t. keeps c (b ∷ xs) ≡ c ++ take (line_limit - length c) (b ∷ xs)) (ltb (length c) line_limit)
    (λ e. let h = ltb-true (length c) line_limit e in
    let m : line_limit - length c ≡ suc (line_limit - length (c ++ b ∷ [])) = simp length-append (omega arith) in
    rw (keep_in c b h, m) (keeps_is (c ++ b ∷ []) xs ∙ append_snoc c b (take (line_limit - length (c ++ b ∷ [])) xs)))
    (λ e. let h = ltb-false (length c) line_limit e in
    let m : line_limit - length c ≡ 0 = omega arith in
    let q = keeps_is c xs in
    rw (keep_full c b h, m) (q ∙ rw m))

-- of n content bytes those that are held
pub kept_in : (n : ℕ) → n ≤ line_limit → kept n ≡ n
kept_in n h = rw (le-leb n line_limit h)

pub kept_over : (n : ℕ) → line_limit < n → kept n ≡ line_limit
kept_over n h = rw (lt-leb n line_limit h)

pub kept_top : (n : ℕ) → line_limit ≤ n → kept n ≡ line_limit
kept_top n h = by_if (λ k. k ≡ line_limit) (leb n line_limit) n line_limit (λ e. omega (arith, leb-true n line_limit e)) (λ e. refl)

kept_min : (n : ℕ) → kept n ≡ min line_limit n
kept_min n = by_if (λ k. k ≡ min line_limit n) (leb n line_limit) n line_limit (λ e. omega (arith, leb-true n line_limit e)) (λ e. omega (arith, leb-false n line_limit e))

pub kept_le : (n : ℕ) → kept n ≤ line_limit
kept_le n = by_if (λ k. k ≤ line_limit) (leb n line_limit) n line_limit (λ e. leb-true n line_limit e) (λ e. omega arith)

more_up : (n : ℕ) → n ≤ more n
more_up n = by_test (λ t. n ≤ more n) (ltb n 4294967295) (λ e. rw (more_below n (ltb-true n _ e)) (omega arith)) (λ e. rw (more_top n (ltb-false n _ e)) (omega arith))

pub keep_kept : (n : ℕ) (c : List ℕ) (b : ℕ) → length c ≡ kept n → length (keep c b) ≡ kept (more n)
keep_kept n c b q =
    by_test (λ t. length (keep c b) ≡ kept (more n)) (ltb n line_limit)
    (λ e. let h = ltb-true n line_limit e in
    let k = kept_in n (omega arith) in
    rw (keep_in c b (omega arith), more_below n (omega arith), kept_in (suc n) (omega arith)) (simp length-append (omega arith)))
    (λ e. let h = ltb-false n line_limit e in
    let k = kept_top n h in
    rw (keep_full c b (omega arith), kept_top (more n) (omega (arith, more_up n))) (omega arith))

pub keeps_kept : (n : ℕ) (c xs : List ℕ) → length c ≡ kept n → length (keeps c xs) ≡ kept (mores n (length xs))
unfolding keeps mores
keeps_kept n c [] q = q
keeps_kept n c (b ∷ xs) q = keeps_kept (more n) (keep c b) xs (keep_kept n c b q)

pub held_length : (n : ℕ) (old : List ℕ) → line_limit ≤ length old → length (take (kept n) old) ≡ kept n
held_length n old h = length-take-le (kept n) old (omega (arith, kept_le n))

-- what `hold` leaves
pub hold_grew : (n : ℕ) (content old : List ℕ) (a m r next : ℕ) (new : List ℕ) → line_limit ≤ length old → a ≡ min line_limit n → m ≡ min (line_limit - a) (length content)
    → r ≡ mores n (length content) → Wrote old a (take m content) next new → Grew n content old r new
unfolding written
hold_grew n content old a m r next new room ea em e w =
    let q : length (take (kept n) old) ≡ a = held_length n old room ∙ kept_min n ∙ sym ea in
    let f : keeps (take (kept n) old) content ≡ take a old ++ take m content =
    keeps_is (take (kept n) old) content ∙ rw (q, em, take_min, kept_min n, ← ea) in
    let z : length (take a old ++ take m content) ≡ a + length (take m content) =
    length-append (take a old) (take m content) ∙ ap (λ (i : ℕ). i + length (take m content)) (length-take-le a old (omega arith)) in
    record {
      number = e;
      holds = w.holds ∙ rw (f, z) (sym (append_assoc (take a old) (take m content) (drop (a + length (take m content)) old)));
    }
