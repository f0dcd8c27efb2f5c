-- Where the elements differ: from the ids that are the same and the pair that is odd.
use Rattle.std.specs.Prelude.{if◌then◌else◌, Option, Some, None}
use Prim.Native.Nat.{ℕ, zero, suc, ◌+◌, ◌-◌, ◌≤◌, ◌<◌}
use mathlib.Core.Path.{◌≡◌, refl, sym, ap, ap₂, ◌∙◌}
use mathlib.Core.Bool.{Bool, true, false, not, ◌&&◌}
use mathlib.Core.List.{List, [], ◌∷◌}
use native.Mathlib.Decide.{dec_le}
use native.Mathlib.Omega.{arith}
use lib.Dec.{eqb, ltb, leb}
use lib.ListN.{length, get_or}
use borrow.Author.Tests.{lt-ltb, le-ltb, leb-true, leb-false, eqb-true, eq-eqb}
use Rattle.base.proofs.Tests.{by_test, clash}
use Rattle.pairs.specs.Odd.{Least}
use Rattle.pairs.specs.Odd.Least.{none, some}
use Rattle.pairs.specs.declared.Odd.{Odd}
use Rattle.differ.specs.declared.Part.{Part}
use Rattle.differ.specs.Seen.{Pair, Seen}
use Rattle.differ.specs.Differences.{occurs, before, has, odd_at, same_id_at, differs_at, positions, first_position, elements_differ}
use Rattle.differ.specs.Steps.{common_ids, pair_part, part_of, part_from}
use Rattle.differ.proofs.Ids.{common_le, same_before, other_there, longer}

abbrev at_part : ℕ → ℕ → ℕ → Option Part
at_part position line entry = Some (record { position = position; line = line; entry = entry })

abbrev nowhere : Option Part
nowhere = None

-- ---- the first that passes a test

module _ {A : Type 0} (d : A) (test : A → Bool) where
  pub before_at : (xs : List A) (k : ℕ) → k < length xs → ((i : ℕ) → i < k → test (get_or xs i d) ≡ false) → test (get_or xs k d) ≡ true → before test xs ≡ k
  unfolding before
  before_at [] k h f t = absurd (omega arith)
  before_at (x ∷ xs) zero h f t = rw t refl
  before_at (x ∷ xs) (suc k) h f t = rw (f 0 (omega arith)) (ap suc (before_at xs k (omega arith) (λ i l. f (suc i) (omega arith)) t))

  pub before_none : (xs : List A) → ((i : ℕ) → i < length xs → test (get_or xs i d) ≡ false) → before test xs ≡ length xs
  unfolding before
  before_none [] f = refl
  before_none (x ∷ xs) f = rw (f 0 (omega arith)) (ap suc (before_none xs (λ i l. f (suc i) (omega arith))))

  pub has_at : (xs : List A) (k : ℕ) → k < length xs → ((i : ℕ) → i < k → test (get_or xs i d) ≡ false) → test (get_or xs k d) ≡ true → has test xs ≡ true
  has_at xs k h f t = lt-ltb (before test xs) (length xs) (omega (arith, before_at xs k h f t))

  pub has_none : (xs : List A) → ((i : ℕ) → i < length xs → test (get_or xs i d) ≡ false) → has test xs ≡ false
  has_none xs f = le-ltb (before test xs) (length xs) (omega (arith, before_none xs f))

pub positions_length : (k n : ℕ) → length (positions k n) ≡ n
positions_length k zero = refl
positions_length k (suc n) = ap suc (positions_length (suc k) n)

positions_at : (k n i : ℕ) → i < n → get_or (positions k n) i 0 ≡ k + i
positions_at k zero i h = absurd (omega arith)
positions_at k (suc n) zero h = omega arith
positions_at k (suc n) (suc i) h = positions_at (suc k) n i (omega arith) ∙ omega arith

pub position_at : (n i : ℕ) → i < n → get_or (positions 0 n) i 0 ≡ i
position_at n i h = positions_at 0 n i h ∙ omega arith

-- ---- two readings

abbrev pub blank_pair : Pair
blank_pair = record { element = 0; name = []; value = [] }

-- whether a pair does not occur as often in both
abbrev pub uneven : Seen → Seen → Pair → Bool
uneven a b p = not (eqb (occurs p a.pairs) (occurs p b.pairs))

-- the pairs of both, by number, and what is known of each
pub record Linked (a b : Seen) (odd : ℕ → Bool) (element : ℕ → ℕ) : Type 0 where
  pub odd₁ : (j : ℕ) → j < length a.pairs → odd j ≡ uneven a b (get_or a.pairs j blank_pair)
  pub odd₂ : (j : ℕ) → j < length b.pairs → odd (length a.pairs + j) ≡ uneven a b (get_or b.pairs j blank_pair)
  pub element₁ : (j : ℕ) → j < length a.pairs → element j ≡ (get_or a.pairs j blank_pair).element
  pub element₂ : (j : ℕ) → j < length b.pairs → element (length a.pairs + j) ≡ (get_or b.pairs j blank_pair).element
  pub formed₁ : (j : ℕ) → j < length a.pairs → (get_or a.pairs j blank_pair).element < length a.ids
  pub formed₂ : (j : ℕ) → j < length b.pairs → (get_or b.pairs j blank_pair).element < length b.ids

-- a pair at another position, or one that is even, is not odd at position p
not_odd : (x p : ℕ) (o : Bool) → (o ≡ true → x ≡ p → ⊥) → (eqb x p && o) ≡ false
not_odd x p false h = and_false (eqb x p)
  where
    and_false : (t : Bool) → (t && false) ≡ false
    and_false true = refl
    and_false false = refl
not_odd x p true h = by_test (λ t. eqb x p ≡ t → (t && true) ≡ false) (eqb x p) (λ e q. absurd (h refl (eqb-true x p q))) (λ e q. refl) refl

is_there : (x p : ℕ) → p ≡ x → eqb x p ≡ true
is_there x p q = eq-eqb x p (sym q)

pub longer_le : (m n : ℕ) → (m ≤ longer m n) × (n ≤ longer m n)
longer_le m n =
    by_test (λ t. leb m n ≡ t → (m ≤ (if t then n else m)) × (n ≤ (if t then n else m))) (leb m n)
    (λ e q. (leb-true m n q, omega arith)) (λ e q. let l = leb-false m n q in (omega arith, omega arith)) refl

module _ (a b : Seen) (odd : ℕ → Bool) (element : ℕ → ℕ) (l : Linked a b odd element) (r : Odd) (w : Least odd element (length a.pairs + length b.pairs) r) where
  abbrev m : ℕ
  m = length a.pairs

  abbrev n : ℕ
  n = length a.pairs + length b.pairs

  abbrev k : ℕ
  k = common_ids a.ids b.ids

  abbrev most : ℕ
  most = longer (length a.ids) (length b.ids)

  -- no pair is odd at p
  pub record Quiet (p : ℕ) : Type 0 where
    pub quiet : (j : ℕ) → j < n → odd j ≡ true → element j ≡ p → ⊥

  quiet₁ : (p : ℕ) → Quiet p → (j : ℕ) → j < length a.pairs → odd_at a.pairs b.pairs p (get_or a.pairs j blank_pair) ≡ false
  quiet₁ p q j h = not_odd _ p (uneven a b (get_or a.pairs j blank_pair)) (λ o e. q.quiet j (omega arith) (l.odd₁ j h ∙ o) (l.element₁ j h ∙ e))

  quiet₂ : (p : ℕ) → Quiet p → (j : ℕ) → j < length b.pairs → odd_at a.pairs b.pairs p (get_or b.pairs j blank_pair) ≡ false
  quiet₂ p q j h = not_odd _ p (uneven a b (get_or b.pairs j blank_pair)) (λ o e. q.quiet (m + j) (omega arith) (l.odd₂ j h ∙ o) (l.element₂ j h ∙ e))

  no_odd : (p : ℕ) → Quiet p → (has (odd_at a.pairs b.pairs p) a.pairs ≡ false) × (has (odd_at a.pairs b.pairs p) b.pairs ≡ false)
  no_odd p q = (has_none blank_pair (odd_at a.pairs b.pairs p) a.pairs (quiet₁ p q), has_none blank_pair (odd_at a.pairs b.pairs p) b.pairs (quiet₂ p q))

  -- before k a position differs by its pairs alone
  alike_at : (p : ℕ) → p < k → Quiet p → differs_at a b p ≡ false
  alike_at p h q = let (x, y) = no_odd p q in rw (same_before a.ids b.ids p h, x, y) refl

  -- the first position that differs
  first_is : (p : ℕ) → p < most → ((j : ℕ) → j < p → differs_at a b j ≡ false) → differs_at a b p ≡ true → (first_position a b ≡ p) × (elements_differ a b ≡ true)
  first_is p h f t =
      let len : length (positions 0 most) ≡ most = positions_length 0 most in
      let f' : (i : ℕ) → i < p → differs_at a b (get_or (positions 0 most) i 0) ≡ false = λ i g. ap (differs_at a b) (position_at most i (omega arith)) ∙ f i g in
      let t' : differs_at a b (get_or (positions 0 most) p 0) ≡ true = ap (differs_at a b) (position_at most p h) ∙ t in
      (before_at 0 (differs_at a b) (positions 0 most) p (omega (arith, len)) f' t', has_at 0 (differs_at a b) (positions 0 most) p (omega (arith, len)) f' t')

  none_is : ((j : ℕ) → j < most → differs_at a b j ≡ false) → elements_differ a b ≡ false
  none_is f = has_none 0 (differs_at a b) (positions 0 most) (λ i h. let g : i < most = omega (arith, positions_length 0 most) in ap (differs_at a b) (position_at most i g) ∙ f i g)

  -- position k differs by its ids
  by_ids : k < most → ((j : ℕ) → j < k → Quiet j) → at_part k 0 0 ≡ part_from a b
  unfolding part_from
  by_ids h q =
      let o : same_id_at a b k ≡ false = other_there a.ids b.ids h in
      let f = first_is k h (λ j b. alike_at j b (q j b)) (rw o refl) in
      rw (f.1, f.0, o) refl

  -- none does
  by_none : most ≤ k → ((j : ℕ) → j < k → Quiet j) → nowhere ≡ part_from a b
  unfolding part_from
  by_none h q = rw (none_is (λ j b. let g : j < k = omega arith in alike_at j g (q j g))) refl

  -- position p differs by its pairs
  module _ (p : ℕ) (h : p < k) (q : (j : ℕ) → j < p → Quiet j) where
    below : p < most
    below = let c = common_le a.ids b.ids in let g = longer_le (length a.ids) (length b.ids) in omega (arith, c.0, g.0)

    alike : (j : ℕ) → j < p → differs_at a b j ≡ false
    alike j g = alike_at j (omega arith) (q j g)

    by_first : (i : ℕ) → i < m → ((j : ℕ) → j < i → odd_at a.pairs b.pairs p (get_or a.pairs j blank_pair) ≡ false) → odd_at a.pairs b.pairs p (get_or a.pairs i blank_pair) ≡ true
        → at_part p 1 i ≡ part_from a b
    unfolding part_from
    by_first i g f t =
        let s = same_before a.ids b.ids p h in
        let y = has_at blank_pair (odd_at a.pairs b.pairs p) a.pairs i g f t in
        let e = before_at blank_pair (odd_at a.pairs b.pairs p) a.pairs i g f t in
        let d = first_is p below alike (rw (s, y) refl) in
        rw (d.1, d.0, s, y, e) refl

    by_second : (i : ℕ) → i < length b.pairs → ((j : ℕ) → j < m → odd_at a.pairs b.pairs p (get_or a.pairs j blank_pair) ≡ false)
        → ((j : ℕ) → j < i → odd_at a.pairs b.pairs p (get_or b.pairs j blank_pair) ≡ false) → odd_at a.pairs b.pairs p (get_or b.pairs i blank_pair) ≡ true
        → at_part p 2 i ≡ part_from a b
    unfolding part_from
    by_second i g u f t =
        let s = same_before a.ids b.ids p h in
        let x = has_none blank_pair (odd_at a.pairs b.pairs p) a.pairs u in
        let y = has_at blank_pair (odd_at a.pairs b.pairs p) b.pairs i g f t in
        let e = before_at blank_pair (odd_at a.pairs b.pairs p) b.pairs i g f t in
        let d = first_is p below alike (rw (s, x, y) refl) in
        rw (d.1, d.0, s, x, e) refl

  -- a pair is of a position that its own line has
  formed : (j : ℕ) → j < n → odd j ≡ true → element j < most
  formed j h o = go (dec_le m j)
    where
      go : Dec (m ≤ j) → element j < most
      go (no g) = let x = l.formed₁ j (omega arith) in let y = longer_le (length a.ids) (length b.ids) in omega (arith, l.element₁ j (omega arith), y.0)
      go (yes g) =
          let i : m + (j - m) ≡ j = omega arith in
          let x = l.formed₂ (j - m) (omega arith) in
          let y = longer_le (length a.ids) (length b.ids) in
          omega (arith, ap element i, l.element₂ (j - m) (omega arith), y.1)

  pub part_tells : part_of k most r m n ≡ part_from a b
  part_tells = go w
    where
      go : Least odd element n r → part_of k most r m n ≡ part_from a b
      go (none e f) =
          let q : (j : ℕ) → j < k → Quiet j = λ j h. record { quiet = λ i b o. clash (sym o ∙ f i b) } in
          at (dec_le most k) q
        where
          at : Dec (most ≤ k) → ((j : ℕ) → j < k → Quiet j) → part_of k most r m n ≡ part_from a b
          at (yes h) q = rw (le-ltb r.entry n (omega arith), le-ltb k most h) (by_none h q)
          at (no h) q = rw (le-ltb r.entry n (omega arith), lt-ltb k most (omega arith)) (by_ids (omega arith) q)
      go (some e o c f g) = at (dec_le k r.element)
        where
          at : Dec (k ≤ r.element) → part_of k most r m n ≡ part_from a b
          at (yes h) =
              let q : (j : ℕ) → j < k → Quiet j = λ j b. record { quiet = λ i x y z. absurd (omega (arith, f i x y)) } in
              let small : k < most = omega (arith, c, formed r.entry e o) in
              rw (lt-ltb r.entry n e, le-ltb r.element k h, lt-ltb k most small) (by_ids small q)
          at (no h) =
              let q : (j : ℕ) → j < r.element → Quiet j = λ j b. record { quiet = λ i x y z. absurd (omega (arith, f i x y)) } in
              rw (lt-ltb r.entry n e, lt-ltb r.element k (omega arith)) (side (dec_le m r.entry) (omega arith) q)
            where
              -- a pair before it is not odd at its position
              before₁ : (j : ℕ) → j < m → j < r.entry → odd_at a.pairs b.pairs r.element (get_or a.pairs j blank_pair) ≡ false
              before₁ j x y = not_odd _ r.element (uneven a b (get_or a.pairs j blank_pair)) (λ u v. let z = g j y (l.odd₁ j x ∙ u) in omega (arith, l.element₁ j x))

              before₂ : (j : ℕ) → j < length b.pairs → m + j < r.entry → odd_at a.pairs b.pairs r.element (get_or b.pairs j blank_pair) ≡ false
              before₂ j x y = not_odd _ r.element (uneven a b (get_or b.pairs j blank_pair)) (λ u v. let z = g (m + j) y (l.odd₂ j x ∙ u) in omega (arith, l.element₂ j x))

              side : Dec (m ≤ r.entry) → r.element < k → ((j : ℕ) → j < r.element → Quiet j) → Some (pair_part r m) ≡ part_from a b
              side (no x) s q =
                  let y : r.entry < m = omega arith in
                  rw (lt-ltb r.entry m y)
                  (by_first r.element s q r.entry y (λ j b. before₁ j (omega arith) b)
                  (ap₂ (λ (t u : Bool). t && u) (is_there (get_or a.pairs r.entry blank_pair).element r.element (c ∙ l.element₁ r.entry y)) (sym (l.odd₁ r.entry y) ∙ o)))
              side (yes x) s q =
                  let i : m + (r.entry - m) ≡ r.entry = omega arith in
                  let y : r.entry - m < length b.pairs = omega arith in
                  rw (le-ltb r.entry m x)
                  (by_second r.element s q (r.entry - m) y (λ j b. before₁ j b (omega arith)) (λ j b. before₂ j (omega arith) (omega arith))
                  (ap₂ (λ (t u : Bool). t && u) (is_there (get_or b.pairs (r.entry - m) blank_pair).element r.element (c ∙ ap element (sym i) ∙ l.element₂ (r.entry - m) y))
                  (sym (l.odd₂ (r.entry - m) y) ∙ ap odd i ∙ o)))

-- ---- in the form of the code

module _ (odd : Odd) (m : ℕ) where
  pub pair_first : odd.entry < m → record { position = odd.element; line = 1; entry = odd.entry } ≡ pair_part odd m
  pair_first h = rw (lt-ltb odd.entry m h) refl

  pub pair_second : m ≤ odd.entry → record { position = odd.element; line = 2; entry = odd.entry - m } ≡ pair_part odd m
  pair_second h = rw (le-ltb odd.entry m h) refl

pub ruleset pair_laws = (pair_first, pair_second)

module _ (k most : ℕ) (odd : Odd) (m n : ℕ) where
  pub part_pair : (ltb odd.entry n && ltb odd.element k) ≡ true → (p : Part) → p ≡ pair_part odd m → Some p ≡ part_of k most odd m n
  part_pair h p e = rw h (ap Some e)

  module _ (h : (ltb odd.entry n && ltb odd.element k) ≡ false) where
    pub part_ids : k < most → at_part k 0 0 ≡ part_of k most odd m n
    part_ids g = rw (h, lt-ltb k most g) refl

    pub part_none : most ≤ k → nowhere ≡ part_of k most odd m n
    part_none g = rw (h, le-ltb k most g) refl

pub ruleset part_laws = (part_pair, part_ids, part_none)
