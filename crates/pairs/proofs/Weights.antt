-- The first text of the least element whose class has unlike counts; and that those are the texts that do not occur as often.
use Prim.Native.Nat.{ℕ, zero, suc, ◌+◌, ◌-◌, ◌≤◌, ◌<◌}
use mathlib.Core.Path.{◌≡◌, refl, sym, ap, ap₂, ◌∙◌, subst}
use mathlib.Core.Bool.{Bool, true, false, not}
use mathlib.Core.List.{List}
use native.Mathlib.Decide.{ℕ_discrete}
use native.Mathlib.Omega.{arith}
use Rattle.std.proofs.Common.{get_or-take, get_or-drop, zero-add}
use Rattle.std.specs.Bool.{⊤, MatchBool}
use Rattle.std.specs.List.{range_with_len, AllWithin, HoldsAt}
use Rattle.std.proofs.lemmas.List.FromFn.{length-range_with_len, get_or-range_with_len}
use lib.Dec.{eqb}
use lib.ListN.{length, get_or, take, drop, replicate, length-replicate, length-take, length-drop}
use borrow.Author.Tests.{eq-eqb, ne_eqb}
use Rattle.base.specs.Texts.{same_text}
use Rattle.base.proofs.Tests.{by_test, clash}
use Rattle.base.proofs.Texts.{same_is, same_self, same_not}
use Rattle.pairs.specs.declared.Odd.{Odd}
use Rattle.pairs.specs.Tree.{Classes}
use Rattle.pairs.specs.Odd.{tally, is_odd, Least, Counted, Counting, unlike, Even, IfEven}
use Rattle.pairs.specs.Odd.Least.{none, some}
use Rattle.pairs.proofs.Counts.{tally_alike}

-- ---- the loop

-- of the first i
pub data Best (odd : ℕ → Bool) (element : ℕ → ℕ) (n i : ℕ) (r : Odd) : Type 0 where
  nothing_yet : r.entry ≡ n → r.element ≡ 65536 → ((k : ℕ) → k < i → odd k ≡ false) → Best odd element n i r
  this : r.entry < i → odd r.entry ≡ true → r.element ≡ element r.entry → ((k : ℕ) → k < i → odd k ≡ true → r.element ≤ element k)
      → ((k : ℕ) → k < r.entry → odd k ≡ true → r.element < element k) → Best odd element n i r

module _ (odd : ℕ → Bool) (element : ℕ → ℕ) (n : ℕ) where
  pub best_begins : Best odd element n 0 (record { entry = n; element = 65536 })
  best_begins = nothing_yet refl refl (λ k l. absurd (omega arith))

  module _ (i : ℕ) (r : Odd) (w : Best odd element n i r) where
    pub best_ends : i ≡ n → Least odd element n r
    best_ends e = go w
      where
        go : Best odd element n i r → Least odd element n r
        go (nothing_yet a b f) = none a (λ k l. f k (omega arith))
        go (this a b c f g) = some (omega arith) b c (λ k l. f k (omega arith)) g

    -- a fact of each below i + 1
    by_last : (P : ℕ → Type 0) → ((k : ℕ) → k < i → P k) → P i → (k : ℕ) → k < i + 1 → P k
    by_last P f p k l = go (ℕ_discrete k i)
      where
        go : Dec (k ≡ i) → P k
        go (yes e) = subst P (sym e) p
        go (no z) = f k (omega arith)

    -- text i is odd, and its element is less
    pub best_taken : odd i ≡ true → (e : ℕ) → e ≡ element i → e < r.element → (d : Odd) → d ≡ record { entry = i; element = e } → Best odd element n (i + 1) d
    best_taken o e ee el d ed = rw (ed, ee) (go w)
      where
        l : element i < r.element
        l = omega arith

        go : Best odd element n i r → Best odd element n (i + 1) (record { entry = i; element = element i })
        go (nothing_yet a b f) =
            this (omega arith) o refl (by_last (λ k. odd k ≡ true → element i ≤ element k) (λ k b q. clash (sym q ∙ f k b)) (λ q. omega arith)) (λ k b q. clash (sym q ∙ f k b))
        go (this a b c f g) =
            this (omega arith) o refl (by_last (λ k. odd k ≡ true → element i ≤ element k) (λ k b q. omega (arith, f k b q)) (λ q. omega arith)) (λ k b q. omega (arith, f k b q))

    -- it is not odd, or its element is not less
    pub best_left : (odd i ≡ true → (r.element ≤ element i) × (element i < 65536)) → (d : Odd) → d ≡ r → Best odd element n (i + 1) d
    best_left h d ed = rw ed (go w)
      where
        is_not : r.element ≡ 65536 → odd i ≡ false
        is_not b = by_test (λ t. odd i ≡ t → t ≡ false) (odd i) (λ e q. absurd (omega (arith, (h q).0, (h q).1))) (λ e q. refl) refl

        go : Best odd element n i r → Best odd element n (i + 1) r
        go (nothing_yet a b f) = nothing_yet a b (by_last (λ k. odd k ≡ false) f (is_not b))
        go (this a b c f g) = this (omega arith) b c (by_last (λ k. odd k ≡ true → r.element ≤ element k) f (λ q. (h q).0)) g

-- the class of text k has unlike counts
module _ (classes left right : List ℕ) (k : ℕ) where
  pub unlike_true : (c : ℕ) → c ≡ get_or classes k 0 → (get_or left c 0 ≡ get_or right c 0 → ⊥) → unlike classes left right k ≡ true
  unfolding unlike
  unlike_true c e h = rw (← e, ne_eqb _ _ h) refl

  pub unlike_false : (c : ℕ) → c ≡ get_or classes k 0 → get_or left c 0 ≡ get_or right c 0 → unlike classes left right k ≡ false
  unfolding unlike
  unlike_false c e h = rw (← e, eq-eqb _ _ h) refl

-- ---- what the counts say

-- the same of tests that are alike
pub least_alike : (odd odd' : ℕ → Bool) (element : ℕ → ℕ) (n : ℕ) (r : Odd) → ((k : ℕ) → k < n → odd k ≡ odd' k) → Least odd element n r → Least odd' element n r
least_alike odd odd' element n r h (none a f) = none a (λ k l. sym (h k l) ∙ f k l)
least_alike odd odd' element n r h (some a b c f g) = some a (sym (h r.entry a) ∙ b) c (λ k l o. f k l (h k l ∙ o)) (λ k l o. g k l (h k (omega arith) ∙ o))

module _ (key : ℕ → List ℕ) (element : ℕ → ℕ) (m n : ℕ) (h : m ≤ n) where
  module _ (classes : List ℕ) (s : Classes key n classes) where
    -- two classes are the same where the texts are
    class_tells : (j k : ℕ) → j < n → k < n → eqb (get_or classes j 0) (get_or classes k 0) ≡ same_text (key j) (key k)
    class_tells j k a b = go (ℕ_discrete (get_or classes j 0) (get_or classes k 0))
      where
        go : Dec (get_or classes j 0 ≡ get_or classes k 0) → eqb (get_or classes j 0) (get_or classes k 0) ≡ same_text (key j) (key k)
        go (yes e) = eq-eqb _ _ e ∙ sym (subst (λ (t : List ℕ). same_text (key j) t ≡ true) (sym (s.same j a) ∙ ap key e ∙ s.same k b) (same_self (key j)))
        go (no e) = ne_eqb _ _ e ∙ same_not (key j) (key k) (λ q. e (s.alike j k a b q))

    module _ (left right : List ℕ) (cl : Counted classes 0 m left) (cr : Counted classes m (n - m) right) where
      unlike_odd : (k : ℕ) → k < n → unlike classes left right k ≡ is_odd key m n k
      unfolding unlike is_odd
      unlike_odd k l =
          let c = get_or classes k 0 in
          ap₂ (λ (a b : ℕ). not (eqb a b))
          (cl c ∙ tally_alike (λ j. eqb (get_or classes j 0) c) (λ j. same_text (key j) (key k)) 0 0 m (λ j b. class_tells (0 + j) k (omega arith) l))
          (cr c ∙ tally_alike (λ j. eqb (get_or classes j 0) c) (λ j. same_text (key j) (key k)) m m (n - m) (λ j b. class_tells (m + j) k (omega arith) l))

      pub counts_tell : (r : Odd) → Least (unlike classes left right) element n r → Least (is_odd key m n) element n r
      counts_tell r w = least_alike (unlike classes left right) (is_odd key m n) element n r unlike_odd w

  -- where the others are the first, none is odd
  pub even_tells : Even key m n → Least (is_odd key m n) element n (record { entry = n; element = 65536 })
  unfolding is_odd
  even_tells e = none refl (λ k l. rw (even k) refl)
    where
      even : (k : ℕ) → eqb (tally (λ j. same_text (key j) (key k)) 0 m) (tally (λ j. same_text (key j) (key k)) m (n - m)) ≡ true
      even k =
          let q : n - m ≡ m = omega (arith, e.halves) in
          let z : (j : ℕ) → 0 + j ≡ j = λ j. omega arith in
          rw q
          (eq-eqb (tally (λ j. same_text (key j) (key k)) 0 m) (tally (λ j. same_text (key j) (key k)) m m)
          (tally_alike (λ j. same_text (key j) (key k)) (λ j. same_text (key j) (key k)) 0 m m (λ j l. ap (λ (t : List ℕ). same_text t (key k)) (ap key (z j) ∙ e.pairwise j l))))

zeros : (k q : ℕ) → ◌≡◌ {A = ℕ} (get_or (replicate k 0) q 0) 0
zeros zero q = refl
zeros (suc k) zero = refl
zeros (suc k) (suc q) = zeros k q

-- the classes from the m-th on are counted in a table of zeros
pub others_counting : (key : ℕ → List ℕ) (m n size : ℕ) (classes others : List ℕ) → length classes ≡ n → Classes key n classes → others ≡ drop m classes → n ≤ size → n < 65536
    → Counting others (replicate size 0)
others_counting key m n size classes others l s eo h f =
    let lo : length others ≡ n - m = rw (eo, length-drop) (omega arith) in
    record {
      few = omega arith;
      below = λ k b. rw (length-replicate, eo, get_or-drop) (omega (arith, s.below (m + k) (omega arith)));
      clear = zeros size;
    }

-- by the counts of the first m classes and of the others
pub counts_odd : (key : ℕ → List ℕ) (element : ℕ → ℕ) (m n : ℕ) (classes first others left right : List ℕ) (r : Odd) → m ≤ n → length classes ≡ n → Classes key n classes
    → first ≡ take m classes → others ≡ drop m classes → Counted first 0 (length first) left → Counted others 0 (length others) right
    → Least (unlike classes left right) element n r → Least (is_odd key m n) element n r
counts_odd key element m n classes first others left right r h l s ef eo cl cr w =
    let lf : length first ≡ m = rw (ef, length-take) (omega arith) in
    let lo : length others ≡ n - m = rw (eo, length-drop) (omega arith) in
    counts_tell key element m n h classes s left right
    (λ c. rw lf at (cl c) ∙ tally_alike (λ j. eqb (get_or first j 0) c) (λ j. eqb (get_or classes j 0) c) 0 0 m (λ j b. ap (λ x. eqb x c) (rw (ef, get_or-take m classes (0 + j) 0 (omega arith)) refl)))
    (λ c. rw lo at (cr c) ∙ tally_alike (λ j. eqb (get_or others j 0) c) (λ j. eqb (get_or classes j 0) c) 0 m (n - m) (λ j b. ap (λ x. eqb x c) (rw (eo, get_or-drop, zero-add) refl)))
    r w

-- ---- the first, one by one

pub even_halves : (key : ℕ → List ℕ) (m n : ℕ) → m ≤ n → n - m ≡ m → (r : Bool)
    → MatchBool r (AllWithin (λ k. same_text (key k) (key (m + k)) ≡ true) (range_with_len 0 m) 0 (length (range_with_len 0 m)))
    ((k : ℕ) × (k < length (range_with_len 0 m)) × HoldsAt (λ k. ⊤) (range_with_len 0 m) k)
    → IfEven key m n r
even_halves key m n l h false f = record { even = λ q. clash (sym q) }
even_halves key m n l h true f =
    record { even = λ q. record { halves = omega arith; pairwise = λ k b. same_is (key k) (key (m + k)) (rw (get_or-range_with_len 0 m k 0 b, zero-add) at (f k 0 (omega arith) (rw length-range_with_len b))) } }
