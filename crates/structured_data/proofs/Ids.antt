-- The id of an element: how far it goes, and the loop that counts it.
use Rattle.std.specs.Prelude.{if◌then◌else◌}
use Prim.Native.Nat.{ℕ, zero, suc, ◌+◌, ◌-◌, ◌≤◌, ◌<◌}
use mathlib.Core.Path.{◌≡◌, refl, sym, ap, ◌∙◌}
use mathlib.Core.Bool.{Bool, true, false, not, ◌&&◌, cond}
use mathlib.Core.List.{List, [], ◌∷◌}
use native.Mathlib.Omega.{arith}
use lib.Dec.{eqb}
use Rattle.std.specs.List.{take_while, prefix_len}
use Rattle.std.proofs.lemmas.List.Folds.{length-prefix_len}
use lib.ListN.{length, get_or, take, drop}
use borrow.Author.Tests.{not-true, not-false, ne_eqb}
use Rattle.base.specs.Choose.{within}
use Rattle.base.specs.Runs.{run, eight}
use Rattle.base.proofs.Tests.{both, by_test}
use Rattle.base.proofs.Runs.{Runs, runs_yes, eight_on}
use Rattle.base.proofs.Parts.{step, ended}
use Rattle.white.specs.White.{white_len}
use Rattle.white.proofs.Whites.{here}
use Rattle.white.proofs.Walks.{plain_front}
use Rattle.structured_data.specs.Param.{is_named}
use Rattle.structured_data.specs.Element.{id_len}
use Rattle.structured_data.specs.Steps.{is_plain}

pub id_le : (s : List ℕ) → id_len s ≤ length s
unfolding id_len
id_le [] = omega arith
id_le (b ∷ s) =
    let l = id_le s in
    by_test (λ t. (if t then suc (id_len s) else 0) ≤ suc (length s)) (eqb (white_len (b ∷ s)) 0 && is_named b) (λ e. omega arith) (λ e. omega arith)

id_none : id_len [] ≡ 0
unfolding id_len
id_none = refl

id_stops : (b : ℕ) (s : List ℕ) → is_named b ≡ false → id_len (b ∷ s) ≡ 0
unfolding id_len
id_stops b s h = go (eqb (white_len (b ∷ s)) 0)
  where
    go : (t : Bool) → (if t && is_named b then suc (id_len s) else 0) ≡ 0
    go true = rw h
    go false = refl

id_white : (b : ℕ) (s : List ℕ) → (white_len (b ∷ s) ≡ 0 → ⊥) → id_len (b ∷ s) ≡ 0
unfolding id_len
id_white b s h = rw (ne_eqb _ _ h)

id_more : (b : ℕ) (s : List ℕ) → is_named b ≡ true → white_len (b ∷ s) ≡ 0 → id_len (b ∷ s) ≡ suc (id_len s)
unfolding id_len
id_more b s h z = rw (z, h)

module _ (s : List ℕ) (i : ℕ) (inv : id_len s ≡ i + id_len (drop i s)) where
  pub id_out : length s ≤ i → i ≡ id_len s
  id_out h = let z : id_len (drop i s) ≡ 0 = ap id_len (ended s i h) ∙ id_none in omega arith

  module _ (h : i < length s) (t : Bool) (e : t ≡ is_named (get_or s i 0)) where
    pub id_off : not t ≡ true → i ≡ id_len s
    id_off q =
        let z : id_len (drop i s) ≡ 0 = ap id_len (step s i h) ∙ id_stops _ _ (sym e ∙ not-true t q) in
        omega arith

    -- a byte of ASCII above the space
    pub id_plain : not t ≡ false → within 33 127 (get_or s i 0) ≡ true → id_len s ≡ i + 1 + id_len (drop (i + 1) s)
    id_plain q p =
        let z : id_len (drop i s) ≡ suc (id_len (drop (i + 1) s)) =
        ap id_len (step s i h) ∙ id_more _ _ (sym e ∙ not-false t q) (plain_front (get_or s i 0) (drop (i + 1) s) p) in
        omega arith

    module _ (w : ℕ) (ew : w ≡ white_len (take (length s - i) (drop i s))) where
      white_is : white_len (get_or s i 0 ∷ drop (i + 1) s) ≡ w
      white_is = ap white_len (sym (step s i h)) ∙ sym (here s i w ew)

      pub id_at_white : (w ≡ 0 → ⊥) → i ≡ id_len s
      id_at_white q =
          let z : id_len (drop i s) ≡ 0 = ap id_len (step s i h) ∙ id_white _ _ (λ p. q (sym white_is ∙ p)) in
          omega arith

      pub id_on : not t ≡ false → w ≡ 0 → id_len s ≡ i + 1 + id_len (drop (i + 1) s)
      id_on q p =
          let z : id_len (drop i s) ≡ suc (id_len (drop (i + 1) s)) = ap id_len (step s i h) ∙ id_more _ _ (sym e ∙ not-false t q) (white_is ∙ p) in
          omega arith

-- eight of them
pub id_start : (s : List ℕ) → id_len s ≡ 0 + id_len (drop 0 s)
id_start s = omega arith

plain_next : (s : List ℕ) (j : ℕ) → j < length s → id_len s ≡ j + id_len (drop j s) → is_plain (get_or s j 0) ≡ true → id_len s ≡ j + 1 + id_len (drop (j + 1) s)
plain_next s j h w t =
    let (p, n) = both (within 33 127 (get_or s j 0)) (is_named (get_or s j 0)) t in
    id_plain s j w h (is_named (get_or s j 0)) refl (ap not n) p

pub id_eight : (s : List ℕ) → 8 ≤ length s → (b : Bool) → b ≡ eight is_plain s 0 → not b ≡ false → id_len s ≡ 8 + id_len (drop 8 s)
id_eight s l b e q = eight_on is_plain s (λ i. id_len s ≡ i + id_len (drop i s)) (plain_next s) 0 l (id_start s) b e q

pub ruleset id_laws = (id_out, id_off, id_plain, id_at_white, id_on)

-- the bytes at the front that a test takes are a run
run_prefix : (p : ℕ → Bool) (s : List ℕ) → prefix_len p s ≡ run p s
unfolding run
run_prefix p [] = refl
run_prefix p (b ∷ s) =
    let m = run_prefix p s in
    by_test (λ t. cond t (1 + prefix_len p s) 0 ≡ (if t then suc (run p s) else 0)) (p b) (λ _. omega arith) (λ _. refl)

pub taken_run : (p : ℕ → Bool) (s : List ℕ) → length (take_while p s) ≡ run p s
taken_run p s = length-prefix_len p s ∙ run_prefix p s

-- a letter of a name
pub name_letter : (s : List ℕ) (i : ℕ) → Runs is_named s (run is_named s) i → i < length s → 94 ≤ get_or s i 0 → Runs is_named s (run is_named s) (i + 1)
name_letter s i w h l = runs_yes is_named s (run is_named s) i w h (rw (ne_eqb (get_or s i 0) 93 (omega arith), ne_eqb (get_or s i 0) 61 (omega arith)))

-- no byte of an id is `]` or `=`
pub id_named : (s : List ℕ) (k : ℕ) → k < id_len s → is_named (get_or s k 0) ≡ true
unfolding id_len
id_named [] k h = absurd (omega arith)
id_named (b ∷ s) zero h =
    by_test (λ t. t ≡ true) (is_named b) (λ q. refl) (λ q. absurd (omega (arith, id_stops b s q)))
id_named (b ∷ s) (suc k) h =
    by_test (λ _. is_named (get_or s k 0) ≡ true) (eqb (white_len (b ∷ s)) 0 && is_named b)
    (λ q. let m : id_len (b ∷ s) ≡ suc (id_len s) = rw q in id_named s k (omega arith))
    (λ q. let m : id_len (b ∷ s) ≡ 0 = rw q in absurd (omega arith))
