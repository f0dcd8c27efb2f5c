-- Where a text of characters can be cut: before and after each ASCII byte, because no byte of a longer character is one.
use Prim.Native.Nat.{ℕ, zero, suc, ◌+◌, ◌-◌, ◌≤◌, ◌<◌}
use mathlib.Core.Path.{◌≡◌, refl, ap, ◌∙◌}
use mathlib.Core.List.{List, [], ◌∷◌}
use mathlib.Core.Bool.{Bool, true}
use native.Mathlib.Decide.{dec_le}
use native.Mathlib.Numerals.{add-one}
use native.Mathlib.Omega.{arith}
use lib.Dec.{leb}
use lib.ListN.{length, get_or, take, drop}
use lib.Seq.{drop-drop, get_or-take}
use borrow.Author.Tests.{eqb-true, leb-true}
use Rattle.base.specs.Choose.{within, is_at}
use Rattle.base.specs.Runs.{run}
use Rattle.base.proofs.Tests.{both}
use Rattle.base.proofs.Ranges.{orders}
use Rattle.base.proofs.Parts.{step, ended}
use Rattle.base.proofs.Runs.{run_front, run_front_length, all_at}
use Rattle.utf8.specs.Lead.{lead_of, utf8_from, is_utf8}
use Rattle.utf8.proofs.Leads.{lead_1, lead_tail}
use Rattle.utf8.proofs.Asked.{lead_bounds}
use Rattle.utf8.proofs.Walk.{any_range}

-- what is to come of a character is tails
abbrev OfTails : ℕ → ℕ → ℕ → Type 0
OfTails more lo hi = 0 < more → (0x80 ≤ lo) × (hi ≤ 0xBF)

later_ones : (k : ℕ) → OfTails k 0x80 0xBF
later_ones k z = omega arith

asked_ones : (b : ℕ) → OfTails ((lead_of b).len - 1) (lead_of b).low (lead_of b).high
asked_ones b z = (lead_bounds b).tails (omega arith)

-- a cut before an ASCII byte, or at the end
before_ascii : (more lo hi : ℕ) (s : List ℕ) (n : ℕ) → OfTails more lo hi → utf8_from more lo hi s ≡ true → get_or s n 0 < 0x80 → is_utf8 (drop n s) ≡ true
unfolding utf8_from
before_ascii zero lo hi [] zero o h a = refl
before_ascii (suc k) lo hi [] zero o h a = absurd (omega (arith, eqb-true (suc k) 0 h))
before_ascii more lo hi [] (suc n) o h a = refl
before_ascii zero lo hi (b ∷ s) zero o h a = h
before_ascii (suc k) lo hi (b ∷ s) zero o h a =
    let p = orders lo hi b (both (within lo hi b) _ h).0 in
    absurd (omega (arith, o (omega arith)))
before_ascii zero lo hi (b ∷ s) (suc n) o h a =
    before_ascii ((lead_of b).len - 1) (lead_of b).low (lead_of b).high s n (asked_ones b) (both (leb 1 (lead_of b).len) _ h).1 a
before_ascii (suc k) lo hi (b ∷ s) (suc n) o h a = before_ascii k 0x80 0xBF s n (later_ones k) (both (within lo hi b) _ h).1 a

-- what stands before a cut is whole characters
front_of : (more lo hi : ℕ) (s : List ℕ) (n : ℕ) → OfTails more lo hi → utf8_from more lo hi s ≡ true → is_utf8 (drop n s) ≡ true → utf8_from more lo hi (take n s) ≡ true
unfolding utf8_from
front_of more lo hi [] zero o h e = h
front_of more lo hi [] (suc n) o h e = h
front_of zero lo hi (b ∷ s) zero o h e = refl
front_of (suc k) lo hi (b ∷ s) zero o h e =
    let p = orders lo hi b (both (within lo hi b) _ h).0 in
    let q = o (omega arith) in
    let none = ap (λ l. l.len) (lead_tail b (omega arith) (omega arith)) in
    absurd (omega (arith, leb-true 1 (lead_of b).len (both (leb 1 (lead_of b).len) _ e).0))
front_of zero lo hi (b ∷ s) (suc n) o h e =
    let (p, q) = both (leb 1 (lead_of b).len) _ h in
    rw p (front_of ((lead_of b).len - 1) (lead_of b).low (lead_of b).high s n (asked_ones b) q e)
front_of (suc k) lo hi (b ∷ s) (suc n) o h e =
    let (p, q) = both (within lo hi b) _ h in
    rw p (front_of k 0x80 0xBF s n (later_ones k) q e)

module _ (s : List ℕ) (h : is_utf8 s ≡ true) (n : ℕ) where
  -- (past the end the byte counts as 0, and nothing follows)
  pub cut_before : get_or s n 0 < 0x80 → is_utf8 (drop n s) ≡ true
  cut_before = before_ascii 0 0x80 0xBF s n (λ z. absurd (omega arith)) h

  pub cut_after : get_or s n 0 < 0x80 → is_utf8 (drop (n + 1) s) ≡ true
  unfolding utf8_from
  cut_after a = go (dec_le (length s) n)
    where
      go : Dec (length s ≤ n) → is_utf8 (drop (n + 1) s) ≡ true
      go (yes l) = rw (ended s (n + 1) (omega arith))
      go (no l) =
          any_range 0x80 0xBF 0 0 (drop (n + 1) s) ∙ rw (step s n (omega arith), lead_1 (get_or s n 0) (omega arith)) at (cut_before a)

  pub cut_front : is_utf8 (drop n s) ≡ true → is_utf8 (take n s) ≡ true
  cut_front = front_of 0 0x80 0xBF s n (λ z. absurd (omega arith)) h

-- the text between two cuts
pub cut_text : (s : List ℕ) (i n : ℕ) → is_utf8 (drop i s) ≡ true → is_utf8 (drop (i + n) s) ≡ true → is_utf8 (take n (drop i s)) ≡ true
cut_text s i n h e = cut_front (drop i s) h n (ap is_utf8 (drop-drop n i s) ∙ e)

-- a tested byte, and the cut before it and after it
module _ (s : List ℕ) (h : is_utf8 s ≡ true) (n b : ℕ) (small : b < 0x80) (e : is_at s n b ≡ true) where
  is_ascii_lem : get_or s n 0 < 0x80
  is_ascii_lem = omega (arith, eqb-true (get_or s n 0) b e)

  pub cut_at : is_utf8 (drop n s) ≡ true
  cut_at = cut_before s h n is_ascii_lem

  pub cut_past : is_utf8 (drop (n + 1) s) ≡ true
  cut_past = cut_after s h n is_ascii_lem

-- each place in a run of ASCII bytes
pub cut_run : (p : ℕ → Bool) → ((b : ℕ) → p b ≡ true → b < 0x80) → (s : List ℕ) → is_utf8 s ≡ true → (k : ℕ) → k ≤ run p s → is_utf8 (drop k s) ≡ true
cut_run p small s h zero l = h
cut_run p small s h (suc k) l =
    let at : p (get_or (take (suc k) s) k 0) ≡ true = all_at p (take (suc k) s) k (run_front p s (suc k) l) (omega (arith, run_front_length p s (suc k) l)) in
    rw (← add-one k) (cut_after s h k (small _ (rw (get_or-take (suc k) s k 0 (omega arith)) at at)))
