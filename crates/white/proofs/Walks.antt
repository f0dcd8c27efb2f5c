-- The walks from the front, `field_len` and `white_run`: what each says of the rest of the text, its steps and its ends.
use Prim.Native.Nat.{ℕ, zero, suc, ◌+◌, ◌-◌, ◌^◌, ◌≤◌, ◌<◌}
use mathlib.Core.Path.{◌≡◌, refl, sym, ap, ◌∙◌}
use mathlib.Core.Bool.{Bool, true, false, not, ◌&&◌}
use mathlib.Core.List.{List, [], ◌∷◌}
use native.Mathlib.Omega.{arith}
use mir.Syntax.{w64}
use mir.Val.{Fits}
use lib.Dec.{eqb}
use lib.ListN.{length, get_or, take, drop}
use lib.Seq.{drop-drop}
use borrow.Author.Tests.{ne_eqb}
use Rattle.base.proofs.Parts.{ended, step}
use Rattle.white.specs.White.{is_white, white_len}
use Rattle.white.specs.Trim.{field_len, white_from, white_run}
use Rattle.base.specs.Choose.{within}
use Rattle.base.proofs.Ranges.{outside, orders}
use Rattle.base.proofs.Tests.{both, told, by_if}
use Rattle.white.proofs.Points.{white_ascii}
use Rattle.white.proofs.Whites.{here, white_fits, white_within}
use Rattle.white.proofs.Bytes.{ascii_front}

-- The field
pub field_le : (s : List ℕ) → field_len s ≤ length s
unfolding field_len
field_le [] = omega arith
field_le (b ∷ s) =
    let l = field_le s in
    by_if (λ n. n ≤ suc (length s)) (eqb (white_len (b ∷ s)) 0) (suc (field_len s)) 0 (λ e. omega arith) (λ e. omega arith)

pub field_more : (b : ℕ) (s : List ℕ) → white_len (b ∷ s) ≡ 0 → field_len (b ∷ s) ≡ suc (field_len s)
unfolding field_len
field_more b s z = rw z

pub field_stops : (s : List ℕ) → (white_len s ≡ 0 → ⊥) → field_len s ≡ 0
unfolding field_len
field_stops [] z = refl
field_stops (b ∷ s) z = rw (ne_eqb (white_len (b ∷ s)) 0 z)

module _ (s : List ℕ) (i : ℕ) (inv : field_len s ≡ i + field_len (drop i s)) where
  pub field_end : length s ≤ i → i ≡ field_len s
  unfolding field_len
  field_end h = let z : field_len (drop i s) ≡ 0 = rw (ended s i h) in omega arith

  module _ (w : ℕ) (e : w ≡ white_len (take (length s - i) (drop i s))) where
    pub field_next : i < length s → w ≡ 0 → field_len s ≡ i + 1 + field_len (drop (i + 1) s)
    field_next h z =
        let o = ap white_len (sym (step s i h)) ∙ sym (here s i w e) ∙ z in
        omega (arith, ap field_len (step s i h), field_more _ _ o)

    pub field_stop : (w ≡ 0 → ⊥) → i ≡ field_len s
    field_stop z = omega (arith, field_stops (drop i s) (λ q. z (here s i w e ∙ q)))

-- ASCII above the space is not white
pub plain_front : (b : ℕ) (s : List ℕ) → within 33 127 b ≡ true → white_len (b ∷ s) ≡ 0
plain_front b s p =
    let o = orders 33 127 b p in
    let n : is_white b ≡ false = sym (white_ascii b (omega arith)) ∙ rw (outside 9 13 b (omega arith), ne_eqb b 32 (omega arith)) in
    ascii_front b s (omega arith) ∙ rw n

plain_next : (s : List ℕ) (i j : ℕ) → j ≡ i + 1 → i < length s → within 33 127 (get_or s i 0) ≡ true → field_len (drop i s) ≡ suc (field_len (drop j s))
plain_next s i j e h p =
    let b = get_or s i 0 in
    ap field_len (step s i h) ∙ rw (e, field_more b (drop (i + 1) s) (plain_front b (drop (i + 1) s) p))

-- how far a field was walked
pub record Walked (s : List ℕ) (i : ℕ) : Type 0 where
  pub inside : i ≤ length s
  pub left : field_len s ≡ i + field_len (drop i s)

pub walked_none : (s : List ℕ) → Walked s 0
walked_none s = omega arith

pub plain_on : (s : List ℕ) (i : ℕ) → Walked s i → i + 4 ≤ length s → (t : Bool)
    → t ≡ (within 33 127 (get_or s i 0) && within 33 127 (get_or s (i + 1) 0) && within 33 127 (get_or s (i + 2) 0) && within 33 127 (get_or s (i + 3) 0))
    → not t ≡ false → Walked s (i + 4)
plain_on s i w h t e q =
    let (abc, d) = both _ (within 33 127 (get_or s (i + 3) 0)) (told t _ e q) in
    let (ab, c) = both _ (within 33 127 (get_or s (i + 2) 0)) abc in
    let (a, b) = both (within 33 127 (get_or s i 0)) (within 33 127 (get_or s (i + 1) 0)) ab in
    let f = plain_next s i (i + 1) refl (omega arith) a in
    let g = plain_next s (i + 1) (i + 2) (omega arith) (omega arith) b in
    let k = plain_next s (i + 2) (i + 3) (omega arith) (omega arith) c in
    let l = plain_next s (i + 3) (i + 4) (omega arith) (omega arith) d in
    record { inside = h; left = omega (arith, w.left) }

pub ruleset plain_laws = (walked_none, plain_on)

pub ruleset field_laws = (field_end, field_next, field_stop)

-- White characters at the front
from_le : (k : ℕ) (s : List ℕ) → white_from k s ≤ length s
unfolding white_from
from_le k [] = omega arith
from_le zero (b ∷ s) =
    let l = from_le (white_len (b ∷ s) - 1) s in
    by_if (λ n. n ≤ suc (length s)) (eqb (white_len (b ∷ s)) 0) 0 (suc (white_from (white_len (b ∷ s) - 1) s)) (λ e. omega arith) (λ e. omega arith)
from_le (suc k) (b ∷ s) = let l = from_le k s in omega arith

pub run_le : (s : List ℕ) → white_run s ≤ length s
run_le s = from_le 0 s

run_skip : (k : ℕ) (s : List ℕ) → k ≤ length s → white_from k s ≡ k + white_run (drop k s)
unfolding white_from
run_skip zero s h = omega arith
run_skip (suc k) [] h = absurd (omega arith)
run_skip (suc k) (b ∷ s) h = let r = run_skip k s (omega arith) in omega arith

-- a white character, and the run after it
pub run_more : (s : List ℕ) (w : ℕ) → w ≡ white_len s → (w ≡ 0 → ⊥) → white_run s ≡ w + white_run (drop w s)
unfolding white_from
run_more s zero e z = absurd (z refl)
run_more [] (suc k) e z = absurd (omega (arith, white_fits []))
run_more (b ∷ s) (suc k) e z =
    let r = run_skip k s (omega (arith, white_fits (b ∷ s))) in
    let p : suc k - 1 ≡ k = omega arith in
    rw (← e, ne_eqb (suc k) 0 z, p) (omega arith)

pub run_stops : (s : List ℕ) → white_len s ≡ 0 → white_run s ≡ 0
unfolding white_from
run_stops [] z = refl
run_stops (b ∷ s) z = rw z

module _ (s : List ℕ) (i : ℕ) (inv : white_run s ≡ i + white_run (drop i s)) where
  pub run_end : length s ≤ i → i ≡ white_run s
  unfolding white_from
  run_end h = let z : white_run (drop i s) ≡ 0 = rw (ended s i h) in omega arith

  module _ (w : ℕ) (e : w ≡ white_len (take (length s - i) (drop i s))) where
    pub run_next : (w ≡ 0 → ⊥) → white_run s ≡ i + w + white_run (drop (i + w) s)
    run_next z = omega (arith, run_more (drop i s) w (here s i w e) z, ap white_run (drop-drop w i s))

    pub run_stop : w ≡ 0 → i ≡ white_run s
    run_stop z = omega (arith, run_stops (drop i s) (sym (here s i w e) ∙ z))

-- a step of `w` bytes: it fits, and less is left
module _ (s : List ℕ) (i w : ℕ) (h : i < length s) (e : w ≡ white_len (take (length s - i) (drop i s))) where
  pub step_fits_lem : length s < 2 ^ 64 → Fits w64 (i + w)
  step_fits_lem g = record { fits = omega (arith, white_within s i w e (omega arith)) }

  pub step_less : (w ≡ 0 → ⊥) → length s - (i + w) < length s - i
  step_less z = omega arith

pub ruleset run_laws = (run_end, run_next, run_stop, white_within, step_fits_lem, step_less)
