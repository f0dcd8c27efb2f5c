-- An output that holds a text: its length, one write after another, a write into a part, and the loops that write.
use Prim.Native.Nat.{ℕ, suc, ◌+◌, ◌-◌, ◌≤◌, ◌<◌}
use mathlib.Core.Path.{◌≡◌, refl, sym, ap, ◌∙◌}
use mathlib.Core.List.{List, [], ◌∷◌, ◌++◌, append_assoc, append-nil}
use native.Mathlib.Nat.{add-zero}
use native.Mathlib.Numerals.{add-one}
use native.Mathlib.Omega.{arith}
use lib.ListN.{length, get_or, take, drop, set, length-append, length-drop, length-set, take-append-drop, drop_of_length-le}
use lib.Seq.{set_split, take_at, drop_at, drop-drop, drop-append-add, length-take-le, take-set-le, append_snoc}
use Rattle.base.specs.Fills.{filled}
use Rattle.base.proofs.Parts.{rest, step, ended}
use Rattle.output.specs.Output.{written, Wrote}
use Rattle.output.specs.Fits.{Fits}

-- what comes before the end of the text
front : (out : List ℕ) (at : ℕ) (xs : List ℕ) → at ≤ length out → length (take at out ++ xs) ≡ at + length xs
front out at xs h = length-append (take at out) xs ∙ ap (λ (n : ℕ). n + length xs) (length-take-le at out h)

regrouped : (out : List ℕ) (at : ℕ) (xs : List ℕ) → written out at xs ≡ (take at out ++ xs) ++ drop (at + length xs) out
unfolding written
regrouped out at xs = sym (append_assoc (take at out) xs (drop (at + length xs) out))

-- nothing
pub written_none : (out : List ℕ) (at : ℕ) → written out at [] ≡ out
unfolding written
written_none out at = rw (add-zero at) (take-append-drop at out)

-- one byte
pub written_set : (out : List ℕ) (at b : ℕ) → at < length out → set out at b ≡ written out at (b ∷ [])
unfolding written
written_set out at b h = rw (add-one at) (set_split out at b h)

-- at the front
pub written_front : (out text : List ℕ) → written out 0 text ≡ filled text out
unfolding written
written_front out text = let m : 0 + length text ≡ length text = omega arith in ap (λ (k : ℕ). text ++ drop k out) m

-- the length stays
pub written_length : (out : List ℕ) (at : ℕ) (xs : List ℕ) → at + length xs ≤ length out → length (written out at xs) ≡ length out
written_length out at xs h =
    ap length (regrouped out at xs)
    ∙ length-append (take at out ++ xs) (drop (at + length xs) out)
    ∙ omega (arith, front out at xs (omega arith), length-drop (at + length xs) out)

-- two texts, one after the other
pub written_more : (out : List ℕ) (at : ℕ) (xs ys : List ℕ) → at + length xs ≤ length out
    → written (written out at xs) (at + length xs) ys ≡ written out at (xs ++ ys)
unfolding written
written_more out at xs ys h =
    let p = take at out ++ xs in
    let n = at + length xs in
    let q = drop (at + length xs) out in
    let e : length p ≡ n = front out at xs (omega arith) in
    let a : take n (written out at xs) ≡ p = ap (take n) (regrouped out at xs) ∙ take_at p q n e in
    let m : n + length ys ≡ at + length (xs ++ ys) = omega (arith, length-append xs ys) in
    let b : drop (n + length ys) (written out at xs) ≡ drop (at + length (xs ++ ys)) out =
    ap (drop (n + length ys)) (regrouped out at xs)
    ∙ ap (λ (k : ℕ). drop (k + length ys) (p ++ q)) (sym e)
    ∙ drop-append-add p q (length ys)
    ∙ drop-drop (length ys) n out
    ∙ ap (λ (k : ℕ). drop k out) m in
    rw (a, b) (append_assoc (take at out) xs (ys ++ drop (at + length (xs ++ ys)) out) ∙ ap (λ (l : List ℕ). take at out ++ l) (sym (append_assoc xs ys (drop (at + length (xs ++ ys)) out))))

-- the same from the back: a byte, and then the text before it
written_last : (out : List ℕ) (at : ℕ) (xs : List ℕ) (b : ℕ) → at + length xs < length out
    → written (set out (at + length xs) b) at xs ≡ written out at (xs ++ b ∷ [])
unfolding written
written_last out at xs b h =
    let m = at + length xs in
    let n : suc m ≡ at + length (xs ++ b ∷ []) = simp length-append (omega arith) in
    let d : drop m (set out m b) ≡ b ∷ drop (suc m) out =
    ap (drop m) (set_split out m b h) ∙ drop_at (take m out) (b ∷ drop (suc m) out) m (length-take-le m out (omega arith)) in
    rw (take-set-le at out m b (omega arith), d, n) (ap (λ (l : List ℕ). take at out ++ l) (sym (append_snoc xs b (drop (at + length (xs ++ b ∷ [])) out))))

-- into the part from `at` on
written_part : (out : List ℕ) (at : ℕ) (xs : List ℕ) → take at out ++ written (drop at out) 0 xs ≡ written out at xs
unfolding written
written_part out at xs =
    let m : at + (0 + length xs) ≡ at + length xs = omega arith in
    ap (λ (l : List ℕ). take at out ++ (xs ++ l)) (drop-drop (0 + length xs) at out ∙ ap (λ (k : ℕ). drop k out) m)

pub wrote_set : (out : List ℕ) (at b : ℕ) → Fits out at (b ∷ []) → Wrote out at (b ∷ []) (at + 1) (set out at b)
wrote_set out at b h = record { behind = refl; holds = written_set out at b (omega (arith, h.fits)) }

-- nothing written
pub wrote_none : (out : List ℕ) (at : ℕ) → Wrote out at [] at out
wrote_none out at = record { behind = omega arith; holds = sym (written_none out at) }

module _ {o : List ℕ} {at : ℕ} {xs : List ℕ} {n : ℕ} {p : List ℕ} (w : Wrote o at xs n p) (h : at + length xs ≤ length o) where
  pub wrote_length : length p ≡ length o
  wrote_length = ap length w.holds ∙ written_length o at xs h

  -- two writes are one
  pub wrote_then : {ys : List ℕ} {m : ℕ} {q : List ℕ} → Wrote p n ys m q → Wrote o at (xs ++ ys) m q
  wrote_then {ys} v =
      record {
        behind = omega (arith, w.behind, v.behind, length-append xs ys);
        holds = v.holds ∙ rw (w.behind, w.holds) (written_more o at xs ys h);
      }

-- into a part that was lent, `&mut out[at..]`, and is back
pub wrote_part : (out : List ℕ) (at : ℕ) (text : List ℕ) (r : ℕ) (ys : List ℕ) → Fits out at text
    → Wrote (take (length out - at) (drop at out)) 0 text r ys → Wrote out at text (at + r) (take at out ++ (ys ++ drop (length out - at) (drop at out)))
wrote_part out at text r ys f w =
    let h : at ≤ length out = omega (arith, f.fits) in
    let l : length (drop at out) ≡ length out - at = length-drop at out in
    let none : drop (length out - at) (drop at out) ≡ [] = drop_of_length-le (drop at out) {i = length out - at} (omega arith) in
    record {
      behind = omega (arith, w.behind);
      holds = rw (none, append-nil ys, w.holds, rest out at) (written_part out at text);
    }

-- A loop that writes: with `t` from `a` on, `p` is what `text` at `at` makes of `o`.
pub record Owes (o : List ℕ) (at : ℕ) (text : List ℕ) (p : List ℕ) (a : ℕ) (t : List ℕ) : Type 0 where
  pub same : length p ≡ length o
  pub owed : written p a t ≡ written o at text

pub owes_all : (o : List ℕ) (at : ℕ) (text : List ℕ) → Owes o at text o at text
owes_all o at text = record { same = refl; owed = refl }

module _ (o : List ℕ) (at : ℕ) (text : List ℕ) (p : List ℕ) where
  -- the last byte
  pub owes_less : (a : ℕ) (t : List ℕ) (b m : ℕ) → Owes o at text p a (t ++ b ∷ []) → m ≡ a + length t → m < length p → Owes o at text (set p m b) a t
  owes_less a t b m w e h =
      record {
        same = length-set p m b ∙ w.same;
        owed = rw e (written_last p a t b (rw e at h)) ∙ w.owed;
      }

  -- the first byte
  pub owes_more : (a b : ℕ) (t : List ℕ) → Owes o at text p a (b ∷ t) → a < length p → Owes o at text (set p a b) (a + 1) t
  owes_more a b t w h =
      record {
        same = length-set p a b ∙ w.same;
        owed = ap (λ (l : List ℕ). written l (a + 1) t) (written_set p a b h) ∙ written_more p a (b ∷ []) t (omega arith) ∙ w.owed;
      }

  pub owes_none : (a n : ℕ) → Owes o at text p a [] → n ≡ at + length text → Wrote o at text n p
  owes_none a n w e = record { behind = e; holds = sym (written_none p a) ∙ w.owed }

-- a text that is copied: `i` bytes of it so far
module _ (o : List ℕ) (at : ℕ) (text : List ℕ) where
  pub copy_none : Owes o at text o (at + 0) (drop 0 text)
  copy_none = rw (add-zero at) (owes_all o at text)

  module _ (f : Fits o at text) (p : List ℕ) (i : ℕ) (w : Owes o at text p (at + i) (drop i text)) where
    pub copy_more : i < length text → Owes o at text (set p (at + i) (get_or text i 0)) (at + (i + 1)) (drop (i + 1) text)
    copy_more h =
        let e : at + i + 1 ≡ at + (i + 1) = omega arith in
        rw (← e) (owes_more o at text p (at + i) (get_or text i 0) (drop (i + 1) text) (rw (step text i h) at w) (omega (arith, f.fits, w.same)))

    pub copy_all : i ≤ length text → length text ≤ i → Wrote o at text (at + i) p
    copy_all l h = owes_none o at text p (at + i) (at + i) (rw (ended text i h) at w) (omega arith)
