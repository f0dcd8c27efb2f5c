-- A text written piece by piece: where the whole fits, so does each piece when its turn comes, and the writes are one.
use Prim.Native.Nat.{ℕ, ◌+◌, ◌≤◌}
use mathlib.Core.Path.{◌≡◌, refl, sym, ap, ◌∙◌}
use mathlib.Core.List.{List, [], ◌∷◌, ◌++◌, append_assoc, append-nil}
use native.Mathlib.Omega.{arith}
use lib.ListN.{length, length-append}
use Rattle.output.specs.Output.{written, Wrote}
use Rattle.output.specs.Fits.{Fits, Sized}
use Rattle.output.proofs.Writes.{written_none, written_more, wrote_none, wrote_then, wrote_length}

-- `t` begins with `x`
pub record Starts (x t : List ℕ) : Type 0 where
  pub others : List ℕ
  pub is : x ++ others ≡ t

pub starts_none : (t : List ℕ) → Starts [] t
starts_none t = record { others = t; is = refl }

pub starts_all : (t : List ℕ) → Starts t t
starts_all t = record { others = []; is = append-nil t }

pub starts_front : (x y : List ℕ) → Starts x (x ++ y)
starts_front x y = record { others = y; is = refl }

pub starts_more : (x t y : List ℕ) → Starts x t → Starts x (t ++ y)
starts_more x t y s = record { others = s.others ++ y; is = rw (← s.is) (sym (append_assoc x s.others y)) }

pub starts_cons : (b : ℕ) (x t : List ℕ) → Starts x t → Starts (b ∷ x) (b ∷ t)
starts_cons b x t s = record { others = s.others; is = ap (λ (l : List ℕ). b ∷ l) s.is }

pub starts_named : (s t : List ℕ) → s ≡ t → Starts s t
starts_named s t e = rw e (starts_all t)

pub ruleset starts = (starts_none, starts_all, starts_front, starts_more, starts_cons)

module _ {t o : List ℕ} {at : ℕ} {x : List ℕ} (f : Fits o at t) where
  pub first_fits : Starts x t → Fits o at x
  first_fits s = record { fits = omega (arith, f.fits, length-append x s.others, ap length s.is) }

  module _ {n : ℕ} {p y : List ℕ} (w : Wrote o at x n p) where
    pub next_fits : Starts (x ++ y) t → Fits p n y
    next_fits s =
        let l : length x + length y + length s.others ≡ length t = omega (arith, length-append (x ++ y) s.others, length-append x y, ap length s.is) in
        record { fits = omega (arith, f.fits, w.behind, wrote_length w (omega (arith, f.fits))) }

    pub two_are : {m : ℕ} {q : List ℕ} → Wrote p n y m q → x ++ y ≡ t → Wrote o at t m q
    two_are v e =
        let l : length x + length y ≡ length t = omega (arith, length-append x y, ap length e) in
        rw e at (wrote_then w (omega (arith, f.fits)) v)

-- three pieces: the first two are one
module _ {t o : List ℕ} {at : ℕ} {x : List ℕ} {n : ℕ} {p y : List ℕ} {m : ℕ} {q : List ℕ} (f : Fits o at t) (w : Wrote o at x n p) (v : Wrote p n y m q) where
  both : (z : List ℕ) → Starts (x ++ y ++ z) t → Wrote o at (x ++ y) m q
  both z s =
      let l : length x + length y + length z + length s.others ≡ length t =
      omega (arith, length-append (x ++ y ++ z) s.others, length-append (x ++ y) z, length-append x y, ap length s.is) in
      wrote_then w (omega (arith, f.fits)) v

  pub last_fits : {z : List ℕ} → Starts (x ++ y ++ z) t → Fits q m z
  last_fits {z} s = next_fits f (both z s) s

  pub three_are : {z : List ℕ} {k : ℕ} {r : List ℕ} → Wrote q m z k r → x ++ y ++ z ≡ t → Wrote o at t k r
  three_are {z} u e = two_are f (both z (rw (← e) (starts_all (x ++ y ++ z)))) u e

-- a text by another name
module _ (s t o : List ℕ) (at : ℕ) where
  pub named_fits : Fits o at t → s ≡ t → Fits o at s
  named_fits f e = rw e f

  pub named : (n : ℕ) (p : List ℕ) → Wrote o at s n p → s ≡ t → Wrote o at t n p
  named n p w e = rw (← e) w

-- a text that is empty is written by nothing
pub unwritten : (t o : List ℕ) (at : ℕ) → [] ≡ t → Wrote o at t at o
unwritten t o at e = named [] t o at at o (wrote_none o at) e

-- the length of two pieces
pub sized_append : (x y : List ℕ) (a b k l m : ℕ) → Sized x k a → Sized y l b → k + l ≡ m → Sized (x ++ y) m (a + b)
sized_append x y a b k l m s t e = record { is = simp length-append (omega (arith, s.is, t.is)); to = omega (arith, s.to, t.to) }

-- A text that is written from its front on: `p` holds it up to `a`, and `t` is still to come.
pub record Midway (o : List ℕ) (at : ℕ) (text : List ℕ) (p : List ℕ) (a : ℕ) (t : List ℕ) : Type 0 where
  pub same : length p ≡ length o
  pub owed : written p a t ≡ written o at text
  pub ends : a + length t ≡ at + length text

pub midway_all : (o : List ℕ) (at : ℕ) (text : List ℕ) → Midway o at text o at text
midway_all o at text = record { same = refl; owed = refl; ends = refl }

module _ {o : List ℕ} {at : ℕ} {text p : List ℕ} {a : ℕ} {t : List ℕ} (f : Fits o at text) (m : Midway o at text p a t) where
  all_fits : Fits p a t
  all_fits = record { fits = omega (arith, f.fits, m.same, m.ends) }

  pub midway_fits : {x : List ℕ} → Starts x t → Fits p a x
  midway_fits s = first_fits all_fits s

  -- a piece more
  pub midway_on : {x y : List ℕ} {n : ℕ} {q : List ℕ} → Wrote p a x n q → x ++ y ≡ t → Midway o at text q n y
  midway_on {x} {y} w e =
      let l : length x + length y ≡ length t = omega (arith, length-append x y, ap length e) in
      let h : a + length x ≤ length p = omega (arith, all_fits.fits) in
      record {
        same = wrote_length w h ∙ m.same;
        owed = rw (w.holds, w.behind) (written_more p a x y h ∙ ap (written p a) e ∙ m.owed);
        ends = omega (arith, w.behind, m.ends);
      }

  -- the last piece
  pub midway_last : {n : ℕ} {q : List ℕ} → Wrote p a t n q → Wrote o at text n q
  midway_last w = record { behind = omega (arith, w.behind, m.ends); holds = w.holds ∙ m.owed }

-- all of it
pub midway_end : (o : List ℕ) (at : ℕ) (text p : List ℕ) (a : ℕ) (t : List ℕ) → Midway o at text p a t → t ≡ [] → Wrote o at text a p
midway_end o at text p a t m e =
    let l : length t ≡ 0 = ap length e in
    record { behind = omega (arith, m.ends); holds = sym (written_none p a) ∙ ap (written p a) (sym e) ∙ m.owed }
