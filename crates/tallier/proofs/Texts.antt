-- The text of a tally, written from its front on: each piece fits, and how far it goes.
use Prim.Native.Nat.{ℕ, zero, suc, ◌+◌, ◌≤◌, ◌<◌}
use mathlib.Core.Path.{◌≡◌, refl, ◌∙◌}
use mathlib.Core.List.{List}
use native.Mathlib.Omega.{arith}
use native.Mathlib.Numerals.{add-one}
use lib.ListN.{length}
use borrow.Author.Tests.{ne_eqb}
use Rattle.output.specs.Output.{Wrote}
use Rattle.output.proofs.Writes.{wrote_then, wrote_none}
use Rattle.output.proofs.Pieces.{unwritten}
use Rattle.frames.specs.Words.{count_text}
use Rattle.tally.specs.Tally.{Tally, row_count, column_count, cell}
use Rattle.tallier.specs.Text.{up_to, cell_text, row_text, tally_text}

-- ---- a cell

module _ (o : List ℕ) (at i j n : ℕ) where
  pub cell_none : n ≡ 0 → Wrote o at (cell_text i j n) at o
  unfolding cell_text
  cell_none z = unwritten (cell_text i j n) o at (rw z)

  module _ (z : n ≡ 0 → ⊥) (room : at + 33 ≤ length o) (a : ℕ) (p : List ℕ) (u : Wrote o at (count_text i 32) a p) (ua : a ≤ at + 11) (up : length p ≡ length o) where
    module _ (b : ℕ) (q : List ℕ) (v : Wrote p a (count_text j 32) b q) (vb : b ≤ a + 11) (vq : length q ≡ length p) where
      pub cell_line_lem : (c : ℕ) (r : List ℕ) → Wrote q b (count_text n 10) c r → Wrote o at (cell_text i j n) c r
      unfolding cell_text
      cell_line_lem c r w = rw (ne_eqb n 0 z) (wrote_then u (omega (arith, u.behind)) (wrote_then v (omega (arith, v.behind)) w))

pub ruleset cell_laws = (cell_none, cell_line_lem)

-- ---- one behind the other

-- what k pieces of at most `most` bytes take at most
unfoldable pub steps : ℕ → ℕ → ℕ
steps most zero = 0
steps most (suc k) = steps most k + most

steps_inside : (most k n : ℕ) → k < n → steps most k + most ≤ steps most n
unfolding steps
steps_inside most k zero l = absurd (omega arith)
steps_inside most zero (suc n) l = omega arith
steps_inside most (suc k) (suc n) l = let q = steps_inside most k n (omega arith) in omega arith

-- of `n` pieces the first `k` are written
pub record Putting (f : ℕ → List ℕ) (most n : ℕ) (o : List ℕ) (at k : ℕ) (p : List ℕ) (a : ℕ) : Type 0 where
  pub wrote : Wrote o at (up_to k f) a p
  pub near : a ≤ at + steps most k
  pub same : length p ≡ length o
  pub inside : k ≤ n

module _ (f : ℕ → List ℕ) (most n : ℕ) (o : List ℕ) (at : ℕ) where
  put_none : Putting f most n o at 0 o at
  unfolding up_to steps
  put_none = record { wrote = wrote_none o at; near = omega arith; same = refl; inside = omega arith }

  module _ (k : ℕ) (p : List ℕ) (a : ℕ) (h : Putting f most n o at k p a) where
    module _ (room : at + steps most n ≤ length o) where
      put_room : k < n → a + most ≤ length p
      put_room l = omega (arith, h.near, h.same, steps_inside most k n l)

      put_one : k < n → (b : ℕ) (q : List ℕ) → Wrote p a (f k) b q → b ≤ a + most → length q ≡ length p → Putting f most n o at (k + 1) q b
      unfolding up_to steps
      put_one l b q w m s =
          record {
            wrote = rw add-one (wrote_then h.wrote (omega (arith, h.wrote.behind, h.near, steps_inside most k n l)) w);
            near = rw add-one (omega (arith, h.near));
            same = s ∙ h.same;
            inside = omega arith;
          }

    module _ (l : n ≤ k) where
      all : k ≡ n
      all = omega (arith, h.inside)

      put_all : Wrote o at (up_to n f) a p
      put_all = rw all at h.wrote

      put_near : a ≤ at + steps most n
      put_near = rw all at h.near

-- ---- a row

module _ (t : Tally) (i : ℕ) (o : List ℕ) (at : ℕ) where
  abbrev pub RowPutting : ℕ → List ℕ → ℕ → Type 0
  RowPutting = Putting (λ (j : ℕ). cell_text i j (cell t i j)) 33 column_count o at

  pub row_none : RowPutting 0 o at
  row_none = put_none _ _ _ o at

  module _ (k : ℕ) (p : List ℕ) (a : ℕ) (h : RowPutting k p a) where
    module _ (room : at + 297 ≤ length o) (l : k < column_count) where
      pub row_room : a + 33 ≤ length p
      unfolding steps
      row_room = put_room _ _ _ o at k p a h room l

      pub row_one : (n b : ℕ) (q : List ℕ) → n ≡ cell t i k → Wrote p a (cell_text i k n) b q → b ≤ a + 33 → length q ≡ length p → RowPutting (k + 1) q b
      unfolding steps
      row_one n b q e w m s = put_one _ _ _ o at k p a h room l b q (rw e at w) m s

    module _ (l : column_count ≤ k) where
      pub row_all : Wrote o at (row_text t i) a p
      unfolding row_text
      row_all = put_all _ _ _ o at k p a h l

      pub row_near : a ≤ at + 297
      unfolding steps
      row_near = put_near _ _ _ o at k p a h l

pub ruleset row_laws = (row_none, row_room, row_one, row_all, row_near)

-- ---- the tally

module _ (t : Tally) (o : List ℕ) where
  abbrev pub TallyPutting : ℕ → List ℕ → ℕ → Type 0
  TallyPutting = Putting (λ (i : ℕ). row_text t i) 297 row_count o 0

  pub tally_none : TallyPutting 0 o 0
  tally_none = put_none _ _ _ o 0

  module _ (k : ℕ) (p : List ℕ) (a : ℕ) (h : TallyPutting k p a) where
    module _ (room : length p ≡ 8192) (l : k < row_count) where
      room_there : 0 + steps 297 row_count ≤ length o
      unfolding steps
      room_there = omega (arith, room, h.same)

      pub tally_room : a + 297 ≤ length p
      tally_room = put_room _ _ _ o 0 k p a h room_there l

      pub tally_one : (b : ℕ) (q : List ℕ) → Wrote p a (row_text t k) b q → b ≤ a + 297 → length q ≡ length p → TallyPutting (k + 1) q b
      tally_one b q w m s = put_one _ _ _ o 0 k p a h room_there l b q w m s

    module _ (l : row_count ≤ k) where
      pub tally_all : Wrote o 0 (tally_text t) a p
      unfolding tally_text
      tally_all = put_all _ _ _ o 0 k p a h l

      pub tally_near : a ≤ 8192
      unfolding steps
      tally_near = let q : a ≤ 7425 = put_near _ _ _ o 0 k p a h l in omega arith

pub ruleset tally_laws = (tally_none, tally_room, tally_one, tally_all, tally_near)
