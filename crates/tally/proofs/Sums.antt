-- Sums, a cell raised, and the statements of specs/Counts.antt.
use Rattle.std.specs.Prelude.{if◌then◌else◌, Option, Result, Ok, Err}
use Prim.Native.Nat.{ℕ, zero, suc, ◌+◌, ◌≤◌, ◌<◌}
use mathlib.Core.Path.{◌≡◌, refl, sym, ap, ap₂, subst, ◌∙◌}
use mathlib.Core.Bool.{Bool, true, false, ◌&&◌}
use mathlib.Core.List.{List, []}
use native.Mathlib.Omega.{arith}
use lib.Dec.{eqb, leb}
use lib.ListN.{length, get_or, set, replicate, length-set, get_or-replicate, get_or-eq_default}
use lib.Seq.{get_or-set_same, get_or-set_other}
use borrow.Author.Tests.{eqb-true, eqb-false, eq-eqb, leb-true, leb-false}
use Rattle.base.proofs.Tests.{by_test, both, clash}
use Rattle.record.specs.declared.Refusal.{Refusal}
use Rattle.record.specs.declared.Refusal.TheVariants.{Unsuitable, CellFull}
use Rattle.tally.specs.Tally.{Tally, no_facility, no_severity, row_count, column_count, full, empty, cell, is_row, is_column, is_cell, row_of, column_of, addition, raised, after, Adds, sum_of}
use Rattle.tally.specs.Counts.{Whole, Raises, AcceptedRaisesOne, RefusedLeavesAll, OneResult, Additions, none, accepted, refused, of_kind, Counts, CountsAccepted}

-- ---- sums

sum_same : (n : ℕ) (f g : ℕ → ℕ) → ((k : ℕ) → k < n → f k ≡ g k) → sum_of n f ≡ sum_of n g
unfolding sum_of
sum_same zero f g h = refl
sum_same (suc n) f g h = ap₂ ◌+◌ (sum_same n f g (λ k l. h k (omega arith))) (h n (omega arith))

sum_zero : (n : ℕ) → sum_of n (λ (k : ℕ). 0) ≡ 0
unfolding sum_of
sum_zero zero = refl
sum_zero (suc n) = let q = sum_zero n in omega arith

sum_plus : (n : ℕ) (f g : ℕ → ℕ) → sum_of n (λ (k : ℕ). f k + g k) ≡ sum_of n f + sum_of n g
unfolding sum_of
sum_plus zero f g = refl
sum_plus (suc n) f g = let q = sum_plus n f g in omega arith

-- by rows or by columns
sum_across : (n m : ℕ) (f : ℕ → ℕ → ℕ) → sum_of n (λ (i : ℕ). sum_of m (λ (j : ℕ). f i j)) ≡ sum_of m (λ (j : ℕ). sum_of n (λ (i : ℕ). f i j))
unfolding sum_of
sum_across zero m f = sym (sum_zero m)
sum_across (suc n) m f =
    ap (λ (x : ℕ). x + sum_of m (f n)) (sum_across n m f) ∙ sym (sum_plus m (λ (j : ℕ). sum_of n (λ (i : ℕ). f i j)) (f n))

-- one of them is one more
sum_more : (n i : ℕ) (f g : ℕ → ℕ) → i < n → g i ≡ suc (f i) → ((k : ℕ) → (k ≡ i → ⊥) → g k ≡ f k) → sum_of n g ≡ suc (sum_of n f)
unfolding sum_of
sum_more zero i f g l e h = absurd (omega arith)
sum_more (suc n) i f g l e h =
    by_test (λ b. sum_of (suc n) g ≡ suc (sum_of (suc n) f)) (eqb i n)
    (λ t. let q : i ≡ n = eqb-true i n t in
    let a : sum_of n g ≡ sum_of n f = sum_same n g f (λ k m. h k (λ z. omega arith)) in
    let b : g n ≡ suc (f n) = rw (← q) e in
    omega arith)
    (λ t. let q : i ≡ n → ⊥ = eqb-false i n t in
    let a : sum_of n g ≡ suc (sum_of n f) = sum_more n i f g (omega (arith, q)) e h in
    let b : g n ≡ f n = h n (λ z. q (sym z)) in
    omega arith)

-- ---- a cell raised

module _ (t : Tally) (i j : ℕ) (w : Whole t) (p : i < row_count) (q : j < column_count) where
  row_raised : get_or (raised t i j) i [] ≡ set (get_or t i []) j (suc (cell t i j))
  unfolding raised
  row_raised = get_or-set_same t i _ [] (omega (arith, w.rows))

  row_kept : (k : ℕ) → (k ≡ i → ⊥) → get_or (raised t i j) k [] ≡ get_or t k []
  unfolding raised
  row_kept k h = get_or-set_other t i k _ [] h

  pub raises : Raises t i j (raised t i j)
  raises =
      record {
        is_row = p;
        is_column = q;
        one = ap (λ (r : List ℕ). get_or r j 0) row_raised ∙ get_or-set_same (get_or t i []) j (suc (cell t i j)) 0 (omega (arith, w.columns i p));
        rest = kept;
      }
    where
      kept : (k l : ℕ) → (k ≡ i → l ≡ j → ⊥) → cell (raised t i j) k l ≡ cell t k l
      kept k l h =
          by_test (λ b. cell (raised t i j) k l ≡ cell t k l) (eqb k i)
          (λ e. let z : k ≡ i = eqb-true k i e in
          rw z (ap (λ (r : List ℕ). get_or r l 0) row_raised ∙ get_or-set_other (get_or t i []) j l (suc (cell t i j)) 0 (h z)))
          (λ e. ap (λ (r : List ℕ). get_or r l 0) (row_kept k (eqb-false k i e)))

  pub raised_whole : Whole (raised t i j)
  unfolding raised
  raised_whole =
      record {
        rows = length-set t i _ ∙ w.rows;
        columns = columns;
      }
    where
      columns : (k : ℕ) → k < row_count → length (get_or (raised t i j) k []) ≡ column_count
      columns k l =
          by_test (λ b. length (get_or (raised t i j) k []) ≡ column_count) (eqb k i)
          (λ e. let z : k ≡ i = eqb-true k i e in rw z (ap length row_raised ∙ length-set (get_or t i []) j _ ∙ w.columns i p))
          (λ e. ap length (row_kept k (eqb-false k i e)) ∙ w.columns k l)

-- ---- an addition

never : {A : Type 0} {f : Refusal} → ◌≡◌ {A = Result (Unit {0}) Refusal} (Ok tt) (Err f) → A
never e = let z : ◌≡◌ {A = ℕ} 0 1 = cc in absurd (omega arith)

-- an accepted one: there is such a cell, and it is not full
pub done_at : (b c : Bool) → ◌≡◌ {A = Result (Unit {0}) Refusal} (Ok tt) (if b then (if c then Err CellFull else (Ok tt)) else Err Unsuitable) → (b ≡ true) × (c ≡ false)
done_at true true e = never e
done_at true false e = (refl, refl)
done_at false c e = never e

module _ {old new : Tally} {facility severity : (Option ℕ)} (h : Adds old facility severity (Ok tt) new) where
  at : (is_cell (row_of facility) (column_of severity) ≡ true) × (eqb (cell old (row_of facility) (column_of severity)) full ≡ false)
  unfolding addition
  at = done_at _ _ h.answers

  at_row : row_of facility < row_count
  at_row = omega (arith, leb-true (row_of facility) no_facility (both (is_row (row_of facility)) (is_column (column_of severity)) at.0).0)

  at_column : column_of severity < column_count
  at_column = omega (arith, leb-true (column_of severity) no_severity (both (is_row (row_of facility)) (is_column (column_of severity)) at.0).1)

  not_full : cell old (row_of facility) (column_of severity) ≡ full → ⊥
  not_full = eqb-false _ full at.1

  accepted_raises : Whole old → Raises old (row_of facility) (column_of severity) new
  accepted_raises w = rw h.leaves (raises old (row_of facility) (column_of severity) w at_row at_column)

  accepted_whole : Whole old → Whole new
  accepted_whole w = rw h.leaves (raised_whole old (row_of facility) (column_of severity) w at_row at_column)

pub accepted_raises_one : AcceptedRaisesOne
accepted_raises_one old new facility severity w h = accepted_raises h w

pub refused_leaves_all : RefusedLeavesAll
refused_leaves_all old new facility severity f h = h.leaves

pub one_result : OneResult
one_result old new new' facility severity a a' h k =
    let q : a ≡ a' = h.answers ∙ sym k.answers in
    (q, h.leaves ∙ ap (λ (x : Result (Unit {0}) Refusal). after x old (row_of facility) (column_of severity)) q ∙ sym k.leaves)

-- ---- any sequence of additions

abbrev total : Tally → ℕ
total t = sum_of row_count (λ (i : ℕ). sum_of column_count (λ (j : ℕ). cell t i j))

total_raised : (old new : Tally) (i j : ℕ) → Raises old i j new → total new ≡ suc (total old)
total_raised old new i j r =
    sum_more row_count i (λ (k : ℕ). sum_of column_count (λ (l : ℕ). cell old k l)) (λ (k : ℕ). sum_of column_count (λ (l : ℕ). cell new k l)) r.is_row
    (sum_more column_count j (λ (l : ℕ). cell old i l) (λ (l : ℕ). cell new i l) r.is_column r.one (λ l h. r.rest i l (λ y z. h z)))
    (λ k h. sum_same column_count (λ (l : ℕ). cell new k l) (λ (l : ℕ). cell old k l) (λ l m. r.rest k l (λ y z. h y)))

-- a test of two numbers that failed
unlike : (a b c d : ℕ) → (eqb a b && eqb c d) ≡ false → a ≡ b → c ≡ d → ⊥
unlike a b c d e p q = clash (sym (rw (eq-eqb a b p, eq-eqb c d q)) ∙ e)

kind_raised : (old new : Tally) (r c : ℕ) → Raises old r c new → (i j m : ℕ) → cell old i j ≡ m → cell new i j ≡ (if eqb i r && eqb j c then suc m else m)
kind_raised old new r c h i j m e =
    by_test (λ b. cell new i j ≡ (if b then suc m else m)) (eqb i r && eqb j c)
    (λ t. let (x, y) = both (eqb i r) (eqb j c) t in rw (eqb-true i r x, eqb-true j c y) (h.one ∙ ap suc (rw (← eqb-true i r x, ← eqb-true j c y) e)))
    (λ t. h.rest i j (unlike i r j c t) ∙ e)

fits_raised : (old new : Tally) (r c : ℕ) → Raises old r c new → (cell old r c ≡ full → ⊥) → ((i j : ℕ) → cell old i j ≤ full) → (i j : ℕ) → cell new i j ≤ full
fits_raised old new r c h room fits i j =
    by_test (λ b. cell new i j ≤ full) (eqb i r && eqb j c)
    (λ t. let (x, y) = both (eqb i r) (eqb j c) t in rw (eqb-true i r x, eqb-true j c y) (omega (arith, h.one, fits r c, room)))
    (λ t. let q = h.rest i j (unlike i r j c t) in omega (arith, fits i j))

empty_cell : (i j : ℕ) → cell empty i j ≡ 0
empty_cell i j =
    by_test (λ b. cell empty i j ≡ 0) (leb i no_facility)
    (λ e. ap (λ (r : List ℕ). get_or r j 0) (get_or-replicate row_count i (replicate column_count 0) [] (omega (arith, leb-true i no_facility e))) ∙ zeros column_count j)
    (λ e. ap (λ (r : List ℕ). get_or r j 0) (get_or-eq_default empty [] {n = i} (omega (arith, leb-false i no_facility e))))
  where
    zeros : (n k : ℕ) → ◌≡◌ {A = ℕ} (get_or (replicate n 0) k 0) 0
    zeros zero k = refl
    zeros (suc n) zero = refl
    zeros (suc n) (suc k) = zeros n k

module _ (t : Tally) (n : ℕ) (calls : Additions t n) (w : Whole t) (all : total t ≡ n) (each : (i j : ℕ) → cell t i j ≡ of_kind i j calls) (fits : (i j : ℕ) → cell t i j ≤ full) where
  counted : Counts t n calls
  counted =
      record {
        whole = w;
        all_cells = all;
        all_rows = all;
        all_columns = sym (sum_across row_count column_count (cell t)) ∙ all;
        each_cell = each;
        fits = fits;
      }

pub counts_accepted : CountsAccepted
unfolding of_kind sum_of
counts_accepted t n none =
    counted empty 0 none (record { rows = refl; columns = λ i h. ap length (get_or-replicate row_count i (replicate column_count 0) [] h) }) refl empty_cell
    (λ i j. omega (arith, empty_cell i j))
counts_accepted t n (accepted {old = old} {n = m} {facility = f} {severity = s} before h) =
    let c = counts_accepted old m before in
    let r = accepted_raises h c.whole in
    counted t n (accepted before h) (accepted_whole h c.whole) (total_raised old t (row_of f) (column_of s) r ∙ ap suc c.all_cells)
    (λ i j. kind_raised old t (row_of f) (column_of s) r i j (of_kind i j before) (c.each_cell i j))
    (fits_raised old t (row_of f) (column_of s) r (not_full h) c.fits)
counts_accepted t n (refused {old = old} {n = m} before h) =
    let c = counts_accepted old m before in
    let e : t ≡ old = h.leaves in
    counted t n (refused before h) (subst (λ (x : Tally). Whole x) (sym e) c.whole) (ap total e ∙ c.all_cells)
    (λ i j. ap (λ (x : Tally). cell x i j) e ∙ c.each_cell i j)
    (λ i j. subst (λ (x : Tally). cell x i j ≤ full) (sym e) (c.fits i j))
