-- What the functions answer, return by return.
use Rattle.std.specs.Prelude.{if◌then◌else◌, ok_or, Option, Some, None, Result, Ok, Err}
use Prim.Native.Nat.{ℕ, ◌+◌, ◌*◌, ◌≤◌, ◌<◌}
use mathlib.Core.Path.{◌≡◌, refl, sym, ap, ◌∙◌}
use mathlib.Core.Bool.{Bool, true, false, ◌&&◌}
use mathlib.Core.List.{[]}
use native.Mathlib.Numerals.{add-one}
use native.Mathlib.Omega.{arith}
use lib.Dec.{eqb, ltb}
use lib.ListN.{length, get_or, set}
use borrow.Author.Tests.{le-ltb, ltb-false, eq-eqb, ne_eqb}
use Rattle.std.specs.Option.{SomeIff}
use Rattle.record.specs.declared.Refusal.{Refusal}
use Rattle.record.specs.declared.Refusal.TheVariants.{Unsuitable, OutputShort, CellFull}
use Rattle.tally.specs.Tally.{Tally, no_facility, row_count, full, cell, is_row, is_column, is_cell, row_of, column_of, addition, raised, Adds, sum_of, row_sum, column_sum, cell_read, row_read, column_read}
use Rattle.tally.specs.Numbers.{or_short, addition_in, demanded, cell_read_in, row_read_in, column_read_in, AddsIn}

-- ---- rows that are enough, and too few

module _ {A : Type 0} (there : Bool) (t : Tally) (short a : A) where
  pub or_enough : no_facility < length t → or_short there t short a ≡ a
  or_enough l = let l' : row_count ≤ length t = omega arith in rw (le-ltb (length t) row_count l') (both_no there)
    where
      both_no : (x : Bool) → (if x && false then short else a) ≡ a
      both_no true = refl
      both_no false = refl

-- what is demanded, told of what is answered then
abbrev answers : {A : Type 0} → Bool → Tally → Result A Refusal → Result A Refusal
answers there t a = or_short there t (Err OutputShort) (if there then a else Err Unsuitable)

pub refused : {A : Type 0} (there : Bool) (t : Tally) (f : Refusal) (a : Result A Refusal) → demanded there t ≡ Err f → Err f ≡ answers there t a
refused true t f a h = short (ltb (length t) row_count) h
  where
    short : (s : Bool) → ◌≡◌ {A = Result (Unit {0}) Refusal} (if s then Err OutputShort else Ok tt) (Err f) → Err f ≡ (if s then Err OutputShort else a)
    short true e = let q : f ≡ OutputShort = cc in ap Err q
    short false e = cc
refused false t f a h = let q : f ≡ Unsuitable = cc in ap Err q

pub record Demanded (there : Bool) (t : Tally) : Type 0 where
  pub is_there : there ≡ true
  pub enough : no_facility < length t

pub passed : (there : Bool) (t : Tally) → demanded there t ≡ Ok tt → Demanded there t
passed true t h = record { is_there = refl; enough = rows (ltb (length t) row_count) refl h }
  where
    rows : (s : Bool) → ltb (length t) row_count ≡ s → ◌≡◌ {A = Result (Unit {0}) Refusal} (if s then Err OutputShort else Ok tt) (Ok tt) → no_facility < length t
    rows true e k = cc
    rows false e k = omega (arith, ltb-false (length t) row_count e)
passed false t h = cc

pub answered : {A : Type 0} (there : Bool) (t : Tally) (a : Result A Refusal) → Demanded there t → a ≡ answers there t a
answered there t a d = ap (λ (b : Bool). if b then a else Err Unsuitable) (sym d.is_there) ∙ sym (or_enough there t (Err OutputShort) (if there then a else Err Unsuitable) d.enough)

module _ (t : Tally) (i j : ℕ) where
  pub cell_refused : (f : Refusal) → demanded (is_cell i j) t ≡ Err f → Err f ≡ cell_read_in t i j
  unfolding cell_read_in cell_read
  cell_refused f = refused (is_cell i j) t f (Ok (cell t i j))

  pub cell_is : demanded (is_cell i j) t ≡ Ok tt → Ok (cell t i j) ≡ cell_read_in t i j
  unfolding cell_read_in cell_read
  cell_is h = answered (is_cell i j) t (Ok (cell t i j)) (passed (is_cell i j) t h)

  pub row_refused : (f : Refusal) → demanded (is_row i) t ≡ Err f → Err f ≡ row_read_in t i
  unfolding row_read_in row_read
  row_refused f = refused (is_row i) t f (Ok (row_sum t i))

  pub row_is : (s : ℕ) → demanded (is_row i) t ≡ Ok tt → s ≡ row_sum t i → Ok s ≡ row_read_in t i
  unfolding row_read_in row_read
  row_is s h e = ap Ok e ∙ answered (is_row i) t (Ok (row_sum t i)) (passed (is_row i) t h)

  pub column_refused : (f : Refusal) → demanded (is_column j) t ≡ Err f → Err f ≡ column_read_in t j
  unfolding column_read_in column_read
  column_refused f = refused (is_column j) t f (Ok (column_sum t j))

  pub column_is : (s : ℕ) → demanded (is_column j) t ≡ Ok tt → s ≡ column_sum t j → Ok s ≡ column_read_in t j
  unfolding column_read_in column_read
  column_is s h e = ap Ok e ∙ answered (is_column j) t (Ok (column_sum t j)) (passed (is_column j) t h)

  pub add_refused : (f : Refusal) → demanded (is_cell i j) t ≡ Err f → AddsIn t i j (Err f) t
  unfolding addition_in addition
  add_refused f h = record { answers = refused (is_cell i j) t f (if eqb (cell t i j) full then Err CellFull else Ok tt) h; leaves = refl }

  module _ (h : demanded (is_cell i j) t ≡ Ok tt) where
    added : (a : Result (Unit {0}) Refusal) → a ≡ (if eqb (cell t i j) full then Err CellFull else Ok tt) → a ≡ addition_in t i j
    unfolding addition_in addition
    added a e = e ∙ answered (is_cell i j) t (if eqb (cell t i j) full then Err CellFull else Ok tt) (passed (is_cell i j) t h)

    module _ (o : Option ℕ) (e : SomeIff o (cell t i j + 1 < 4294967296) (cell t i j + 1)) where
      pub add_full : (f : Refusal) → cell t i j ≤ full → ok_or o CellFull ≡ Err f → AddsIn t i j (Err f) t
      add_full f l q =
          let (n, g) = none o e f q in
          let z : cell t i j ≡ full = omega (arith, n) in
          rw g (record { answers = added (Err CellFull) (rw (eq-eqb (cell t i j) full z)); leaves = refl })
        where
          none : (o : Option ℕ) → SomeIff o (cell t i j + 1 < 4294967296) (cell t i j + 1) → (f : Refusal) → ok_or o CellFull ≡ Err f → (cell t i j + 1 < 4294967296 → ⊥) × (f ≡ CellFull)
          none None e f q = (e, cc)
          none (Some n) e f q = cc

      pub add_done : (n : ℕ) → ok_or o CellFull ≡ Ok n → AddsIn t i j (Ok tt) (set t i (set (get_or t i []) j n))
      unfolding raised
      add_done n q =
          let (l, g) = some o e n q in
          record { answers = added (Ok tt) (rw (ne_eqb (cell t i j) full (λ z. omega (arith, l)))); leaves = rw (g, add-one) }
        where
          some : (o : Option ℕ) → SomeIff o (cell t i j + 1 < 4294967296) (cell t i j + 1) → (n : ℕ) → ok_or o CellFull ≡ Ok n → (cell t i j + 1 < 4294967296) × (n ≡ cell t i j + 1)
          some None e n q = cc
          some (Some m) e n q = let z : m ≡ n = cc in (e.0, sym z ∙ e.1)

-- rows of the right number
pub add_whole : (t : Tally) (facility severity : Option ℕ) (i j : ℕ) (a : Result (Unit {0}) Refusal) (new : Tally) → length t ≡ row_count → i ≡ row_of facility → j ≡ column_of severity
    → AddsIn t i j a new → Adds t facility severity a new
unfolding addition_in
add_whole t f s i j a new l p q h =
    let n : no_facility < length t = omega arith in
    record {
      answers = h.answers ∙ or_enough (is_cell i j) t (Err OutputShort) (addition t i j) n ∙ rw (p, q);
      leaves = h.leaves ∙ rw (p, q);
    }

-- ---- sums

-- of the first `n` numbers the first `k` are added up
pub record Summing (f : ℕ → ℕ) (n k sum : ℕ) : Type 0 where
  pub so_far : sum ≡ sum_of k f
  pub most : sum ≤ k * full
  pub inside : k ≤ n

module _ (f : ℕ → ℕ) (n : ℕ) where
  pub sum_none : Summing f n 0 0
  unfolding sum_of
  sum_none = record { so_far = refl; most = omega arith; inside = omega arith }

  pub sum_one : (k sum x : ℕ) → Summing f n k sum → k < n → x ≡ f k → x ≤ full → Summing f n (k + 1) (sum + x)
  unfolding sum_of
  sum_one k sum x h l e m = record { so_far = rw (add-one, h.so_far, e); most = omega (arith, h.most); inside = omega arith }

  pub sum_all : (k sum : ℕ) → Summing f n k sum → n ≤ k → sum ≡ sum_of n f
  sum_all k sum h l = let q : k ≡ n = omega (arith, h.inside) in h.so_far ∙ rw q

-- rows of the right number
module _ (t : Tally) (l : length t ≡ row_count) where
  enough : no_facility < length t
  enough = omega arith

  pub cell_whole : (i j : ℕ) (a : Result ℕ Refusal) → a ≡ cell_read_in t i j → a ≡ cell_read t i j
  unfolding cell_read_in
  cell_whole i j a q = q ∙ or_enough (is_cell i j) t (Err OutputShort) (cell_read t i j) enough

  pub row_whole : (i : ℕ) (a : Result ℕ Refusal) → a ≡ row_read_in t i → a ≡ row_read t i
  unfolding row_read_in
  row_whole i a q = q ∙ or_enough (is_row i) t (Err OutputShort) (row_read t i) enough

  pub column_whole : (j : ℕ) (a : Result ℕ Refusal) → a ≡ column_read_in t j → a ≡ column_read t j
  unfolding column_read_in
  column_whole j a q = q ∙ or_enough (is_column j) t (Err OutputShort) (column_read t j) enough
