-- What a reader left has a cell of a tally (specs/Tallied.antt).
use Rattle.std.specs.Prelude.{if◌then◌else◌, Option, Some, None, Ok, Err}
use Prim.Native.Nat.{ℕ, suc, ◌<◌}
use mathlib.Core.Path.{◌≡◌, sym, ap, ◌∙◌}
use mathlib.Core.Bool.{true}
use mathlib.Core.List.{List}
use native.Mathlib.Omega.{arith}
use lib.Dec.{eqb, leb}
use borrow.Author.Tests.{leb-true, le-leb, lt-ltb}
use Rattle.base.proofs.Tests.{by_test, both}
use Rattle.record.specs.declared.Record.{Record}
use Rattle.record.specs.declared.Refusal.TheVariants.{CellFull}
use Rattle.suits.specs.Suits.{level_suits, record_suits, suits}
use Rattle.suits.proofs.Suited.{RecordIn, record_in_lem}
use Rattle.tally.specs.Tally.{Tally, full, cell, is_cell, place_of, row_of, column_of, addition}
use Rattle.tally.specs.Numbers.{added_number}
use Rattle.suited.specs.Tallied.{LeftHasCell}
use Rattle.suited.proofs.AfterReading.{left_suits}

place_there : (last : ℕ) (l : Option ℕ) → level_suits last l ≡ true → leb (place_of (suc last) l) (suc last) ≡ true
place_there last None h = le-leb (suc last) (suc last) (omega arith)
place_there last (Some n) h =
    let m : n < suc last = omega (arith, leb-true n last h) in
    rw (lt-ltb n (suc last) m) (le-leb n (suc last) (omega arith))

not_7 : (t : Tally) (i j : ℕ) → is_cell i j ≡ true → added_number (addition t i j) ≡ 7 → ⊥
unfolding addition
not_7 t i j e =
    rw e (by_test (λ c. added_number (if c then Err CellFull else Ok tt) ≡ 7 → ⊥) (eqb (cell t i j) full) (λ q h. omega arith) (λ q h. omega arith))

has_cell : (line : List ℕ) (r : Record) → RecordIn line r → is_cell (row_of r.facility) (column_of r.severity) ≡ true
has_cell line r i = rw (place_there 23 r.facility i.facility_in, place_there 7 r.severity i.severity_in)

pub left_has_cell : LeftHasCell
unfolding suits
left_has_cell line r e p elements params left old new a h z =
    let i = record_in_lem line r (both (record_suits line r) _ (left_suits left)).0 in
    not_7 old (row_of r.facility) (column_of r.severity) (has_cell line r i) (sym (ap added_number h.answers) ∙ z)
