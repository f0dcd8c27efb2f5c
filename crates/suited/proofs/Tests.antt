-- The tests of refusal 7 from what they ask: the other way round than suits' proofs.
use Prim.Native.Nat.{ℕ, suc, ◌+◌, ◌≤◌, ◌<◌}
use mathlib.Core.Path.{◌≡◌, refl, sym, ap, ◌∙◌}
use mathlib.Core.List.{List, [], ◌∷◌, ◌++◌}
use mathlib.Core.Bool.{true}
use native.Mathlib.Nat.{zero-add}
use native.Mathlib.Omega.{arith}
use lib.Dec.{leb}
use lib.ListN.{length, get_or, drop, length-append}
use lib.Seq.{take-append_seam}
use borrow.Author.Tests.{le-leb, lt-ltb}
use Rattle.base.specs.Fills.{filled}
use Rattle.record.specs.declared.Record.{Record}
use Rattle.grammar.specs.Line.{Each}
use Rattle.suits.specs.Suits.{record_suits, elements_suit, param_suits, params_suit, tables_suit, suits}
use Rattle.suits.proofs.Suited.{RecordIn, IdIn, ParamIn}

-- a record's fields
record_suits_lem : (line : List ℕ) (r : Record) → RecordIn line r → record_suits line r ≡ true
unfolding record_suits
record_suits_lem line r h =
    rw (
      h.facility_in,
      h.severity_in,
      h.timestamp_in,
      le-leb _ _ h.host_in,
      le-leb _ _ h.app_in,
      le-leb _ _ h.procid_in,
      le-leb _ _ h.msgid_in,
      le-leb _ _ h.message_in,
    )

-- the row of a parameter
param_suits_lem : (line : List ℕ) (e low : ℕ) (row : List ℕ) → ParamIn line e low row → param_suits line e low row ≡ true
param_suits_lem line e low row h = rw (le-leb _ _ h.from, lt-ltb _ _ h.below, le-leb _ _ h.name_in, le-leb _ _ h.value_in)

-- the rows of the parameters of element `e`
abbrev pub RowsOf : List ℕ → ℕ → List (List ℕ) → Type 0
RowsOf line e rows = Each (ParamIn line (e + 1) e) rows

-- and others after them
params_suit_lem : (line : List ℕ) (f low e : ℕ) (rows more : List (List ℕ)) → low ≤ e → e < f → RowsOf line e rows
    → ((low : ℕ) → low ≤ e → params_suit line f low more ≡ true) → params_suit line f low (rows ++ more) ≡ true
unfolding params_suit
params_suit_lem line f low e [] more l b h k = k low l
params_suit_lem line f low e (row ∷ rows) more l b h k =
    let r = h.0 in
    let i : ParamIn line f low row = record { from = omega (arith, r.from); below = omega (arith, r.below); name_in = r.name_in; value_in = r.value_in } in
    rw (param_suits_lem line f low row i) (params_suit_lem line f (get_or row 0 0) e rows more (omega (arith, r.below)) b h.1 k)

-- The rows of both tables, where the first element has the number `e`
pub record RowsIn (line : List ℕ) (e : ℕ) (elements params : List (List ℕ)) : Type 0 where
  pub of_elements : elements_suit line elements ≡ true
  pub of_params : (low : ℕ) → low ≤ e → params_suit line (e + length elements) low params ≡ true

module _ {line : List ℕ} {e : ℕ} where
  pub rows_none : RowsIn line e [] []
  unfolding elements_suit params_suit
  rows_none = record { of_elements = refl; of_params = λ low l. refl }

  -- an element, its parameters, and the elements after it
  pub rows_more : (row : List ℕ) (params elements more : List (List ℕ)) → IdIn line row → RowsOf line e params → RowsIn line (e + 1) elements more
      → RowsIn line e (row ∷ elements) (params ++ more)
  unfolding elements_suit
  rows_more row params elements more i h m =
      let f : e + suc (length elements) ≡ e + 1 + length elements = omega arith in
      record {
        of_elements = rw (le-leb _ _ i) m.of_elements;
        of_params = λ low l. rw f (params_suit_lem line _ low e params more l (omega arith) h (λ low l. m.of_params low (omega arith)));
      }

-- A reading: its record, and the rows of its elements and parameters
pub record Suited (line : List ℕ) (r : Record) (elements params : List (List ℕ)) : Type 0 where
  pub of_record : RecordIn line r
  pub of_tables : RowsIn line 0 elements params

-- in tables whose front the rows fill
pub suits_filled : (line : List ℕ) (r : Record) (elements params e₀ p₀ : List (List ℕ)) → Suited line r elements params
    → suits line r (length elements) (length params) (filled elements e₀) (filled params p₀) ≡ true
unfolding suits tables_suit
suits_filled line r elements params e₀ p₀ h =
    rw (
      record_suits_lem line r h.of_record,
      room elements e₀,
      room params p₀,
      take-append_seam elements (drop (length elements) e₀),
      h.of_tables.of_elements,
      take-append_seam params (drop (length params) p₀),
    )
    (ap (λ (n : ℕ). params_suit line n 0 params) (sym (zero-add (length elements))) ∙ h.of_tables.of_params 0 (omega arith))
  where
    room : (rows old : List (List ℕ)) → leb (length rows) (length (filled rows old)) ≡ true
    room rows old = le-leb (length rows) (length (filled rows old)) (simp length-append (omega arith))
