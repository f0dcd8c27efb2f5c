-- What the tests answer, from what the code knows at each return and each turn.
use Prim.Native.Nat.{ℕ, zero, suc, ◌+◌, ◌≤◌, ◌<◌}
use mathlib.Core.Path.{◌≡◌, refl, sym, ap, ◌∙◌}
use mathlib.Core.List.{List, [], ◌∷◌}
use mathlib.Core.Bool.{Bool, true, false, not, ◌&&◌, and-false}
use lib.ListN.{length, get_or, take, drop, drop_of_length-le}
use lib.Seq.{drop-cons}
use native.Mathlib.Numerals.{add-one}
use borrow.Author.Tests.{le-leb, lt-leb, not-true, not-false}
use Rattle.record.specs.Params.{row_of, rows, blank}
use Rattle.record.proofs.Params.{rows_length}
use Rattle.record.specs.declared.Param.{Param}
use Rattle.record.specs.declared.Record.{Record}
use Rattle.suits.specs.Suits.{place_suits, record_suits, elements_suit, param_suits, params_suit, tables_suit, suits}

-- one test, and more after it
module _ (t more : Bool) where
  pub test_off : not t ≡ true → false ≡ (t && more)
  test_off h = rw (not-true t h)

  pub test_on : not t ≡ false → (t && more) ≡ more
  test_on h = rw (not-false t h)

module _ (line : List ℕ) (ids : List (List ℕ)) (i : ℕ) (inv : elements_suit line ids ≡ elements_suit line (drop i ids)) where
  pub elements_end : length ids ≤ i → true ≡ elements_suit line ids
  unfolding elements_suit
  elements_end h = sym (inv ∙ ap (elements_suit line) (drop_of_length-le ids {i = i} h))

  module _ (h : i < length ids) (t : Bool) (e : t ≡ place_suits line (get_or (get_or ids i []) 0 0) (get_or (get_or ids i []) 1 0)) where
    element_more : elements_suit line ids ≡ (t && elements_suit line (drop (i + 1) ids))
    unfolding elements_suit
    element_more = inv ∙ rw (add-one, drop-cons ids i [] h, e)

    pub element_off : not t ≡ true → false ≡ elements_suit line ids
    element_off k = test_off t _ k ∙ sym element_more

    pub element_on : not t ≡ false → elements_suit line ids ≡ elements_suit line (drop (i + 1) ids)
    element_on k = element_more ∙ test_on t _ k

pub ruleset elements_laws = (elements_end, element_off, element_on)

-- the parameters from the i-th on, whose numbers are not below `low`
module _ (line : List ℕ) (e low : ℕ) (ps : List Param) (i : ℕ) (inv : params_suit line e 0 (rows ps) ≡ params_suit line e low (rows (drop i ps))) where
  pub params_end : length ps ≤ i → true ≡ params_suit line e 0 (rows ps)
  unfolding params_suit rows
  params_end h = sym (inv ∙ ap (λ (l : List Param). params_suit line e low (rows l)) (drop_of_length-le ps {i = i} h))

  module _ (h : i < length ps) (t : Bool) (et : t ≡ param_suits line e low (row_of (get_or ps i blank))) where
    param_more : params_suit line e 0 (rows ps) ≡ (t && params_suit line e (get_or ps i blank).element (rows (drop (i + 1) ps)))
    unfolding params_suit rows
    param_more = inv ∙ rw (add-one, drop-cons ps i blank h, et)

    pub param_off : not t ≡ true → false ≡ params_suit line e 0 (rows ps)
    param_off k = test_off t _ k ∙ sym param_more

    pub param_on : not t ≡ false → params_suit line e 0 (rows ps) ≡ params_suit line e (get_or ps i blank).element (rows (drop (i + 1) ps))
    param_on k = param_more ∙ test_on t _ k

pub ruleset params_laws = (params_end, param_off, param_on)

rows_take : (ps : List Param) (n : ℕ) → rows (take n ps) ≡ take n (rows ps)
unfolding rows
rows_take ps zero = refl
rows_take [] (suc n) = refl
rows_take (p ∷ ps) (suc n) = ap (λ (l : List (List ℕ)). row_of p ∷ l) (rows_take ps n)

-- the whole
module _ (line : List ℕ) (r : Record) (e p : ℕ) (elements : List (List ℕ)) (ps : List Param) where
  pub few_ids : length elements < e → false ≡ suits line r e p elements (rows ps)
  unfolding suits tables_suit
  few_ids h = rw (lt-leb e (length elements) h, and-false)

  pub few_entries : length ps < p → false ≡ suits line r e p elements (rows ps)
  unfolding suits tables_suit
  few_entries h = rw (lt-leb p (length (rows ps)) (rw rows_length h), and-false, and-false)

  module _ (he : e ≤ length elements) (hp : p ≤ length ps) where
    told_whole : suits line r e p elements (rows ps) ≡ (record_suits line r && (elements_suit line (take e elements) && params_suit line e 0 (rows (take p ps))))
    unfolding suits tables_suit
    told_whole = rw (le-leb e (length elements) he, le-leb p (length (rows ps)) (rw rows_length hp), rows_take)

    module _ (t : Bool) (et : t ≡ record_suits line r) where
      pub other_record : not t ≡ true → false ≡ suits line r e p elements (rows ps)
      other_record h = sym (told_whole ∙ rw (← et, not-true t h))

      module _ (h : not t ≡ false) (u : Bool) (eu : u ≡ elements_suit line (take e elements)) where
        pub other_ids : u ≡ false → false ≡ suits line r e p elements (rows ps)
        other_ids k = sym (told_whole ∙ rw (← et, not-false t h, ← eu, k))

        pub all_suit : u ≡ true → (v : Bool) → v ≡ params_suit line e 0 (rows (take p ps)) → v ≡ suits line r e p elements (rows ps)
        all_suit k v ev = ev ∙ sym (told_whole ∙ rw (← et, not-false t h, ← eu, k))

pub ruleset whole_laws = (few_ids, few_entries, other_record, other_ids, all_suit)
