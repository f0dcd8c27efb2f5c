-- The rows of the tables tell the elements.
use Prim.Native.Nat.{ℕ, ◌+◌, ◌<◌}
use mathlib.Core.Path.{◌≡◌, refl, ap, ◌∙◌}
use mathlib.Core.List.{List, [], ◌∷◌, ◌++◌, append-nil}
use native.Mathlib.Omega.{arith}
use lib.ListN.{length}
use borrow.Author.Tests.{eq-eqb, ne_eqb}
use Rattle.grammar.specs.Line.{Param, Element, each_then, param_then, element_then, ParamOk, ElementOk, Each}
use Rattle.grammar.specs.Reading.{element_rows, rows_of_params, param_rows}
use Rattle.grammar.proofs.Data.{param_reads, element_reads}
use Rattle.writes.specs.Told.{front, rest, told_params, told_elements}
use Rattle.claims.proofs.Places.{Here, here_next, here_on, here_text, moved, here_as}

-- ---- the rows of an element are in front, and those of later ones are not

front_own : (k at : ℕ) (ps : List Param) (more : List (List ℕ)) → front k (rows_of_params k at ps ++ more) ≡ rows_of_params k at ps ++ front k more
front_own k at [] more = refl
front_own k at (p ∷ ps) more = rw (eq-eqb k k refl, front_own k (at + length (param_then p [])) ps more)

rest_own : (k at : ℕ) (ps : List Param) (more : List (List ℕ)) → rest k (rows_of_params k at ps ++ more) ≡ rest k more
rest_own k at [] more = refl
rest_own k at (p ∷ ps) more = rw (eq-eqb k k refl) (rest_own k (at + length (param_then p [])) ps more)

-- where the rows behind have none of element k, neither have those with rows of element j in front
front_past : (k j at : ℕ) (ps : List Param) (more : List (List ℕ)) → k < j → front k more ≡ [] → front k (rows_of_params j at ps ++ more) ≡ []
front_past k j at [] more h e = e
front_past k j at (p ∷ ps) more h e = rw (ne_eqb j k (λ q. omega arith))

rest_past : (k j at : ℕ) (ps : List Param) (more : List (List ℕ)) → k < j → rest k more ≡ more → rest k (rows_of_params j at ps ++ more) ≡ rows_of_params j at ps ++ more
rest_past k j at [] more h e = e
rest_past k j at (p ∷ ps) more h e = rw (ne_eqb j k (λ q. omega arith))

front_later : (k j at : ℕ) (es : List Element) → k < j → front k (param_rows j at es) ≡ []
front_later k j at [] h = refl
front_later k j at (e ∷ es) h = front_past k j _ e.params _ h (front_later k (j + 1) (at + length (element_then e [])) es (omega arith))

rest_later : (k j at : ℕ) (es : List Element) → k < j → rest k (param_rows j at es) ≡ param_rows j at es
rest_later k j at [] h = refl
rest_later k j at (e ∷ es) h = rest_past k j _ e.params _ h (rest_later k (j + 1) (at + length (element_then e [])) es (omega arith))

-- the rows of the first element, and the others
module _ (k a at : ℕ) (ps : List Param) (es : List Element) where
  pub front_is : front k (rows_of_params k a ps ++ param_rows (k + 1) at es) ≡ rows_of_params k a ps
  front_is = front_own k a ps (param_rows (k + 1) at es) ∙ rw (front_later k (k + 1) at es (omega arith)) (append-nil (rows_of_params k a ps))

  pub rest_is : rest k (rows_of_params k a ps ++ param_rows (k + 1) at es) ≡ param_rows (k + 1) at es
  rest_is = rest_own k a ps (param_rows (k + 1) at es) ∙ rest_later k (k + 1) at es (omega arith)

-- ---- what the rows tell

module _ {line : List ℕ} where
  pub params_told : (k at : ℕ) (ps : List Param) (r : List ℕ) → Each ParamOk ps → Here line at (each_then param_then ps r)
      → (told_params line (rows_of_params k at ps) ≡ ps)
  params_told k at [] r ok h = refl
  params_told k at (p ∷ ps) r ok h =
      let more = each_then param_then ps r in
      let a = here_next h in
      let b : Here line (at + 1 + length p.name + 1 + 1) (p.value ++ (34 ∷ more)) = here_next (here_next (here_on p.name a)) in
      let c : Here line (at + length p.name + 3) (p.value ++ (34 ∷ more)) = moved (at + length p.name + 3) b (omega arith) in
      let n : 32 ∷ (p.name ++ (61 ∷ (34 ∷ (p.value ++ (34 ∷ more))))) ≡ param_then p [] ++ more = ap (λ (l : List ℕ). 32 ∷ l) (param_reads.plain p more ok.0) in
      let d = here_on (param_then p []) (here_as h n) in
      rw (here_text p.name _ a, here_text p.value _ c, params_told k (at + length (param_then p [])) ps r ok.1 d)

  pub elements_told : (k at : ℕ) (es : List Element) (r : List ℕ) → Each ElementOk es → Here line at (each_then element_then es r)
      → told_elements line k (element_rows at es) (param_rows k at es) ≡ es
  elements_told k at [] r ok h = refl
  elements_told k at (e ∷ es) r ok h =
      let more = each_then element_then es r in
      let next = at + length (element_then e []) in
      let a = here_next h in
      let b : Here line (at + 1 + length e.id) (each_then param_then e.params (93 ∷ more)) = here_on e.id a in
      let c = moved (at + length e.id + 1) b (omega arith) in
      let n : 91 ∷ (e.id ++ each_then param_then e.params (93 ∷ more)) ≡ element_then e [] ++ more = ap (λ (l : List ℕ). 91 ∷ l) (element_reads.plain e more ok.0) in
      let d = here_on (element_then e []) (here_as h n) in
      rw (
        here_text e.id _ a,
        front_is k (at + length e.id + 1) next e.params es,
        rest_is k (at + length e.id + 1) next e.params es,
        params_told k (at + length e.id + 1) e.params (93 ∷ more) ok.0.params_ok c,
        elements_told (k + 1) next es r ok.1 d,
      )
