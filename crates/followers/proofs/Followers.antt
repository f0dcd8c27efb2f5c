-- A true claim, in tables that hold its counts, suits its line; so it is told yes.
use Rattle.std.specs.Prelude.{Result, Ok, Err}
use Prim.Native.Nat.{ℕ, ◌+◌, ◌≤◌}
use mathlib.Core.Path.{◌≡◌, refl, sym, ap, ap₂, ◌∙◌}
use mathlib.Core.Bool.{true, false, ◌&&◌}
use mathlib.Core.List.{List, [], ◌∷◌}
use mathlib.Core.Option.{Option, none, some}
use native.Mathlib.Nat.{zero-add}
use native.Mathlib.Omega.{arith}
use lib.ListN.{length, get_or, take, drop, length-append, length-map}
use lib.Seq.{length-take-le, take_at}
use borrow.Author.Tests.{le-leb}
use Rattle.base.specs.Fills.{filled}
use Rattle.base.proofs.Tests.{both, clash}
use Rattle.record.specs.Limits.{line_limit}
use Rattle.record.specs.declared.StrictRecord.{StrictRecord}
use Rattle.record.specs.declared.StrictReading.{StrictReading}
use Rattle.record.specs.declared.Refusal.{Refusal}
use Rattle.grammar.specs.Line.{Division, Element, Timestamp, element_then, Derives}
use Rattle.grammar.specs.Reading.{data_at, timestamp_place, record_of, element_rows, param_rows, param_count, StrictReads}
use Rattle.grammar.specs.Reading.StrictReads.{too_long, underivable, elements_over, params_over, accepted}
use Rattle.suits.specs.Suits.{place_suits, record_suits, elements_suit, params_suit, tables_suit, suits}
use Rattle.strict_data.proofs.Filling.{elements_many, all_many}
use Rattle.suited.proofs.Tests.{suits_filled}
use Rattle.suited.proofs.Strict.{line_length, division_suits}
use Rattle.claims.specs.Claims.{claim_of, pair_of, pairs, claim_suits, Checks}
use Rattle.claims.specs.Claims.Checks.{told_yes}
use Rattle.claims.specs.Laws.{FollowerIsTold, ReaderIsTold}
use Rattle.claims.proofs.Laws.{one_answer}

-- ---- it suits

-- refusal 7 asks for an entry's two numbers
pairs_suit : (line : List ℕ) (rows : List (List ℕ)) → elements_suit line (pairs rows) ≡ elements_suit line rows
unfolding elements_suit
pairs_suit line [] = refl
pairs_suit line (row ∷ rows) = ap (λ b. place_suits line (get_or row 0 0) (get_or row 1 0) && b) (pairs_suit line rows)

stamp_in_lem : (line : List ℕ) (d : Division) → Derives line d → (t : Option Timestamp) → (timestamp_place d t).start + (timestamp_place d t).len ≤ length line
stamp_in_lem line d h none = omega arith
stamp_in_lem line d h (some t) = omega (arith, line_length line d h)

module _ (line : List ℕ) (d : Division) (h : Derives line d) where
  record_suits_lem : record_suits line (record_of d).common ≡ true
  unfolding suits
  record_suits_lem =
      let rows = element_rows (data_at d) d.elements in
      let entries = param_rows 0 (data_at d) d.elements in
      (both (record_suits line (record_of d).common) (tables_suit line (length rows) (length entries) (filled rows []) (filled entries []))
      (suits_filled line (record_of d).common rows entries [] [] (division_suits line d h))).0

  module _ (e p : ℕ) (elements params : List (List ℕ)) (le : e ≤ length elements) (lp : p ≤ length params)
      (ids : pairs (take e elements) ≡ element_rows (data_at d) d.elements) (entries : take p params ≡ param_rows 0 (data_at d) d.elements) where
    count_is : length (element_rows (data_at d) d.elements) ≡ e
    count_is = ap length (sym ids) ∙ length-map (take e elements) pair_of ∙ length-take-le e elements le

    claim_suits_lem : claim_suits line (record_of d) e p elements params ≡ true
    unfolding suits tables_suit record_of
    claim_suits_lem =
        let t = (division_suits line d h).of_tables in
        let a : elements_suit line (take e elements) ≡ true = sym (pairs_suit line (take e elements)) ∙ ap (elements_suit line) ids ∙ t.of_elements in
        let b : params_suit line e 0 (take p params) ≡ true =
        ap₂ (λ (n : ℕ) (rows : List (List ℕ)). params_suit line n 0 rows) (sym count_is ∙ sym (zero-add (length (element_rows (data_at d) d.elements)))) entries ∙ t.of_params 0 (omega arith) in
        rw (record_suits_lem, le-leb e (length elements) le, le-leb p (length params) lp, a, b, le-leb _ _ (stamp_in_lem line d h d.timestamp))

    told : length line ≤ line_limit → Checks line (record_of d) e p elements params (Ok tt)
    unfolding claim_of
    told l = told_yes l claim_suits_lem (record { division = d; derives = h; is = rw (ids, entries) }) refl

pub follower_is_told : FollowerIsTold
follower_is_told line d e p elements params a l h le lp ids entries c =
    one_answer line (record_of d) e p elements params a (Ok tt) c (told line d h e p elements params le lp ids entries l)

-- ---- what the strict reader leaves

never : {A : Type 0} {x : StrictReading} (f : Refusal) → ◌≡◌ {A = Result StrictReading Refusal} (Ok x) (Err f) → A
never f h = let z : true ≡ false = cc in clash z

same : {x y : StrictReading} → ◌≡◌ {A = Result StrictReading Refusal} (Ok x) (Ok y) → x ≡ y
same h = cc

pairs_of : (at : ℕ) (es : List Element) → pairs (element_rows at es) ≡ element_rows at es
pairs_of at [] = refl
pairs_of at (e ∷ es) = ap (λ (l : List (List ℕ)). ((at + 1) ∷ length e.id ∷ []) ∷ l) (pairs_of (at + length (element_then e [])) es)

-- the front of a table that was filled
filled_front : (n : ℕ) (rows old : List (List ℕ)) → n ≡ length rows → take n (filled rows old) ≡ rows
filled_front n rows old e = take_at rows (drop (length rows) old) n (sym e)

filled_room : (n : ℕ) (rows old : List (List ℕ)) → n ≡ length rows → n ≤ length (filled rows old)
filled_room n rows old e = omega (arith, length-append rows (drop (length rows) old))

pub reader_is_told : ReaderIsTold
reader_is_told line e₀ p₀ e₁ p₁ r e p a (too_long l q b c) x = never _ q
reader_is_told line e₀ p₀ e₁ p₁ r e p a (underivable l h q b c) x = never _ q
reader_is_told line e₀ p₀ e₁ p₁ r e p a (elements_over d l h m q b c) x = never _ q
reader_is_told line e₀ p₀ e₁ p₁ r e p a (params_over d l h k m q b c) x = never _ q
reader_is_told line e₀ p₀ e₁ p₁ r e p a (accepted d l h k m q b c) x =
    let at = data_at d in
    let es = d.elements in
    let i : r ≡ record_of d = ap (λ (x : StrictReading). x.reading) (same q) in
    let n : e ≡ length (element_rows at es) = (let z : e ≡ length es = ap (λ (x : StrictReading). x.elements) (same q) in omega (arith, elements_many at es)) in
    let o : p ≡ length (param_rows 0 at es) = (let z : p ≡ param_count es = ap (λ (x : StrictReading). x.params) (same q) in omega (arith, all_many 0 at es)) in
    let y : Checks line (record_of d) e p (filled (element_rows at es) e₀) (filled (param_rows 0 at es) p₀) a = rw (← i, ← b, ← c) x in
    follower_is_told line d e p (filled (element_rows at es) e₀) (filled (param_rows 0 at es) p₀) a l h
    (filled_room e (element_rows at es) e₀ n) (filled_room p (param_rows 0 at es) p₀ o)
    (ap pairs (filled_front e (element_rows at es) e₀ n) ∙ pairs_of at es) (filled_front p (param_rows 0 at es) p₀ o) y

-- the place of the timestamp's text in it
pub text_in : {line : List ℕ} {e₀ p₀ e₁ p₁ : List (List ℕ)} {r : StrictRecord} {e p : ℕ} → StrictReads line e₀ p₀ (Ok (record { reading = r; elements = e; params = p })) e₁ p₁
    → r.timestamp_text.start + r.timestamp_text.len ≤ line_limit
unfolding record_of
text_in (too_long l q b c) = never _ q
text_in (underivable l h q b c) = never _ q
text_in (elements_over d l h m q b c) = never _ q
text_in (params_over d l h k m q b c) = never _ q
text_in {line} {e₀} {p₀} {e₁} {p₁} {r} (accepted d l h k m q b c) =
    let i : r ≡ record_of d = ap (λ (x : StrictReading). x.reading) (same q) in
    rw i (omega (arith, stamp_in_lem line d h d.timestamp))
