-- The laws of the check: what the code follows is what the contract asks for, one answer, one claim, and a changed one refused.
use Rattle.std.specs.Prelude.{if◌then◌else◌, Result, Ok, Err}
use Prim.Native.Nat.{ℕ, ◌≤◌, ◌<◌}
use mathlib.Core.Path.{◌≡◌, refl, sym, ap, ◌∙◌}
use mathlib.Core.Bool.{Bool, true, false, not}
use mathlib.Core.List.{List}
use mathlib.Core.Logic.{inl, inr}
use native.Mathlib.Omega.{arith}
use lib.Dec.{ltb}
use lib.ListN.{length, take, length-map}
use lib.Seq.{length-take-le}
use borrow.Author.Tests.{lt-ltb, le-ltb}
use Rattle.base.proofs.Tests.{both, by_test, clash}
use Rattle.record.specs.Limits.{line_limit}
use Rattle.record.specs.declared.StrictRecord.{StrictRecord}
use Rattle.record.specs.declared.Refusal.{Refusal}
use Rattle.record.specs.declared.Refusal.TheVariants.{LineTooLong, Unsuitable, WrongClaim}
use Rattle.grammar.proofs.Lines.{unambiguous}
use Rattle.suits.specs.Suits.{place_suits, suits}
use Rattle.suits.proofs.Suited.{tables_suited, elements_fit_lem, params_fit_lem}
use Rattle.claims.specs.Claims.{Claim, claim_of, Claimed, pair_of, pairs, claim_in, claim_suits, Checks}
use Rattle.claims.specs.Claims.Checks.{too_long, unsuitable, wrong, told_yes}
use Rattle.claims.specs.Laws.{OneAnswer, OneClaim, ChangedIsRefused}
use Rattle.claims.specs.Holds.{holds}
use Rattle.claims.proofs.Claimed.{holds_claimed, claimed_holds}

-- ---- the answer of the check is what the contract asks for

module _ (line : List ℕ) (r : StrictRecord) (e p : ℕ) (elements params : List (List ℕ)) where
  pub answers_long : line_limit < length line → Checks line r e p elements params (Err LineTooLong)
  answers_long l = too_long l refl

  module _ (short : length line ≤ line_limit) where
    pub answers_unsuitable : claim_suits line r e p elements params ≡ false → Checks line r e p elements params (Err Unsuitable)
    answers_unsuitable s = unsuitable short s refl

    pub answers_wrong : claim_suits line r e p elements params ≡ true → holds line (claim_in r e p elements params) ≡ false → Checks line r e p elements params (Err WrongClaim)
    answers_wrong s h = wrong short s (λ k. clash (sym (claimed_holds line _ k) ∙ h)) refl

    pub answers_yes : claim_suits line r e p elements params ≡ true → holds line (claim_in r e p elements params) ≡ true → Checks line r e p elements params (Ok tt)
    answers_yes s h = told_yes short s (holds_claimed line _ h) refl

  -- ---- one answer

  abbrev the_answer : Bool → Bool → Bool → Result Unit Refusal
  the_answer long fit good = if long then Err LineTooLong else if not fit then Err Unsuitable else if good then Ok tt else Err WrongClaim

  not_claimed : (Claimed line (claim_in r e p elements params) → ⊥) → holds line (claim_in r e p elements params) ≡ false
  not_claimed n =
      by_test (λ b. holds line (claim_in r e p elements params) ≡ b → b ≡ false) (holds line (claim_in r e p elements params))
      (λ _ q. absurd (n (holds_claimed line _ q))) (λ _ q. refl) refl

  answer_is : (a : Result Unit Refusal) → Checks line r e p elements params a
      → a ≡ the_answer (ltb line_limit (length line)) (claim_suits line r e p elements params) (holds line (claim_in r e p elements params))
  answer_is a (too_long l q) = q ∙ rw (lt-ltb line_limit (length line) l)
  answer_is a (unsuitable l s q) = q ∙ rw (le-ltb line_limit (length line) l, s)
  answer_is a (wrong l s k q) = q ∙ rw (le-ltb line_limit (length line) l, s, not_claimed k)
  answer_is a (told_yes l s k q) = q ∙ rw (le-ltb line_limit (length line) l, s, claimed_holds line _ k)

pub one_answer : OneAnswer
one_answer line r e p elements params a b x y = answer_is line r e p elements params a x ∙ sym (answer_is line r e p elements params b y)

-- ---- one claim

refused_no : {A : Type 0} (f : Refusal) → ◌≡◌ {A = Result Unit Refusal} (Ok tt) (Err f) → A
refused_no f h = let z : true ≡ false = cc in clash z

-- what a claim that was told yes is
record Told (line : List ℕ) (r : StrictRecord) (e p : ℕ) (elements params : List (List ℕ)) : Type 0 where
  pub short : length line ≤ line_limit
  pub fits : claim_suits line r e p elements params ≡ true
  pub claimed : Claimed line (claim_in r e p elements params)

told : (line : List ℕ) (r : StrictRecord) (e p : ℕ) (elements params : List (List ℕ)) → Checks line r e p elements params (Ok tt) → Told line r e p elements params
told line r e p elements params (too_long l q) = refused_no _ q
told line r e p elements params (unsuitable l s q) = refused_no _ q
told line r e p elements params (wrong l s k q) = refused_no _ q
told line r e p elements params (told_yes l s k q) = record { short = l; fits = s; claimed = k }

-- its counts are within the tables
counts : (line : List ℕ) (r : StrictRecord) (e p : ℕ) (elements params : List (List ℕ)) → claim_suits line r e p elements params ≡ true → (e ≤ length elements) × (p ≤ length params)
counts line r e p elements params h =
    let u = both (suits line r.common e p elements params) (place_suits line r.timestamp_text.start r.timestamp_text.len) h in
    let t = tables_suited line r.common e p elements params u.0 in
    (elements_fit_lem line e p elements params t, params_fit_lem line e p elements params t)

pub one_claim : OneClaim
one_claim line r r' e p e' p' elements params elements' params' x y =
    let s = told line r e p elements params x in
    let t = told line r' e' p' elements' params' y in
    let k = s.claimed in
    let m = t.claimed in
    let q : claim_in r e p elements params ≡ claim_in r' e' p' elements' params' =
    k.is ∙ ap claim_of (unambiguous line k.division m.division k.derives m.derives) ∙ sym m.is in
    let ids : pairs (take e elements) ≡ pairs (take e' elements') = ap (λ (c : Claim). c.elements) q in
    let entries : take p params ≡ take p' params' = ap (λ (c : Claim). c.params) q in
    let (a, b) = counts line r e p elements params s.fits in
    let (c, d) = counts line r' e' p' elements' params' t.fits in
    record {
      same_record = ap (λ (c : Claim). c.reading) q;
      same_elements = omega (
        arith,
        ap length ids,
        length-map (take e elements) pair_of,
        length-map (take e' elements') pair_of,
        length-take-le e elements a,
        length-take-le e' elements' c,
      );
      same_params = omega (arith, ap length entries, length-take-le p params b, length-take-le p' params' d);
      same_ids = ids;
      same_entries = entries;
    }

pub changed_is_refused : ChangedIsRefused
changed_is_refused line r r' e p e' p' elements params elements' params' a x n (too_long l q) =
    absurd (omega (arith, (told line r e p elements params x).short))
changed_is_refused line r r' e p e' p' elements params elements' params' a x n (unsuitable l s q) = inl q
changed_is_refused line r r' e p e' p' elements params elements' params' a x n (wrong l s k q) = inr q
changed_is_refused line r r' e p e' p' elements params elements' params' a x n (told_yes l s k q) =
    absurd (n (one_claim line r r' e p e' p' elements params elements' params' x (told_yes l s k refl)))
