-- An element, by positions of the line: what decides it, and that its parts lie in the line.
use Rattle.std.specs.Prelude.{if◌then◌else◌}
use Prim.Native.Nat.{ℕ, ◌+◌, ◌-◌, ◌^◌, ◌≤◌, ◌<◌}
use mathlib.Core.Path.{◌≡◌, refl, sym, ap, ◌∙◌}
use mathlib.Core.Bool.{Bool, true, false, not, ◌&&◌}
use mathlib.Core.List.{List, [], ◌∷◌}
use native.Mathlib.Decide.{dec_le}
use native.Mathlib.Omega.{arith}
use lib.Dec.{leb, eqb}
use lib.ListN.{length, get_or, drop, length-drop}
use lib.Seq.{drop-drop, get_or-drop}
use mir.Syntax.{w64}
use mir.Val.{Fits}
use borrow.Author.Tests.{not-true, not-false, le-leb, leb-true}
use Rattle.base.specs.Choose.{is_at}
use Rattle.base.specs.Runs.{run}
use Rattle.base.proofs.Parts.{at_below}
use Rattle.base.proofs.Runs.{run_in}
use Rattle.parsers.specs.Steps.{is_blank, blanks_from}
use Rattle.parsers.proofs.Steps.{blanks_within}
use Rattle.structured_data.specs.Param.{is_named}
use Rattle.structured_data.specs.Element.{Params, Element, id_len, params_from, element_from}
use Rattle.structured_data.specs.Element.Element.{no_element, is_element}
use Rattle.structured_data.specs.Steps.{open_from}
use Rattle.structured_data.specs.declared.Open.{Open}
use Rattle.structured_data.proofs.Params.{at_part, unbracket}
use Rattle.structured_data.proofs.Ids.{id_le, id_named}
use Rattle.structured_data.proofs.Walks.{params_reach}

-- the position behind a `]` that is there
pub closed_fits : (s : List ℕ) (i : ℕ) (d : Bool) → d ≡ is_at s i 93 → not d ≡ false → length s < 2 ^ 64 → Fits w64 (i + 1)
closed_fits s i d e h l = record { fits = omega (arith, at_below s i 92 (sym e ∙ not-false d h)) }

module _ (e : ℕ) (s : List ℕ) (at n start : ℕ) (en : n ≡ id_len (drop (at + 1) s)) (es : start ≡ blanks_from s (at + 1 + n)) where
  -- element `e`, by positions of the line
  element_at_lem : element_from e at (drop at s)
      ≡ (if is_at s at 91 && leb 1 n && is_at (drop at s) ((params_from e start (drop start s)).next - at) 93
      then is_element ((at + 1) ∷ n ∷ []) (params_from e start (drop start s)).rows ((params_from e start (drop start s)).next + 1)
      else no_element)
  unfolding element_from
  element_at_lem =
      let zero : at + 0 ≡ at = omega arith in
      let b : is_at (drop at s) 0 91 ≡ is_at s at 91 = at_part s at 0 91 ∙ ap (λ (k : ℕ). is_at s k 91) zero in
      let i : id_len (drop 1 (drop at s)) ≡ n = ap id_len (drop-drop 1 at s) ∙ sym en in
      let o : at + (n + 1) ≡ at + 1 + n = omega arith in
      let r : run is_blank (drop (n + 1) (drop at s)) ≡ run is_blank (drop (at + 1 + n) s) =
      ap (run is_blank) (drop-drop (n + 1) at s ∙ ap (λ (k : ℕ). drop k s) o) in
      let a : at + (n + 1 + run is_blank (drop (n + 1) (drop at s))) ≡ start = omega (arith, r, es) in
      let d : drop (n + 1 + run is_blank (drop (n + 1) (drop at s))) (drop at s) ≡ drop start s = drop-drop _ at s ∙ ap (λ (k : ℕ). drop k s) a in
      rw (b, i, a, d)

-- The front of an element
module _ (s : List ℕ) (at : ℕ) (b : Bool) (eb : b ≡ is_at s at 91) where
  pub open_none : not b ≡ true → record { id = 0; start = length s } ≡ open_from s at
  unfolding open_from
  open_none h = rw (← eb, not-true b h)

  module _ (hb : not b ≡ false) where
    pub behind_open : at + 1 ≤ length s
    behind_open = omega (arith, at_below s at 90 (sym eb ∙ not-false b hb))

    pub open_fits : length s < 2 ^ 64 → Fits w64 (at + 1)
    open_fits l = record { fits = omega (arith, behind_open) }

    module _ (u : List ℕ) (eu : u ≡ drop (at + 1) s) (n : ℕ) (en : n ≡ id_len u) where
      id_is : n ≡ id_len (drop (at + 1) s)
      id_is = en ∙ ap id_len eu

      pub open_no_id : n ≡ 0 → record { id = 0; start = length s } ≡ open_from s at
      unfolding open_from
      open_no_id z = rw (← eb, not-false b hb, ← id_is, z)

      pub behind_id : at + 1 + n ≤ length s
      behind_id = omega (arith, id_is, behind_open, id_le (drop (at + 1) s), length-drop (at + 1) s)

      pub id_fits_lem : length s < 2 ^ 64 → Fits w64 (at + 1 + n)
      id_fits_lem l = record { fits = omega (arith, behind_id) }

      pub open_found : (n ≡ 0 → ⊥) → (start : ℕ) → start ≡ blanks_from s (at + 1 + n) → record { id = n; start = start } ≡ open_from s at
      unfolding open_from
      open_found z start es = rw (← eb, not-false b hb, ← id_is, le-leb 1 n (omega arith), ← es)

pub ruleset open_laws = (open_none, behind_open, open_fits, open_no_id, behind_id, id_fits_lem, open_found)

-- the parameters start in the line, behind the id, and no `]` stands before them
pub record Opens (s : List ℕ) (at : ℕ) (o : Open) : Type 0 where
  pub start_within : o.start ≤ length s
  pub start_none : o.id ≡ 0 → o.start ≡ length s
  pub start_behind : (o.id ≡ 0 → ⊥) → at < o.start
  pub unclosed : (o.id ≡ 0 → ⊥) → (r : ℕ) → at ≤ r → r < o.start → is_at s r 93 ≡ false

-- a byte of a run that starts at `at`
run_at : (p : ℕ → Bool) (s : List ℕ) (at r : ℕ) → at ≤ r → p (get_or (drop at s) (r - at) 0) ≡ true → p (get_or s r 0) ≡ true
run_at p s at r h q =
    let e : at + (r - at) ≡ r = omega arith in
    ap p (ap (λ (k : ℕ). get_or s k 0) (sym e) ∙ sym (get_or-drop at s (r - at) 0)) ∙ q

front_unclosed : (s : List ℕ) (at r : ℕ) → is_at s at 91 ≡ true → at ≤ r → r < blanks_from s (at + 1 + id_len (drop (at + 1) s)) → is_at s r 93 ≡ false
front_unclosed s at r p h l = go (dec_le r at) (dec_le (at + 1 + id_len (drop (at + 1) s)) r)
  where
    n : ℕ
    n = id_len (drop (at + 1) s)

    go : Dec (r ≤ at) → Dec (at + 1 + n ≤ r) → is_at s r 93 ≡ false
    go (yes i) _ = let e : r ≡ at = omega arith in rw e (unbracket (λ b. eqb b 91) refl s at p)
    go (no i) (no j) = unbracket is_named refl s r (run_at is_named s (at + 1) r (omega arith) (id_named (drop (at + 1) s) (r - (at + 1)) (omega arith)))
    go (no i) (yes j) =
        unbracket is_blank refl s r
        (run_at is_blank s (at + 1 + n) r j (run_in is_blank (drop (at + 1 + n) s) (r - (at + 1 + n)) (omega arith)))

pub opens : (s : List ℕ) (at : ℕ) → Opens s at (open_from s at)
unfolding open_from
opens s at = go (is_at s at 91) (leb 1 n) refl refl
  where
    n : ℕ
    n = id_len (drop (at + 1) s)

    none : Opens s at (record { id = 0; start = length s })
    none = record { start_within = omega arith; start_none = λ z. refl; start_behind = λ z. absurd (z refl); unclosed = λ z. absurd (z refl) }

    go : (b c : Bool) → is_at s at 91 ≡ b → leb 1 n ≡ c
        → Opens s at (if b && c then record { id = n; start = blanks_from s (at + 1 + n) } else record { id = 0; start = length s })
    go true true p q =
        let h = at_below s at 90 p in
        record {
          start_within = blanks_within s (at + 1 + n) _ refl (omega (arith, id_le (drop (at + 1) s), length-drop (at + 1) s));
          start_none = λ z. absurd (omega (arith, leb-true 1 n q));
          start_behind = λ z. omega arith;
          unclosed = λ z r. front_unclosed s at r p;
        }
    go true false p q = none
    go false c p q = none

-- Element `e`, from its front and its parameters
abbrev pub element_of : ℕ → List ℕ → ℕ → Open → Element
element_of e s at o =
    let ps = params_from e o.start (drop o.start s) in
    if leb 1 o.id && is_at s ps.next 93 then is_element ((at + 1) ∷ o.id ∷ []) ps.rows (ps.next + 1) else no_element

pub element_is : (e : ℕ) (s : List ℕ) (at : ℕ) → element_from e at (drop at s) ≡ element_of e s at (open_from s at)
unfolding open_from
element_is e s at = element_at_lem e s at n start refl refl ∙ go (is_at s at 91) (leb 1 n) refl refl
  where
    n : ℕ
    n = id_len (drop (at + 1) s)

    start : ℕ
    start = blanks_from s (at + 1 + n)

    ps : Params
    ps = params_from e start (drop start s)

    go : (b c : Bool) → is_at s at 91 ≡ b → leb 1 n ≡ c
        → (if b && c && is_at (drop at s) (ps.next - at) 93 then is_element ((at + 1) ∷ n ∷ []) ps.rows (ps.next + 1) else no_element)
        ≡ element_of e s at (if b && c then record { id = n; start = start } else record { id = 0; start = length s })
    go true true p q =
        let h = at_below s at 90 p in
        let l : start ≤ length s = blanks_within s (at + 1 + n) _ refl (omega (arith, id_le (drop (at + 1) s), length-drop (at + 1) s)) in
        let r = params_reach e start s l in
        let k : at + (ps.next - at) ≡ ps.next = omega (arith, r.few) in
        let d : is_at (drop at s) (ps.next - at) 93 ≡ is_at s ps.next 93 = at_part s at _ 93 ∙ ap (λ (j : ℕ). is_at s j 93) k in
        rw (q, d)
    go true false p q = refl
    go false c p q = refl
