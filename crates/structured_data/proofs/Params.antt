-- A parameter: what decides it, and that it lies within its part.
use Rattle.std.specs.Prelude.{if◌then◌else◌, Option, Some, None}
use Prim.Native.Nat.{ℕ, suc, ◌+◌, ◌-◌, ◌^◌, ◌≤◌, ◌<◌}
use mathlib.Core.Path.{◌≡◌, refl, sym, ap, ap₂, ◌∙◌}
use mathlib.Core.Bool.{Bool, true, false, not, ◌&&◌}
use mathlib.Core.List.{List}
use native.Mathlib.Decide.{dec_le}
use native.Mathlib.Omega.{arith}
use lib.Dec.{leb, eqb}
use lib.ListN.{length, get_or, drop, length-drop}
use lib.Seq.{drop-drop, get_or-drop}
use mir.Syntax.{w64}
use mir.Val.{Fits}
use borrow.Author.Tests.{not-true, not-false, le-leb, leb-true, eqb-true}
use Rattle.base.specs.Choose.{is_at}
use Rattle.base.specs.Runs.{run}
use Rattle.base.proofs.Tests.{clash, by_test}
use Rattle.base.proofs.Parts.{at_below}
use Rattle.base.proofs.Runs.{run_in}
use Rattle.parsers.specs.Steps.{is_blank, blanks_from}
use Rattle.structured_data.specs.Param.{is_named, quoted_len, param_at}
use Rattle.structured_data.specs.Steps.{value_end}
use Rattle.structured_data.specs.declared.Param.{Param}
use Rattle.structured_data.proofs.Values.{quoted_le, quoted_behind}

-- The quote that ends a value
module _ (s : List ℕ) (q : ℕ) (b : Bool) (eb : b ≡ is_at s q 34) where
  pub value_unquoted : not b ≡ true → None ≡ value_end s q
  unfolding value_end
  value_unquoted h = rw (← eb, not-true b h)

  module _ (hb : not b ≡ false) where
    pub behind_quote : q + 1 ≤ length s
    behind_quote = omega (arith, at_below s q 33 (sym eb ∙ not-false b hb))

    pub quote_fits : length s < 2 ^ 64 → Fits w64 (q + 1)
    quote_fits l = record { fits = omega (arith, behind_quote) }

    module _ (u : List ℕ) (eu : u ≡ drop (q + 1) s) (m : ℕ) (em : m ≡ quoted_len false u) where
      value_is : m ≡ quoted_len false (drop (q + 1) s)
      value_is = em ∙ ap (quoted_len false) eu

      pub value_fits : length s < 2 ^ 64 → Fits w64 (q + 1 + m)
      value_fits l = record { fits = omega (arith, value_is, behind_quote, quoted_le false (drop (q + 1) s), length-drop (q + 1) s) }

      module _ (d : Bool) (ed : d ≡ is_at s (q + 1 + m) 34) where
        pub value_open : not d ≡ true → None ≡ value_end s q
        unfolding value_end
        value_open h = rw (← eb, not-false b hb, ← value_is, ← ed, not-true d h)

        pub value_closed : not d ≡ false → Some (q + 1 + m) ≡ value_end s q
        unfolding value_end
        value_closed h = rw (← eb, not-false b hb, ← value_is, ← ed, not-false d h)

pub value_within : (s : List ℕ) (q end : ℕ) → Some end ≡ value_end s q → (q + 1 ≤ end) × (end + 1 ≤ length s)
unfolding value_end
value_within s q end e = go (is_at s q 34) (is_at s (q + 1 + m) 34) refl refl e
  where
    m : ℕ
    m = quoted_len false (drop (q + 1) s)

    go : (b d : Bool) → is_at s q 34 ≡ b → is_at s (q + 1 + m) 34 ≡ d → Some end ≡ (if b && d then Some (q + 1 + m) else None)
        → (q + 1 ≤ end) × (end + 1 ≤ length s)
    go true true p r e =
        let z : end ≡ q + 1 + m = cc in
        let l = at_below s (q + 1 + m) 33 r in
        (omega arith, omega arith)
    go true false p r e = clash (cc)
    go false d p r e = clash (cc)

pub ruleset value_laws = (value_unquoted, behind_quote, quote_fits, value_fits, value_open, value_closed)

-- a parameter that is there
abbrev pub param : ℕ → ℕ → ℕ → ℕ → Option Param
param n v m len = Some (record { name = n; value = v; value_len = m; len = len })

-- A parameter of a name of `n` bytes and a value between the quotes at `q` and `end`
param_of : ℕ → ℕ → Option ℕ → Option Param
param_of n q None = None
param_of n q (Some end) = param n (q + 1) (end - (q + 1)) (end + 1)

module _ (t : List ℕ) (n : ℕ) (en : n ≡ run is_named t) where
  pub param_unnamed : n ≡ 0 → None ≡ param_at t
  unfolding param_at
  param_unnamed z = rw (← en, z)

  module _ (z : n ≡ 0 → ⊥) (a : Bool) (ea : a ≡ is_at t n 61) where
    some_name : leb 1 n ≡ true
    some_name = le-leb 1 n (omega arith)

    pub param_no_equals : not a ≡ true → None ≡ param_at t
    unfolding param_at
    param_no_equals h = rw (← en, some_name, ← ea, not-true a h)

    module _ (ha : not a ≡ false) where
      pub behind_name : n + 1 ≤ length t
      behind_name = omega (arith, at_below t n 60 (sym ea ∙ not-false a ha))

      pub name_fits : length t < 2 ^ 64 → Fits w64 (n + 1)
      name_fits l = record { fits = omega (arith, behind_name) }

      module _ (q : ℕ) (eq : q ≡ blanks_from t (n + 1)) where
        param_is : param_at t ≡ param_of n q (value_end t q)
        unfolding param_at value_end param_of
        param_is = rw (← en, some_name, ← ea, not-false a ha, ← eq) (go (is_at t q 34) (is_at t (q + 1 + quoted_len false (drop (q + 1) t)) 34))
          where
            m : ℕ
            m = quoted_len false (drop (q + 1) t)

            go : (b d : Bool) → (if b && d then param n (q + 1) m (q + m + 2) else None) ≡ param_of n q (if b && d then Some (q + 1 + m) else None)
            go true true =
                let l : m ≡ q + 1 + m - (q + 1) = omega arith in
                let k : q + m + 2 ≡ q + 1 + m + 1 = omega arith in
                ap₂ (λ (j i : ℕ). param n (q + 1) j i) l k
            go true false = refl
            go false d = refl

        module _ (g : Option ℕ) (eg : g ≡ value_end t q) where
          pub param_open : g ≡ None → None ≡ param_at t
          unfolding param_of
          param_open h = sym (param_is ∙ ap (param_of n q) (sym eg ∙ h))

          module _ (end : ℕ) (h : g ≡ Some end) where
            pub param_found : param n (q + 1) (end - (q + 1)) (end + 1) ≡ param_at t
            unfolding param_of
            param_found = sym (param_is ∙ ap (param_of n q) (sym eg ∙ h))

            end_within : (q + 1 ≤ end) × (end + 1 ≤ length t)
            end_within = value_within t q end (sym h ∙ eg)

            pub start_before_end : q + 1 ≤ end
            start_before_end = end_within.0

            pub start_fits : length t < 2 ^ 64 → Fits w64 (q + 1)
            start_fits l = record { fits = omega (arith, end_within) }

            pub end_fits : length t < 2 ^ 64 → Fits w64 (end + 1)
            end_fits l = record { fits = omega (arith, end_within) }

pub ruleset param_laws = (param_unnamed, param_no_equals, behind_name, name_fits, param_open, param_found, start_before_end, start_fits, end_fits)

-- Where a parameter's parts lie: none of its bytes is `]` but in the value
pub record Lies (t : List ℕ) (n v m len : ℕ) : Type 0 where
  pub value_behind : n < v
  pub value_inside : v + m + 1 ≡ len
  pub within_t : len ≤ length t
  pub unclosed : is_at t 0 93 ≡ false
  pub anew : (k : ℕ) → k < len → is_at t k 93 ≡ true → k + 2 + quoted_len false (drop (k + 1) t) ≡ len

-- a byte of the part that starts at `at`
pub at_part : (s : List ℕ) (at i b : ℕ) → is_at (drop at s) i b ≡ is_at s (at + i) b
at_part s at i b = ap (λ (k : ℕ). eqb k b) (get_or-drop at s i 0)

-- a byte that passes a test which `]` does not pass
pub unbracket : (p : ℕ → Bool) → p 93 ≡ false → (t : List ℕ) (k : ℕ) → p (get_or t k 0) ≡ true → is_at t k 93 ≡ false
unbracket p z t k h =
    by_test (λ b. eqb (get_or t k 0) 93 ≡ b → b ≡ false) (eqb (get_or t k 0) 93)
    (λ _ q. clash (sym h ∙ ap p (eqb-true (get_or t k 0) 93 q) ∙ z))
    (λ _ q. refl)
    refl

-- the name, its `=`, the blanks, and the quotes
record Parts (t : List ℕ) (n q m : ℕ) : Type 0 where
  name : n ≡ run is_named t
  some : 1 ≤ n
  equals : is_at t n 61 ≡ true
  blanks : q ≡ n + 1 + run is_blank (drop (n + 1) t)
  opens : is_at t q 34 ≡ true
  value : m ≡ quoted_len false (drop (q + 1) t)
  closes : is_at t (q + 1 + m) 34 ≡ true

module _ (t : List ℕ) (n q m : ℕ) (c : Parts t n q m) where
  -- no `]` before the value
  before_value : (k : ℕ) → k ≤ q → is_at t k 93 ≡ false
  before_value k h = go (dec_le (suc k) n) (dec_le k n) (dec_le (suc k) q)
    where
      go : Dec (k < n) → Dec (k ≤ n) → Dec (k < q) → is_at t k 93 ≡ false
      go (yes l) _ _ = unbracket is_named refl t k (run_in is_named t k (omega (arith, c.name)))
      go (no l) (yes i) _ = let e : k ≡ n = omega arith in rw e (unbracket (λ b. eqb b 61) refl t n c.equals)
      go (no l) (no i) (yes j) =
          let r = run_in is_blank (drop (n + 1) t) (k - (n + 1)) (omega (arith, c.blanks)) in
          let e : n + 1 + (k - (n + 1)) ≡ k = omega arith in
          unbracket is_blank refl t k (ap is_blank (ap (λ (j : ℕ). get_or t j 0) (sym e) ∙ sym (get_or-drop (n + 1) t (k - (n + 1)) 0)) ∙ r)
      go (no l) (no i) (no j) = let e : k ≡ q = omega arith in rw e (unbracket (λ b. eqb b 34) refl t q c.opens)

  value_anew : (k : ℕ) → k < q + m + 2 → is_at t k 93 ≡ true → k + 2 + quoted_len false (drop (k + 1) t) ≡ q + m + 2
  value_anew k h b = go (dec_le k q) (dec_le (q + 1 + m) k)
    where
      go : Dec (k ≤ q) → Dec (q + 1 + m ≤ k) → k + 2 + quoted_len false (drop (k + 1) t) ≡ q + m + 2
      go (yes l) _ = clash (sym b ∙ before_value k l)
      go (no l) (yes i) = let e : k ≡ q + 1 + m = omega arith in clash (sym (rw e at b) ∙ unbracket (λ b. eqb b 34) refl t (q + 1 + m) c.closes)
      go (no l) (no i) =
          let j = k - (q + 1) in
          let e : q + 1 + j ≡ k = omega arith in
          let d : is_at (drop (q + 1) t) j 93 ≡ true = at_part t (q + 1) j 93 ∙ ap (λ (i : ℕ). is_at t i 93) e ∙ b in
          let a : q + 1 + (j + 1) ≡ k + 1 = omega arith in
          let r = quoted_behind (drop (q + 1) t) j (omega (arith, c.value)) d in
          omega (arith, r, c.value, ap (quoted_len false) (drop-drop (j + 1) (q + 1) t ∙ ap (λ (i : ℕ). drop i t) a))

  parts_lie : Lies t n (q + 1) m (q + m + 2)
  parts_lie =
      record {
        value_behind = omega (arith, c.blanks);
        value_inside = omega arith;
        within_t = omega (arith, at_below t (q + 1 + m) 33 c.closes);
        unclosed = unbracket is_named refl t 0 (run_in is_named t 0 (omega (arith, c.name, c.some)));
        anew = value_anew;
      }

pub param_lies : (t : List ℕ) (n v m len : ℕ) → param n v m len ≡ param_at t → Lies t n v m len
unfolding param_at
param_lies t n v m len e = go (leb 1 n') (is_at t n' 61) (is_at t q 34) (is_at t (q + 1 + m') 34) refl refl refl refl e
  where
    n' : ℕ
    n' = run is_named t

    q : ℕ
    q = n' + 1 + run is_blank (drop (n' + 1) t)

    m' : ℕ
    m' = quoted_len false (drop (q + 1) t)

    go : (a b c d : Bool) → leb 1 n' ≡ a → is_at t n' 61 ≡ b → is_at t q 34 ≡ c → is_at t (q + 1 + m') 34 ≡ d
        → param n v m len ≡ (if a && b && c && d then param n' (q + 1) m' (q + m' + 2) else None)
        → Lies t n v m len
    go true true true true a b c d e =
        let y : ◌≡◌ {A = Param} (record { name = n; value = v; value_len = m; len = len }) (record { name = n'; value = q + 1; value_len = m'; len = q + m' + 2 }) = cc in
        let p : n ≡ n' = ap (λ (x : Param). x.name) y in
        let r : v ≡ q + 1 = ap (λ (x : Param). x.value) y in
        let k : m ≡ m' = ap (λ (x : Param). x.value_len) y in
        let j : len ≡ q + m' + 2 = ap (λ (x : Param). x.len) y in
        rw (p, r, k, j) (parts_lie t n' q m' (record { name = refl; some = leb-true 1 n' a; equals = b; blanks = refl; opens = c; value = refl; closes = d }))
    go true true true false a b c d e = clash (cc)
    go true true false _ a b c d e = clash (cc)
    go true false _ _ a b c d e = clash (cc)
    go false _ _ _ a b c d e = clash (cc)
