-- The walk over an element's parameters: one step of it, its ends, how far it goes, and what a `]` that it passes says of its end.
use Rattle.std.specs.Prelude.{if◌then◌else◌, Option, Some, None}
use Prim.Native.Nat.{ℕ, zero, suc, ◌+◌, ◌-◌, ◌≤◌, ◌<◌}
use mathlib.Core.Path.{◌≡◌, refl, sym, ap, ◌∙◌}
use mathlib.Core.Bool.{Bool, true, false}
use mathlib.Core.List.{List, [], ◌∷◌}
use native.Mathlib.Decide.{dec_le}
use native.Mathlib.Omega.{arith}
use lib.Dec.{eqb}
use lib.ListN.{length, drop, length-drop}
use lib.Seq.{drop-drop}
use Rattle.base.specs.Choose.{is_at}
use Rattle.base.proofs.Tests.{by_test, clash, by_if}
use Rattle.base.proofs.Parts.{step, ended, at_below, at_cons}
use Rattle.structured_data.specs.Param.{quoted_len, param_at}
use Rattle.structured_data.specs.Element.{Params, none_at, param_and, more_params, params_from}
use Rattle.structured_data.specs.Steps.{walk_of, walk_from, fate_of}
use Rattle.structured_data.specs.declared.Param.{Param}
use Rattle.structured_data.specs.declared.Walk.{Walk}
use Rattle.structured_data.proofs.Params.{Lies, param_lies, at_part, unbracket}

-- the parameters from `at` on; where there is none, the position is `before`
abbrev pub ahead : ℕ → ℕ → ℕ → List ℕ → Params
ahead e at before t = param_and e at before (param_at t) (λ len. more_params e len at t)

skip : (e k at : ℕ) (t : List ℕ) → k ≤ length t → more_params e k at t ≡ more_params e 0 (at + k) (drop k t)
unfolding more_params
skip e zero at t h = let p : at ≡ at + 0 = omega arith in ap (λ (a : ℕ). more_params e 0 a t) p
skip e (suc k) at [] h = absurd (omega arith)
skip e (suc k) at (b ∷ t) h =
    let p : at + 1 + k ≡ at + suc k = omega arith in
    skip e k (at + 1) t (omega arith) ∙ ap (λ (a : ℕ). more_params e 0 a (drop k t)) p

-- one parameter, and others behind it
abbrev pub row_of : ℕ → ℕ → ℕ → ℕ → ℕ → List ℕ
row_of e start n v m = e ∷ start ∷ n ∷ (start + v) ∷ m ∷ []

abbrev pub first : List ℕ → Params → Params
first row ps = record { rows = row ∷ ps.rows; next = ps.next }

module _ (e : ℕ) (s : List ℕ) where
  -- behind a parameter: a space, or not
  spaced : (i : ℕ) → is_at s i 32 ≡ true → more_params e 0 i (drop i s) ≡ ahead e (i + 1) i (drop (i + 1) s)
  unfolding more_params
  spaced i h = rw (at_cons s i 31 h)

  unspaced : (i : ℕ) → is_at s i 32 ≡ false → more_params e 0 i (drop i s) ≡ none_at i
  unfolding more_params
  unspaced i h = go (dec_le (length s) i)
    where
      go : Dec (length s ≤ i) → more_params e 0 i (drop i s) ≡ none_at i
      go (yes p) = rw (ended s i p)
      go (no p) = rw (step s i (omega arith), h)

  -- a step of the walk
  module _ (start before : ℕ) where
    pub ahead_none : param_at (drop start s) ≡ None → ahead e start before (drop start s) ≡ none_at before
    ahead_none q = rw q

    module _ (h : start ≤ length s) (n v m len : ℕ) (q : param_at (drop start s) ≡ Some (record { name = n; value = v; value_len = m; len = len })) where
      lies : Lies (drop start s) n v m len
      lies = param_lies (drop start s) n v m len (sym q)

      pub len_within : (1 ≤ len) × (start + len ≤ length s)
      len_within = (omega (arith, lies.value_inside), omega (arith, lies.within_t, length-drop start s))

      ahead_first : ahead e start before (drop start s) ≡ first (row_of e start n v m) (more_params e 0 (start + len) (drop (start + len) s))
      ahead_first =
          rw q
          (ap (first (row_of e start n v m)) (skip e len start (drop start s) lies.within_t ∙ ap (more_params e 0 (start + len)) (drop-drop len start s)))

      pub ahead_on : is_at s (start + len) 32 ≡ true
          → ahead e start before (drop start s) ≡ first (row_of e start n v m) (ahead e (start + len + 1) (start + len) (drop (start + len + 1) s))
      ahead_on h = ahead_first ∙ ap (first (row_of e start n v m)) (spaced (start + len) h)

      pub ahead_last : is_at s (start + len) 32 ≡ false → ahead e start before (drop start s) ≡ first (row_of e start n v m) (none_at (start + len))
      ahead_last h = ahead_first ∙ ap (first (row_of e start n v m)) (unspaced (start + len) h)

-- How far the walk goes
pub record Reaches (low high : ℕ) (ps : Params) : Type 0 where
  pub few : low + length ps.rows ≤ ps.next
  pub end_within : ps.next ≤ high

module _ (e at before : ℕ) (t : List ℕ) (more : ℕ → Params) (h : before ≤ at) where
  and_reaches : ((len : ℕ) → len ≤ length t → Reaches (at + len) (at + length t) (more len))
      → Reaches before (at + length t) (param_and e at before (param_at t) more)
  and_reaches r = go (param_at t) refl
    where
      go : (p : Option Param) → p ≡ param_at t → Reaches before (at + length t) (param_and e at before p more)
      go None q = record { few = omega arith; end_within = omega arith }
      go (Some x) q =
          let l = param_lies t x.name x.value x.value_len x.len q in
          let i = r x.len l.within_t in
          record { few = omega (arith, i.few, l.value_inside); end_within = i.end_within }

more_reaches : (e k at : ℕ) (t : List ℕ) → k ≤ length t → Reaches (at + k) (at + length t) (more_params e k at t)
unfolding more_params
more_reaches e k at [] h = record { few = omega arith; end_within = omega arith }
more_reaches e (suc k) at (b ∷ t) h =
    let i = more_reaches e k (at + 1) t (omega arith) in
    record { few = omega (arith, i.few); end_within = omega (arith, i.end_within) }
more_reaches e zero at (b ∷ t) h =
    by_if (Reaches (at + 0) (at + suc (length t))) (eqb b 32) (ahead e (at + 1) at t) (none_at at)
    (λ q.
    let i = and_reaches e (at + 1) at t (λ len. more_params e len (at + 1) t) (omega arith) (λ len. more_reaches e len (at + 1) t) in
    record { few = omega (arith, i.few); end_within = omega (arith, i.end_within) })
    (λ q. record { few = omega arith; end_within = omega arith })

pub ahead_reaches : (e start before : ℕ) (s : List ℕ) → before ≤ start → start ≤ length s → Reaches before (length s) (ahead e start before (drop start s))
ahead_reaches e start before s h l =
    let t = drop start s in
    let k : length t ≡ length s - start = length-drop start s in
    let i = and_reaches e start before t (λ len. more_params e len start t) h (λ len. more_reaches e len start t) in
    record { few = i.few; end_within = omega (arith, i.end_within) }

pub params_reach : (e at : ℕ) (s : List ℕ) → at ≤ length s → Reaches at (length s) (params_from e at (drop at s))
unfolding params_from
params_reach e at s h = ahead_reaches e at at s (omega arith) h

-- Neither the count nor the position depends on the element's number
and_any : (e at before : ℕ) (p : Option Param) (more more' : ℕ → Params) → ((len : ℕ) → walk_of (more len) ≡ walk_of (more' len))
    → walk_of (param_and e at before p more) ≡ walk_of (param_and 0 at before p more')
and_any e at before None more more' r = refl
and_any e at before (Some x) more more' r = ap (λ (w : Walk). record { count = suc w.count; next = w.next }) (r x.len)

more_any : (e k at : ℕ) (t : List ℕ) → walk_of (more_params e k at t) ≡ walk_of (more_params 0 k at t)
unfolding more_params
more_any e k at [] = refl
more_any e (suc k) at (b ∷ t) = more_any e k (at + 1) t
more_any e zero at (b ∷ t) =
    by_test (λ c. walk_of (if c then ahead e (at + 1) at t else none_at at) ≡ walk_of (if c then ahead 0 (at + 1) at t else none_at at)) (eqb b 32)
    (λ q. and_any e (at + 1) at (param_at t) (λ len. more_params e len (at + 1) t) (λ len. more_params 0 len (at + 1) t) (λ len. more_any e len (at + 1) t))
    (λ q. refl)

pub params_any : (e at : ℕ) (t : List ℕ) → walk_of (params_from e at t) ≡ walk_of (params_from 0 at t)
unfolding params_from
params_any e at t = and_any e at at (param_at t) (λ len. more_params e len at t) (λ len. more_params 0 len at t) (λ len. more_any e len at t)

-- where there is a parameter, no `]` stands
pub some_unclosed : (s : List ℕ) (at : ℕ) → 1 ≤ (walk_from s at).count → is_at s at 93 ≡ false
unfolding params_from
some_unclosed s at h = go (param_at (drop at s)) refl
  where
    go : (p : Option Param) → param_at (drop at s) ≡ p → is_at s at 93 ≡ false
    go None q = absurd (omega (arith, ap (λ (ps : Params). length ps.rows) (ahead_none 0 s at at q)))
    go (Some x) q =
        let z : at + 0 ≡ at = omega arith in
        sym (at_part s at 0 93 ∙ ap (λ (k : ℕ). is_at s k 93) z) ∙ (param_lies (drop at s) x.name x.value x.value_len x.len (sym q)).unclosed

-- A walk that passes a `]` ends where each other walk does that passes it
module _ (s : List ℕ) (r : ℕ) (b : is_at s r 93 ≡ true) where
  in_param : (start n v m len : ℕ) → param_at (drop start s) ≡ Some (record { name = n; value = v; value_len = m; len = len }) → start ≤ r → r < start + len
      → r + 2 + quoted_len false (drop (r + 1) s) ≡ start + len
  in_param start n v m len q h l =
      let k = r - start in
      let e : start + k ≡ r = omega arith in
      let a : start + (k + 1) ≡ r + 1 = omega arith in
      let i = (param_lies (drop start s) n v m len (sym q)).anew k (omega arith) (at_part s start k 93 ∙ ap (λ (j : ℕ). is_at s j 93) e ∙ b) in
      omega (arith, i, ap (quoted_len false) (drop-drop (k + 1) start s ∙ ap (λ (j : ℕ). drop j s) a))

  Fated : ℕ → ℕ → Type 0
  Fated start before = before ≤ start → start ≤ r → r < (ahead 0 start before (drop start s)).next → (ahead 0 start before (drop start s)).next ≡ fate_of s r

  fate_step : (start before : ℕ) → ((i : ℕ) → start ≤ i → Fated (i + 1) i) → Fated start before
  unfolding Fated
  fate_step start before ih o h l = go (param_at (drop start s)) refl
    where
      w : start ≤ length s
      w = omega (arith, at_below s r 92 b)

      go : (p : Option Param) → param_at (drop start s) ≡ p → (ahead 0 start before (drop start s)).next ≡ fate_of s r
      go None q = absurd (omega (arith, ap (λ (ps : Params). ps.next) (ahead_none 0 s start before q)))
      go (Some y) q = there (dec_le (start + y.len) r)
        where
          there : Dec (start + y.len ≤ r) → (ahead 0 start before (drop start s)).next ≡ fate_of s r
          there (no k) =
              ap (λ (ps : Params). ps.next) (ahead_first 0 s start before w y.name y.value y.value_len y.len q)
              ∙ ap (λ (i : ℕ). (more_params 0 0 i (drop i s)).next) (sym (in_param start y.name y.value y.value_len y.len q h (omega arith)))
          there (yes k) = behind (is_at s (start + y.len) 32) refl
            where
              behind : (c : Bool) → is_at s (start + y.len) 32 ≡ c → (ahead 0 start before (drop start s)).next ≡ fate_of s r
              behind false e = absurd (omega (arith, ap (λ (ps : Params). ps.next) (ahead_last 0 s start before w y.name y.value y.value_len y.len q e)))
              behind true e =
                  let a = ap (λ (ps : Params). ps.next) (ahead_on 0 s start before w y.name y.value y.value_len y.len q e) in
                  let z : start + y.len ≡ r → ⊥ = λ z. clash (sym b ∙ ap (λ (i : ℕ). is_at s i 93) (sym z) ∙ unbracket (λ x. eqb x 32) refl s (start + y.len) e) in
                  a ∙ ih (start + y.len) (omega arith) (omega arith) (omega arith) (rw (← a) l)

  fate_from : (fuel start before : ℕ) → length s ≤ start + fuel → Fated start before
  unfolding Fated
  fate_from zero start before f = λ o h l. absurd (omega (arith, at_below s r 92 b))
  fate_from (suc fuel) start before f = fate_step start before (λ i k. fate_from fuel (i + 1) i (omega arith))

  pub fate : (start : ℕ) → start ≤ r → r < (walk_from s start).next → (walk_from s start).next ≡ fate_of s r
  unfolding Fated params_from
  fate start h l = fate_from (length s) start start (omega arith) (omega arith) h l
