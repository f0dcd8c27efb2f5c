-- A month's name, looked up as one number.
use Rattle.std.specs.Prelude.{if◌then◌else◌, Option, Some, None}
use Prim.Native.Nat.{ℕ, ◌+◌, ◌*◌, ◌-◌, ◌≤◌, ◌<◌}
use mathlib.Core.Path.{◌≡◌, refl, sym, ◌∙◌}
use mathlib.Core.List.{List, [], ◌∷◌, map}
use mathlib.Core.Bool.{Bool, true, false, ◌&&◌, and-false}
use native.Mathlib.Decide.{dec_lt}
use native.Mathlib.Omega.{arith}
use lib.Dec.{leb, eqb, ltb}
use lib.ListN.{length, get_or, take, drop, length-map, length-take, length-drop}
use borrow.Author.Tests.{eq-eqb, ne_eqb, eqb-true, ltb-true, leb-true}
use mir.Syntax.{w8}
use mir.Val.{Fits}
use Rattle.base.specs.Texts.{same_text}
use Rattle.base.specs.Choose.{within}
use Rattle.base.proofs.Pairs.{some_second}
use Rattle.base.proofs.Tests.{clash, both, by_if}
use Rattle.base.proofs.Parts.{step}
use Rattle.timestamp.specs.Month.{lower, month_names, named_from, month_of, month_from}

-- A letter in lower case
module _ (b : ℕ) (t : Bool) (e : t ≡ within 65 90 b) where
  module _ (h : t ≡ true) where
    pub lower_fits : Fits w8 (b + 32)
    lower_fits = record { fits = omega (arith, leb-true b 90 (both (leb 65 b) (leb b 90) (sym e ∙ h)).1) }

    pub lower_small : b + 32 < 256
    lower_small = lower_fits.fits

    pub lower_yes : b + 32 ≡ lower b
    lower_yes = rw (← e, h)

  pub lower_no : t ≡ false → b ≡ lower b
  lower_no h = rw (← e, h)

pub ruleset lower_laws = (lower_fits, lower_small, lower_yes, lower_no)

-- The number of three bytes
abbrev pub key : ℕ → ℕ → ℕ → ℕ
key a b c = a * 65536 + b * 256 + c

abbrev pub key_of : List ℕ → ℕ
key_of [] = 0
key_of (a ∷ []) = 0
key_of (a ∷ b ∷ []) = 0
key_of (a ∷ b ∷ c ∷ []) = key a b c
key_of (a ∷ b ∷ c ∷ d ∷ s) = 0

-- a name is three bytes
is_name : List ℕ → Bool
is_name [] = false
is_name (a ∷ []) = false
is_name (a ∷ b ∷ []) = false
is_name (a ∷ b ∷ c ∷ []) = ltb a 256 && (ltb b 256 && ltb c 256)
is_name (a ∷ b ∷ c ∷ d ∷ s) = false

all_names : List (List ℕ) → Bool
all_names [] = true
all_names (n ∷ ns) = is_name n && all_names ns

-- two tests that say the same have the same answer
same_test : (p q : Bool) → (p ≡ true → q ≡ true) → (q ≡ true → p ≡ true) → p ≡ q
same_test true q f g = sym (f refl)
same_test false true f g = g refl
same_test false false f g = refl

-- the same name is the same number
module _ (a b c : ℕ) (la : a < 256) (lb : b < 256) (lc : c < 256) where
  same_key : (n : List ℕ) → is_name n ≡ true → same_text n (a ∷ b ∷ c ∷ []) ≡ eqb (key_of n) (key a b c)
  unfolding is_name
  same_key [] h = clash (sym h)
  same_key (x ∷ []) h = clash (sym h)
  same_key (x ∷ y ∷ []) h = clash (sym h)
  same_key (x ∷ y ∷ z ∷ d ∷ s) h = clash (sym h)
  same_key (x ∷ y ∷ z ∷ []) h = same_test _ _ there back
    where
      there : (eqb x a && (eqb y b && (eqb z c && true))) ≡ true → eqb (key x y z) (key a b c) ≡ true
      there e =
          let p = both (eqb x a) (eqb y b && (eqb z c && true)) e in
          let q = both (eqb y b) (eqb z c && true) p.1 in
          let r = both (eqb z c) true q.1 in
          rw (eqb-true x a p.0, eqb-true y b q.0, eqb-true z c r.0) (eq-eqb (key a b c) (key a b c) refl)

      back : eqb (key x y z) (key a b c) ≡ true → (eqb x a && (eqb y b && (eqb z c && true))) ≡ true
      back e =
          let p = both (ltb x 256) (ltb y 256 && ltb z 256) h in
          let q = both (ltb y 256) (ltb z 256) p.1 in
          let k = eqb-true (key x y z) (key a b c) e in
          let lx = ltb-true x 256 p.0 in
          let ly = ltb-true y 256 q.0 in
          let lz = ltb-true z 256 q.1 in
          let ex : x ≡ a = omega arith in
          let ey : y ≡ b = omega arith in
          let ez : z ≡ c = omega arith in
          rw (eq-eqb x a ex, eq-eqb y b ey, eq-eqb z c ez)

-- the number of the first name that is the number `k`
abbrev pub keyed : ℕ → List (List ℕ) → ℕ → ℕ
keyed m [] k = 0
keyed m (n ∷ ns) k = if eqb (key_of n) k then m else keyed (m + 1) ns k

module _ (a b c : ℕ) (la : a < 256) (lb : b < 256) (lc : c < 256) where
  keyed_is : (m : ℕ) (ns : List (List ℕ)) → all_names ns ≡ true → keyed m ns (key a b c) ≡ named_from m ns (a ∷ b ∷ c ∷ [])
  unfolding all_names named_from
  keyed_is m [] h = refl
  keyed_is m (n ∷ ns) h =
      let p = both (is_name n) (all_names ns) h in
      rw (same_key a b c la lb lc n p.0, keyed_is (m + 1) ns p.1)

  month_key : (x y z : ℕ) → a ≡ lower x → b ≡ lower y → c ≡ lower z → keyed 1 month_names (key a b c) ≡ month_of (x ∷ y ∷ z ∷ [])
  unfolding month_of all_names is_name
  month_key x y z ex ey ez = keyed_is 1 month_names refl ∙ rw (ex, ey, ez)

-- none of the names, as the last arm of a match knows it
abbrev pub Apart : Type 0 → List (List ℕ) → ℕ → Type 0
Apart T [] k = T
Apart T (n ∷ ns) k = Apart (T × (k ≡ key_of n → ⊥)) ns k

apart_first : (T : Type 0) (ns : List (List ℕ)) (k : ℕ) → Apart T ns k → T
apart_first T [] k h = h
apart_first T (n ∷ ns) k h = (apart_first (T × (k ≡ key_of n → ⊥)) ns k h).0

keyed_none : (T : Type 0) (m k : ℕ) (ns : List (List ℕ)) → Apart T ns k → 0 ≡ keyed m ns k
keyed_none T m k [] h = refl
keyed_none T m k (n ∷ ns) h =
    let o = (apart_first (T × (k ≡ key_of n → ⊥)) ns k h).1 in
    rw (ne_eqb (key_of n) k (λ e. o (sym e))) (keyed_none (T × (k ≡ key_of n → ⊥)) (m + 1) k ns h)

-- The arms of the match: the key's value and the month that it names; and the last
module _ (x y z a b c : ℕ) (ea : a ≡ lower x) (eb : b ≡ lower y) (ec : c ≡ lower z) (la : a < 256) (lb : b < 256) (lc : c < 256) where
  pub month_arm : (k m : ℕ) → key a b c ≡ k → m ≡ keyed 1 month_names k → m ≡ month_of (x ∷ y ∷ z ∷ [])
  month_arm k m e h = h ∙ rw (← e) (month_key a b c la lb lc x y z ea eb ec)

  pub month_none : Apart (Unit {0}) month_names (key a b c) → 0 ≡ month_of (x ∷ y ∷ z ∷ [])
  month_none h = keyed_none (Unit {0}) 1 (key a b c) month_names h ∙ month_key a b c la lb lc x y z ea eb ec

-- A text of fewer than three bytes is no name
short_name : (n t : List ℕ) → is_name n ≡ true → length t < 3 → same_text n t ≡ false
unfolding is_name
short_name [] t h l = clash (sym h)
short_name (x ∷ []) t h l = clash (sym h)
short_name (x ∷ y ∷ []) t h l = clash (sym h)
short_name (x ∷ y ∷ z ∷ d ∷ s) t h l = clash (sym h)
short_name (x ∷ y ∷ z ∷ []) [] h l = refl
short_name (x ∷ y ∷ z ∷ []) (a ∷ []) h l = and-false (eqb x a)
short_name (x ∷ y ∷ z ∷ []) (a ∷ b ∷ []) h l = rw (and-false, and-false)
short_name (x ∷ y ∷ z ∷ []) (a ∷ b ∷ c ∷ t) h l = absurd (omega arith)

short_none : (m : ℕ) (ns : List (List ℕ)) (t : List ℕ) → all_names ns ≡ true → length t < 3 → named_from m ns t ≡ 0
unfolding all_names named_from
short_none m [] t h l = refl
short_none m (n ∷ ns) t h l =
    let p = both (is_name n) (all_names ns) h in
    rw (short_name n t p.0 l) (short_none (m + 1) ns t p.1 l)

-- three bytes of the line
three : (s : List ℕ) (at : ℕ) → at + 2 < length s → take 3 (drop at s) ≡ get_or s at 0 ∷ get_or s (at + 1) 0 ∷ get_or s (at + 2) 0 ∷ []
three s at h =
    let n : at + 1 + 1 ≡ at + 2 = omega arith in
    rw (step s at (omega arith), step s (at + 1) (omega arith), n, step s (at + 2) (omega arith))

module _ (s : List ℕ) (at : ℕ) where
  pub month_short : length s - at < 3 → None ≡ month_from s at
  unfolding month_from month_of all_names is_name
  month_short h = rw (short_none 1 month_names (map lower (take 3 (drop at s))) refl few)
    where
      few : length (map lower (take 3 (drop at s))) < 3
      few = simp (length-map, length-take, length-drop) (omega arith)

  module _ (h : 3 ≤ length s - at) (m : ℕ) (e : m ≡ month_of (get_or s at 0 ∷ get_or s (at + 1) 0 ∷ get_or s (at + 2) 0 ∷ [])) where
    pub month_no : m ≡ 0 → None ≡ month_from s at
    unfolding month_from
    month_no z = rw (three s at (omega arith), ← e, z)

    pub month_yes : (m ≡ 0 → ⊥) → Some (m, at + 3) ≡ month_from s at
    unfolding month_from
    month_yes z = rw (three s at (omega arith), ← e, ne_eqb m 0 z)

  abbrev Ends : ℕ → ℕ → Option (ℕ × ℕ) → Type 0
  Ends v n x = x ≡ Some (v, n) → n ≤ length s

  pub month_within : (g : Option (ℕ × ℕ)) → g ≡ month_from s at → (v n : ℕ) → g ≡ Some (v, n) → n ≤ length s
  unfolding month_from
  month_within g e v n z = go (dec_lt (length s - at) 3)
    where
      never : Ends v n None
      never q = let m : ◌≡◌ {A = ℕ} 0 1 = cc in absurd (omega arith)

      found : (m : ℕ) → at + 3 ≤ length s → Ends v n (Some (m, at + 3))
      found m l q = let e : at + 3 ≡ n = some_second q in omega arith

      go : Dec (length s - at < 3) → n ≤ length s
      go (yes h) = never (month_short h ∙ sym e ∙ z)
      go (no h) = by_if (Ends v n) (eqb (month_of (take 3 (drop at s))) 0) _ _ (λ t. never) (λ t. found _ (omega arith)) (sym e ∙ z)

pub ruleset month_laws = (month_arm, month_none)

pub ruleset name_laws = (month_short, month_no, month_yes)
