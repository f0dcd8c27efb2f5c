-- What a reader that is made of readers finds, from what those find: a law for each way to make one.
use Prim.Native.Nat.{ℕ, zero, suc, ◌+◌, ◌-◌, ◌^◌, ◌≤◌, ◌<◌}
use mathlib.Core.Path.{◌≡◌, refl, sym, ap, ◌∙◌}
use mathlib.Core.Bool.{Bool, true, false, not}
use mathlib.Core.List.{List, []}
use native.Mathlib.Omega.{arith}
use lib.ListN.{length, drop, length-drop}
use mir.Syntax.{w64}
use mir.Val.{Fits}
use borrow.Author.Tests.{not-true}
use Rattle.base.specs.Choose.{is_at}
use Rattle.base.proofs.Tests.{told}
use Rattle.base.proofs.Parts.{at_below}
use Rattle.grammar.specs.Parse.{Reader, never, choose, closed, only, ◌next◌, into}
use Rattle.grammar.specs.Parse.Parsed.{failed, found}
use Rattle.grammar.proofs.Readers.{Reads, found_within, through}

-- ---- tests, as the code asks them

pub untold : (t x : Bool) → t ≡ x → not t ≡ true → x ≡ false
untold t x e q = sym e ∙ not-true t q

-- a byte that is there is not past the end
module _ (s : List ℕ) (i b : ℕ) (t : Bool) (e : t ≡ is_at s i b) (h : not t ≡ false) (l : 0 < b) where
  pub there : i < length s
  there = go b e l
    where
      go : (b : ℕ) → t ≡ is_at s i b → 0 < b → i < length s
      go zero e l = absurd (omega arith)
      go (suc b) e l = at_below s i b (told t _ e h)

  pub past_there : length s < 2 ^ 64 → Fits w64 (i + 1)
  past_there k = record { fits = omega (arith, there) }

pub front_there : (s : List ℕ) (b : ℕ) (t : Bool) → t ≡ is_at s 0 b → not t ≡ false → 0 < b → 1 ≤ length s
front_there s b t e h l = there s 0 b t e h l

-- ---- what is found

-- nothing that fits stands in front of s
pub record Fails {A : Type 0} (p : Reader A) (s : List ℕ) : Type 0 where
  pub is : p s ≡ failed

-- n bytes are taken for a value with a property
pub record Finds {A : Type 0} (P : A → Type 0) (n : ℕ) (p : Reader A) (s : List ℕ) : Type 0 where
  pub value : A
  pub is : p s ≡ found value n
  pub has : P value

module _ {A : Type 0} {P : A → Type 0} {n : ℕ} {p : Reader A} {s : List ℕ} (w : Finds P n p s) where
  pub finds_so : {Q : A → Type 0} → ((a : A) → P a → Q a) → Finds Q n p s
  finds_so h = record { value = w.value; is = w.is; has = h w.value w.has }

  module _ {text : A → List ℕ → List ℕ} {Ok : A → Type 0} {After : List ℕ → Type 0} (R : Reads text Ok After p) where
    pub finds_within : n ≤ length s
    finds_within = found_within R s w.value n w.is

    -- with the rule of the value, and the size of its text
    pub finds_ok : Finds (λ a. P a × Ok a × (n ≡ length (text a []))) n p s
    finds_ok = let f = R.sound s w.value n w.is in record { value = w.value; is = w.is; has = (w.has, f.ok, f.size) }

-- two pieces, one after the other, lie within the text
pub both_within : (s r : List ℕ) (m n : ℕ) → m ≤ length s → r ≡ drop m s → n ≤ length r → m + n ≤ length s
both_within s r m n h e l =
    let k : length r ≡ length s - m = ap length e ∙ length-drop m s in
    omega arith

pub sum_fits : (s r : List ℕ) (m n : ℕ) → r ≡ drop m s → m ≤ length s → n ≤ length r → length s < 2 ^ 64 → Fits w64 (m + n)
sum_fits s r m n e h l k = record { fits = omega (arith, both_within s r m n h e l) }

pub sums_fit : (s r t : List ℕ) (l m n : ℕ) → r ≡ drop l s → t ≡ drop m r → l ≤ length s → m ≤ length r → n ≤ length t → length s < 2 ^ 64 → Fits w64 (l + (m + n))
sums_fit s r t l m n e f h i j k = sum_fits s r l (m + n) e h (both_within r t m n i f j) k

module _ {A B : Type 0} {ta : A → List ℕ → List ℕ} {tb : B → List ℕ → List ℕ} {OkA : A → Type 0} {OkB : B → Type 0} {AfterA AfterB : List ℕ → Type 0} {p : Reader A} {q : Reader B}
    (R : Reads ta OkA AfterA p) (S : Reads tb OkB AfterB q) where
  pub next_within : {P : A × B → Type 0} {n : ℕ} {s : List ℕ} → Finds P n (p next q) s → n ≤ length s
  unfolding ◌next◌
  next_within {P} {n} {s} w =
      let t = through (p s) _ w.is in
      let u = through (q (drop t.bytes s)) _ t.second in
      let k : t.bytes + u.bytes ≡ n = cc in
      rw k at (both_within s (drop t.bytes s) t.bytes u.bytes (found_within R s _ _ t.first) refl (found_within S _ _ _ u.first))

-- a piece after a byte
pub behind_fits : (s r : List ℕ) (n : ℕ) → r ≡ drop 1 s → n ≤ length r → 1 ≤ length s → length s < 2 ^ 64 → Fits w64 (n + 1)
behind_fits s r n e l h k = record { fits = omega (arith, both_within s r 1 n h e l) }

-- ---- the ways to make a reader

module _ {A : Type 0} {p : Reader A} {s : List ℕ} (f : Fails p s) where
  pub closed_failed : (b : ℕ) → Fails (closed p b) s
  unfolding closed
  closed_failed b = record { is = rw f.is }

  pub only_failed : (t : A → Bool) → Fails (only t p) s
  unfolding only
  only_failed t = record { is = rw f.is }

  pub into_failed : {B : Type 0} (g : A → B) → Fails (into g p) s
  unfolding into
  into_failed g = record { is = rw f.is }

  pub next_failed : {B : Type 0} (q : Reader B) → Fails (p next q) s
  unfolding ◌next◌
  next_failed q = record { is = rw f.is }

module _ {A : Type 0} {P : A → Type 0} {n : ℕ} {p : Reader A} {s : List ℕ} (w : Finds P n p s) where
  module _ (b : ℕ) where
    pub closed_open : is_at s n b ≡ false → Fails (closed p b) s
    unfolding closed
    closed_open e = record { is = rw (w.is, e) }

    pub closed_found : is_at s n b ≡ true → Finds P (n + 1) (closed p b) s
    unfolding closed
    closed_found e = record { value = w.value; is = rw (w.is, e); has = w.has }

  module _ (t : A → Bool) where
    pub only_not : ((a : A) → P a → t a ≡ false) → Fails (only t p) s
    unfolding only
    only_not e = record { is = rw (w.is, e w.value w.has) }

    pub only_found : ((a : A) → P a → t a ≡ true) → Finds P n (only t p) s
    unfolding only
    only_found e = record { value = w.value; is = rw (w.is, e w.value w.has); has = w.has }

  pub into_found : {B : Type 0} {Q : B → Type 0} (g : A → B) → ((a : A) → P a → Q (g a)) → Finds Q n (into g p) s
  unfolding into
  into_found g h = record { value = g w.value; is = rw w.is; has = h w.value w.has }

  module _ {B : Type 0} {r : List ℕ} (e : r ≡ drop n s) {q : Reader B} where
    pub next_not : Fails q r → Fails (p next q) s
    unfolding ◌next◌
    next_not f = record { is = rw (w.is, ← e, f.is) }

    pub next_found : {Q : B → Type 0} {m : ℕ} → Finds Q m q r → Finds (λ (c : A × B). P c.0 × Q c.1) (n + m) (p next q) s
    unfolding ◌next◌
    next_found v = record { value = (w.value, v.value); is = rw (w.is, ← e, v.is); has = (w.has, v.has) }

-- the byte in front chooses
module _ {A : Type 0} {s : List ℕ} (b : ℕ) (p q : Reader A) where
  module _ (h : is_at s 0 b ≡ true) {r : List ℕ} (e : r ≡ drop 1 s) where
    pub first_failed : Fails p r → Fails (choose b p q) s
    unfolding choose
    first_failed f = record { is = rw (h, ← e, f.is) }

    pub first_found : {P : A → Type 0} {n : ℕ} → Finds P n p r → Finds P (n + 1) (choose b p q) s
    unfolding choose
    first_found w = record { value = w.value; is = rw (h, ← e, w.is); has = w.has }

  module _ (h : is_at s 0 b ≡ false) where
    pub other_failed : Fails q s → Fails (choose b p q) s
    unfolding choose
    other_failed f = record { is = rw (h, f.is) }

    pub other_found : {P : A → Type 0} {n : ℕ} → Finds P n q s → Finds P n (choose b p q) s
    unfolding choose
    other_found w = record { value = w.value; is = rw (h, w.is); has = w.has }

pub never_failed : {A : Type 0} (s : List ℕ) → Fails (never {A = A}) s
never_failed s = record { is = refl }

pub ruleset byte_laws = (front_there, past_there)
