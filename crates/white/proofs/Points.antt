-- White_Space of a code point, from where it lies.
use Prim.Native.Nat.{ℕ, ◌≤◌, ◌<◌}
use mathlib.Core.Path.{◌≡◌, refl, sym, ◌∙◌}
use mathlib.Core.Logic.{◌⊎◌, ⊎_elim, inl, inr, ◌≢◌}
use mathlib.Core.Bool.{Bool, true, false, ◌||◌}
use native.Mathlib.Decide.{ℕ_discrete, dec_le}
use native.Mathlib.Omega.{arith}
use lib.Dec.{eqb}
use borrow.Author.Tests.{ne_eqb}
use Rattle.base.specs.Choose.{within}
use Rattle.base.proofs.Ranges.{inside, outside}
use Rattle.base.proofs.Tests.{clash}
use Rattle.white.specs.White.{is_white}

-- the code points that stand alone
abbrev pub Keys : ℕ → Type 0
Keys u = (u ≡ 0x20) ⊎ ((u ≡ 0x85) ⊎ ((u ≡ 0xA0) ⊎ ((u ≡ 0x1680) ⊎ ((u ≡ 0x202F) ⊎ ((u ≡ 0x205F) ⊎ (u ≡ 0x3000))))))

each_key : (P : ℕ → Type 0) → P 0x20 × P 0x85 × P 0xA0 × P 0x1680 × P 0x202F × P 0x205F × P 0x3000 → (u : ℕ) → Keys u → P u
each_key P h u k =
    ⊎_elim (λ e. rw e h.0) (⊎_elim (λ e. rw e h.1) (⊎_elim (λ e. rw e h.2) (⊎_elim (λ e. rw e h.3)
    (⊎_elim (λ e. rw e h.4) (⊎_elim (λ e. rw e h.5) (λ e. rw e h.6)))))) k

-- in none of the ranges
abbrev pub Outside : ℕ → Type 0
Outside u = (0x9 ≤ u → u ≤ 0xD → ⊥) × (0x2000 ≤ u → u ≤ 0x200A → ⊥) × (0x2028 ≤ u → u ≤ 0x2029 → ⊥)

-- no key has the property
abbrev pub NoKey : (ℕ → Type 0) → Type 0
NoKey P = (P 0x20 → ⊥) × (P 0x85 → ⊥) × (P 0xA0 → ⊥) × (P 0x1680 → ⊥) × (P 0x202F → ⊥) × (P 0x205F → ⊥) × (P 0x3000 → ⊥)

abbrev pub Beside : ℕ → ℕ → ℕ → ℕ → Type 0
Beside lo hi k x = (lo ≤ x) × (x ≤ hi) × (x ≢ k)

module _ (u : ℕ) where
  pub not_white : (Keys u → ⊥) → Outside u → false ≡ is_white u
  unfolding is_white
  not_white n o =
      let p : u ≢ 0x2028 = λ e. o.2 (omega arith) (omega arith) in
      let q : u ≢ 0x2029 = λ e. o.2 (omega arith) (omega arith) in
      rw (
        outside 0x9 0xD u o.0,
        ne_eqb u 0x20 (λ e. n (inl e)),
        ne_eqb u 0x85 (λ e. n (inr (inl e))),
        ne_eqb u 0xA0 (λ e. n (inr (inr (inl e)))),
        ne_eqb u 0x1680 (λ e. n (inr (inr (inr (inl e))))),
        outside 0x2000 0x200A u o.1,
        ne_eqb u 0x2028 p,
        ne_eqb u 0x2029 q,
        ne_eqb u 0x202F (λ e. n (inr (inr (inr (inr (inl e)))))),
        ne_eqb u 0x205F (λ e. n (inr (inr (inr (inr (inr (inl e))))))),
        ne_eqb u 0x3000 (λ e. n (inr (inr (inr (inr (inr (inr e))))))),
      )

  pub white_space : 0x2000 ≤ u → u ≤ 0x200A → true ≡ is_white u
  unfolding is_white
  white_space p q =
      rw (
        outside 0x9 0xD u (omega arith),
        ne_eqb u 0x20 (omega arith),
        ne_eqb u 0x85 (omega arith),
        ne_eqb u 0xA0 (omega arith),
        ne_eqb u 0x1680 (omega arith),
        inside 0x2000 0x200A u p q,
      )

  pub white_line : 0x2028 ≤ u → u ≤ 0x2029 → true ≡ is_white u
  unfolding is_white
  white_line p q = go (dec_le u 0x2028)
    where
      go : Dec (u ≤ 0x2028) → true ≡ is_white u
      go (yes h) = let e : u ≡ 0x2028 = omega arith in rw e
      go (no h) = let e : u ≡ 0x2029 = omega arith in rw e

  -- what is in none of the ranges and has a property that no key has
  pub keyless : (P : ℕ → Type 0) → NoKey P → P u → Outside u → is_white u ≡ true → ⊥
  keyless P h p o w = clash (sym w ∙ sym (not_white (λ k. each_key (λ x. P x → ⊥) h u k p) o))

  -- where `k` alone of the keys lies
  pub sole : (lo hi k : ℕ) → NoKey (Beside lo hi k)
      → lo ≤ u → u ≤ hi → Outside u → is_white u ≡ true → u ≡ k
  sole lo hi k h p q o w = go (ℕ_discrete u k)
    where
      go : Dec (u ≡ k) → u ≡ k
      go (yes e) = e
      go (no n) = absurd (keyless (Beside lo hi k) h (p, q, n) o w)

  -- no code point of four bytes is white
  pub white_small : 0x3000 < u → is_white u ≡ true → ⊥
  white_small h = keyless (λ x. 0x3000 < x) (omega arith) h (omega arith)

  -- nor is any from U+00C0 up to U+0FFF
  pub white_between : 0xC0 ≤ u → u ≤ 0xFFF → is_white u ≡ true → ⊥
  white_between p q = keyless (λ x. (0xC0 ≤ x) × (x ≤ 0xFFF)) (omega arith) (p, q) (omega arith)

  -- of ASCII
  pub white_ascii : u < 128 → (within 9 13 u || eqb u 32) ≡ is_white u
  unfolding is_white
  white_ascii h =
      rw (
        ne_eqb u 0x85 (omega arith),
        ne_eqb u 0xA0 (omega arith),
        ne_eqb u 0x1680 (omega arith),
        outside 0x2000 0x200A u (omega arith),
        ne_eqb u 0x2028 (omega arith),
        ne_eqb u 0x2029 (omega arith),
        ne_eqb u 0x202F (omega arith),
        ne_eqb u 0x205F (omega arith),
        ne_eqb u 0x3000 (omega arith),
      ) (go (within 9 13 u) (eqb u 32))
    where
      go : (p q : Bool) → (p || q) ≡ (p || q || false || false || false || false || false || false || false || false || false)
      go true q = refl
      go false true = refl
      go false false = refl
