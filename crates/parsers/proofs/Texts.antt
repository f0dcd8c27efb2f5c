-- The fields at the front of a part, by the tests that decide them, and that they lie in it.
use Prim.Native.Nat.{ℕ, suc, ◌+◌, ◌-◌, ◌≤◌, ◌<◌}
use mathlib.Core.Path.{◌≡◌, refl, ap, ◌∙◌}
use mathlib.Core.List.{List, [], ◌∷◌}
use mathlib.Core.Bool.{true, false, ◌&&◌, not}
use native.Mathlib.Omega.{arith}
use lib.Dec.{eqb}
use lib.ListN.{length, get_or, drop}
use borrow.Author.Tests.{ne_eqb, eqb-false}
use Rattle.base.specs.Choose.{is_at, within}
use Rattle.base.proofs.Parts.{step, ended}
use Rattle.white.specs.White.{white_len}
use Rattle.white.specs.Trim.{field_len}
use Rattle.base.proofs.Tests.{by_if}
use Rattle.white.proofs.Walks.{field_le, plain_front}
use Rattle.parsers.specs.Parsers.{alone, or_absent, plain_at, host_at, tag_len, tag_at}
use Rattle.parsers.specs.declared.Text.{Text}
use Rattle.parsers.specs.declared.Text.TheVariants.{Fails, Absent, Given}

-- The tag: after `i` bytes, none of them white or `:`
pub record TagAt (s : List ℕ) (i : ℕ) : Type 0 where
  pub within_s : i ≤ length s
  pub whole : tag_len s ≡ i + tag_len (drop i s)

pub tag_start : (s : List ℕ) → TagAt s 0
tag_start s = record { within_s = omega arith; whole = omega arith }

module _ (s : List ℕ) (i : ℕ) (t : TagAt s i) where
  pub tag_end_lem : length s ≤ i → i ≡ tag_len s
  unfolding tag_len
  tag_end_lem h = let n : tag_len (drop i s) ≡ 0 = rw (ended s i h) in omega (arith, t.whole)

  module _ (h : i < length s) where
    pub tag_colon : get_or s i 0 ≡ 58 → i ≡ tag_len s
    unfolding tag_len
    tag_colon d = let n : tag_len (drop i s) ≡ 0 = rw (step s i h, d, plain_front 58 (drop (i + 1) s) refl) in omega (arith, t.whole)

    -- a byte of ASCII above the space
    pub tag_plain : (get_or s i 0 ≡ 58 → ⊥) → within 33 127 (get_or s i 0) ≡ true → TagAt s (i + 1)
    unfolding tag_len
    tag_plain d p =
        let n : tag_len (drop i s) ≡ suc (tag_len (drop (i + 1) s)) = rw (step s i h, plain_front (get_or s i 0) (drop (i + 1) s) p, ne_eqb (get_or s i 0) 58 d) in
        record { within_s = omega arith; whole = omega (arith, t.whole) }

  module _ (h : i < length s) (p : List ℕ) (ep : p ≡ drop i s) (w : ℕ) (e : w ≡ white_len p) where
    here : w ≡ white_len (get_or s i 0 ∷ drop (i + 1) s)
    here = e ∙ ap white_len (ep ∙ step s i h)

    pub tag_white : (w ≡ 0 → ⊥) → i ≡ tag_len s
    unfolding tag_len
    tag_white z = let n : tag_len (drop i s) ≡ 0 = rw (step s i h, ← here, ne_eqb w 0 z) in omega (arith, t.whole)

    pub tag_next : w ≡ 0 → (get_or s i 0 ≡ 58 → ⊥) → TagAt s (i + 1)
    unfolding tag_len
    tag_next z d =
        let n : tag_len (drop i s) ≡ suc (tag_len (drop (i + 1) s)) = rw (step s i h, ← here, z, ne_eqb (get_or s i 0) 58 d) in
        record { within_s = omega arith; whole = omega (arith, t.whole) }

pub ruleset walk_laws = (tag_start, tag_plain, tag_next, tag_white, tag_colon, tag_end_lem)

-- A text that is read from `n` bytes passes what it gives, and no more than there is; of nothing, nothing is read.
abbrev pub TextIn : ℕ → Text → Type 0
TextIn n Fails = Unit {0}
TextIn n (Absent m) = (1 ≤ n) × (m ≤ n)
TextIn n (Given k m) = (1 ≤ n) × (k ≤ m) × (m ≤ n)

module _ (s : List ℕ) (n m : ℕ) (l : n ≤ m) (z : eqb n 0 ≡ false) where
  some : 1 ≤ n
  some = let q = eqb-false n 0 z in omega arith

  absent_in : TextIn m (or_absent s n)
  absent_in = let q = some in by_if (TextIn m) (alone s n 45) _ _ (λ t. (omega arith, l)) (λ t. (omega arith, omega arith, l))

  given_in : TextIn m (Given (n - 1) (n - 1))
  given_in = let q = some in (omega arith, omega arith, omega arith)

pub plain_in : (s : List ℕ) → TextIn (length s) (plain_at s)
unfolding plain_at
plain_in s =
    by_if (TextIn (length s)) (eqb (field_len s) 0) _ _ (λ t. tt) λ z.
    by_if (TextIn (length s)) (alone s (field_len s) 58) _ _ (λ t. tt) λ t.
    absent_in s (field_len s) (length s) (field_le s) z

pub host_in : (s : List ℕ) → TextIn (length s) (host_at s)
unfolding host_at
host_in s =
    by_if (TextIn (length s)) (eqb (field_len s) 0) _ _ (λ t. tt) λ z.
    by_if (TextIn (length s)) (alone s (field_len s) 58) _ _ (λ t. tt) λ t.
    by_if (TextIn (length s)) (is_at s (field_len s - 1) 58) _ _ (λ t. given_in s (field_len s) (length s) (field_le s) z) λ t.
    absent_in s (field_len s) (length s) (field_le s) z

pub tag_le : (s : List ℕ) → tag_len s ≤ length s
unfolding tag_len
tag_le [] = omega arith
tag_le (b ∷ s) =
    let l = tag_le s in
    by_if (λ n. n ≤ suc (length s)) (eqb (white_len (b ∷ s)) 0 && not (eqb b 58)) _ _ (λ e. omega arith) (λ e. omega arith)

pub tag_in : (s : List ℕ) → TextIn (length s) (tag_at s)
unfolding tag_at
tag_in s =
    by_if (TextIn (length s)) (eqb (tag_len s) 0) _ _ (λ t. tt) λ z.
    absent_in s (tag_len s) (length s) (tag_le s) z
