-- A byte that is asked for, and bytes that all pass a test.
use Rattle.std.specs.Prelude.{Some, None}
use Prim.Native.Nat.{ℕ, ◌+◌, ◌^◌, ◌≤◌, ◌<◌}
use mathlib.Core.Path.{◌≡◌, sym, ap, ◌∙◌}
use mathlib.Core.Bool.{Bool, true, false, not, ◌&&◌}
use mathlib.Core.List.{List}
use native.Mathlib.Decide.{dec_le}
use native.Mathlib.Omega.{arith}
use lib.ListN.{length, get_or, drop}
use borrow.Author.Tests.{not-true, not-false}
use Rattle.base.specs.Choose.{is_at}
use Rattle.base.proofs.Tests.{clash, told}
use Rattle.base.proofs.Parts.{at_past, step, ended}
use Rattle.claims.specs.Holds.{byte_next, every}

pub byte_inside : (line : List ℕ) (at b : ℕ) → 0 < b → is_at line at b ≡ true → at < length line
byte_inside line at b p h = go (dec_le (length line) at)
  where
    go : Dec (length line ≤ at) → at < length line
    go (yes l) = clash (sym h ∙ sym (at_past line at b p l))
    go (no l) = omega arith

module _ (line : List ℕ) (at b : ℕ) (t : Bool) (e : t ≡ is_at line at b) where
  pub byte_off : not t ≡ true → None ≡ byte_next line at b
  unfolding byte_next
  byte_off n = rw (← e, not-true t n)

  pub byte_on : not t ≡ false → Some (at + 1) ≡ byte_next line at b
  unfolding byte_next
  byte_on n = rw (← e, not-false t n)

  pub byte_fits : not t ≡ false → 0 < b → length line < 2 ^ 64 → at + 1 < 2 ^ 64
  byte_fits n p l = omega (arith, byte_inside line at b p (told t _ e n))

pub ruleset byte_laws = (byte_off, byte_on, byte_fits)

-- ---- the loop: i bytes passed

module _ (p : ℕ → Bool) (t : List ℕ) (i : ℕ) (inv : every p t ≡ every p (drop i t)) where
  module _ (h : i < length t) where
    now_is : every p t ≡ (p (get_or t i 0) && every p (drop (i + 1) t))
    now_is = inv ∙ ap (every p) (step t i h)

    pub every_off : not (p (get_or t i 0)) ≡ true → false ≡ every p t
    every_off q = sym (now_is ∙ ap (λ (b : Bool). b && every p (drop (i + 1) t)) (not-true (p (get_or t i 0)) q))

    pub every_on : not (p (get_or t i 0)) ≡ false → every p t ≡ every p (drop (i + 1) t)
    every_on q = now_is ∙ ap (λ (b : Bool). b && every p (drop (i + 1) t)) (not-false (p (get_or t i 0)) q)

  pub every_end : length t ≤ i → true ≡ every p t
  every_end h = sym (inv ∙ ap (every p) (ended t i h))

pub ruleset every_laws = (every_off, every_on, every_end)
