-- Signed seconds, computed by differences.
use Rattle.std.specs.Prelude.{if◌then◌else◌, Some, None, Result, Ok, Err}
use Rattle.std.specs.Result.{OkIff, result_ok}
use Rattle.std.specs.Int.{FitsUnsignedBits}
use Rattle.base.proofs.Tests.{by_test}
use Prim.Native.Nat.{ℕ, zero, suc, ◌+◌, ◌*◌, ◌^◌, ◌≤◌, ◌<◌}
use mathlib.Core.Path.{◌≡◌, refl, sym, ap, ◌∙◌}
use native.Mathlib.Omega.{arith}
use lib.Dec.{ltb}
use lib.IntN.{ℤ, pos, negsuc, neg_ℤ, nat_abs, sub_ℕ, ◌+ℤ◌, ◌-ℤ◌, ◌*ℤ◌}
use lib.Signed.{mag}
use mir.Syntax.{w32, w64}
use mir.Val.{SFits, to_z, of_z}
use mir.ValLaws.{to_z-of_z}
use borrow.Author.Tests.{lt-ltb, le-ltb, ltb-true}
use Rattle.base.specs.Diff.{up, down, diff_of}
use Rattle.base.specs.declared.Diff.{Diff}
use Rattle.base.proofs.Diffs.{pos_sub, as_diff, add_diff}
use Rattle.calendar.specs.Instant.{epoch, clock_of, all_seconds, shown_at, shown}
use Rattle.calendar.specs.declared.DateTime.{DateTime}

-- an offset of minutes in seconds, taken apart
sixty : (o : ℤ) → record { up = up o * 60; down = down o * 60 } ≡ diff_of (o *ℤ pos 60)
sixty (pos n) = refl
sixty (negsuc n) = neg (suc n * 60)
  where
    neg : (m : ℕ) → record { up = 0; down = m } ≡ diff_of (neg_ℤ (pos m))
    neg zero = refl
    neg (suc m) = refl

-- how large the two parts are
record Small (b : ℕ) (d : Diff) : Type 0 where
  up_to : d.up < b
  down_to : d.down ≤ b

small : (z : ℤ) (b : ℕ) → mag z < b → Small b (diff_of z)
small (pos n) b h = record { up_to = h; down_to = omega arith }
small (negsuc n) b h = record { up_to = omega arith; down_to = h }

-- sums and differences of signed numbers as one difference
neg_diff : (s : ℤ) → neg_ℤ s ≡ sub_ℕ (down s) (up s)
neg_diff (pos zero) = refl
neg_diff (pos (suc n)) = as_diff (negsuc n)
neg_diff (negsuc n) = as_diff (pos (suc n))

pub minus_diff : (n e : ℕ) (s : ℤ) → pos n -ℤ pos e -ℤ s ≡ sub_ℕ (n + down s) (e + up s)
minus_diff n e s =
    ap (λ (x : ℤ). x -ℤ s) (pos_sub n e) ∙ ap (λ (x : ℤ). sub_ℕ n e +ℤ x) (neg_diff s) ∙ add_diff n e (down s) (up s)

-- `d` is the offset `o` in seconds, as a difference
module _ (o : ℤ) (fo : SFits w32 o) (d : Diff) (ed : d ≡ diff_of (to_z w32 (of_z w32 o) *ℤ pos 60)) where
  shifted : d ≡ diff_of (o *ℤ pos 60)
  shifted = ed ∙ ap (λ (x : ℤ). diff_of (x *ℤ pos 60)) (to_z-of_z w32 o fo)

  shifted_small : Small (2 ^ 37) d
  shifted_small = let s = small o (2 ^ 31) fo.sfits in rw (shifted, ← sixty o) (record { up_to = omega arith; down_to = omega arith })

  pub up_room : d.up < 2 ^ 62
  up_room = omega (arith, shifted_small)

  pub down_room : d.down < 2 ^ 62
  down_room = omega (arith, shifted_small)

-- What an instant shows, by the seconds on the local clock: they are none of 64 bits, they are below 0, or they are `n`
clock_at : (x : ℤ) → (SFits w64 x → ⊥) → None ≡ shown_at x
clock_at (pos n) h = by_test (λ b. None ≡ (if b then Some (clock_of n) else None)) (ltb n all_seconds) (λ t. absurd (h (record { sfits = omega (arith, ltb-true n all_seconds t) }))) (λ t. refl)
clock_at (negsuc n) h = refl

below_zero : {E : Type 0} (x : ℤ) (r : Result ℕ E) → SFits w64 x → OkIff r (FitsUnsignedBits 64 x) (nat_abs x) → None ≡ result_ok r → None ≡ shown_at x
below_zero x (Ok n) f h e = absurd (let z : ◌≡◌ {A = ℕ} 0 1 = cc in omega arith)
below_zero (pos n) (Err e) f h q = absurd (h (omega (arith, f.sfits)))
below_zero (negsuc n) (Err e) f h q = refl

on_clock : {E : Type 0} (x : ℤ) (r : Result ℕ E) (n : ℕ) → OkIff r (FitsUnsignedBits 64 x) (nat_abs x) → Some n ≡ result_ok r → x ≡ pos n
on_clock (pos m) (Ok k) n h e = let q : n ≡ k = cc in ap pos (sym h.1 ∙ sym q)
on_clock (negsuc m) (Ok k) n h e = absurd h.0
on_clock x (Err k) n h e = absurd (let z : ◌≡◌ {A = ℕ} 0 1 = cc in omega arith)

module _ (z o : ℤ) where
  pub shown_unfit : (SFits w64 (z +ℤ o *ℤ pos 60 +ℤ pos epoch) → ⊥) → None ≡ shown z o
  unfolding shown
  shown_unfit h = clock_at _ h

  module _ {E : Type 0} (x : ℤ) (r : Result ℕ E) (e : x ≡ z +ℤ o *ℤ pos 60 +ℤ pos epoch) (h : OkIff r (FitsUnsignedBits 64 x) (nat_abs x)) where
    pub shown_early : SFits w64 x → None ≡ result_ok r → None ≡ shown z o
    unfolding shown
    shown_early f q = rw (← e) (below_zero x r f h q)

    module _ (n : ℕ) (q : Some n ≡ result_ok r) where
      pub shown_late : all_seconds ≤ n → None ≡ shown z o
      unfolding shown
      shown_late l = rw (← e, on_clock x r n h q, le-ltb n all_seconds l)

      pub shown_in : n < all_seconds → (t : DateTime) → t ≡ clock_of n → Some t ≡ shown z o
      unfolding shown
      shown_in l t c = rw (← e, on_clock x r n h q, lt-ltb n all_seconds l, c)
