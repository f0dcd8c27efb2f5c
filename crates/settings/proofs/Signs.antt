-- Signed numbers of 16 bits, there and back.
use Prim.Native.Nat.{ℕ, suc, ◌-◌, ◌≤◌, ◌<◌}
use mathlib.Core.Path.{◌≡◌, refl, sym, ap, ◌∙◌}
use mathlib.Core.Bool.{true}
use native.Mathlib.Decide.{dec_le}
use native.Mathlib.Omega.{arith}
use lib.IntN.{ℤ, pos, negsuc, sub_ℕ}
use mir.Syntax.{w32, w64}
use mir.Val.{Fits, SFits, to_z, of_z}
use mir.ValLaws.{to_z-of_z}
use borrow.Author.Tests.{lt-ltb, le-ltb, leb-true}
use Rattle.base.specs.Diff.{up, down, diff_of}
use Rattle.base.specs.declared.Diff.{Diff}
use Rattle.base.proofs.Diffs.{sub_ge}
use Rattle.calendar.specs.Calendar.{offset_limit, valid_offset}
use Rattle.settings.specs.Record.{bits}
use Rattle.settings.specs.Steps.{signed}

signed_low : (n : ℕ) → n < 32768 → signed n ≡ pos n
signed_low n h = rw (lt-ltb n 32768 h)

signed_high : (n : ℕ) → 32768 ≤ n → signed n ≡ negsuc (65535 - n)
signed_high n h = rw (le-ltb n 32768 h)

-- ---- what a number of 16 bits says

module _ (n : ℕ) (r : ℤ) (f : SFits w64 r) where
  module _ (h : n < 32768) (e : r ≡ sub_ℕ n 0) where
    low_read : to_z w64 (of_z w64 r) ≡ pos n
    low_read = let z : n - 0 ≡ n = omega arith in to_z-of_z w64 r f ∙ e ∙ sub_ge n 0 (omega arith) ∙ ap pos z

    pub low_fits : SFits w32 (to_z w64 (of_z w64 r))
    low_fits = rw low_read (record { sfits = omega arith })

    pub low_is : (q : ℤ) → SFits w32 q → q ≡ to_z w64 (of_z w64 r) → to_z w32 (of_z w32 q) ≡ signed n
    low_is q fq eq = to_z-of_z w32 q fq ∙ eq ∙ low_read ∙ sym (signed_low n h)

  module _ (h : 32768 ≤ n) (e : r ≡ negsuc (65535 - n)) where
    high_read : to_z w64 (of_z w64 r) ≡ negsuc (65535 - n)
    high_read = to_z-of_z w64 r f ∙ e

    pub high_fits : SFits w32 (to_z w64 (of_z w64 r))
    high_fits = rw high_read (record { sfits = omega arith })

    pub high_is : (q : ℤ) → SFits w32 q → q ≡ to_z w64 (of_z w64 r) → to_z w32 (of_z w32 q) ≡ signed n
    high_is q fq eq = to_z-of_z w32 q fq ∙ eq ∙ high_read ∙ sym (signed_high n h)

pub ruleset signed_laws = (low_fits, low_is, high_fits, high_is)

-- ---- the 16 bits of an offset

up_bits : (z : ℤ) → down z ≡ 0 → up z ≡ bits z
up_bits (pos n) e = refl
up_bits (negsuc n) e = absurd (omega arith)

down_bits : (z : ℤ) → (down z ≡ 0 → ⊥) → 65535 - (down z - 1) ≡ bits z
down_bits (pos n) e = absurd (e refl)
down_bits (negsuc n) e = omega arith

near : (z : ℤ) → valid_offset z ≡ true → (up z ≤ offset_limit) × (down z ≤ offset_limit)
near (pos n) h = (leb-true n offset_limit h, omega arith)
near (negsuc n) h = (omega arith, leb-true (suc n) offset_limit h)

module _ (o : ℤ) (fo : SFits w32 o) (v : valid_offset o ≡ true) (w : ℤ) (fw : SFits w64 w) (ew : w ≡ to_z w32 (of_z w32 o)) (q : Diff) (eq : q ≡ diff_of (to_z w64 (of_z w64 w))) where
  apart : q ≡ diff_of o
  apart = eq ∙ ap diff_of (to_z-of_z w64 w fw ∙ ew ∙ to_z-of_z w32 o fo)

  pub bits_up_fits : Fits w32 q.up
  bits_up_fits = rw apart (record { fits = omega (arith, (near o v).0) })

  pub bits_down_fits : Fits w32 (q.down - 1)
  bits_down_fits = rw apart (record { fits = omega (arith, (near o v).1) })

  pub bits_down_below : q.down - 1 ≤ 65535
  bits_down_below = rw apart (omega (arith, (near o v).1))

  pub bits_up : q.down ≡ 0 → q.up ≡ bits o
  bits_up h = rw apart (up_bits o (rw apart at h))

  pub bits_down : (q.down ≡ 0 → ⊥) → 65535 - (q.down - 1) ≡ bits o
  bits_down h = rw apart (down_bits o (rw apart at h))

pub ruleset bits_laws = (bits_up_fits, bits_down_fits, bits_down_below, bits_up, bits_down)

-- ---- there and back

pub bits_below : (o : ℤ) → valid_offset o ≡ true → bits o < 65536
bits_below (pos n) h = omega (arith, leb-true n offset_limit h)
bits_below (negsuc n) h = omega arith

pub bits_back : (o : ℤ) → valid_offset o ≡ true → signed (bits o) ≡ o
bits_back (pos n) h = let l = leb-true n offset_limit h in signed_low n (omega arith)
bits_back (negsuc n) h =
    let l = leb-true (suc n) offset_limit h in
    let z : 65535 - (65535 - n) ≡ n = omega arith in
    signed_high (65535 - n) (omega arith) ∙ ap negsuc z

pub signed_back : (n : ℕ) → n < 65536 → valid_offset (signed n) ≡ true → bits (signed n) ≡ n
signed_back n l v = go (dec_le 32768 n)
  where
    go : Dec (32768 ≤ n) → bits (signed n) ≡ n
    go (yes p) = rw (signed_high n p) (omega arith)
    go (no p) = rw (signed_low n (omega arith))
