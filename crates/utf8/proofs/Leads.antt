-- What a lead byte asks for, range by range.
use Prim.Native.Nat.{ℕ, ◌≤◌}
use mathlib.Core.Path.{◌≡◌}
use native.Mathlib.Omega.{arith}
use borrow.Author.Tests.{ne_eqb}
use Rattle.base.proofs.Ranges.{inside, below, above}
use Rattle.utf8.specs.Lead.{asks, lead_of}

module _ (b : ℕ) where
  pub lead_1 : b ≤ 0x7F → lead_of b ≡ asks 1 0 0
  unfolding lead_of
  lead_1 h = rw (inside 0x00 0x7F b (omega arith) h)

  -- a tail begins no character, nor does C0 or C1
  pub lead_tail : 0x80 ≤ b → b ≤ 0xC1 → lead_of b ≡ asks 0 0 0
  unfolding lead_of
  lead_tail g h =
      rw (
        above 0x00 0x7F b g,
        below 0xC2 0xDF b (omega arith),
        ne_eqb b 0xE0 (omega arith),
        below 0xE1 0xEC b (omega arith),
        ne_eqb b 0xED (omega arith),
        below 0xEE 0xEF b (omega arith),
        ne_eqb b 0xF0 (omega arith),
        below 0xF1 0xF3 b (omega arith),
        ne_eqb b 0xF4 (omega arith),
      )

  pub lead_2 : 0xC2 ≤ b → b ≤ 0xDF → lead_of b ≡ asks 2 0x80 0xBF
  unfolding lead_of
  lead_2 g h = rw (above 0x00 0x7F b (omega arith), inside 0xC2 0xDF b g h)

  pub lead_E1 : 0xE1 ≤ b → b ≤ 0xEC → lead_of b ≡ asks 3 0x80 0xBF
  unfolding lead_of
  lead_E1 g h = rw (above 0x00 0x7F b (omega arith), above 0xC2 0xDF b (omega arith), ne_eqb b 0xE0 (omega arith), inside 0xE1 0xEC b g h)

  pub lead_EE : 0xEE ≤ b → b ≤ 0xEF → lead_of b ≡ asks 3 0x80 0xBF
  unfolding lead_of
  lead_EE g h =
      rw (
        above 0x00 0x7F b (omega arith),
        above 0xC2 0xDF b (omega arith),
        ne_eqb b 0xE0 (omega arith),
        above 0xE1 0xEC b (omega arith),
        ne_eqb b 0xED (omega arith),
        inside 0xEE 0xEF b g h,
      )

  pub lead_F1 : 0xF1 ≤ b → b ≤ 0xF3 → lead_of b ≡ asks 4 0x80 0xBF
  unfolding lead_of
  lead_F1 g h =
      rw (
        above 0x00 0x7F b (omega arith),
        above 0xC2 0xDF b (omega arith),
        ne_eqb b 0xE0 (omega arith),
        above 0xE1 0xEC b (omega arith),
        ne_eqb b 0xED (omega arith),
        above 0xEE 0xEF b (omega arith),
        ne_eqb b 0xF0 (omega arith),
        inside 0xF1 0xF3 b g h,
      )

  pub lead_past : 0xF5 ≤ b → lead_of b ≡ asks 0 0 0
  unfolding lead_of
  lead_past g =
      rw (
        above 0x00 0x7F b (omega arith),
        above 0xC2 0xDF b (omega arith),
        ne_eqb b 0xE0 (omega arith),
        above 0xE1 0xEC b (omega arith),
        ne_eqb b 0xED (omega arith),
        above 0xEE 0xEF b (omega arith),
        ne_eqb b 0xF0 (omega arith),
        above 0xF1 0xF3 b (omega arith),
        ne_eqb b 0xF4 (omega arith),
      )
