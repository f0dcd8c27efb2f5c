-- The timestamp's text: its pieces, in the order in which they are written, and its length.
use Rattle.std.specs.Prelude.{Option, Some, None}
use Prim.Native.Nat.{ℕ, ◌+◌, ◌-◌, ◌/◌, ◌%◌, ◌^◌, ◌≤◌, ◌<◌}
use mathlib.Core.Path.{◌≡◌, refl, sym, ap, ◌∙◌}
use mathlib.Core.Bool.{true}
use mathlib.Core.List.{List, [], ◌∷◌, ◌++◌}
use native.Mathlib.Omega.{arith}
use lib.IntN.{ℤ, pos, negsuc, nat_abs}
use lib.Signed.{mag}
use mir.Syntax.{w32, w64}
use mir.Val.{Fits, SFits, to_z, of_z}
use mir.ValLaws.{to_z-of_z}
use lib.Dec.{eqb}
use Rattle.base.specs.Diff.{up, down, diff_of}
use Rattle.base.specs.declared.Diff.{Diff}
use lib.ListN.{length, length-append}
use borrow.Author.Tests.{eq-eqb, ne_eqb}
use Rattle.base.proofs.Tests.{by_if}
use Rattle.calendar.specs.Instant.{shown}
use Rattle.calendar.specs.declared.DateTime.{DateTime}
use Rattle.record.specs.declared.Timestamp.{Timestamp}
use Rattle.suits.specs.Suits.{stamp_suits}
use Rattle.suits.proofs.Suited.{StampIn, stamp_in_lem}
use Rattle.output.specs.Fits.{Sized}
use Rattle.output.specs.Numerals.{fixed}
use Rattle.output.proofs.Numerals.{length_fixed}
use Rattle.output.proofs.Pieces.{Starts, starts_named}
use Rattle.message_stamp.specs.Stamps.{date_text, time_text, clock_text, fraction_text, sign_of, offset_text, shown_text, stamp_text}

-- the fraction and its length, by its test
module _ (d n : ℕ) where
  pub fraction_none : d ≡ 0 → [] ≡ fraction_text d n
  unfolding fraction_text
  fraction_none e = rw (eq-eqb d 0 e)

  pub fraction_len_none : d ≡ 0 → 0 ≡ length (fraction_text d n)
  fraction_len_none e = ap length (fraction_none e)

  module _ (z : d ≡ 0 → ⊥) where
    pub fraction_some : (u : ℕ) → u ≡ 10 ^ (9 - d) → 46 ∷ fixed d (n / u) ≡ fraction_text d n
    unfolding fraction_text
    fraction_some u e = rw (ne_eqb d 0 z, e)

    pub fraction_len_some : d + 1 ≡ length (fraction_text d n)
    fraction_len_some =
        let e : length (46 ∷ fixed d (n / 10 ^ (9 - d))) ≡ length (fraction_text d n) = ap length (fraction_some (10 ^ (9 - d)) refl) in
        omega (arith, length_fixed d (n / 10 ^ (9 - d)))

pub ruleset fraction_laws = (fraction_none, fraction_some)

pub ruleset fraction_len_laws = (fraction_len_none, fraction_len_some)

-- `q` is what `split` makes of the offset `o`
module _ (o : ℤ) (fo : SFits w32 o) (w : ℤ) (fw : SFits w64 w) (ew : w ≡ to_z w32 (of_z w32 o)) (q : Diff) (eq : q ≡ diff_of (to_z w64 (of_z w64 w))) where
  apart : q ≡ diff_of o
  apart = eq ∙ ap diff_of (to_z-of_z w64 w fw ∙ ew ∙ to_z-of_z w32 o fo)

  pub minutes_are : q.up + q.down ≡ nat_abs o
  minutes_are = rw apart (whole o)
    where
      whole : (o : ℤ) → up o + down o ≡ nat_abs o
      whole (pos n) = omega arith
      whole (negsuc n) = omega arith

  far : nat_abs o ≤ 2 ^ 31
  far = below o fo.sfits
    where
      below : (o : ℤ) → mag o < 2 ^ 31 → nat_abs o ≤ 2 ^ 31
      below (pos n) h = omega arith
      below (negsuc n) h = omega arith

  pub minutes_sum : Fits w64 (q.up + q.down)
  minutes_sum = record { fits = omega (arith, minutes_are, far) }

  pub minutes_cast : Fits w32 (q.up + q.down)
  minutes_cast = record { fits = omega (arith, minutes_are, far) }

  pub sign_plus : q.down ≡ 0 → 43 ≡ sign_of o
  sign_plus h = plus o (rw apart at h)
    where
      plus : (o : ℤ) → down o ≡ 0 → 43 ≡ sign_of o
      plus (pos n) h = refl
      plus (negsuc n) h = absurd (omega arith)

  pub sign_minus : (q.down ≡ 0 → ⊥) → 45 ≡ sign_of o
  sign_minus h = minus o (rw apart at h)
    where
      minus : (o : ℤ) → (down o ≡ 0 → ⊥) → 45 ≡ sign_of o
      minus (pos n) h = absurd (h refl)
      minus (negsuc n) h = refl

pub ruleset offset_laws = (minutes_sum, minutes_cast, minutes_are, sign_plus, sign_minus)

-- the offset's pieces, with the sign and the minutes found
module _ (o : ℤ) (s n : ℕ) (es : s ≡ sign_of o) (en : n ≡ nat_abs o) where
  pub offset_is : (s ∷ fixed 2 (n / 60)) ++ (58 ∷ fixed 2 (n % 60)) ≡ offset_text o
  unfolding offset_text
  offset_is = rw (es, en)

  pub offset_starts : Starts (s ∷ fixed 2 (n / 60)) (offset_text o)
  offset_starts = record { others = 58 ∷ fixed 2 (n % 60); is = offset_is }

  pub offset_all : Starts ((s ∷ fixed 2 (n / 60)) ++ (58 ∷ fixed 2 (n % 60))) (offset_text o)
  offset_all = starts_named _ _ offset_is

-- the timestamp, by what it shows
module _ (s : Option Timestamp) where
  pub stamp_none : s ≡ None → 45 ∷ [] ≡ stamp_text s
  stamp_none e = rw e

  module _ (t : Timestamp) (e : s ≡ Some t) (fs : SFits w64 t.seconds) (fo : SFits w32 t.offset) (v : Option DateTime) (ev : v ≡ shown (to_z w64 (of_z w64 t.seconds)) (to_z w32 (of_z w32 t.offset))) where
    seen : stamp_text s ≡ shown_text t v
    seen =
        let is : v ≡ shown t.seconds t.offset = rw (to_z-of_z w64 t.seconds fs, to_z-of_z w32 t.offset fo) at ev in
        ap stamp_text e ∙ ap (shown_text t) (sym is)

    pub stamp_outside : v ≡ None → [] ≡ stamp_text s
    stamp_outside h = sym (seen ∙ ap (shown_text t) h)

    pub stamp_at_lem : (clock : DateTime) → v ≡ Some clock → shown_text t (Some clock) ≡ stamp_text s
    stamp_at_lem clock h = sym (seen ∙ ap (shown_text t) h)

pub ruleset stamp_laws = (stamp_none, stamp_outside, stamp_at_lem)

-- its length is known beforehand
shown_length : (t : Timestamp) (clock : DateTime) → length (shown_text t (Some clock)) ≡ 25 + length (fraction_text t.digits t.nanos)
unfolding clock_text date_text time_text offset_text
shown_length t clock = simp (length-append, length_fixed) (omega arith)

pub fraction_le : (d n : ℕ) → length (fraction_text d n) ≤ d + 1
unfolding fraction_text
fraction_le d n =
    by_if (λ (x : List ℕ). length x ≤ d + 1) (eqb d 0) [] (46 ∷ fixed d (n / 10 ^ (9 - d))) (λ e. omega arith) (λ e. omega (arith, length_fixed d (n / 10 ^ (9 - d))))

module _ (s : Option Timestamp) (h : stamp_suits s ≡ true) (t : Timestamp) (e : s ≡ Some t) (n : ℕ) (en : n ≡ length (fraction_text t.digits t.nanos)) where
  suited : StampIn t
  suited = stamp_in_lem t (rw e at h)

  size : length (stamp_text s) ≡ 25 + length (fraction_text t.digits t.nanos)
  size = rw (e, suited.shows) (shown_length t suited.clock)

  few : n ≤ 10
  few = omega (arith, fraction_le t.digits t.nanos, suited.digits_in)

  pub stamp_sized : Sized (stamp_text s) 35 (25 + n)
  stamp_sized = record { is = omega (arith, size); to = omega (arith, few) }

  pub fraction_small : Fits w64 (25 + n)
  fraction_small = record { fits = omega (arith, few) }

pub ruleset stamp_len_laws = (stamp_sized, fraction_small)
