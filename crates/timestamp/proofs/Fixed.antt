-- A fixed count of digits, one of two bytes, and the fraction of a second.
use Rattle.std.specs.Prelude.{Option, Some, None}
use Prim.Native.Nat.{ℕ, ◌+◌, ◌^◌, ◌≤◌, ◌<◌}
use mathlib.Core.Path.{◌≡◌, refl, sym, ◌∙◌}
use mathlib.Core.List.{List}
use mathlib.Core.Bool.{Bool, true, false, ◌||◌, not}
use native.Mathlib.Omega.{arith}
use lib.ListN.{length, drop}
use borrow.Author.Tests.{not-true, not-false}
use mir.Syntax.{w64}
use mir.Val.{Fits}
use Rattle.base.specs.Choose.{is_at}
use Rattle.digits.specs.Digits.{fixed_at, fraction_at}
use Rattle.digits.proofs.Fixed.{fixed_len}
use Rattle.digits.proofs.Fractions.{fraction_len_lem}
use Rattle.base.proofs.Tests.{by_if}
use Rattle.parsers.specs.Passed.{digits_passed}
use Rattle.parsers.specs.Steps.{moved}
use Rattle.parsers.proofs.Steps.{at_there, NumberIn, number_in, digits_fit_lem, digits_within}
use Rattle.timestamp.specs.Rfc3339.{fixed_from, either_from, nanos_from}

-- Exactly `k` digits
module _ (k : ℕ) (some : 1 ≤ k) where
  fixed_there : (s : List ℕ) → NumberIn (length s) (fixed_at k s)
  fixed_there s = number_in (length s) (fixed_at k s) (λ v m e. let l = fixed_len k s v m e in (omega (arith, l.0), omega (arith, l.0, l.1)))

  module _ (s : List ℕ) (at : ℕ) where
    module _ (p : List ℕ) (ep : p ≡ drop at s) (r : Option (ℕ × ℕ)) (e : r ≡ fixed_at k p) where
      pub fixed_fits : at ≤ length s → length s < 2 ^ 64 → at + digits_passed r < 2 ^ 64
      fixed_fits h l = digits_fit_lem (fixed_at k) fixed_there s at h l p ep r e

      pub fixed_is : (g : Option (ℕ × ℕ)) → g ≡ moved at r → g ≡ fixed_from k s at
      unfolding fixed_from
      fixed_is g q = q ∙ rw (e, ep)

    pub fixed_within : (g : Option (ℕ × ℕ)) → g ≡ fixed_from k s at → (v n : ℕ) → g ≡ Some (v, n) → n ≤ length s
    unfolding fixed_from
    fixed_within g e v n z = digits_within (fixed_at k) fixed_there s at v n (sym e ∙ z)

pub ruleset fixed_laws = (fixed_fits, fixed_is)

-- One of two bytes
module _ (s : List ℕ) (at a b : ℕ) (p : (0 < a) × (0 < b)) where
  pub either_there : (is_at s at a || is_at s at b) ≡ true → at < length s
  either_there h = go (is_at s at a) refl h
    where
      go : (t : Bool) → is_at s at a ≡ t → (t || is_at s at b) ≡ true → at < length s
      go true e h = at_there s at a p.0 e
      go false e h = at_there s at b p.1 h

  module _ (t u : Bool) (et : t ≡ is_at s at a) (eu : u ≡ is_at s at b) where
    pub either_no : (t || u) ≡ false → None ≡ either_from s at a b
    unfolding either_from
    either_no h = rw (← et, ← eu, h)

    module _ (h : (t || u) ≡ true) where
      pub either_yes : Some (at + 1) ≡ either_from s at a b
      unfolding either_from
      either_yes = rw (← et, ← eu, h)

      pub either_fits : length s < 2 ^ 64 → Fits w64 (at + 1)
      either_fits l = record { fits = omega (arith, either_there (rw (← et, ← eu) h)) }

  pub either_within : (g : Option ℕ) → g ≡ either_from s at a b → (n : ℕ) → g ≡ Some n → n ≤ length s
  unfolding either_from
  either_within g e n z =
      by_if (λ x. x ≡ Some n → n ≤ length s) (is_at s at a || is_at s at b) _ _ (λ t q. let m : at + 1 ≡ n = cc in omega (arith, either_there t)) (λ t q. let m : ◌≡◌ {A = ℕ} 0 1 = cc in absurd (omega arith)) (sym e ∙ z)

pub ruleset either_laws = (either_no, either_yes, either_fits)

-- Optionally `.` and 1 to 9 digits
fraction_there : (s : List ℕ) → NumberIn (length s) (fraction_at 9 s)
fraction_there s = number_in (length s) (fraction_at 9 s) (λ v m e. let l = fraction_len_lem 9 s v m e (omega arith) in (l.0, l.2))

module _ (s : List ℕ) (at : ℕ) where
  module _ (t : Bool) (e : t ≡ is_at s at 46) where
    pub nanos_none : not t ≡ true → Some (0, at) ≡ nanos_from s at
    unfolding nanos_from
    nanos_none h = rw (← e, not-true t h)

    module _ (h : not t ≡ false) where
      pub nanos_past : at + 1 ≤ length s
      nanos_past = let l = at_there s at 46 (omega arith) (sym e ∙ not-false t h) in omega arith

      module _ (p : List ℕ) (ep : p ≡ drop (at + 1) s) (r : Option (ℕ × ℕ)) (er : r ≡ fraction_at 9 p) where
        pub nanos_fits : length s < 2 ^ 64 → at + 1 + digits_passed r < 2 ^ 64
        nanos_fits l = digits_fit_lem (fraction_at 9) fraction_there s (at + 1) nanos_past l p ep r er

        pub nanos_is : (g : Option (ℕ × ℕ)) → g ≡ moved (at + 1) r → g ≡ nanos_from s at
        unfolding nanos_from
        nanos_is g q = q ∙ rw (← e, not-false t h, er, ep)

pub ruleset nanos_laws = (nanos_none, nanos_past, nanos_fits, nanos_is)
