-- Steps of a reader: what decides each, and that the positions they answer lie in the line.
use Rattle.std.specs.Prelude.{if◌then◌else◌, Option, Some, None}
use Prim.Native.Nat.{ℕ, zero, suc, ◌+◌, ◌^◌, ◌≤◌, ◌<◌}
use mathlib.Core.Path.{◌≡◌, refl, sym, ap, ◌∙◌}
use mathlib.Core.List.{List, [], ◌∷◌}
use mathlib.Core.Bool.{Bool, true, false}
use native.Mathlib.Omega.{arith}
use lib.ListN.{length, get_or, drop, length-drop}
use Rattle.base.specs.Choose.{is_at}
use Rattle.base.specs.Runs.{run}
use Rattle.base.proofs.Tests.{clash, by_if}
use Rattle.base.proofs.Parts.{ended, at_below}
use Rattle.base.proofs.Pairs.{some_second}
use Rattle.base.proofs.Runs.{run_le, run_none, run_yes, run_no}
use Rattle.digits.specs.Digits.{number_at}
use Rattle.digits.proofs.Numbers.{number_len}
use Rattle.parsers.specs.Passed.{digits_passed}
use Rattle.parsers.specs.Steps.{is_blank, blanks_from, some_blanks_from, byte_from, colon_from, moved, number_from}

-- A byte
module _ (s : List ℕ) (at b : ℕ) (p : 0 < b) where
  pub at_there : is_at s at b ≡ true → at < length s
  at_there h = go b p h
    where
      go : (b : ℕ) → 0 < b → is_at s at b ≡ true → at < length s
      go zero p h = absurd (omega arith)
      go (suc b) p h = at_below s at b h

  pub byte_within : (g : Option ℕ) → g ≡ byte_from s at b → (n : ℕ) → g ≡ Some n → n ≤ length s
  unfolding byte_from
  byte_within g e n z = go (is_at s at b) refl (sym e ∙ z)
    where
      go : (t : Bool) → is_at s at b ≡ t → (if t then Some (at + 1) else None) ≡ Some n → n ≤ length s
      go true h q = let m : at + 1 ≡ n = cc in omega (arith, at_there h)
      go false h q = cc

-- An optional `:`
pub colon_within : (s : List ℕ) (at : ℕ) → at ≤ length s → colon_from s at ≤ length s
colon_within s at h = by_if (λ n. n ≤ length s) (is_at s at 58) _ _ (λ t. let l = at_there s at 58 (omega arith) t in omega arith) (λ t. h)

-- Blanks
pub blanks_within : (s : List ℕ) (at n : ℕ) → n ≡ blanks_from s at → at ≤ length s → n ≤ length s
blanks_within s at n e h = omega (arith, simp length-drop at (run_le is_blank (drop at s)))

-- a blank is there, and the run goes past it
module _ (s : List ℕ) (at : ℕ) where
  blank_some : is_blank (get_or s at 0) ≡ true → (at < length s) × (at < blanks_from s at)
  blank_some h = go s at h
    where
      go : (s : List ℕ) (at : ℕ) → is_blank (get_or s at 0) ≡ true → (at < length s) × (at < blanks_from s at)
      go [] at h = clash (sym h)
      go (b ∷ s) zero h = (omega arith, omega (arith, run_yes is_blank b s h))
      go (b ∷ s) (suc at) h = let r = go s at h in (omega (arith, r.0), omega (arith, r.1))

  blank_none : is_blank (get_or s at 0) ≡ false → blanks_from s at ≡ at
  blank_none h = go s at h
    where
      go : (s : List ℕ) (at : ℕ) → is_blank (get_or s at 0) ≡ false → blanks_from s at ≡ at
      go [] at h = omega (arith, ap (run is_blank) (ended [] at (omega arith)) ∙ run_none is_blank)
      go (b ∷ s) zero h = omega (arith, run_no is_blank b s h)
      go (b ∷ s) (suc at) h = omega (arith, go s at h)

  module _ (n : ℕ) (e : n ≡ blanks_from s at) where
    pub some_no : n ≡ at → None ≡ some_blanks_from s at
    unfolding some_blanks_from
    some_no z = by_if {A = Option ℕ} (λ g. None ≡ g) (is_blank (get_or s at 0)) _ _ (λ h. absurd (omega (arith, (blank_some h).1))) (λ h. refl)

    pub some_yes : (n ≡ at → ⊥) → Some n ≡ some_blanks_from s at
    unfolding some_blanks_from
    some_yes z = by_if {A = Option ℕ} (λ g. Some n ≡ g) (is_blank (get_or s at 0)) _ _ (λ h. ap Some e) (λ h. absurd (z (e ∙ blank_none h)))

  pub some_within : (g : Option ℕ) → g ≡ some_blanks_from s at → (n : ℕ) → g ≡ Some n → n ≤ length s
  unfolding some_blanks_from
  some_within g e n z = go (is_blank (get_or s at 0)) refl (sym e ∙ z)
    where
      go : (t : Bool) → is_blank (get_or s at 0) ≡ t → (if t then Some (blanks_from s at) else None) ≡ Some n → n ≤ length s
      go true h q =
          let m : blanks_from s at ≡ n = cc in
          let l = (blank_some h).0 in
          blanks_within s at n (sym m) (omega arith)
      go false h q = cc

pub ruleset some_laws = (some_no, some_yes)

-- Digits that are read from a text pass at least one byte, and no more than there are.
abbrev pub NumberIn : ℕ → Option (ℕ × ℕ) → Type 0
NumberIn n None = Unit {0}
NumberIn n (Some x) = (1 ≤ x.1) × (x.1 ≤ n)

pub number_in : (n : ℕ) (r : Option (ℕ × ℕ)) → ((v m : ℕ) → r ≡ Some (v, m) → (1 ≤ m) × (m ≤ n)) → NumberIn n r
number_in n None h = tt
number_in n (Some x) h = h x.0 x.1 refl

-- whatever is read at `at`
module _ (read : List ℕ → Option (ℕ × ℕ)) (read-in : (s : List ℕ) → NumberIn (length s) (read s)) (s : List ℕ) (at : ℕ) where
  pub digits_fit_lem : at ≤ length s → length s < 2 ^ 64 → (p : List ℕ) → p ≡ drop at s → (r : Option (ℕ × ℕ)) → r ≡ read p → at + digits_passed r < 2 ^ 64
  digits_fit_lem h l p ep r e = rw (e, ep) (go (read (drop at s)) (read-in (drop at s)))
    where
      go : (r : Option (ℕ × ℕ)) → NumberIn (length (drop at s)) r → at + digits_passed r < 2 ^ 64
      go None i = omega arith
      go (Some x) i = omega (arith, length-drop at s)

  pub digits_within : (v n : ℕ) → moved at (read (drop at s)) ≡ Some (v, n) → n ≤ length s
  digits_within v n z = go (read (drop at s)) (read-in (drop at s)) z
    where
      go : (r : Option (ℕ × ℕ)) → NumberIn (length (drop at s)) r → moved at r ≡ Some (v, n) → n ≤ length s
      go None i z = cc
      go (Some x) i z = omega (arith, some_second z, length-drop at s)

-- A number within 32 bits
number_there : (s : List ℕ) → NumberIn (length s) (number_at 4294967295 s)
number_there s = number_in (length s) _ (λ v m e. let l = number_len 4294967295 s v m e in (l.0, l.1))

module _ (s : List ℕ) (at : ℕ) where
  module _ (p : List ℕ) (ep : p ≡ drop at s) (r : Option (ℕ × ℕ)) (e : r ≡ number_at 4294967295 p) where
    pub number_fits : at ≤ length s → length s < 2 ^ 64 → at + digits_passed r < 2 ^ 64
    number_fits h l = digits_fit_lem (number_at 4294967295) number_there s at h l p ep r e

    pub number_is : (g : Option (ℕ × ℕ)) → g ≡ moved at r → g ≡ number_from s at
    unfolding number_from
    number_is g q = q ∙ rw (e, ep)

  pub number_within : (g : Option (ℕ × ℕ)) → g ≡ number_from s at → (v n : ℕ) → g ≡ Some (v, n) → n ≤ length s
  unfolding number_from
  number_within g e v n z = digits_within (number_at 4294967295) number_there s at v n (sym e ∙ z)

pub ruleset number_laws = (number_fits, number_is)
