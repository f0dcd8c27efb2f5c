-- Dates, clocks and fractions.
use Rattle.std.specs.Prelude.{if◌then◌else◌, Option, Some, None}
use Prim.Native.Nat.{ℕ, zero, suc, ◌+◌, ◌-◌, ◌*◌, ◌^◌, ◌≤◌, ◌<◌}
use mathlib.Core.Path.{◌≡◌, refl, sym, ◌∙◌}
use mathlib.Core.Bool.{Bool, true, false, not}
use mathlib.Core.List.{List, ◌∷◌, ◌++◌}
use mathlib.Core.Option.{none, some}
use native.Mathlib.Omega.{arith}
use lib.ListN.{length, take, drop}
use lib.Seq.{length-take-le}
use mir.Syntax.{w64}
use mir.Val.{Fits}
use Rattle.base.specs.Choose.{within, is_at}
use Rattle.base.proofs.Tests.{by_test, told}
use Rattle.base.proofs.Runs.{run_le}
use Rattle.digits.specs.Digits.{is_digit, digit_run, decimal, fixed_at, fraction_at}
use Rattle.digits.proofs.Fixed.{fixed_len}
use Rattle.digits.proofs.Fractions.{fraction_len_lem}
use Rattle.grammar.specs.Abnf.{Repeat}
use Rattle.grammar.specs.Parse.{Reader, Three, always, ◌next◌, only, into, repeat, fixed, two, secfrac}
use Rattle.grammar.specs.Parse.Parsed.{failed, found}
use Rattle.grammar.specs.Reading.{nanos_of}
use Rattle.grammar.proofs.Readers.{Reads, Any}
use Rattle.grammar.proofs.Header.{two_reads}
use Rattle.strict_header.specs.Pieces.{value_of, plain_to, minutes_of, pair, triple, ending, ids_at, names_at, text_at}
use Rattle.strict_header.proofs.Steps.{untold, byte_laws, sum_fits, Finds, finds_within, next_within, into_failed, into_found, first_failed, first_found, other_found, only_failed, only_not, only_found, next_failed, next_not, next_found}
use Rattle.strict_header.proofs.Answers.{value_found, value_none, value_some, failed_answer, Triple, pair_found, pair_some, triple_found}
use Rattle.strict_header.proofs.Numbers.{fixed_of}

-- ---- two digits after a byte, twice

two_read : (b : ℕ) → 0 < b → Reads (λ t r. b ∷ (t ++ r)) (Repeat 2 2 is_digit) Any (two b)
two_read zero h = absurd (omega arith)
two_read (suc b) h = two_reads b

module _ (b : ℕ) (l : 0 < b) (s : List ℕ) where
  pub two_within : (f : Option (ℕ × ℕ)) (v n : ℕ) → f ≡ value_of decimal (two b s) → f ≡ Some (v, n) → n ≤ length s
  two_within f v n e h = finds_within (value_some decimal e h) (two_read b l)

  pub pair_within : (f : Option ((ℕ × ℕ) × ℕ)) (x y n : ℕ) → f ≡ value_of pair ((two b next two b) s) → f ≡ Some ((x, y), n) → n ≤ length s
  pair_within f x y n e h = next_within (two_read b l) (two_read b l) (pair_some e h)

module _ (b : ℕ) (s : List ℕ) (f : Option (ℕ × ℕ)) (ef : f ≡ value_of decimal (two b s)) where
  pub pair_no_first : f ≡ None → None ≡ value_of pair ((two b next two b) s)
  pair_no_first e = failed_answer (value_of pair) (next_failed (value_none decimal ef e) (two b))

  module _ (x m : ℕ) (ev : f ≡ Some (x, m)) (r : List ℕ) (er : r ≡ drop m s) (g : Option (ℕ × ℕ)) (eg : g ≡ value_of decimal (two b r)) where
    pub pair_no_second : g ≡ None → None ≡ value_of pair ((two b next two b) s)
    pair_no_second e = failed_answer (value_of pair) (next_not (value_some decimal ef ev) er (value_none decimal eg e))

    pub pair_is : (y n : ℕ) → g ≡ Some (y, n) → Some ((x, y), (m + n)) ≡ value_of pair ((two b next two b) s)
    pair_is y n e = pair_found (next_found (value_some decimal ef ev) er (value_some decimal eg e))

pub ruleset pair_laws = (two_within, sum_fits, pair_no_first, pair_no_second, pair_is)

-- ---- three numbers that pass a test

module _ (s : List ℕ) (k : ℕ) (f : Option (ℕ × ℕ)) (e : f ≡ fixed_at k s) where
  pub fixed_answer : f ≡ value_of decimal (fixed k s)
  fixed_answer = e ∙ fixed_of k s

  pub fixed_within : (v n : ℕ) → f ≡ Some (v, n) → n ≤ length s
  fixed_within v n h = let w = fixed_len k s v n (sym e ∙ h) in omega (arith, w.0, w.1)

module _ (g : ℕ → ℕ → ℕ → Bool) (p : Reader (List ℕ)) (b : ℕ) (s : List ℕ) (f : Option (ℕ × ℕ)) (ef : f ≡ value_of decimal (p s)) where
  abbrev passes : Three → Bool
  passes t = g (decimal t.0) (decimal t.1.0) (decimal t.1.1)

  pub triple_no_first : f ≡ None → None ≡ value_of triple (only passes (p next (two b next two b)) s)
  triple_no_first e = failed_answer (value_of triple) (only_failed (next_failed (value_none decimal ef e) (two b next two b)) passes)

  module _ (x m : ℕ) (ev : f ≡ Some (x, m)) (r : List ℕ) (er : r ≡ drop m s) (k : Option ((ℕ × ℕ) × ℕ)) (ek : k ≡ value_of pair ((two b next two b) r)) where
    pub triple_no_pair : k ≡ None → None ≡ value_of triple (only passes (p next (two b next two b)) s)
    triple_no_pair e = failed_answer (value_of triple) (only_failed (next_not (value_some decimal ef ev) er (value_none pair ek e)) passes)

    module _ (y z n : ℕ) (eh : k ≡ Some ((y, z), n)) (t : Bool) (et : t ≡ g x y z) where
      all : Finds (Triple x y z) (m + n) (p next (two b next two b)) s
      all = next_found (value_some decimal ef ev) er (pair_some ek eh)

      tested : (a : Three) → Triple x y z a → g x y z ≡ passes a
      tested a h = rw (h.0, h.1.0, h.1.1)

      pub triple_not : not t ≡ true → None ≡ value_of triple (only passes (p next (two b next two b)) s)
      triple_not h = failed_answer (value_of triple) (only_not all passes (λ a k. sym (tested a k) ∙ untold t _ et h))

      pub triple_is : not t ≡ false → Some ((x, y, z), (m + n)) ≡ value_of triple (only passes (p next (two b next two b)) s)
      triple_is h = triple_found (only_found all passes (λ a k. sym (tested a k) ∙ told t _ et h))

pub ruleset within_laws = (two_within, pair_within, fixed_within, sum_fits)

-- ---- a fraction

-- the nanoseconds of digits after the point
abbrev nanos : List ℕ → ℕ
nanos f = nanos_of (some f)

fraction_of : (most : ℕ) (s : List ℕ) → fraction_at most s ≡ value_of nanos (repeat most is_digit s)
unfolding fraction_at repeat
fraction_of most s =
    let n = digit_run s in
    by_test (λ b. (if b then Some (decimal (take n s) * 10 ^ (9 - n), n) else None) ≡ value_of nanos (if b then found (take n s) n else failed)) (within 1 most n)
    (λ e. rw (length-take-le n s (run_le is_digit s))) (λ e. refl)

module _ (s : List ℕ) (t : Bool) (et : t ≡ is_at s 0 46) where
  pub secfrac_no : not t ≡ true → Some (0, 0) ≡ value_of nanos_of (secfrac s)
  unfolding secfrac
  secfrac_no h = value_found nanos_of (other_found 46 (into some (repeat 6 is_digit)) (always none) (untold t _ et h) (record { value = none; is = refl; has = refl }))

  module _ (h : not t ≡ false) (r : List ℕ) (er : r ≡ drop 1 s) (f : Option (ℕ × ℕ)) (ef : f ≡ fraction_at 6 r) where
    pub secfrac_none : f ≡ None → None ≡ value_of nanos_of (secfrac s)
    unfolding secfrac
    secfrac_none e =
        failed_answer (value_of nanos_of) (first_failed 46 (into some (repeat 6 is_digit)) (always none) (told t _ et h) er (into_failed (value_none nanos (ef ∙ fraction_of 6 r) e) some))

    module _ (v n : ℕ) (ev : f ≡ Some (v, n)) where
      pub secfrac_is : Some (v, n + 1) ≡ value_of nanos_of (secfrac s)
      unfolding secfrac
      secfrac_is =
          value_found nanos_of
          (first_found 46 (into some (repeat 6 is_digit)) (always none) (told t _ et h) er (into_found (value_some nanos (ef ∙ fraction_of 6 r) ev) some (λ a k. k)))

      pub secfrac_fits : Fits w64 (n + 1)
      secfrac_fits = record { fits = omega (arith, (fraction_len_lem 6 r v n (sym ef ∙ ev) (omega arith)).1) }

pub ruleset secfrac_laws = (byte_laws, secfrac_no, secfrac_none, secfrac_is, secfrac_fits)
