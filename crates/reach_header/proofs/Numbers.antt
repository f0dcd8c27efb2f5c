-- Numbers of a few digits: what they write, and where they break.
use Rattle.std.specs.Prelude.{if◌then◌else◌, Result, Ok, Err}
use Prim.Native.Nat.{ℕ, zero, suc, ◌+◌, ◌-◌, ◌*◌, ◌^◌, ◌≤◌, ◌<◌}
use mathlib.Core.Path.{◌≡◌, refl, sym, ap, ap₂, ◌∙◌}
use mathlib.Core.Bool.{Bool, true, false, not, ◌&&◌, ◌||◌}
use mathlib.Core.List.{List, [], ◌∷◌}
use native.Mathlib.Omega.{arith}
use mir.Syntax.{w64}
use mir.Val.{Fits}
use lib.ListN.{length, get_or, take, drop, length-drop}
use lib.Seq.{get_or-drop, drop-drop}
use lib.ListN.{get_or-eq_default}
use lib.Dec.{leb, ltb, eqb}
use borrow.Author.Tests.{le-leb, lt-leb, leb-true, leb-false, ltb-true, ltb-false, eq-eqb, ne_eqb}
use Rattle.base.specs.Choose.{within, is_at}
use Rattle.base.specs.Runs.{run}
use Rattle.base.proofs.Tests.{clash, both, by_test}
use Rattle.base.proofs.Ranges.{inside, above, orders}
use Rattle.base.proofs.Parts.{step, at_cons}
use Rattle.base.proofs.Runs.{run_le, run_in, run_yes, run_stop}
use Rattle.digits.specs.Digits.{decimal, decimal_from}
use Rattle.digits.proofs.Decimals.{decimal_front_lt}
use Rattle.grammar.specs.Abnf.{is_digit}
use Rattle.grammar.specs.Line.{zero_led}
use Rattle.grammar.specs.Parse.{on_found, only, repeat, is_prival, is_version}
use Rattle.grammar.specs.Parse.Parsed.{failed, found}
use Rattle.viable.specs.Leaves.{repeat_far, prival_far, version_far}
use Rattle.viable.specs.Walks.{went_of, onward_of, went_at}
use Rattle.viable.proofs.Leaves.{tested_yes, tested_no, tested_long, led_by_zero, not_led, and_no, nonzero_test, zero_test}
use Rattle.viable.proofs.Walks.{at_here}
use Rattle.reach_header.specs.Pieces.{Digits, digits_at, is_over, prival_at, version_at}

-- ---- digits at a place

pub byte_out : (s : List ℕ) (i : ℕ) → length s ≤ i → 0 ≡ get_or s i 0
byte_out s i h = sym (get_or-eq_default s 0 h)

-- no digit is past the end
pub digit_in : (s : List ℕ) (i : ℕ) → is_digit (get_or s i 0) ≡ true → i < length s
digit_in s i h =
    by_test (λ t. leb (length s) i ≡ t → i < length s) (leb (length s) i)
    (λ _ t. clash (sym h ∙ ap is_digit (get_or-eq_default s 0 (leb-true (length s) i t))))
    (λ _ t. leb-false (length s) i t)
    refl

pub digit_low : (x : ℕ) → is_digit x ≡ true → 48 ≤ x
digit_low x h = (orders 48 57 x h).0

pub digit_high : (x : ℕ) → is_digit x ≡ true → x - 48 ≤ 9
digit_high x h = let o = orders 48 57 x h in omega arith

pub ruleset digit_laws = (byte_out, digit_in, digit_low, digit_high)

module _ (s : List ℕ) (at k : ℕ) (d : Digits s at k) where
  digit_of : (i : ℕ) → i < k → is_digit (get_or s (at + i) 0) ≡ true
  digit_of i l = sym (ap is_digit (get_or-drop at s i 0)) ∙ run_in is_digit (drop at s) i (let z = d.digits in omega arith)

  pub digit_0 : 1 ≤ k → is_digit (get_or s at 0) ≡ true
  digit_0 l = sym (ap (λ (i : ℕ). is_digit (get_or s i 0)) (let z : at + 0 ≡ at = omega arith in z)) ∙ digit_of 0 (omega arith)

  pub digit_1 : 2 ≤ k → is_digit (get_or s (at + 1) 0) ≡ true
  digit_1 l = digit_of 1 (omega arith)

  pub digit_2 : 3 ≤ k → is_digit (get_or s (at + 2) 0) ≡ true
  digit_2 l = digit_of 2 (omega arith)

  pub digit_3 : 4 ≤ k → is_digit (get_or s (at + 3) 0) ≡ true
  digit_3 l = digit_of 3 (omega arith)

  pub digits_in : 1 ≤ k → at + k ≤ length s
  digits_in l = let a = run_le is_digit (drop at s) in let b = length-drop at s in let c = d.digits in omega arith

  pub place_fits : (i : ℕ) → i < k → length s < 2 ^ 64 → Fits w64 (at + i)
  place_fits i l m = let z = digits_in (omega arith) in record { fits = omega arith }

-- the first bytes, one by one
front_1 : (s : List ℕ) (i k : ℕ) → i < length s → take (suc k) (drop i s) ≡ get_or s i 0 ∷ take k (drop (i + 1) s)
front_1 s i k h = ap (take (suc k)) (step s i h)

module _ (s : List ℕ) (at : ℕ) where
  next_place : (i : ℕ) → at + i + 1 ≡ at + (i + 1)
  next_place i = omega arith

  front_2 : at + 2 ≤ length s → take 2 (drop at s) ≡ get_or s at 0 ∷ get_or s (at + 1) 0 ∷ []
  front_2 h = front_1 s at 1 (omega arith) ∙ ap (λ (l : List ℕ). get_or s at 0 ∷ l) (front_1 s (at + 1) 0 (omega arith))

  front_3 : at + 3 ≤ length s → take 3 (drop at s) ≡ get_or s at 0 ∷ get_or s (at + 1) 0 ∷ get_or s (at + 2) 0 ∷ []
  front_3 h =
      let z : at + 1 + 1 ≡ at + 2 = omega arith in
      front_1 s at 2 (omega arith)
      ∙ ap (λ (l : List ℕ). get_or s at 0 ∷ l) (front_1 s (at + 1) 1 (omega arith)
      ∙ ap (λ (l : List ℕ). get_or s (at + 1) 0 ∷ l) (ap (λ (i : ℕ). take 1 (drop i s)) z ∙ front_1 s (at + 2) 0 (omega arith)))

  front_4 : at + 4 ≤ length s → take 4 (drop at s) ≡ get_or s at 0 ∷ get_or s (at + 1) 0 ∷ get_or s (at + 2) 0 ∷ get_or s (at + 3) 0 ∷ []
  front_4 h =
      let z : at + 1 + 1 ≡ at + 2 = omega arith in
      let y : at + 2 + 1 ≡ at + 3 = omega arith in
      front_1 s at 3 (omega arith)
      ∙ ap (λ (l : List ℕ). get_or s at 0 ∷ l) (front_1 s (at + 1) 2 (omega arith)
      ∙ ap (λ (l : List ℕ). get_or s (at + 1) 0 ∷ l) (ap (λ (i : ℕ). take 2 (drop i s)) z ∙ front_1 s (at + 2) 1 (omega arith)
      ∙ ap (λ (l : List ℕ). get_or s (at + 2) 0 ∷ l) (ap (λ (i : ℕ). take 1 (drop i s)) y ∙ front_1 s (at + 3) 0 (omega arith))))

  pub two_is : Digits s at 2 → (a b : ℕ) → a ≡ get_or s at 0 - 48 → b ≡ get_or s (at + 1) 0 - 48 → a * 10 + b ≡ decimal (take 2 (drop at s))
  unfolding decimal_from
  two_is d a b ea eb = rw (front_2 (digits_in s at 2 d (omega arith))) (omega arith)

  pub three_is : Digits s at 3 → (a b c : ℕ) → a ≡ get_or s at 0 - 48 → b ≡ get_or s (at + 1) 0 - 48 → c ≡ get_or s (at + 2) 0 - 48 → a * 100 + b * 10 + c ≡ decimal (take 3 (drop at s))
  unfolding decimal_from
  three_is d a b c ea eb ec = rw (front_3 (digits_in s at 3 d (omega arith))) (omega arith)

  pub four_is : Digits s at 4 → (a b c e : ℕ) → a ≡ get_or s at 0 - 48 → b ≡ get_or s (at + 1) 0 - 48 → c ≡ get_or s (at + 2) 0 - 48 → e ≡ get_or s (at + 3) 0 - 48
      → a * 1000 + b * 100 + c * 10 + e ≡ decimal (take 4 (drop at s))
  unfolding decimal_from
  four_is d a b c e ea eb ec ee = rw (front_4 (digits_in s at 4 d (omega arith))) (omega arith)

pub ruleset few_laws = (digit_0, digit_1, digit_2, digit_3, place_fits, two_is, three_is, four_is)

-- ---- PRIVAL

pub over_not : (s : List ℕ) (at end : ℕ) → end ≡ at + run is_digit (drop at s) → end - at < 3 → false ≡ is_over s at
over_not s at end e h = rw (lt-leb 3 (run is_digit (drop at s)) (omega arith))

module _ (s : List ℕ) (at end : ℕ) (e : end ≡ at + run is_digit (drop at s)) where
  pub over_less : at ≤ end
  over_less = omega arith

  pub over_digits : 3 ≤ end - at → Digits s at 3
  over_digits h = record { digits = omega arith }

  pub over_is : 3 ≤ end - at → (v : ℕ) → v ≡ decimal (take 3 (drop at s)) → ltb 191 v ≡ is_over s at
  over_is h v ev = rw (le-leb 3 (run is_digit (drop at s)) (omega arith), ← ev)

pub ruleset over_laws = (over_not, over_less, over_digits, over_is)

-- a digit begins a run
digit_run_lem : (s : List ℕ) (i : ℕ) → is_digit (get_or s i 0) ≡ true → 1 ≤ run is_digit (drop i s)
digit_run_lem s i h =
    let l = digit_in s i h in
    let z : run is_digit (drop i s) ≡ suc (run is_digit (drop (i + 1) s)) = ap (run is_digit) (step s i l) ∙ run_yes is_digit (get_or s i 0) (drop (i + 1) s) h in
    omega arith

no_digit_run : (s : List ℕ) (i : ℕ) → is_digit (get_or s i 0) ≡ false → run is_digit (drop i s) ≡ 0
no_digit_run s i h =
    let z : is_digit (get_or (drop i s) 0 0) ≡ false = ap is_digit (get_or-drop i s 0 0 ∙ ap (λ (j : ℕ). get_or s j 0) (let y : i + 0 ≡ i = omega arith in y)) ∙ h in
    let l = run_stop is_digit (drop i s) 0 z in
    omega arith

zero_run : (x : List ℕ) → is_at x 0 48 ≡ true → 1 ≤ run is_digit x
zero_run x h = let z : run is_digit x ≡ suc (run is_digit (drop 1 x)) = ap (run is_digit) (at_cons x 0 47 h) ∙ run_yes is_digit 48 (drop 1 x) refl in omega arith

-- three digits or more that write too much
too_large : (x : List ℕ) → 3 ≤ run is_digit x → 191 < decimal (take 3 x) → only is_prival (repeat 3 is_digit) x ≡ failed
too_large x l v =
    by_test (λ b. leb (run is_digit x) 3 ≡ b → only is_prival (repeat 3 is_digit) x ≡ failed) (leb (run is_digit x) 3)
    (λ _ b.
    let w = leb-true (run is_digit x) 3 b in
    let z : run is_digit x ≡ 3 = omega arith in
    tested_no is_prival 3 is_digit x (and_no (not (zero_led (take (run is_digit x) x))) _ (rw z (lt-leb (decimal (take 3 x)) 191 v))))
    (λ _ b. tested_long is_prival 3 is_digit x (above 1 3 (run is_digit x) (leb-false (run is_digit x) 3 b)))
    refl

-- digits that begin with no zero and do not write too much are read as digits are
small : (x : List ℕ) → is_at x 0 48 ≡ false → (leb 3 (run is_digit x) && ltb 191 (decimal (take 3 x))) ≡ false
    → went_of (repeat 3 is_digit x) (repeat_far 3 is_digit x) ≡ went_of (only is_prival (repeat 3 is_digit) x) (prival_far x)
unfolding only repeat repeat_far prival_far
small x h o =
    by_test (λ w. within 1 3 (run is_digit x) ≡ w
    → went_of (if w then found (take (run is_digit x) x) (run is_digit x) else failed) (if leb 1 (run is_digit x) then 3 else 0)
    ≡ went_of (on_found (if w then found (take (run is_digit x) x) (run is_digit x) else failed) (λ a n. if is_prival a then found a n else failed))
    (if eqb (run is_digit x) 0 then 0 else if is_at x 0 48 then 1 else if leb (decimal (take 3 x)) 191 then 3 else 2)) (within 1 3 (run is_digit x))
    (λ _ w.
    let r = orders 1 3 (run is_digit x) w in
    let z : is_prival (take (run is_digit x) x) ≡ true = rw (not_led (run is_digit x) x r.0 h) (le-leb (decimal (take (run is_digit x) x)) 191 (in_range_lem r)) in
    rw z)
    (λ _ w.
    by_test (λ b. leb 1 (run is_digit x) ≡ b
    → ◌≡◌ {A = Result ℕ ℕ} (Err (if b then 3 else 0)) (Err (if eqb (run is_digit x) 0 then 0 else if is_at x 0 48 then 1 else if leb (decimal (take 3 x)) 191 then 3 else 2))) (leb 1 (run is_digit x))
    (λ _ b.
    let l = leb-true 1 (run is_digit x) b in
    let g = many l w in
    rw (ne_eqb (run is_digit x) 0 (λ z. omega arith), h, le-leb (decimal (take 3 x)) 191 (no_more (omega arith))))
    (λ _ b. let l = leb-false 1 (run is_digit x) b in rw (eq-eqb (run is_digit x) 0 (omega arith)))
    refl)
    refl
  where
    no_more : 3 ≤ run is_digit x → decimal (take 3 x) ≤ 191
    no_more l =
        by_test (λ q. ltb 191 (decimal (take 3 x)) ≡ q → decimal (take 3 x) ≤ 191) (ltb 191 (decimal (take 3 x)))
        (λ _ q. clash (sym (ap₂ ◌&&◌ (le-leb 3 (run is_digit x) l) q) ∙ o))
        (λ _ q. ltb-false 191 (decimal (take 3 x)) q)
        refl

    many : 1 ≤ run is_digit x → within 1 3 (run is_digit x) ≡ false → 4 ≤ run is_digit x
    many l w =
        by_test (λ q. leb (run is_digit x) 3 ≡ q → 4 ≤ run is_digit x) (leb (run is_digit x) 3)
        (λ _ q. clash (sym (inside 1 3 (run is_digit x) l (leb-true (run is_digit x) 3 q)) ∙ w))
        (λ _ q. leb-false (run is_digit x) 3 q)
        refl

    few : (n : ℕ) → n ≤ 2 → {v : ℕ} → v < 10 ^ n → v ≤ 191
    few zero l b = omega arith
    few (suc zero) l b = omega arith
    few (suc (suc zero)) l b = omega arith
    few (suc (suc (suc n))) l b = absurd (omega arith)

    in_range_lem : (1 ≤ run is_digit x) × (run is_digit x ≤ 3) → decimal (take (run is_digit x) x) ≤ 191
    in_range_lem r =
        by_test (λ q. leb (run is_digit x) 2 ≡ q → decimal (take (run is_digit x) x) ≤ 191) (leb (run is_digit x) 2)
        (λ _ q. few (run is_digit x) (leb-true (run is_digit x) 2 q) (decimal_front_lt x (run is_digit x) (omega arith)))
        (λ _ q.
        let l = leb-false (run is_digit x) 2 q in
        let z : run is_digit x ≡ 3 = omega (arith, r.1) in
        rw z (no_more (omega arith)))
        refl

-- a version is digits of which the first is no zero
version_led : (x : List ℕ) → is_at x 0 48 ≡ true → (only is_version (repeat 3 is_digit) x ≡ failed) × (version_far x ≡ 0)
unfolding version_far
version_led x h =
    let l = zero_run x h in
    (tested_no is_version 3 is_digit x (nonzero_test (run is_digit x) x l ∙ ap not h), rw (ne_eqb (run is_digit x) 0 (λ z. omega arith), h))

version_other : (x : List ℕ) → is_at x 0 48 ≡ false → went_of (repeat 3 is_digit x) (repeat_far 3 is_digit x) ≡ went_of (only is_version (repeat 3 is_digit) x) (version_far x)
unfolding only repeat repeat_far version_far
version_other x h =
    by_test (λ w. within 1 3 (run is_digit x) ≡ w
    → went_of (if w then found (take (run is_digit x) x) (run is_digit x) else failed) (if leb 1 (run is_digit x) then 3 else 0)
    ≡ went_of (on_found (if w then found (take (run is_digit x) x) (run is_digit x) else failed) (λ a n. if is_version a then found a n else failed))
    (if eqb (run is_digit x) 0 || is_at x 0 48 then 0 else 3)) (within 1 3 (run is_digit x))
    (λ _ w. let r = orders 1 3 (run is_digit x) w in let z = nonzero_test (run is_digit x) x r.0 ∙ ap not h in rw z)
    (λ _ w.
    by_test (λ b. leb 1 (run is_digit x) ≡ b → ◌≡◌ {A = Result ℕ ℕ} (Err (if b then 3 else 0)) (Err (if eqb (run is_digit x) 0 || is_at x 0 48 then 0 else 3))) (leb 1 (run is_digit x))
    (λ _ b. let l = leb-true 1 (run is_digit x) b in rw (ne_eqb (run is_digit x) 0 (λ z. omega arith), h))
    (λ _ b. let l = leb-false 1 (run is_digit x) b in rw (eq-eqb (run is_digit x) 0 (omega arith)))
    refl)
    refl

-- of digits that begin with a zero, the zero is gone on with
led_far : (x : List ℕ) → is_at x 0 48 ≡ true → prival_far x ≡ 1
unfolding prival_far
led_far x h =
    let r : (run is_digit x ≡ 0) → ⊥ = λ z. let l = zero_run x h in omega arith in
    rw (ne_eqb (run is_digit x) 0 r, h)

module _ (s : List ℕ) (at : ℕ) where
  prival_not : (k : ℕ) → only is_prival (repeat 3 is_digit) (drop at s) ≡ failed → prival_far (drop at s) ≡ k → Err (at + k) ≡ prival_at s at
  unfolding went_at
  prival_not k f g = sym (rw (f, g))

  prival_read : (t : List ℕ) (n : ℕ) → only is_prival (repeat 3 is_digit) (drop at s) ≡ found t n → Ok (at + n) ≡ prival_at s at
  unfolding went_at
  prival_read t n f = rw f

  module _ (t : Bool) (et : t ≡ is_at s at 48) where
    first_is : is_at (drop at s) 0 48 ≡ t
    first_is = at_here s at 48 ∙ sym et

    module _ (h : t ≡ true) where
      led : is_at (drop at s) 0 48 ≡ true
      led = first_is ∙ h

      after : drop 1 (drop at s) ≡ drop (at + 1) s
      after = drop-drop 1 at s

      run_led : run is_digit (drop at s) ≡ suc (run is_digit (drop (at + 1) s))
      run_led = ap (run is_digit) (at_cons (drop at s) 0 47 led) ∙ run_yes is_digit 48 (drop 1 (drop at s)) refl ∙ ap (λ (l : List ℕ). suc (run is_digit l)) after

      module _ (b : ℕ) (eb : b ≡ get_or s (at + 1) 0) (d : Bool) (ed : d ≡ is_digit b) where
        pub prival_led : d ≡ true → Err (at + 1) ≡ prival_at s at
        prival_led g =
            let z : is_digit (get_or s (at + 1) 0) ≡ true = sym (ap is_digit eb) ∙ sym ed ∙ g in
            let m = digit_run_lem s (at + 1) z in
            prival_not 1 (tested_no is_prival 3 is_digit (drop at s) (led_by_zero (run is_digit (drop at s)) (drop at s) (omega (arith, run_led)) (run_le is_digit (drop at s)) led)) (led_far (drop at s) led)

        pub prival_zero : d ≡ false → Ok (at + 1) ≡ prival_at s at
        prival_zero g =
            let z : is_digit (get_or s (at + 1) 0) ≡ false = sym (ap is_digit eb) ∙ sym ed ∙ g in
            let r : run is_digit (drop at s) ≡ 1 = run_led ∙ ap suc (no_digit_run s (at + 1) z) in
            let o : take (run is_digit (drop at s)) (drop at s) ≡ 48 ∷ [] = ap (λ (n : ℕ). take n (drop at s)) r ∙ ap (take 1) (at_cons (drop at s) 0 47 led) in
            ap Ok (let y : at + 1 ≡ at + run is_digit (drop at s) = omega arith in y)
            ∙ prival_read (take (run is_digit (drop at s)) (drop at s)) (run is_digit (drop at s)) (tested_yes is_prival 3 is_digit (drop at s) (rw r) (rw o zero_test))

    module _ (h : t ≡ false) where
      not_led_far : (1 ≤ run is_digit (drop at s)) → (x : Bool) → leb (decimal (take 3 (drop at s))) 191 ≡ x → prival_far (drop at s) ≡ (if x then 3 else 2)
      unfolding prival_far
      not_led_far l x e = rw (ne_eqb (run is_digit (drop at s)) 0 (λ z. omega arith), first_is, h, e)

      module _ (o : Bool) (eo : o ≡ is_over s at) where
        pub prival_over : o ≡ true → Err (at + 2) ≡ prival_at s at
        prival_over g =
            let (a, b) = both (leb 3 (run is_digit (drop at s))) (ltb 191 (decimal (take 3 (drop at s)))) (sym eo ∙ g) in
            let l = leb-true 3 (run is_digit (drop at s)) a in
            let v = ltb-true 191 (decimal (take 3 (drop at s))) b in
            prival_not 2 (too_large (drop at s) l v) (not_led_far (omega arith) false (lt-leb (decimal (take 3 (drop at s))) 191 v))

        pub prival_over_fits : o ≡ true → length s < 2 ^ 64 → Fits w64 (at + 2)
        prival_over_fits g m =
            let (a, b) = both (leb 3 (run is_digit (drop at s))) (ltb 191 (decimal (take 3 (drop at s)))) (sym eo ∙ g) in
            let l = leb-true 3 (run is_digit (drop at s)) a in
            let w = run_le is_digit (drop at s) in
            let q = length-drop at s in
            record { fits = omega arith }

        pub prival_small : o ≡ false → (x : Result ℕ ℕ) → x ≡ digits_at 3 s at → x ≡ prival_at s at
        unfolding went_at
        prival_small g x e = e ∙ ap (onward_of at) (small (drop at s) (first_is ∙ h) (sym eo ∙ g))

pub ruleset prival_laws = (prival_led, prival_zero, prival_over, prival_over_fits, prival_small)

-- ---- VERSION

module _ (s : List ℕ) (at : ℕ) (t : Bool) (et : t ≡ is_at s at 48) where
  pub version_zero : t ≡ true → Err at ≡ version_at s at
  unfolding went_at
  version_zero h = let z = version_led (drop at s) (at_here s at 48 ∙ sym et ∙ h) in sym (rw (z.0, z.1) (ap Err (let y : at + 0 ≡ at = omega arith in y)))

  pub version_digits : t ≡ false → (x : Result ℕ ℕ) → x ≡ digits_at 3 s at → x ≡ version_at s at
  unfolding went_at
  version_digits h x e = e ∙ ap (onward_of at) (version_other (drop at s) (at_here s at 48 ∙ sym et ∙ h))

pub ruleset version_laws = (version_zero, version_digits)
