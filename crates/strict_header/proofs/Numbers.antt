-- Numbers of the header, between the bytes that enclose them.
use Rattle.std.specs.Prelude.{if◌then◌else◌, Option, Some, None}
use Prim.Native.Nat.{ℕ, zero, suc, ◌+◌, ◌-◌, ◌*◌, ◌^◌, ◌≤◌, ◌<◌}
use mathlib.Core.Path.{◌≡◌, refl, sym, ap, ◌∙◌}
use mathlib.Core.Bool.{Bool, true, false, not, ◌&&◌, and-false}
use mathlib.Core.List.{List, [], ◌∷◌}
use native.Mathlib.Nat.{pow-le-pow_right, mul-le-mul_right}
use native.Mathlib.Decide.{dec_le}
use native.Mathlib.Omega.{arith}
use lib.Dec.{leb, ltb}
use lib.ListN.{length, take, drop, length-drop}
use lib.Seq.{length-take-le, get_or-take}
use mir.Syntax.{w64}
use mir.Val.{Fits}
use borrow.Author.Tests.{le-leb, leb-true, ltb-false, eqb-false}
use Rattle.base.specs.Choose.{within, is_at}
use Rattle.base.specs.Runs.{run}
use Rattle.base.proofs.Tests.{both, by_test, told}
use Rattle.base.proofs.Ranges.{inside}
use Rattle.base.proofs.Runs.{run_le}
use Rattle.digits.specs.Digits.{is_digit, digit_run, decimal_from, decimal, number_at, fixed_at}
use Rattle.digits.proofs.Choices.{not_chosen}
use Rattle.digits.proofs.Decimals.{digit_low, decimal_front, decimal_front_lt}
use Rattle.digits.proofs.Numbers.{IsNumber, number_is}
use Rattle.digits.proofs.Fixed.{fixed_len}
use Rattle.grammar.specs.Line.{zero_led}
use Rattle.grammar.specs.Parse.{on_found, never, only, repeat, fixed, is_version, pri, version, pri_version, two}
use Rattle.grammar.specs.Parse.Parsed.{failed, found}
use Rattle.grammar.proofs.Header.{pri_reads, version_reads}
use Rattle.strict_header.specs.Pieces.{value_of, plain_to, minutes_of, pair, triple, ending, ids_at, names_at, text_at}
use Rattle.strict_header.proofs.Steps.{untold, there, byte_laws, sum_fits, finds_within, next_failed, next_not, next_found, closed_failed, closed_open, closed_found, first_failed, first_found, other_failed, never_failed}
use Rattle.strict_header.proofs.Answers.{value_found, value_none, value_some, failed_answer, pair_found}

-- ---- a number of at most three digits

-- a zero in front of other digits, from the bytes themselves
led : (s : List ℕ) (n : ℕ) → 1 ≤ n → n ≤ length s → zero_led (take n s) ≡ is_at s 0 48 && ltb 1 n
led s n h l = rw (get_or-take n s 0 0, length-take-le n s l)

-- with no zero in front, a number of at most 999 has at most three digits
few : (s : List ℕ) (n : ℕ) → n ≤ digit_run s → is_at s 0 48 ≡ false → decimal (take n s) ≤ 999 → n ≤ 3
unfolding run decimal_from
few [] n h e l = omega arith
few (b ∷ s) zero h e l = omega arith
few (b ∷ s) (suc n) h e l =
    by_test (λ t. suc n ≤ (if t then suc (digit_run s) else 0) → suc n ≤ 3) (is_digit b) (λ d k. go (dec_le n 2) d k) (λ d k. absurd (omega arith)) h
  where
    go : Dec (n ≤ 2) → is_digit b ≡ true → suc n ≤ suc (digit_run s) → suc n ≤ 3
    go (yes p) d k = omega arith
    go (no p) d k =
        let w : length (take n s) ≡ n = length-take-le n s (omega (arith, run_le is_digit s)) in
        let q : 10 ^ 3 ≤ 10 ^ n = pow-le-pow_right (omega arith) {i = 3} {j = n} (omega arith) in
        let m : 1 * 10 ^ n ≤ (b - 48) * 10 ^ n = mul-le-mul_right (10 ^ n) (omega (arith, digit_low b d, eqb-false b 48 e)) in
        let f : decimal_from (0 * 10 + (b - 48)) (take n s) ≡ (0 * 10 + (b - 48)) * 10 ^ n + decimal (take n s) = rw w at (decimal_front (0 * 10 + (b - 48)) (take n s)) in
        omega arith

abbrev plain : ℕ → List ℕ → Option (ℕ × ℕ)
plain max s = value_of decimal (only (plain_to max) (repeat 3 is_digit) s)

-- where the digits that stand in front are no such number, nothing is found
not_plain : (s : List ℕ) (max : ℕ) → (leb 1 (digit_run s) ≡ true → plain_to max (take (digit_run s) s) ≡ false) → None ≡ plain max s
unfolding only repeat
not_plain s max e =
    let k = digit_run s in
    by_test (λ b. None ≡ value_of decimal (on_found (if b then found (take k s) k else failed) (λ a n. if plain_to max a then found a n else failed)))
    (within 1 3 k) (λ w. rw (e (both (leb 1 k) (leb k 3) w).0)) (λ w. refl)

module _ (s : List ℕ) (max : ℕ) (f : Option (ℕ × ℕ)) (ef : f ≡ number_at max s) where
  pub number_none : f ≡ None → None ≡ plain max s
  unfolding number_at
  number_none e =
      let v = decimal (take (digit_run s) s) in
      let t : (leb 1 (digit_run s) && leb v max) ≡ false = not_chosen _ _ _ (sym ef ∙ e) in
      not_plain s max (λ h. let q : leb v max ≡ false = rw h at t in rw (q, and-false))

  module _ (v n : ℕ) (ev : f ≡ Some (v, n)) (t : Bool) (et : t ≡ is_at s 0 48) where
    is : IsNumber max s v n
    is = number_is max s v n (sym ef ∙ ev)

    zero_in_front : zero_led (take n s) ≡ t && ltb 1 n
    zero_in_front = rw et (led s n is.some (omega (arith, is.whole, run_le is_digit s)))

    pub number_led : (t && ltb 1 n) ≡ true → None ≡ plain max s
    number_led h = not_plain s max (λ _. rw (← is.whole, zero_in_front, h))

    short : (t && ltb 1 n) ≡ false → max ≤ 999 → n ≤ 3
    short h m =
        by_test (λ b. (b && ltb 1 n) ≡ false → t ≡ b → n ≤ 3) t (λ _ z _. omega (arith, ltb-false 1 n z))
        (λ z _ _. few s n (omega (arith, is.whole)) (sym et ∙ z) (omega (arith, is.value, is.small))) h refl

    pub number_plain : (t && ltb 1 n) ≡ false → max ≤ 999 → Some (v, n) ≡ plain max s
    unfolding only repeat
    number_plain h m =
        rw (← is.whole, inside 1 3 n is.some (short h m), zero_in_front, h, ← is.value, le-leb v max is.small)
        (ap (λ (k : ℕ). Some (k, n)) is.value)

pub ruleset number_laws = (number_none, number_led, number_plain)

-- ---- between their bytes

module _ (s : List ℕ) (t : Bool) (et : t ≡ is_at s 0 60) where
  pub pri_no : not t ≡ true → None ≡ value_of decimal (pri s)
  unfolding pri
  pri_no h = failed_answer (value_of decimal) (other_failed 60 _ never (untold t _ et h) (never_failed s))

  module _ (h : not t ≡ false) (r : List ℕ) (er : r ≡ drop 1 s) (f : Option (ℕ × ℕ)) (ef : f ≡ plain 191 r) where
    pub pri_none : f ≡ None → None ≡ value_of decimal (pri s)
    unfolding pri
    pri_none e = failed_answer (value_of decimal) (first_failed 60 _ never (told t _ et h) er (closed_failed (value_none decimal ef e) 62))

    module _ (v n : ℕ) (ev : f ≡ Some (v, n)) (u : Bool) (eu : u ≡ is_at r n 62) where
      pub pri_open : not u ≡ true → None ≡ value_of decimal (pri s)
      unfolding pri
      pri_open k = failed_answer (value_of decimal) (first_failed 60 _ never (told t _ et h) er (closed_open (value_some decimal ef ev) 62 (untold u _ eu k)))

      pub pri_is : not u ≡ false → Some (v, n + 2) ≡ value_of decimal (pri s)
      unfolding pri
      pri_is k = let q : n + 2 ≡ n + 1 + 1 = omega arith in rw q (value_found decimal (first_found 60 _ never (told t _ et h) er (closed_found (value_some decimal ef ev) 62 (told u _ eu k))))

      pub pri_fits : not u ≡ false → length s < 2 ^ 64 → Fits w64 (n + 2)
      pri_fits k l =
          let m : length r ≡ length s - 1 = ap length er ∙ length-drop 1 s in
          record { fits = omega (arith, there r n 62 u eu k (omega arith)) }

pub ruleset pri_laws = (byte_laws, pri_fits, pri_no, pri_none, pri_open, pri_is)

module _ (s : List ℕ) (t : Bool) (et : t ≡ is_at s 0 48) where
  -- the first byte of the digits is the first of all
  first_digit : (n : ℕ) → 1 ≤ n → is_at (take n s) 0 48 ≡ is_at s 0 48
  first_digit n h = rw (get_or-take n s 0 0)

  pub version_zero : t ≡ true → None ≡ value_of decimal (version s)
  unfolding version only repeat
  version_zero h =
      let k = digit_run s in
      failed_answer (value_of decimal) (closed_failed {p = only is_version (repeat 3 is_digit)} (record {
        is =
            by_test (λ b. on_found (if b then found (take k s) k else failed) (λ a n. if is_version a then found a n else failed) ≡ failed)
            (within 1 3 k) (λ w. rw (first_digit k (leb-true 1 k (both (leb 1 k) (leb k 3) w).0), ← et, h)) (λ w. refl);
      }) 32)

  module _ (h : t ≡ false) where
    same : only (plain_to 999) (repeat 3 is_digit) s ≡ only is_version (repeat 3 is_digit) s
    unfolding only repeat
    same =
        let k = digit_run s in
        by_test (λ b. on_found (if b then found (take k s) k else failed) (λ a n. if plain_to 999 a then found a n else failed) ≡ on_found (if b then found (take k s) k else failed) (λ a n. if is_version a then found a n else failed))
        (within 1 3 k)
        (λ w.
        let u = both (leb 1 k) (leb k 3) w in
        let q : decimal (take k s) < 10 ^ k = decimal_front_lt s k (omega arith) in
        let l : 10 ^ k ≤ 10 ^ 3 = pow-le-pow_right (omega arith) {i = k} {j = 3} (leb-true k 3 u.1) in
        rw (first_digit k (leb-true 1 k u.0), ← et, h, le-leb (decimal (take k s)) 999 (omega arith)))
        (λ w. refl)

    module _ (f : Option (ℕ × ℕ)) (ef : f ≡ plain 999 s) where
      is_version_lem : f ≡ value_of decimal (only is_version (repeat 3 is_digit) s)
      is_version_lem = ef ∙ ap (value_of decimal) same

      pub version_none : f ≡ None → None ≡ value_of decimal (version s)
      unfolding version
      version_none e = failed_answer (value_of decimal) (closed_failed (value_none decimal is_version_lem e) 32)

      module _ (v n : ℕ) (ev : f ≡ Some (v, n)) (u : Bool) (eu : u ≡ is_at s n 32) where
        pub version_open : not u ≡ true → None ≡ value_of decimal (version s)
        unfolding version
        version_open k = failed_answer (value_of decimal) (closed_open (value_some decimal is_version_lem ev) 32 (untold u _ eu k))

        pub version_is : not u ≡ false → Some (v, n + 1) ≡ value_of decimal (version s)
        unfolding version
        version_is k = value_found decimal (closed_found (value_some decimal is_version_lem ev) 32 (told u _ eu k))

pub ruleset version_laws = (byte_laws, version_zero, version_none, version_open, version_is)

-- ---- the priority and the version

module _ (s : List ℕ) (f : Option (ℕ × ℕ)) (v n : ℕ) where
  pub pri_within : f ≡ value_of decimal (pri s) → f ≡ Some (v, n) → n ≤ length s
  pri_within e h = finds_within (value_some decimal e h) pri_reads

  pub version_within : f ≡ value_of decimal (version s) → f ≡ Some (v, n) → n ≤ length s
  version_within e h = finds_within (value_some decimal e h) version_reads

module _ (s : List ℕ) (f : Option (ℕ × ℕ)) (ef : f ≡ value_of decimal (pri s)) where
  pub start_no_pri : f ≡ None → None ≡ value_of pair (pri_version s)
  unfolding pri_version
  start_no_pri e = failed_answer (value_of pair) (next_failed (value_none decimal ef e) version)

  module _ (x m : ℕ) (hf : f ≡ Some (x, m)) (r : List ℕ) (er : r ≡ drop m s) (g : Option (ℕ × ℕ)) (eg : g ≡ value_of decimal (version r)) where
    pub start_no_version : g ≡ None → None ≡ value_of pair (pri_version s)
    unfolding pri_version
    start_no_version e = failed_answer (value_of pair) (next_not (value_some decimal ef hf) er (value_none decimal eg e))

    pub start_is : (y n : ℕ) → g ≡ Some (y, n) → Some ((x, y), (m + n)) ≡ value_of pair (pri_version s)
    unfolding pri_version
    start_is y n e = pair_found (next_found (value_some decimal ef hf) er (value_some decimal eg e))

pub ruleset start_laws = (pri_within, version_within, sum_fits, start_no_pri, start_no_version, start_is)

-- ---- two digits after a byte

pub fixed_of : (k : ℕ) (s : List ℕ) → fixed_at k s ≡ value_of decimal (fixed k s)
unfolding fixed_at fixed
fixed_of k s = by_test (λ b. (if b then Some (decimal (take k s), k) else None) ≡ value_of decimal (if b then found (take k s) k else failed)) (leb k (digit_run s)) (λ e. refl) (λ e. refl)

module _ (s : List ℕ) (b : ℕ) (t : Bool) (et : t ≡ is_at s 0 b) where
  pub two_no : not t ≡ true → None ≡ value_of decimal (two b s)
  two_no h = failed_answer (value_of decimal) (other_failed b (fixed 2) never (untold t _ et h) (never_failed s))

  module _ (h : not t ≡ false) (r : List ℕ) (er : r ≡ drop 1 s) (f : Option (ℕ × ℕ)) (ef : f ≡ fixed_at 2 r) where
    pub two_none : f ≡ None → None ≡ value_of decimal (two b s)
    two_none e = failed_answer (value_of decimal) (first_failed b (fixed 2) never (told t _ et h) er (value_none decimal (ef ∙ fixed_of 2 r) e))

    module _ (v n : ℕ) (ev : f ≡ Some (v, n)) where
      pub two_is : Some (v, n + 1) ≡ value_of decimal (two b s)
      two_is = value_found decimal (first_found b (fixed 2) never (told t _ et h) er (value_some decimal (ef ∙ fixed_of 2 r) ev))

      pub two_fits : Fits w64 (n + 1)
      two_fits = record { fits = omega (arith, (fixed_len 2 r v n (sym ef ∙ ev)).0) }

pub ruleset two_laws = (byte_laws, two_no, two_none, two_is, two_fits)
