-- Numbers of two digits in a range, and days of a month.
use Rattle.std.specs.Prelude.{if◌then◌else◌, Result, Ok, Err}
use Prim.Native.Nat.{ℕ, suc, ◌+◌, ◌-◌, ◌*◌, ◌^◌, ◌≤◌, ◌<◌}
use mathlib.Core.Path.{◌≡◌, refl, sym, ap, ◌∙◌}
use mathlib.Core.Bool.{Bool, true, false, not, ◌&&◌, ◌||◌}
use mathlib.Core.List.{List, [], ◌∷◌, ◌++◌}
use native.Mathlib.Omega.{arith}
use mir.Syntax.{w8, w64}
use mir.Val.{Fits}
use lib.ListN.{length, get_or, take, drop, length-append}
use lib.Seq.{get_or-drop, drop-drop, take_at}
use lib.Dec.{leb, ltb}
use borrow.Author.Tests.{le-leb, lt-leb, leb-true, leb-false, ltb-true, ltb-false, not-true, not-false}
use Rattle.base.specs.Choose.{within}
use Rattle.base.specs.Runs.{run}
use Rattle.base.proofs.Tests.{clash, by_test}
use Rattle.base.proofs.Ranges.{inside, above, below, orders}
use Rattle.base.proofs.Parts.{step}
use Rattle.base.proofs.Runs.{run_least, all_at}
use Rattle.digits.specs.Digits.{decimal, decimal_from}
use Rattle.calendar.specs.Calendar.{leap, months, row, month_days, valid_date}
use Rattle.grammar.specs.Abnf.{is_digit}
use Rattle.grammar.specs.Parse.{fixed, date}
use Rattle.grammar.specs.Parse.Parsed.{failed, found}
use Rattle.grammar.proofs.Readers.{behind_reads}
use Rattle.viable.specs.Far.{next_far, follow}
use Rattle.viable.specs.Leaves.{fixed_far, ranged, ranged_far, is_tens}
use Rattle.viable.specs.Reach.{two_in, two_in_far, date_by, date_far}
use Rattle.viable.specs.Walks.{went_at}
use Rattle.viable.proofs.Leaves.{ranged_reads}
use Rattle.viable.proofs.Header.{date_same}
use Rattle.viable.proofs.Walks.{Passed, got_past, follow_stuck, follow_on, same_walk}
use Rattle.reach_header.specs.Pieces.{Digits, Month, ranged_at, two_at, date_at}
use Rattle.reach_header.proofs.Numbers.{digit_in}

-- ---- 2DIGIT ; lo-hi

-- how far two digits go that are none of the range
abbrev tens_far : ℕ → ℕ → ℕ → ℕ
tens_far lo hi b = if is_tens lo hi b then 1 else 0

-- no digit in front
no_tens : (lo hi : ℕ) (x : List ℕ) → is_digit (get_or x 0 0) ≡ false → ranged lo hi x ≡ failed
unfolding ranged
no_tens lo hi [] h = refl
no_tens lo hi (c ∷ []) h = refl
no_tens lo hi (c ∷ d ∷ x) h = rw h

-- a digit in front
some_tens : (lo hi b : ℕ) (x : List ℕ) → is_digit b ≡ true
    → ranged lo hi (b ∷ x) ≡ (if is_digit (get_or x 0 0) && within lo hi ((b - 48) * 10 + (get_or x 0 0 - 48)) then found (b ∷ get_or x 0 0 ∷ []) 2 else failed)
unfolding ranged decimal_from
some_tens lo hi b [] h = refl
some_tens lo hi b (c ∷ x) h =
    let z : (0 * 10 + (b - 48)) * 10 + (c - 48) ≡ (b - 48) * 10 + (c - 48) = omega arith in
    rw (h, z)

not_either : (a b : Bool) → (a || b) ≡ false → (a ≡ false) × (b ≡ false)
not_either false b h = (refl, h)
not_either true b h = clash h

out_of : (lo hi v : ℕ) → (ltb v lo || ltb hi v) ≡ true → within lo hi v ≡ false
out_of lo hi v h =
    by_test (λ t. ltb v lo ≡ t → (t || ltb hi v) ≡ true → within lo hi v ≡ false) (ltb v lo)
    (λ _ t _. below lo hi v (ltb-true v lo t)) (λ _ t g. above lo hi v (ltb-true hi v g)) refl h

in_of : (lo hi v : ℕ) → (ltb v lo || ltb hi v) ≡ false → within lo hi v ≡ true
in_of lo hi v h = let (p, q) = not_either (ltb v lo) (ltb hi v) h in inside lo hi v (ltb-false v lo p) (ltb-false hi v q)

module _ (s : List ℕ) (at lo hi b : ℕ) (eb : b ≡ get_or s at 0) (d : Bool) (ed : d ≡ is_digit b) where
  front : get_or (drop at s) 0 0 ≡ b
  front = get_or-drop at s 0 0 ∙ ap (λ (i : ℕ). get_or s i 0) (let z : at + 0 ≡ at = omega arith in z) ∙ sym eb

  -- not read, and where it breaks
  ranged_not : (k : ℕ) → ranged lo hi (drop at s) ≡ failed → tens_far lo hi b ≡ k → Err (at + k) ≡ ranged_at lo hi s at
  unfolding went_at ranged_far
  ranged_not k f g = sym (rw (f, front, g))

  here_0 : at ≡ at + 0
  here_0 = omega arith

  pub ranged_none : not d ≡ true → Err at ≡ ranged_at lo hi s at
  ranged_none h =
      let z : is_digit b ≡ false = sym ed ∙ not-true d h in
      ap Err here_0 ∙ ranged_not 0 (no_tens lo hi (drop at s) (ap is_digit front ∙ z)) (rw z)

  module _ (h : not d ≡ false) where
    is_digit_lem : is_digit b ≡ true
    is_digit_lem = sym ed ∙ not-false d h

    pub tens_low : 48 ≤ b
    tens_low = (orders 48 57 b is_digit_lem).0

    pub tens_fits : Fits w8 ((b - 48) * 10)
    tens_fits = let o = orders 48 57 b is_digit_lem in record { fits = omega arith }

    pub tens_more_fits : Fits w8 ((b - 48) * 10 + 9)
    tens_more_fits = let o = orders 48 57 b is_digit_lem in record { fits = omega arith }

    in_line : at < length s
    in_line = digit_in s at (sym (ap is_digit eb) ∙ is_digit_lem)

    pub one_fits : length s < 2 ^ 64 → Fits w64 (at + 1)
    one_fits m = let l = in_line in record { fits = omega arith }

    opened : drop at s ≡ b ∷ drop (at + 1) s
    opened = step s at in_line ∙ ap (λ (x : ℕ). x ∷ drop (at + 1) s) (sym eb)

    next_is : get_or (drop (at + 1) s) 0 0 ≡ get_or s (at + 1) 0
    next_is = get_or-drop (at + 1) s 0 0 ∙ ap (λ (i : ℕ). get_or s i 0) (let z : at + 1 + 0 ≡ at + 1 = omega arith in z)

    told : ranged lo hi (drop at s)
        ≡ (if is_digit (get_or s (at + 1) 0) && within lo hi ((b - 48) * 10 + (get_or s (at + 1) 0 - 48)) then found (b ∷ get_or s (at + 1) 0 ∷ []) 2 else failed)
    told =
        ap (ranged lo hi) opened ∙ some_tens lo hi b (drop (at + 1) s) is_digit_lem
        ∙ ap (λ (x : ℕ). if is_digit x && within lo hi ((b - 48) * 10 + (x - 48)) then found (b ∷ x ∷ []) 2 else failed) next_is

    -- a number of the range has such a first digit
    pub ranged_tens : (ltb ((b - 48) * 10 + 9) lo || ltb hi ((b - 48) * 10)) ≡ true → Err at ≡ ranged_at lo hi s at
    ranged_tens g =
        ap Err here_0 ∙ ranged_not 0 (told ∙ no_value) off
      where
        off : tens_far lo hi b ≡ 0
        off =
            by_test (λ t. ltb ((b - 48) * 10 + 9) lo ≡ t → (t || ltb hi ((b - 48) * 10)) ≡ true → tens_far lo hi b ≡ 0) (ltb ((b - 48) * 10 + 9) lo)
            (λ _ t _. rw (is_digit_lem, lt-leb lo ((b - 48) * 10 + 9) (ltb-true ((b - 48) * 10 + 9) lo t)))
            (λ _ t q. rw (is_digit_lem, le-leb lo ((b - 48) * 10 + 9) (ltb-false ((b - 48) * 10 + 9) lo t), lt-leb ((b - 48) * 10) hi (ltb-true hi ((b - 48) * 10) q)))
            refl g

        no_value : (if is_digit (get_or s (at + 1) 0) && within lo hi ((b - 48) * 10 + (get_or s (at + 1) 0 - 48)) then found (b ∷ get_or s (at + 1) 0 ∷ []) 2 else failed) ≡ failed
        no_value =
            by_test (λ t. is_digit (get_or s (at + 1) 0) ≡ t → (if t && within lo hi ((b - 48) * 10 + (get_or s (at + 1) 0 - 48)) then found (b ∷ get_or s (at + 1) 0 ∷ []) 2 else failed) ≡ failed) (is_digit (get_or s (at + 1) 0))
            (λ _ t.
            let o = orders 48 57 (get_or s (at + 1) 0) t in
            let v : within lo hi ((b - 48) * 10 + (get_or s (at + 1) 0 - 48)) ≡ false = by_test (λ q. ltb ((b - 48) * 10 + 9) lo ≡ q → (q || ltb hi ((b - 48) * 10)) ≡ true → within lo hi ((b - 48) * 10 + (get_or s (at + 1) 0 - 48)) ≡ false) (ltb ((b - 48) * 10 + 9) lo)
            (λ _ q _. let l = ltb-true ((b - 48) * 10 + 9) lo q in below lo hi ((b - 48) * 10 + (get_or s (at + 1) 0 - 48)) (omega arith))
            (λ _ q r. let l = ltb-true hi ((b - 48) * 10) r in above lo hi ((b - 48) * 10 + (get_or s (at + 1) 0 - 48)) (omega arith))
            refl g in
            rw v)
            (λ _ t. refl)
            refl

    module _ (g : (ltb ((b - 48) * 10 + 9) lo || ltb hi ((b - 48) * 10)) ≡ false) (c : ℕ) (ec : c ≡ get_or s (at + 1) 0) (f : Bool) (ef : f ≡ is_digit c) where
      tens_on : is_tens lo hi b ≡ true
      tens_on =
          let (p, q) = not_either (ltb ((b - 48) * 10 + 9) lo) (ltb hi ((b - 48) * 10)) g in
          rw (is_digit_lem, le-leb lo ((b - 48) * 10 + 9) (ltb-false ((b - 48) * 10 + 9) lo p), le-leb ((b - 48) * 10) hi (ltb-false hi ((b - 48) * 10) q))

      tens_far_lem : tens_far lo hi b ≡ 1
      tens_far_lem = rw tens_on

      pub ranged_one : not f ≡ true → Err (at + 1) ≡ ranged_at lo hi s at
      ranged_one k =
          let z : is_digit (get_or s (at + 1) 0) ≡ false = sym (ap is_digit ec) ∙ sym ef ∙ not-true f k in
          ranged_not 1 (told ∙ rw z) tens_far_lem

      module _ (k : not f ≡ false) where
        is_ones : is_digit c ≡ true
        is_ones = sym ef ∙ not-false f k

        pub ones_low : 48 ≤ c
        ones_low = (orders 48 57 c is_ones).0

        pub value_fits : Fits w8 ((b - 48) * 10 + (c - 48))
        value_fits = let o = orders 48 57 b is_digit_lem in let q = orders 48 57 c is_ones in record { fits = omega arith }

        told_value : (t : Bool) → within lo hi ((b - 48) * 10 + (c - 48)) ≡ t → ranged lo hi (drop at s) ≡ (if t then found (b ∷ c ∷ []) 2 else failed)
        told_value t e =
            told ∙ ap (λ (x : ℕ). if is_digit x && within lo hi ((b - 48) * 10 + (x - 48)) then found (b ∷ x ∷ []) 2 else failed) (sym ec) ∙ rw (is_ones, e)

        pub ranged_off : (ltb ((b - 48) * 10 + (c - 48)) lo || ltb hi ((b - 48) * 10 + (c - 48))) ≡ true → Err (at + 1) ≡ ranged_at lo hi s at
        ranged_off q = ranged_not 1 (told_value false (out_of lo hi ((b - 48) * 10 + (c - 48)) q)) tens_far_lem

        pub ranged_on : (ltb ((b - 48) * 10 + (c - 48)) lo || ltb hi ((b - 48) * 10 + (c - 48))) ≡ false → Ok (at + 2) ≡ ranged_at lo hi s at
        unfolding went_at
        ranged_on q = sym (rw (told_value true (in_of lo hi ((b - 48) * 10 + (c - 48)) q)))

        pub two_fits : length s < 2 ^ 64 → Fits w64 (at + 2)
        two_fits m = let l = digit_in s (at + 1) (sym (ap is_digit ec) ∙ is_ones) in record { fits = omega arith }

pub ruleset ranged_laws = (ranged_none, tens_low, tens_fits, tens_more_fits, one_fits, ranged_tens, ranged_one, ones_low, value_fits, ranged_off, ranged_on, two_fits)

-- ---- the last day of a month

module _ (y m : ℕ) (h : Month m) where
  day_is : (d : ℕ) → valid_date y m d ≡ within 1 (month_days y m) d
  unfolding valid_date
  day_is d = rw (inside 1 12 m h.first h.last)

  days_low : 28 ≤ month_days y m
  unfolding month_days
  days_low = leb-true 28 _ (go (leap y))
    where
      go : (b : Bool) → leb 28 (get_or (get_or months (row b) []) (m - 1) 0) ≡ true
      go true = all_at (λ d. leb 28 d) (get_or months 1 []) (m - 1) (search depth 16) (omega (arith, h.first, h.last))
      go false = all_at (λ d. leb 28 d) (get_or months 0 []) (m - 1) (search depth 16) (omega (arith, h.first, h.last))

  days_high : month_days y m ≤ 31
  unfolding month_days
  days_high = leb-true _ 31 (go (leap y))
    where
      go : (b : Bool) → leb (get_or (get_or months (row b) []) (m - 1) 0) 31 ≡ true
      go true = all_at (λ d. leb d 31) (get_or months 1 []) (m - 1) (search depth 16) (omega (arith, h.first, h.last))
      go false = all_at (λ d. leb d 31) (get_or months 0 []) (m - 1) (search depth 16) (omega (arith, h.first, h.last))

  has : (d : ℕ) (t : Bool) → t ≡ valid_date y m d → t ≡ true → d ≤ month_days y m
  has d t e g = (orders 1 (month_days y m) d (sym (day_is d) ∙ sym e ∙ g)).1

  lacks : (d : ℕ) (t : Bool) → 1 ≤ d → t ≡ valid_date y m d → t ≡ false → month_days y m < d
  lacks d t l e g =
      by_test (λ b. leb d (month_days y m) ≡ b → month_days y m < d) (leb d (month_days y m))
      (λ _ b. clash (sym (inside 1 (month_days y m) d l (leb-true d (month_days y m) b)) ∙ sym (day_is d) ∙ sym e ∙ g))
      (λ _ b. leb-false d (month_days y m) b)
      refl

  module _ (t : Bool) (et : t ≡ valid_date y m 31) where
    pub last_31 : t ≡ true → 31 ≡ month_days y m
    last_31 g = let a = has 31 t et g in let b = days_high in omega arith

    module _ (g : t ≡ false) (u : Bool) (eu : u ≡ valid_date y m 30) where
      pub last_30 : u ≡ true → 30 ≡ month_days y m
      last_30 k = let a = has 30 u eu k in let b = lacks 31 t (omega arith) et g in omega arith

      module _ (k : u ≡ false) (v : Bool) (ev : v ≡ valid_date y m 29) where
        pub last_29 : v ≡ true → 29 ≡ month_days y m
        last_29 l = let a = has 29 v ev l in let b = lacks 30 u (omega arith) eu k in omega arith

        pub last_28 : v ≡ false → 28 ≡ month_days y m
        last_28 l = let a = days_low in let b = lacks 29 v (omega arith) ev l in omega arith

pub ruleset last_laws = (last_31, last_30, last_29, last_28)

-- ---- FULL-DATE

-- the two digits of a number that was read after a byte
record Two (s : List ℕ) (at lo hi n : ℕ) (a : List ℕ) : Type 0 where
  here : a ≡ take 2 (drop (at + 1) s)
  digits : 2 ≤ run is_digit (drop (at + 1) s)
  range : within lo hi (decimal a) ≡ true
  ends : n ≡ at + 3

two_read : (s : List ℕ) (at b lo hi n : ℕ) (p : Passed (two_in (suc b) lo hi (drop at s)) at n) → Two s at lo hi n p.value
two_read s at b lo hi n p =
    let a = p.value in
    let f = (behind_reads b (ranged_reads lo hi)).sound (drop at s) a p.bytes p.is in
    let r = f.ok.0 in
    let l : length a ≡ 2 = omega (arith, r.at_least, r.at_most) in
    let d : drop (at + 1) s ≡ a ++ drop p.bytes (drop at s) = sym (drop-drop 1 at s) ∙ ap (drop 1) f.split in
    let q : p.bytes ≡ suc (length a + length {A = ℕ} []) = f.size ∙ ap suc (length-append a []) in
    record {
      here = sym (ap (take 2) d ∙ take_at a (drop p.bytes (drop at s)) 2 l);
      digits = rw d (let z = run_least is_digit a (drop p.bytes (drop at s)) r.all in omega arith);
      range = f.ok.1;
      ends = omega (arith, p.sum);
    }

module _ (s : List ℕ) (at end : ℕ) (e : end ≡ at + run is_digit (drop at s)) where
  pub date_less : at ≤ end
  date_less = omega arith

  by_date : (x : Result ℕ ℕ) → x ≡ went_at date_by date_far s at → x ≡ date_at s at
  by_date x q = q ∙ sym (same_walk date date_by date_same date_far s at)

  pub date_short : end - at < 4 → Err end ≡ date_at s at
  unfolding date_by date_far went_at fixed fixed_far
  date_short h =
      let l : run is_digit (drop at s) < 4 = omega arith in
      let w : Err end ≡ went_at (fixed 4) fixed_far s at = rw (lt-leb 4 (run is_digit (drop at s)) l) (ap Err e) in
      by_date (Err end) (follow_stuck (fixed 4) _ fixed_far _ s at (Err end) w end refl)

  module _ (h : 4 ≤ end - at) where
    pub date_digits : Digits s at 4
    date_digits = record { digits = omega arith }

    pub date_4_fits : end < 2 ^ 64 → Fits w64 (at + 4)
    date_4_fits m = record { fits = omega arith }

    year : Ok (at + 4) ≡ went_at (fixed 4) fixed_far s at
    unfolding went_at fixed
    year = rw (le-leb 4 (run is_digit (drop at s)) (omega arith))

    year_is : (got_past (fixed 4) fixed_far s at (Ok (at + 4)) year (at + 4) refl).value ≡ take 4 (drop at s)
    unfolding fixed
    year_is =
        let p = got_past (fixed 4) fixed_far s at (Ok (at + 4)) year (at + 4) refl in
        let z : fixed 4 (drop at s) ≡ found (take 4 (drop at s)) 4 = rw (le-leb 4 (run is_digit (drop at s)) (omega arith)) in
        let q = p.is in
        cc

    -- what stands after the year
    after_year : (x : Result ℕ ℕ)
        → (let y = take 4 (drop at s) in x ≡ went_at (follow (two_in 45 1 12) (λ m. two_in 45 1 (month_days (decimal y) (decimal m)))) (next_far (two_in 45 1 12) (two_in_far 45 1 12) (λ m. two_in_far 45 1 (month_days (decimal y) (decimal m)))) s (at + 4))
        → x ≡ date_at s at
    unfolding date_by date_far
    after_year x q = by_date x (follow_on (fixed 4) _ fixed_far _ s at (Ok (at + 4)) year (at + 4) refl x (rw year_is q))

    module _ (w : Result ℕ ℕ) (ew : w ≡ two_at 45 1 12 s (at + 4)) where
      pub date_month : (k : ℕ) → w ≡ Err k → w ≡ date_at s at
      date_month k g = after_year w (follow_stuck (two_in 45 1 12) _ (two_in_far 45 1 12) _ s (at + 4) w ew k g)

      module _ (n : ℕ) (g : w ≡ Ok n) where
        month : Two s (at + 4) 1 12 n (got_past (two_in 45 1 12) (two_in_far 45 1 12) s (at + 4) w ew n g).value
        month = two_read s (at + 4) 44 1 12 n (got_past (two_in 45 1 12) (two_in_far 45 1 12) s (at + 4) w ew n g)

        five : at + 4 + 1 ≡ at + 5
        five = omega arith

        pub month_digits : Digits s (at + 5) 2
        month_digits = record { digits = rw five at month.digits }

        pub date_5_fits : n < 2 ^ 64 → Fits w64 (at + 5)
        date_5_fits m = record { fits = omega (arith, month.ends) }

        month_here : (got_past (two_in 45 1 12) (two_in_far 45 1 12) s (at + 4) w ew n g).value ≡ take 2 (drop (at + 5) s)
        month_here = month.here ∙ ap (λ (i : ℕ). take 2 (drop i s)) five

        module _ (m : ℕ) (em : m ≡ decimal (take 2 (drop (at + 5) s))) where
          pub month_range : Month m
          month_range =
              let o = orders 1 12 m (rw em (rw month_here at month.range)) in
              record { first = o.0; last = o.1 }

          pub date_day : (y : ℕ) → y ≡ decimal (take 4 (drop at s)) → (l : ℕ) → l ≡ month_days y m → (x : Result ℕ ℕ) → x ≡ two_at 45 1 l s n → x ≡ date_at s at
          date_day y ey l el x ex =
              after_year x (follow_on (two_in 45 1 12) _ (two_in_far 45 1 12) _ s (at + 4) w ew n g x (rw (month_here, ← ey, ← em, ← el) ex))

pub ruleset date_laws = (date_less, date_short, date_digits, date_4_fits, date_month, month_digits, date_5_fits, month_range, date_day)
