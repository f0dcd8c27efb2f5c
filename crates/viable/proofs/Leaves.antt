-- How far the readers of bytes reach.
use Rattle.std.specs.Prelude.{if◌then◌else◌}
use Prim.Native.Nat.{ℕ, zero, suc, ◌+◌, ◌-◌, ◌*◌, ◌≤◌, ◌<◌}
use mathlib.Core.Path.{◌≡◌, refl, sym, ap, ap₂, ◌∙◌}
use mathlib.Core.Bool.{Bool, true, false, not, ◌&&◌, ◌||◌}
use mathlib.Core.List.{List, [], ◌∷◌, ◌++◌, append-nil}
use native.Mathlib.Omega.{arith}
use lib.ListN.{length, take, length-append, replicate, length-replicate}
use lib.Seq.{take-append-le, length-take-le, get_or-take}
use lib.Dec.{leb, eqb}
use borrow.Author.Tests.{le-leb, lt-leb, leb-true, leb-false, eqb-true, eqb-false, lt-ltb}
use Rattle.base.specs.Choose.{within, is_at}
use Rattle.base.specs.Runs.{run, All}
use Rattle.base.proofs.Tests.{clash, both, by_test}
use Rattle.base.proofs.Ranges.{inside, above, below, orders}
use Rattle.base.proofs.Parts.{at_cons}
use Rattle.base.proofs.Runs.{run_le, run_front}
use Rattle.digits.specs.Digits.{decimal, decimal_from}
use Rattle.grammar.specs.Abnf.{is_digit, Repeat}
use Rattle.grammar.specs.Line.{zero_led, PrivalOk, VersionOk}
use Rattle.grammar.specs.Parse.{Reader, on_found, only, repeat, fixed, is_prival, is_version}
use Rattle.grammar.specs.Parse.Parsed.{failed, found}
use Rattle.grammar.proofs.Readers.{Front, Reads, Any, not_found, if_found, same_front, through}
use Rattle.grammar.proofs.Bytes.{itself}
use Rattle.viable.specs.Viable.{is_byte}
use Rattle.viable.proofs.Alls.{all_append, all_weaken}
use Rattle.viable.specs.Leaves.{repeat_far, fixed_far, prival_far, version_far, ranged, is_tens, ranged_far}
use Rattle.viable.proofs.Reaches.{Open, Reaches, if_failed, at_left}

-- ---- runs and what stands behind them

module _ (c : ℕ → Bool) where
  pub run_local : (x y z : List ℕ) → run c (x ++ y) < length x → run c (x ++ z) ≡ run c (x ++ y)
  unfolding run
  run_local [] y z h = absurd (omega arith)
  run_local (b ∷ x) y z h =
      by_test (λ t. (if t then suc (run c (x ++ y)) else 0) < suc (length x) → (if t then suc (run c (x ++ z)) else 0) ≡ (if t then suc (run c (x ++ y)) else 0)) (c b)
      (λ _ l. ap suc (run_local x y z (omega arith))) (λ _ l. refl) h

  pub run_least : (j : ℕ) (x y z : List ℕ) → j ≤ run c (x ++ y) → j ≤ length x → j ≤ run c (x ++ z)
  unfolding run
  run_least zero x y z h l = omega arith
  run_least (suc j) [] y z h l = absurd (omega arith)
  run_least (suc j) (b ∷ x) y z h l =
      by_test (λ t. suc j ≤ (if t then suc (run c (x ++ y)) else 0) → suc j ≤ (if t then suc (run c (x ++ z)) else 0)) (c b)
      (λ _ k. let i = run_least j x y z (omega arith) (omega arith) in omega arith) (λ _ k. absurd (omega arith)) h

pub take_left : (n : ℕ) (x y z : List ℕ) → n ≤ length x → take n (x ++ y) ≡ take n (x ++ z)
take_left n x y z h = take-append-le n x y h ∙ sym (take-append-le n x z h)

-- the first k bytes of a class, as a text
pub front_ok : (c : ℕ → Bool) (most k : ℕ) (s : List ℕ) → 1 ≤ k → k ≤ most → k ≤ run c s → Repeat 1 most c (take k s)
front_ok c most k s l m h =
    let e = length-take-le k s (let w = run_le c s in omega arith) in
    record { at_least = rw e l; at_most = rw e m; all = run_front c s k h }

-- ---- what is found does not turn on what stands behind the byte behind it

abbrev pub Local : {A : Type 0} → Reader A → Type 0
Local {A} p = (x y z : List ℕ) (a : A) (n : ℕ) → p (x ++ y) ≡ found a n → n < length x → p (x ++ z) ≡ found a n

pub only_local : {A : Type 0} (t : A → Bool) (p : Reader A) → Local p → Local (only t p)
unfolding only
only_local t p P x y z a n e l =
    let u = through (p (x ++ y)) _ e in
    let v = if_found (t u.value) u.second in
    let w = v.1 in
    let k : u.bytes ≡ n = cc in
    rw (P x y z u.value u.bytes u.first (omega arith), v.0) w

pub repeat_local : (most : ℕ) (c : ℕ → Bool) → Local (repeat most c)
unfolding repeat
repeat_local most c x y z a n e l =
    let u = if_found (within 1 most (run c (x ++ y))) e in
    let w = u.1 in
    let k : run c (x ++ y) ≡ n = cc in
    rw (run_local c x y z (omega arith), u.0, take_left (run c (x ++ y)) x z y (omega arith)) w

-- ---- 1*most of a class

pub repeat_reaches : (most : ℕ) (c : ℕ → Bool) (b : ℕ) → 1 ≤ most → c b ≡ true → is_byte b ≡ true → Reaches itself (Repeat 1 most c) (repeat most c) (repeat_far most c)
unfolding repeat repeat_far
repeat_reaches most c b m h byte =
    record {
      local = repeat_local most c;
      dead = λ x y z e l.
          by_test (λ t. leb 1 (run c (x ++ y)) ≡ t → (if t then most else 0) < length x → (if within 1 most (run c (x ++ z)) then found (take (run c (x ++ z)) (x ++ z)) (run c (x ++ z)) else failed) ≡ failed) (leb 1 (run c (x ++ y)))
          (λ _ t l.
          let g = if_failed _ _ (within 1 most (run c (x ++ y))) e in
          let k = over (run c (x ++ y)) (leb-true 1 _ t) g in
          let j = run_least c (suc most) x y z k (omega arith) in
          rw (above 1 most (run c (x ++ z)) j))
          (λ _ t l.
          let z₀ = leb-false 1 (run c (x ++ y)) t in
          rw (run_local c x y z (omega arith), below 1 most (run c (x ++ y)) z₀))
          refl l;
      extends = λ s e.
          by_test (λ t. leb 1 (run c s) ≡ t → Open itself (Repeat 1 most c) s (if t then most else 0)) (leb 1 (run c s))
          (λ _ t.
          let g = if_failed _ _ (within 1 most (run c s)) e in
          let k = over (run c s) (leb-true 1 _ t) g in
          record { value = take most s; ok = front_ok c most most s m (omega arith) (omega arith); rest = []; split = refl; small = tt })
          (λ _ t. record { value = b ∷ []; ok = record { at_least = omega arith; at_most = omega arith; all = (h, tt) }; rest = b ∷ []; split = refl; small = (byte, tt) })
          refl;
      inside = λ s e.
          by_test (λ t. leb 1 (run c s) ≡ t → (if t then most else 0) ≤ length s) (leb 1 (run c s))
          (λ _ t.
          let g = if_failed _ _ (within 1 most (run c s)) e in
          let k = over (run c s) (leb-true 1 _ t) g in
          let w = run_le c s in
          omega arith)
          (λ _ t. omega arith)
          refl;
    }
  where
    over : (n : ℕ) → 1 ≤ n → within 1 most n ≡ false → most < n
    over n l g = by_test (λ t. leb n most ≡ t → most < n) (leb n most) (λ _ t. clash (sym (inside 1 most n l (leb-true n most t)) ∙ g)) (λ _ t. leb-false n most t) refl

-- ---- kDIGIT

pub digits_all : (n : ℕ) → All is_digit (replicate n 48)
digits_all zero = tt
digits_all (suc n) = (refl, digits_all n)

digit_byte : (b : ℕ) → is_digit b ≡ true → is_byte b ≡ true
digit_byte b h = let o = orders 48 57 b h in le-leb b 255 (omega arith)

pub fixed_reaches : (k : ℕ) → Reaches itself (Repeat k k is_digit) (fixed k) fixed_far
unfolding fixed fixed_far
fixed_reaches k =
    record {
      local = λ x y z a n e l.
          let u = if_found (leb k (run is_digit (x ++ y))) e in
          let w = u.1 in
          let j : k ≡ n = cc in
          rw (le-leb k (run is_digit (x ++ z)) (run_least is_digit k x y z (leb-true k _ u.0) (omega arith)), take_left k x z y (omega arith)) w;
      dead = λ x y z e l.
          let g = leb-false k (run is_digit (x ++ y)) (if_failed _ _ (leb k (run is_digit (x ++ y))) e) in
          rw (run_local is_digit x y z l, lt-leb k (run is_digit (x ++ y)) g);
      extends = λ s e.
          let n = run is_digit s in
          let g = leb-false k n (if_failed _ _ (leb k n) e) in
          let w : length (take n s ++ replicate (k - n) 48) ≡ k
          = length-append (take n s) (replicate (k - n) 48) ∙ ap₂ ◌+◌ (length-take-le n s (run_le is_digit s)) (length-replicate (k - n) 48) ∙ (let z : n + (k - n) ≡ k = omega arith in z) in
          record {
            value = take n s ++ replicate (k - n) 48;
            ok = record { at_least = rw w (omega arith); at_most = rw w (omega arith); all = all_append is_digit (take n s) (replicate (k - n) 48) (run_front is_digit s n (omega arith)) (digits_all (k - n)) };
            rest = replicate (k - n) 48;
            small = all_weaken is_digit is_byte digit_byte (replicate (k - n) 48) (digits_all (k - n));
            split = append-nil (take n s ++ replicate (k - n) 48);
          };
      inside = λ s e. run_le is_digit s;
    }

-- ---- 2DIGIT of a range

module _ (lo hi : ℕ) where
  -- the rule of a number
  abbrev pub RangeOk : List ℕ → Type 0
  RangeOk t = Repeat 2 2 is_digit t × (within lo hi (decimal t) ≡ true)

  -- two digits
  pub two_ok : (c d : ℕ) → is_digit c ≡ true → is_digit d ≡ true → Repeat 2 2 is_digit (c ∷ d ∷ [])
  two_ok c d p q = record { at_least = omega arith; at_most = omega arith; all = (p, (q, tt)) }

  three : (a b c : Bool) → (a && b && c) ≡ true → (a ≡ true) × (b ≡ true) × (c ≡ true)
  three a b c h = let (u, v) = both (a && b) c h in let (p, q) = both a b u in (p, q, v)

  ranged_complete : (t r : List ℕ) → RangeOk t → ranged lo hi (t ++ r) ≡ found t (length (t ++ []))
  unfolding ranged
  ranged_complete [] r h = absurd (let z = h.0.at_least in omega arith)
  ranged_complete (c ∷ []) r h = absurd (let z = h.0.at_least in omega arith)
  ranged_complete (c ∷ d ∷ []) r h = let a = h.0.all in rw (a.0, a.1.0, h.1)
  ranged_complete (c ∷ d ∷ e ∷ t) r h = absurd (let z = h.0.at_most in omega arith)

  ranged_sound : (s t : List ℕ) (n : ℕ) → ranged lo hi s ≡ found t n → Front itself RangeOk s t n
  unfolding ranged
  ranged_sound [] t n e = not_found e
  ranged_sound (c ∷ []) t n e = not_found e
  ranged_sound (c ∷ d ∷ s) t n e =
      let u = if_found (is_digit c && is_digit d && within lo hi (decimal (c ∷ d ∷ []))) e in
      let v = three (is_digit c) (is_digit d) (within lo hi (decimal (c ∷ d ∷ []))) u.0 in
      same_front u.1 (record { ok = (two_ok c d v.0 v.1, v.2); split = refl; size = refl })

  pub ranged_reads : Reads itself RangeOk Any (ranged lo hi)
  ranged_reads = record { plain = λ t r h. ap (λ (l : List ℕ). l ++ r) (sym (append-nil t)); complete = λ t r h _. ranged_complete t r h; sound = ranged_sound }

  tens_of : (c d : ℕ) → (is_digit c && is_digit d && within lo hi (decimal (c ∷ d ∷ []))) ≡ true → is_tens lo hi c ≡ true
  unfolding decimal_from
  tens_of c d h =
      let v = three (is_digit c) (is_digit d) (within lo hi (decimal (c ∷ d ∷ []))) h in
      let p = orders 48 57 d v.1 in
      let q = orders lo hi ((0 * 10 + (c - 48)) * 10 + (d - 48)) v.2 in
      rw (v.0, le-leb lo ((c - 48) * 10 + 9) (omega arith), le-leb ((c - 48) * 10) hi (omega arith))

  -- a digit behind c that makes a number of the range
  ones_ok : (c : ℕ) → is_tens lo hi c ≡ true → lo ≤ hi → RangeOk (c ∷ (48 + (lo - (c - 48) * 10)) ∷ [])
  unfolding decimal_from
  ones_ok c h m =
      let v = three (is_digit c) (leb lo ((c - 48) * 10 + 9)) (leb ((c - 48) * 10) hi) h in
      let p = orders 48 57 c v.0 in
      let q = leb-true lo ((c - 48) * 10 + 9) v.1 in
      let r = leb-true ((c - 48) * 10) hi v.2 in
      let d = 48 + (lo - (c - 48) * 10) in
      (two_ok c d v.0 (inside 48 57 d (omega arith) (omega arith)), inside lo hi ((0 * 10 + (c - 48)) * 10 + (d - 48)) (omega arith) (omega arith))

  module _ (small : lo ≤ 9) (some : lo ≤ hi) where
    ranged_local : (x y z a : List ℕ) (n : ℕ) → ranged lo hi (x ++ y) ≡ found a n → n < length x → ranged lo hi (x ++ z) ≡ found a n
    unfolding ranged
    ranged_local [] y z a n e l = absurd (omega arith)
    ranged_local (c ∷ []) [] z a n e l = not_found e
    ranged_local (c ∷ []) (d ∷ y) z a n e l =
        let u = if_found (is_digit c && is_digit d && within lo hi (decimal (c ∷ d ∷ []))) e in
        let w = u.1 in
        let k : 2 ≡ n = cc in
        absurd (omega arith)
    ranged_local (c ∷ d ∷ x) y z a n e l = e

    ranged_dead : (x y z : List ℕ) → ranged lo hi (x ++ y) ≡ failed → ranged_far lo hi (x ++ y) < length x → ranged lo hi (x ++ z) ≡ failed
    unfolding ranged ranged_far
    ranged_dead [] y z e l = absurd (omega arith)
    ranged_dead (c ∷ []) y [] e l = refl
    ranged_dead (c ∷ []) y (d ∷ z) e l =
        by_test (λ t. (if t then found (c ∷ d ∷ []) 2 else failed) ≡ failed) (is_digit c && is_digit d && within lo hi (decimal (c ∷ d ∷ [])))
        (λ t. absurd (let h : (if is_tens lo hi c then 1 else 0) < 1 = l in let k = rw (tens_of c d t) at h in omega arith))
        (λ t. refl)
    ranged_dead (c ∷ d ∷ x) y z e l = e

    low_ok : RangeOk (48 ∷ (48 + lo) ∷ [])
    unfolding decimal_from
    low_ok = (two_ok 48 (48 + lo) refl (inside 48 57 (48 + lo) (omega arith) (omega arith)), inside lo hi ((0 * 10 + 0) * 10 + (48 + lo - 48)) (omega arith) (omega arith))

    ranged_extends : (s : List ℕ) → ranged lo hi s ≡ failed → Open itself RangeOk s (ranged_far lo hi s)
    unfolding ranged_far
    ranged_extends [] e = record { value = 48 ∷ (48 + lo) ∷ []; ok = low_ok; rest = 48 ∷ (48 + lo) ∷ []; split = refl; small = (refl, (le-leb (48 + lo) 255 (omega arith), tt)) }
    ranged_extends (c ∷ s) e =
        by_test (λ t. is_tens lo hi c ≡ t → Open itself RangeOk (c ∷ s) (if t then 1 else 0)) (is_tens lo hi c)
        (λ _ t. record { value = c ∷ (48 + (lo - (c - 48) * 10)) ∷ []; ok = ones_ok c t some; rest = (48 + (lo - (c - 48) * 10)) ∷ []; split = refl; small = (le-leb (48 + (lo - (c - 48) * 10)) 255 (omega arith), tt) })
        (λ _ t. record { value = 48 ∷ (48 + lo) ∷ []; ok = low_ok; rest = 48 ∷ (48 + lo) ∷ []; split = refl; small = (refl, (le-leb (48 + lo) 255 (omega arith), tt)) })
        refl

    ranged_inside : (s : List ℕ) → ranged_far lo hi s ≤ length s
    unfolding ranged_far
    ranged_inside [] = omega arith
    ranged_inside (c ∷ s) = by_test (λ t. (if t then 1 else 0) ≤ suc (length s)) (is_tens lo hi c) (λ _. omega arith) (λ _. omega arith)

    pub ranged_reaches : Reaches itself RangeOk (ranged lo hi) (ranged_far lo hi)
    ranged_reaches = record { local = ranged_local; dead = ranged_dead; extends = ranged_extends; inside = λ s e. ranged_inside s }

-- ---- 1*most of a class, with a test

module _ (test : List ℕ → Bool) (most : ℕ) (c : ℕ → Bool) where
  abbrev tested : Reader (List ℕ)
  tested = only test (repeat most c)

  -- what is found
  pub tested_yes : (s : List ℕ) → within 1 most (run c s) ≡ true → test (take (run c s) s) ≡ true → tested s ≡ found (take (run c s) s) (run c s)
  unfolding only repeat
  tested_yes s g h = rw (g, h)

  -- and what not
  pub tested_long : (s : List ℕ) → within 1 most (run c s) ≡ false → tested s ≡ failed
  unfolding only repeat
  tested_long s g = rw g

  pub tested_no : (s : List ℕ) → test (take (run c s) s) ≡ false → tested s ≡ failed
  unfolding only repeat
  tested_no s h =
      by_test (λ t. on_found (if t then found (take (run c s) s) (run c s) else failed) (λ a n. if test a then found a n else failed) ≡ failed) (within 1 most (run c s))
      (λ t. rw h) (λ t. refl)

-- ---- PRIVAL

abbrev prival : Reader (List ℕ)
prival = only is_prival (repeat 3 is_digit)

-- one or two digits, of which the first is no zero
short_prival : (n : ℕ) (s : List ℕ) → 1 ≤ n → n ≤ 2 → n ≤ run is_digit s → is_at s 0 48 ≡ false → PrivalOk (take n s)
unfolding decimal_from
short_prival n [] l m h t = absurd (let w = run_le is_digit [] in omega arith)
short_prival zero (c ∷ s) l m h t = absurd (omega arith)
short_prival (suc zero) (c ∷ s) l m h t =
    let a = run_front is_digit (c ∷ s) 1 h in
    let p = orders 48 57 c a.0 in
    record { digits = front_ok is_digit 3 1 (c ∷ s) l (omega arith) h; plain = rw t; range = let z : 0 * 10 + (c - 48) ≤ 191 = omega arith in z }
short_prival (suc (suc zero)) (c ∷ []) l m h t = absurd (let w = run_le is_digit (c ∷ []) in omega arith)
short_prival (suc (suc zero)) (c ∷ d ∷ s) l m h t =
    let a = run_front is_digit (c ∷ d ∷ s) 2 h in
    let p = orders 48 57 c a.0 in
    let q = orders 48 57 d a.1.0 in
    record { digits = front_ok is_digit 3 2 (c ∷ d ∷ s) l (omega arith) h; plain = rw t; range = let z : (0 * 10 + (c - 48)) * 10 + (d - 48) ≤ 191 = omega arith in z }
short_prival (suc (suc (suc n))) (c ∷ s) l m h t = absurd (omega arith)

prival_test : (t : List ℕ) → PrivalOk t → is_prival t ≡ true
prival_test t h = rw h.plain (le-leb (decimal t) 191 h.range)

zero_ok : PrivalOk (48 ∷ [])
unfolding decimal_from
zero_ok = record { digits = record { at_least = omega arith; at_most = omega arith; all = (refl, tt) }; plain = refl; range = let z : 0 * 10 + (48 - 48) ≤ 191 = omega arith in z }

pub zero_test : is_prival (48 ∷ []) ≡ true
zero_test = prival_test (48 ∷ []) zero_ok

-- a zero and more digits
pub led_by_zero : (n : ℕ) (s : List ℕ) → 2 ≤ n → n ≤ length s → is_at s 0 48 ≡ true → is_prival (take n s) ≡ false
led_by_zero n s l m t = rw (get_or-take n s 0 0 (omega arith), t, length-take-le n s m, lt-ltb 1 n (omega arith))

pub not_led : (n : ℕ) (s : List ℕ) → 1 ≤ n → is_at s 0 48 ≡ false → zero_led (take n s) ≡ false
not_led n s l t = rw (get_or-take n s 0 0 (omega arith), t)

-- 191 at most, or one or two digits: found
prival_found : (s : List ℕ) → 1 ≤ run is_digit s → run is_digit s ≤ 2 → is_at s 0 48 ≡ false → prival s ≡ failed → ⊥
prival_found s l m t e = not_found (sym e ∙ tested_yes is_prival 3 is_digit s (inside 1 3 (run is_digit s) l (omega arith)) (prival_test _ (short_prival (run is_digit s) s l m (omega arith) t)))

-- what is known where it fails
pub data Unread (s : List ℕ) : ℕ → Type 0 where
  bare_of_digits : run is_digit s ≡ 0 → Unread s 0
  zero_in_front : is_at s 0 48 ≡ true → 2 ≤ run is_digit s → Unread s 1
  too_many : is_at s 0 48 ≡ false → decimal (take 3 s) ≤ 191 → 4 ≤ run is_digit s → Unread s 3
  too_large : is_at s 0 48 ≡ false → 191 < decimal (take 3 s) → 3 ≤ run is_digit s → Unread s 2

prival_unread : (s : List ℕ) → prival s ≡ failed → Unread s (prival_far s)
unfolding prival_far
prival_unread s e =
    by_test (λ t. eqb (run is_digit s) 0 ≡ t → Unread s (if t then 0 else if is_at s 0 48 then 1 else if leb (decimal (take 3 s)) 191 then 3 else 2)) (eqb (run is_digit s) 0)
    (λ _ t. bare_of_digits (eqb-true (run is_digit s) 0 t))
    (λ _ t.
    let n₀ = eqb-false (run is_digit s) 0 t in
    by_test (λ t. is_at s 0 48 ≡ t → Unread s (if t then 1 else if leb (decimal (take 3 s)) 191 then 3 else 2)) (is_at s 0 48)
    (λ _ t. zero_in_front t
    (by_test (λ b. leb 2 (run is_digit s) ≡ b → 2 ≤ run is_digit s) (leb 2 (run is_digit s)) (λ _ b. leb-true 2 (run is_digit s) b)
    (λ _ b.
    let l = leb-false 2 (run is_digit s) b in
    let n₁ : run is_digit s ≡ 1 = omega arith in
    let one : take (run is_digit s) s ≡ 48 ∷ [] = ap (λ (n : ℕ). take n s) n₁ ∙ ap (take 1) (at_cons s 0 47 t) in
    not_found (sym e ∙ tested_yes is_prival 3 is_digit s (rw n₁) (rw one zero_test)))
    refl))
    (λ _ t.
    by_test (λ b. leb (decimal (take 3 s)) 191 ≡ b → Unread s (if b then 3 else 2)) (leb (decimal (take 3 s)) 191)
    (λ _ b. too_many t (leb-true (decimal (take 3 s)) 191 b)
    (by_test (λ c. leb 4 (run is_digit s) ≡ c → 4 ≤ run is_digit s) (leb 4 (run is_digit s)) (λ _ c. leb-true 4 (run is_digit s) c)
    (λ _ c.
    by_test (λ d. leb 3 (run is_digit s) ≡ d → 4 ≤ run is_digit s) (leb 3 (run is_digit s))
    (λ _ d.
    let l = leb-false 4 (run is_digit s) c in
    let m = leb-true 3 (run is_digit s) d in
    let n₃ : run is_digit s ≡ 3 = omega arith in
    not_found (sym e ∙ tested_yes is_prival 3 is_digit s (rw n₃) (rw (not_led (run is_digit s) s (omega arith) t, n₃) b)))
    (λ _ d. let l = leb-false 3 (run is_digit s) d in absurd (prival_found s (omega arith) (omega arith) t e))
    refl)
    refl))
    (λ _ b. too_large t (leb-false (decimal (take 3 s)) 191 b)
    (by_test (λ c. leb 3 (run is_digit s) ≡ c → 3 ≤ run is_digit s) (leb 3 (run is_digit s)) (λ _ c. leb-true 3 (run is_digit s) c)
    (λ _ c. let l = leb-false 3 (run is_digit s) c in absurd (prival_found s (omega arith) (omega arith) t e))
    refl))
    refl)
    refl)
    refl

pub and_no : (a b : Bool) → b ≡ false → (a && b) ≡ false
and_no true b h = h
and_no false b h = refl

prival_dead : (x y z : List ℕ) {k : ℕ} → Unread (x ++ y) k → k < length x → prival (x ++ z) ≡ failed
prival_dead x y z (bare_of_digits e) l = tested_long is_prival 3 is_digit (x ++ z) (rw (run_local is_digit x y z (omega arith), e))
prival_dead x y z (zero_in_front t n) l =
    let m = run_least is_digit 2 x y z n (omega arith) in
    tested_no is_prival 3 is_digit (x ++ z) (led_by_zero (run is_digit (x ++ z)) (x ++ z) m (run_le is_digit (x ++ z)) (at_left x z y 0 48 (omega arith) ∙ t))
prival_dead x y z (too_many t d n) l = tested_long is_prival 3 is_digit (x ++ z) (above 1 3 (run is_digit (x ++ z)) (run_least is_digit 4 x y z n (omega arith)))
prival_dead x y z (too_large t d n) l =
    let m = run_least is_digit 3 x y z n (omega arith) in
    by_test (λ b. leb (run is_digit (x ++ z)) 3 ≡ b → prival (x ++ z) ≡ failed) (leb (run is_digit (x ++ z)) 3)
    (λ _ b.
    let w = leb-true (run is_digit (x ++ z)) 3 b in
    let n₃ : run is_digit (x ++ z) ≡ 3 = omega arith in
    tested_no is_prival 3 is_digit (x ++ z) (and_no (not (zero_led (take (run is_digit (x ++ z)) (x ++ z)))) _ (rw (n₃, take_left 3 x z y (omega arith)) (lt-leb (decimal (take 3 (x ++ y))) 191 d))))
    (λ _ b. tested_long is_prival 3 is_digit (x ++ z) (above 1 3 (run is_digit (x ++ z)) (leb-false (run is_digit (x ++ z)) 3 b)))
    refl

prival_extends : (s : List ℕ) {k : ℕ} → Unread s k → Open itself PrivalOk s k
prival_extends s (bare_of_digits e) = record { value = 48 ∷ []; ok = zero_ok; rest = 48 ∷ []; split = refl; small = (refl, tt) }
prival_extends s (zero_in_front t n) = record { value = 48 ∷ []; ok = zero_ok; rest = []; small = tt; split = sym (ap (λ (l : List ℕ). take 1 l ++ []) (at_cons s 0 47 t)) }
prival_extends s (too_many t d n) =
    record { value = take 3 s; ok = record { digits = front_ok is_digit 3 3 s (omega arith) (omega arith) (omega arith); plain = not_led 3 s (omega arith) t; range = d }; rest = []; split = refl; small = tt }
prival_extends s (too_large t d n) = record { value = take 2 s; ok = short_prival 2 s (omega arith) (omega arith) (omega arith) t; rest = []; split = refl; small = tt }

prival_inside : (s : List ℕ) {k : ℕ} → Unread s k → k ≤ length s
prival_inside s (bare_of_digits e) = omega arith
prival_inside s (zero_in_front t n) = let w = run_le is_digit s in omega arith
prival_inside s (too_many t d n) = let w = run_le is_digit s in omega arith
prival_inside s (too_large t d n) = let w = run_le is_digit s in omega arith

pub prival_reaches : Reaches itself PrivalOk (only is_prival (repeat 3 is_digit)) prival_far
prival_reaches =
    record {
      local = only_local is_prival (repeat 3 is_digit) (repeat_local 3 is_digit);
      dead = λ x y z e l. prival_dead x y z (prival_unread (x ++ y) e) l;
      extends = λ s e. prival_extends s (prival_unread s e);
      inside = λ s e. prival_inside s (prival_unread s e);
    }

-- ---- VERSION

data Unversioned (s : List ℕ) : ℕ → Type 0 where
  bare_of_digits : run is_digit s ≡ 0 → Unversioned s 0
  zero_in_front : is_at s 0 48 ≡ true → Unversioned s 0
  too_many : is_at s 0 48 ≡ false → 4 ≤ run is_digit s → Unversioned s 3

pub nonzero_test : (n : ℕ) (s : List ℕ) → 1 ≤ n → is_version (take n s) ≡ not (is_at s 0 48)
nonzero_test n s l = rw (get_or-take n s 0 0 (omega arith))

version_unread : (s : List ℕ) → only is_version (repeat 3 is_digit) s ≡ failed → Unversioned s (version_far s)
unfolding version_far
version_unread s e =
    by_test (λ t. eqb (run is_digit s) 0 ≡ t → Unversioned s (if t || is_at s 0 48 then 0 else 3)) (eqb (run is_digit s) 0)
    (λ _ t. Unversioned.bare_of_digits (eqb-true (run is_digit s) 0 t))
    (λ _ t.
    let n₀ = eqb-false (run is_digit s) 0 t in
    by_test (λ t. is_at s 0 48 ≡ t → Unversioned s (if t then 0 else 3)) (is_at s 0 48)
    (λ _ t. Unversioned.zero_in_front t)
    (λ _ t. Unversioned.too_many t
    (by_test (λ c. leb 4 (run is_digit s) ≡ c → 4 ≤ run is_digit s) (leb 4 (run is_digit s)) (λ _ c. leb-true 4 (run is_digit s) c)
    (λ _ c.
    let l = leb-false 4 (run is_digit s) c in
    not_found (sym e ∙ tested_yes is_version 3 is_digit s (inside 1 3 (run is_digit s) (omega arith) (omega arith)) (nonzero_test (run is_digit s) s (omega arith) ∙ ap not t)))
    refl))
    refl)
    refl

version_dead : (x y z : List ℕ) {k : ℕ} → Unversioned (x ++ y) k → k < length x → only is_version (repeat 3 is_digit) (x ++ z) ≡ failed
version_dead x y z (Unversioned.bare_of_digits e) l = tested_long is_version 3 is_digit (x ++ z) (rw (run_local is_digit x y z (omega arith), e))
version_dead x y z (Unversioned.zero_in_front t) l =
    by_test (λ b. leb 1 (run is_digit (x ++ z)) ≡ b → only is_version (repeat 3 is_digit) (x ++ z) ≡ failed) (leb 1 (run is_digit (x ++ z)))
    (λ _ b. tested_no is_version 3 is_digit (x ++ z) (nonzero_test (run is_digit (x ++ z)) (x ++ z) (leb-true 1 _ b) ∙ ap not (at_left x z y 0 48 (omega arith) ∙ t)))
    (λ _ b. tested_long is_version 3 is_digit (x ++ z) (below 1 3 (run is_digit (x ++ z)) (leb-false 1 _ b)))
    refl
version_dead x y z (Unversioned.too_many t n) l = tested_long is_version 3 is_digit (x ++ z) (above 1 3 (run is_digit (x ++ z)) (run_least is_digit 4 x y z n (omega arith)))

one_ok : VersionOk (49 ∷ [])
one_ok = record { digits = record { at_least = omega arith; at_most = omega arith; all = (refl, tt) }; nonzero = refl }

version_extends : (s : List ℕ) {k : ℕ} → Unversioned s k → Open itself VersionOk s k
version_extends s (Unversioned.bare_of_digits e) = record { value = 49 ∷ []; ok = one_ok; rest = 49 ∷ []; split = refl; small = (refl, tt) }
version_extends s (Unversioned.zero_in_front t) = record { value = 49 ∷ []; ok = one_ok; rest = 49 ∷ []; split = refl; small = (refl, tt) }
version_extends s (Unversioned.too_many t n) =
    record {
      value = take 3 s;
      ok = record { digits = front_ok is_digit 3 3 s (omega arith) (omega arith) (omega arith); nonzero = rw (get_or-take 3 s 0 0 (omega arith)) t };
      rest = [];
      split = refl;
      small = tt;
    }

version_inside : (s : List ℕ) {k : ℕ} → Unversioned s k → k ≤ length s
version_inside s (Unversioned.bare_of_digits e) = omega arith
version_inside s (Unversioned.zero_in_front t) = omega arith
version_inside s (Unversioned.too_many t n) = let w = run_le is_digit s in omega arith

pub version_reaches : Reaches itself VersionOk (only is_version (repeat 3 is_digit)) version_far
version_reaches =
    record {
      local = only_local is_version (repeat 3 is_digit) (repeat_local 3 is_digit);
      dead = λ x y z e l. version_dead x y z (version_unread (x ++ y) e) l;
      extends = λ s e. version_extends s (version_unread s e);
      inside = λ s e. version_inside s (version_unread s e);
    }
