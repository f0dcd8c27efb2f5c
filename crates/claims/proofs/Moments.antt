-- The timestamp: what is written of an instant is a timestamp of the grammar that reads as the instant, and what a timestamp reads as is written again.
use Rattle.std.specs.Prelude.{Some, None}
use Prim.Native.Nat.{ℕ, zero, suc, ◌+◌, ◌-◌, ◌*◌, ◌/◌, ◌%◌, ◌^◌, ◌≤◌, ◌<◌}
use mathlib.Core.Path.{◌≡◌, refl, sym, ap, ◌∙◌}
use mathlib.Core.Bool.{true, ◌&&◌}
use mathlib.Core.List.{List, [], ◌∷◌}
use Rattle.std.specs.Prelude as std
use mathlib.Core.Option.{Option, none, some}
use native.Mathlib.Nat.{one-le-pow, div-add-mod', div-lt_iff_lt-mul, mul-mod_left, mul-le-mul_right, add-mul, mul-div_cancel}
use native.Mathlib.Omega.{arith}
use lib.ListN.{length}
use lib.Pow.{pow-add}
use lib.Dec.{leb}
use lib.IntN.{ℤ, pos, neg_ℤ, nat_abs}
use borrow.Author.Tests.{le-leb}
use Rattle.base.proofs.Tests.{clash, both}
use Rattle.calendar.specs.Calendar.{valid, valid_date, valid_time}
use Rattle.calendar.specs.Instant.{shown, is_shown, seconds_of}
use Rattle.calendar.specs.declared.DateTime.{DateTime}
use Rattle.calendar.proofs.Dates.{valid_parts}
use Rattle.calendar.proofs.Days.{month_to}
use Rattle.calendar.proofs.ThereAndBack.{back, shown_valid}
use Rattle.digits.specs.Digits.{is_digit, decimal}
use Rattle.digits.proofs.Decimals.{decimal_lt}
use Rattle.output.specs.Numerals.{fixed}
use Rattle.output.proofs.Numerals.{length_fixed}
use Rattle.grammar.specs.Abnf.{Repeat}
use Rattle.grammar.specs.Line.{Offset, Timestamp, SecfracOk, NumOffsetOk, OffsetOk, FullOk}
use Rattle.grammar.specs.Reading.{offset_of, nanos_of, digits_of}
use Rattle.claims.specs.Texts.{secfrac_of, clock_in, clock_texts}
use Rattle.claims.proofs.Numbers.{fixed_value, fixed_repeat, digits_again}

-- ---- the clock shown

pub record Seen (seconds offset : ℤ) : Type 0 where
  pub clock : DateTime
  pub shows : shown seconds offset ≡ Some clock
  pub is_valid : valid clock ≡ true

seen_at : (seconds offset : ℤ) (s : std.Option DateTime) → shown seconds offset ≡ s → is_shown s ≡ true → Seen seconds offset
seen_at seconds offset None e h = clash (sym h)
seen_at seconds offset (Some c) e h = record { clock = c; shows = e; is_valid = shown_valid seconds offset c e }

pub seen : (seconds offset : ℤ) → is_shown (shown seconds offset) ≡ true → Seen seconds offset
seen seconds offset h = seen_at seconds offset (shown seconds offset) refl h

-- ---- the clock's texts

-- the clock that a timestamp's texts say
abbrev pub clock_of : Timestamp → DateTime
clock_of t =
    record {
      year = decimal t.year;
      month = decimal t.month;
      day = decimal t.day;
      hour = decimal t.hour;
      minute = decimal t.minute;
      second = decimal t.second;
    }

module _ (c : DateTime) (v : valid c ≡ true) (f : Option (List ℕ)) (o : Offset) where
  pub clock_said : clock_of (clock_texts c f o) ≡ c
  clock_said =
      let p = valid_parts c v in
      rw (
        fixed_value 4 c.year (omega (arith, p.year_to)),
        fixed_value 2 c.month (omega (arith, p.month_to)),
        fixed_value 2 c.day (omega (arith, p.day_to, month_to c.year c.month p.month_to)),
        fixed_value 2 c.hour (omega (arith, p.hour_to)),
        fixed_value 2 c.minute (omega (arith, p.minute_to)),
        fixed_value 2 c.second (omega (arith, p.second_to)),
      )

-- ---- the offset

module _ (n : ℕ) (h : n ≤ 1439) where
  hours : decimal (fixed 2 (n / 60)) ≡ n / 60
  hours = fixed_value 2 (n / 60) (omega arith)

  minutes : decimal (fixed 2 (n % 60)) ≡ n % 60
  minutes = fixed_value 2 (n % 60) (omega arith)

  pub zone_minutes : decimal (fixed 2 (n / 60)) * 60 + decimal (fixed 2 (n % 60)) ≡ n
  zone_minutes = rw (hours, minutes) (omega arith)

  pub zone_numbers : NumOffsetOk (fixed 2 (n / 60)) (fixed 2 (n % 60))
  zone_numbers =
      record {
        hour_digits = fixed_repeat 2 (n / 60);
        minute_digits = fixed_repeat 2 (n % 60);
        hour_range = rw hours (omega arith);
        minute_range = rw minutes (omega arith);
      }

-- ---- the fraction

nine : (k : ℕ) → k ≤ 9 → 10 ^ k * 10 ^ (9 - k) ≡ 10 ^ 9
nine k h =
    let e : k + (9 - k) ≡ 9 = omega arith in
    sym (pow-add 10 k (9 - k)) ∙ ap (λ (j : ℕ). 10 ^ j) e

front_lt : (k n : ℕ) → k ≤ 9 → n ≤ 999999999 → n / 10 ^ (9 - k) < 10 ^ k
front_lt k n l h = (div-lt_iff_lt-mul (one-le-pow (9 - k) 10 (omega arith))).1 (omega (arith, nine k l))

pub frac_said : (k n : ℕ) → k ≤ 9 → n ≤ 999999999 → n % 10 ^ (9 - k) ≡ 0 → nanos_of (secfrac_of k n) ≡ n
frac_said zero n l h e = omega arith
frac_said (suc k) n l h e =
    let p = 10 ^ (9 - suc k) in
    rw (fixed_value (suc k) (n / p) (front_lt (suc k) n l h), length_fixed (suc k) (n / p)) (omega (arith, div-add-mod' n p))

pub frac_digits : (k n : ℕ) → digits_of (secfrac_of k n) ≡ k
frac_digits zero n = refl
frac_digits (suc k) n = length_fixed (suc k) (n / 10 ^ (9 - suc k))

pub frac_ok : (k n : ℕ) → k ≤ 6 → SecfracOk (secfrac_of k n)
frac_ok zero n h = tt
frac_ok (suc k) n h =
    let r = fixed_repeat (suc k) (n / 10 ^ (9 - suc k)) in
    record { at_least = omega (arith, r.at_least); at_most = omega (arith, r.at_most); all = r.all }

-- ---- what is written

-- the tests of a date and a clock
pub tests : (c : DateTime) → valid c ≡ true
    → ((leb c.year 9999 ≡ true) × (valid_date c.year c.month c.day ≡ true)) × (valid_time c.hour c.minute c.second ≡ true)
unfolding valid
tests c v =
    let u = both (leb c.year 9999 && valid_date c.year c.month c.day) (valid_time c.hour c.minute c.second) v in
    (both (leb c.year 9999) (valid_date c.year c.month c.day) u.0, u.1)

pub texts_ok : (c : DateTime) → valid c ≡ true → (f : Option (List ℕ)) → SecfracOk f → (o : Offset) → OffsetOk o → FullOk (clock_texts c f o)
texts_ok c v f fo o oo =
    let q = clock_said c v f o in
    let t = tests c v in
    record {
      year_digits = fixed_repeat 4 c.year;
      month_digits = fixed_repeat 2 c.month;
      day_digits = fixed_repeat 2 c.day;
      date = ap (λ (x : DateTime). valid_date x.year x.month x.day) q ∙ t.0.1;
      hour_digits = fixed_repeat 2 c.hour;
      minute_digits = fixed_repeat 2 c.minute;
      second_digits = fixed_repeat 2 c.second;
      time = ap (λ (x : DateTime). valid_time x.hour x.minute x.second) q ∙ t.1;
      secfrac_ok = fo;
      offset_ok = oo;
    }

-- ---- what a timestamp of the grammar says

pub offset_small : (o : Offset) → OffsetOk o → nat_abs (offset_of o) ≤ 1439
offset_small Offset.utc h = omega arith
offset_small (Offset.east a b) h = omega (arith, h.hour_range, h.minute_range)
offset_small (Offset.west a b) h = neg (decimal a * 60 + decimal b) (omega (arith, h.hour_range, h.minute_range))
  where
    neg : (n : ℕ) → n ≤ 1439 → nat_abs (neg_ℤ (pos n)) ≤ 1439
    neg zero l = l
    neg (suc n) l = l

pub frac_nanos : (f : Option (List ℕ)) → SecfracOk f → nanos_of f ≤ 999999999
frac_nanos none h = omega arith
frac_nanos (some f) h =
    let p = 10 ^ (9 - length f) in
    let l : suc (decimal f) * p ≤ 10 ^ length f * p = mul-le-mul_right p (decimal_lt f h.all) in
    let z : 1 ≤ p = one-le-pow (9 - length f) 10 (omega arith) in
    omega (arith, nine (length f) (omega (arith, h.at_most)), add-mul 1 (decimal f) p)

pub frac_few : (f : Option (List ℕ)) → SecfracOk f → digits_of f ≤ 6
frac_few none h = omega arith
frac_few (some f) h = h.at_most

pub frac_exact : (f : Option (List ℕ)) → nanos_of f % 10 ^ (9 - digits_of f) ≡ 0
frac_exact none = refl
frac_exact (some f) = mul-mod_left (decimal f) (10 ^ (9 - length f))

-- k digits write a number below 10 ^ k
below : (k : ℕ) (t : List ℕ) → Repeat k k is_digit t → decimal t < 10 ^ k
below k t h =
    let e : length t ≡ k = omega (arith, h.at_least, h.at_most) in
    rw e at (decimal_lt t h.all)

pub full_valid : (t : Timestamp) → FullOk t → valid (clock_of t) ≡ true
unfolding valid
full_valid t h = rw (le-leb (decimal t.year) 9999 (omega (arith, below 4 t.year h.year_digits)), h.date, h.time)

-- ---- written again

pub frac_again : (f : Option (List ℕ)) → SecfracOk f → secfrac_of (digits_of f) (nanos_of f) ≡ f
frac_again none h = refl
frac_again (some []) h = absurd (omega (arith, h.at_least))
frac_again (some (b ∷ f)) h =
    let k = suc (length f) in
    let e : decimal (b ∷ f) * 10 ^ (9 - k) / 10 ^ (9 - k) ≡ decimal (b ∷ f) = mul-div_cancel (decimal (b ∷ f)) (one-le-pow (9 - k) 10 (omega arith)) in
    ap some (ap (fixed k) e ∙ digits_again k (b ∷ f) (record { at_least = omega arith; at_most = omega arith; all = h.all }))

-- hours and minutes of their sum
module _ (h m : List ℕ) (k : NumOffsetOk h m) where
  pub hour_again : fixed 2 ((decimal h * 60 + decimal m) / 60) ≡ h
  hour_again =
      let e : (decimal h * 60 + decimal m) / 60 ≡ decimal h = omega (arith, k.minute_range) in
      ap (fixed 2) e ∙ digits_again 2 h k.hour_digits

  pub minute_again : fixed 2 ((decimal h * 60 + decimal m) % 60) ≡ m
  minute_again =
      let e : (decimal h * 60 + decimal m) % 60 ≡ decimal m = omega (arith, k.minute_range) in
      ap (fixed 2) e ∙ digits_again 2 m k.minute_digits

-- the clock that the instant shows
pub shows_again : (t : Timestamp) → FullOk t → clock_in (shown (seconds_of (clock_of t) (offset_of t.offset)) (offset_of t.offset)) ≡ clock_of t
shows_again t h = ap clock_in (back (clock_of t) (offset_of t.offset) (full_valid t h))
