-- How far the header's readers reach.
use Prim.Native.Nat.{ℕ, suc, ◌-◌, ◌≤◌}
use mathlib.Core.Path.{◌≡◌, refl, sym, subst}
use mathlib.Core.Bool.{Bool, true, false, not, ◌&&◌}
use mathlib.Core.List.{List, [], ◌∷◌, ◌++◌}
use mathlib.Core.Option.{none, some}
use mathlib.Core.Logic.{inl, inr, ⊎_elim}
use native.Mathlib.Omega.{arith}
use lib.ListN.{get_or, drop}
use lib.Dec.{leb, ltb}
use borrow.Author.Tests.{le-leb, leb-true, lt-ltb, ltb-true, not-true}
use Rattle.base.specs.Choose.{within, is_at}
use Rattle.base.specs.Runs.{run}
use Rattle.base.proofs.Tests.{both}
use Rattle.base.proofs.Ranges.{inside, orders}
use Rattle.base.proofs.Runs.{run_no, all_at}
use Rattle.digits.specs.Digits.{decimal}
use Rattle.calendar.specs.Calendar.{leap, months, row, month_days, valid_date, valid_time}
use Rattle.grammar.specs.Abnf.{is_digit, print_us_ascii, Repeat}
use Rattle.grammar.specs.Line.{Offset, secfrac_then, offset_then, date_then, time_then, timestamp_then, zero_led, PrivalOk, VersionOk, SecfracOk, NumOffsetOk, OffsetOk, FullOk, TimestampOk}
use Rattle.grammar.specs.Parse.{always, choose, into, only, repeat, pri, version, pri_version, Three, is_prival, is_version, is_date, is_time, date, clock, secfrac, zone, east_of, west_of, offset, timestamp_of, full, timestamp, printable, names, header}
use Rattle.grammar.proofs.Readers.{Reads, Any, Made, sides, joined, restate, closed_reads, only_reads, behind_reads, next_any, next_reads, into_reads, always_reads, choose_reads}
use Rattle.grammar.proofs.Bytes.{itself, begins, repeat_reads, fixed_reads}
use Rattle.grammar.proofs.Header.{NoFraction, pri_reads, version_reads, date_reads, clock_reads, secfrac_reads, zone_reads, offset_reads, full_reads, timestamp_reads, printable_reads, header_then, HeaderOk}
use Rattle.viable.specs.Viable.{is_byte}
use Rattle.viable.specs.Far.{none_far, choose_far}
use Rattle.viable.specs.Reach.{pri_far, version_sp_far, two_in, two_in_far, date_by, date_far, clock_by, clock_far, zone_by, zone_far, secfrac_far, offset_far, full_far, timestamp_far, printable_far, names_far, header_far}
use Rattle.viable.proofs.Reaches.{Reaches, restate_reaches, retext_reaches, follow_reads, follow_reaches, next_reaches, closed_reaches, into_reaches, always_reaches, choose_reaches, behind_reaches, agree, same_reaches}
use Rattle.viable.proofs.Leaves.{repeat_reaches, fixed_reaches, RangeOk, ranged_reads, ranged_reaches, prival_reaches, version_reaches}

-- ---- PRI VERSION SP

prival_reads : Reads itself PrivalOk (λ r. run is_digit r ≡ 0) (only is_prival (repeat 3 is_digit))
prival_reads =
    restate (only_reads (repeat_reads 3 is_digit) is_prival)
    (λ t h. (h.digits, rw h.plain (le-leb (decimal t) 191 h.range)))
    (λ t h.
    let u = both (not (zero_led t)) (leb (decimal t) 191) h.1 in
    record { digits = h.0; plain = not-true (zero_led t) u.0; range = leb-true (decimal t) 191 u.1 })

version_digits_reads : Reads itself VersionOk (λ r. run is_digit r ≡ 0) (only is_version (repeat 3 is_digit))
version_digits_reads =
    restate (only_reads (repeat_reads 3 is_digit) is_version)
    (λ t h. (h.digits, rw h.nonzero))
    (λ t h. record { digits = h.0; nonzero = not-true (is_at t 0 48) h.1 })

pub pri_reaches : Reaches (λ t r. 60 ∷ (t ++ (62 ∷ r))) PrivalOk pri pri_far
unfolding pri pri_far
pri_reaches = behind_reaches 59 refl (closed_reads prival_reads 61 (λ r. run_no is_digit 62 r refl)) (closed_reaches prival_reads prival_reaches 61 refl)

pub version_sp_reaches : Reaches (λ t r. t ++ (32 ∷ r)) VersionOk version version_sp_far
unfolding version version_sp_far
version_sp_reaches = closed_reaches version_digits_reads version_reaches 31 refl

-- ---- TIMESTAMP SP

two_reads : (b lo hi : ℕ) → Reads (λ t r. suc b ∷ (t ++ r)) (RangeOk lo hi) Any (two_in (suc b) lo hi)
two_reads b lo hi = behind_reads b (ranged_reads lo hi)

two_reaches : (b : ℕ) → is_byte (suc b) ≡ true → (lo hi : ℕ) → lo ≤ 9 → lo ≤ hi → Reaches (λ t r. suc b ∷ (t ++ r)) (RangeOk lo hi) (two_in (suc b) lo hi) (two_in_far (suc b) lo hi)
two_reaches b byte lo hi l m = behind_reaches b byte (ranged_reads lo hi) (ranged_reaches lo hi l m)

-- every month has a day
month_from_lem : (y m : ℕ) → 1 ≤ m → m ≤ 12 → 1 ≤ month_days y m
unfolding month_days
month_from_lem y m l h = leb-true 1 _ (go (leap y))
  where
    go : (b : Bool) → leb 1 (get_or (get_or months (row b) []) (m - 1) 0) ≡ true
    go true = all_at (λ d. leb 1 d) (get_or months 1 []) (m - 1) (search depth 16) (omega arith)
    go false = all_at (λ d. leb 1 d) (get_or months 0 []) (m - 1) (search depth 16) (omega arith)

-- the three numbers of a date or of a clock, the first of the rule P
abbrev date_three : Three → List ℕ → List ℕ
date_three t r = t.0 ++ (45 ∷ (t.1.0 ++ (45 ∷ (t.1.1 ++ r))))

abbrev DateOk : Three → Type 0
DateOk t = Repeat 4 4 is_digit t.0 × (RangeOk 1 12 t.1.0 × RangeOk 1 (month_days (decimal t.0) (decimal t.1.0)) t.1.1)

date_by_reads : Reads date_three DateOk Any date_by
unfolding date_by
date_by_reads = follow_reads (fixed_reads 4) (λ y h. follow_reads (two_reads 44 1 12) (λ m k. two_reads 44 1 (month_days (decimal y) (decimal m))))

date_by_reaches : Reaches date_three DateOk date_by date_far
unfolding date_by date_far
date_by_reaches =
    follow_reaches (fixed_reads 4)
    (λ y h. follow_reads (two_reads 44 1 12) (λ m k. two_reads 44 1 (month_days (decimal y) (decimal m))))
    (fixed_reaches 4)
    (λ y h.
    follow_reaches (two_reads 44 1 12) (λ m k. two_reads 44 1 (month_days (decimal y) (decimal m)))
    (two_reaches 44 refl 1 12 (omega arith) (omega arith))
    (λ m k. let o = orders 1 12 (decimal m) k.1 in two_reaches 44 refl 1 (month_days (decimal y) (decimal m)) (omega arith) (month_from_lem (decimal y) (decimal m) o.0 o.1)))

-- the same as the grammar's rule
abbrev DateIs : Three → Type 0
DateIs t = (Repeat 4 4 is_digit t.0 × (Repeat 2 2 is_digit t.1.0 × Repeat 2 2 is_digit t.1.1)) × (is_date t ≡ true)

date_to : (t : Three) → DateIs t → DateOk t
unfolding valid_date
date_to t h =
    let (p, q) = both (within 1 12 (decimal t.1.0)) (within 1 (month_days (decimal t.0) (decimal t.1.0)) (decimal t.1.1)) h.1 in
    (h.0.0, ((h.0.1.0, p), (h.0.1.1, q)))

date_from_lem : (t : Three) → DateOk t → DateIs t
unfolding valid_date
date_from_lem t h = ((h.0, (h.1.0.0, h.1.1.0)), rw h.1.0.1 h.1.1.1)

pub date_same : (s : List ℕ) → date s ≡ date_by s
date_same = agree date_reads (restate date_by_reads date_to date_from_lem)

pub date_reaches : Reaches date_three DateIs date date_far
date_reaches = same_reaches date_same (restate_reaches date_by_reaches date_from_lem)

abbrev clock_three : Three → List ℕ → List ℕ
clock_three t r = 84 ∷ (t.0 ++ (58 ∷ (t.1.0 ++ (58 ∷ (t.1.1 ++ r)))))

abbrev ClockOk : Three → Type 0
ClockOk t = RangeOk 0 23 t.0 × (RangeOk 0 59 t.1.0 × RangeOk 0 59 t.1.1)

abbrev ClockIs : Three → Type 0
ClockIs t = (Repeat 2 2 is_digit t.0 × (Repeat 2 2 is_digit t.1.0 × Repeat 2 2 is_digit t.1.1)) × (is_time t ≡ true)

clock_to : (t : Three) → ClockIs t → ClockOk t
unfolding valid_time
clock_to t h =
    let (u, r) = both (ltb (decimal t.0) 24 && ltb (decimal t.1.0) 60) (ltb (decimal t.1.1) 60) h.1 in
    let (p, q) = both (ltb (decimal t.0) 24) (ltb (decimal t.1.0) 60) u in
    ((h.0.0, to 23 (decimal t.0) p), ((h.0.1.0, to 59 (decimal t.1.0) q), (h.0.1.1, to 59 (decimal t.1.1) r)))
  where
    to : (hi v : ℕ) → ltb v (suc hi) ≡ true → within 0 hi v ≡ true
    to hi v e = inside 0 hi v (omega arith) (let l = ltb-true v (suc hi) e in omega arith)

clock_from_lem : (t : Three) → ClockOk t → ClockIs t
unfolding valid_time
clock_from_lem t h =
    let p = orders 0 23 (decimal t.0) h.0.1 in
    let q = orders 0 59 (decimal t.1.0) h.1.0.1 in
    let r = orders 0 59 (decimal t.1.1) h.1.1.1 in
    ((h.0.0, (h.1.0.0, h.1.1.0)), rw (lt-ltb (decimal t.0) 24 (omega arith), lt-ltb (decimal t.1.0) 60 (omega arith), lt-ltb (decimal t.1.1) 60 (omega arith)))

clock_by_reads : Reads clock_three ClockOk Any clock_by
unfolding clock_by
clock_by_reads = next_any (two_reads 83 0 23) (next_any (two_reads 57 0 59) (two_reads 57 0 59))

clock_by_reaches : Reaches clock_three ClockOk clock_by clock_far
unfolding clock_by clock_far
clock_by_reaches =
    next_reaches (two_reads 83 0 23) (next_any (two_reads 57 0 59) (two_reads 57 0 59))
    (two_reaches 83 refl 0 23 (omega arith) (omega arith))
    (next_reaches (two_reads 57 0 59) (two_reads 57 0 59) (two_reaches 57 refl 0 59 (omega arith) (omega arith)) (two_reaches 57 refl 0 59 (omega arith) (omega arith)))

pub clock_same : (s : List ℕ) → clock s ≡ clock_by s
clock_same = agree clock_reads (restate clock_by_reads clock_to clock_from_lem)

pub clock_reaches : Reaches clock_three ClockIs clock clock_far
clock_reaches = same_reaches clock_same (restate_reaches clock_by_reaches clock_from_lem)

-- [TIME-SECFRAC] TIME-OFFSET

pub secfrac_reaches : Reaches secfrac_then SecfracOk secfrac secfrac_far
unfolding secfrac secfrac_far
secfrac_reaches =
    choose_reaches 45
    (into_reaches (repeat_reaches 6 is_digit 48 (omega arith) refl refl) some (λ o r. drop 1 (secfrac_then o r)) {Ok' = Made some (Repeat 1 6 is_digit)} (λ f r. refl) (λ f h. record { of = f; is = refl; ok = h }))
    (always_reaches secfrac_then (λ o. o ≡ none) none)
    (λ o m. rw (← m.is)) (λ o m. subst SecfracOk m.is m.ok) (λ o e. subst SecfracOk (sym e) tt)

abbrev ZoneOk : List ℕ × List ℕ → Type 0
ZoneOk t = NumOffsetOk t.0 t.1

abbrev zone_then : List ℕ × List ℕ → List ℕ → List ℕ
zone_then t r = t.0 ++ (58 ∷ (t.1 ++ r))

zone_to : (t : List ℕ × List ℕ) → ZoneOk t → RangeOk 0 23 t.0 × RangeOk 0 59 t.1
zone_to t h = ((h.hour_digits, inside 0 23 (decimal t.0) (omega arith) h.hour_range), (h.minute_digits, inside 0 59 (decimal t.1) (omega arith) h.minute_range))

zone_from_lem : (t : List ℕ × List ℕ) → RangeOk 0 23 t.0 × RangeOk 0 59 t.1 → ZoneOk t
zone_from_lem t h =
    record { hour_digits = h.0.0; minute_digits = h.1.0; hour_range = (orders 0 23 (decimal t.0) h.0.1).1; minute_range = (orders 0 59 (decimal t.1) h.1.1).1 }

pub zone_same : (s : List ℕ) → zone s ≡ zone_by s
unfolding zone_by
zone_same = agree zone_reads (restate (next_any (ranged_reads 0 23) (two_reads 57 0 59)) zone_to zone_from_lem)

pub zone_reaches : Reaches zone_then ZoneOk zone zone_far
unfolding zone_by zone_far
zone_reaches =
    same_reaches zone_same
    (restate_reaches (next_reaches (ranged_reads 0 23) (two_reads 57 0 59) (ranged_reaches 0 23 (omega arith) (omega arith)) (two_reaches 57 refl 0 59 (omega arith) (omega arith))) zone_from_lem)

-- an offset made of a zone
zoned_reaches : (f : List ℕ × List ℕ → Offset) → ((t : List ℕ × List ℕ) (r : List ℕ) → drop 1 (offset_then (f t) r) ≡ zone_then t r) → Reaches (λ o r. drop 1 (offset_then o r)) (Made f ZoneOk) (into f zone) zone_far
zoned_reaches f same = into_reaches zone_reaches f (λ o r. drop 1 (offset_then o r)) same (λ t h. record { of = t; is = refl; ok = h })

pub offset_reaches : Reaches offset_then OffsetOk offset offset_far
unfolding offset offset_far
offset_reaches =
    choose_reaches 89
    (always_reaches (λ o r. drop 1 (offset_then o r)) (λ o. o ≡ Offset.utc) Offset.utc)
    (choose_reaches 42
    (zoned_reaches east_of (λ t r. refl))
    (retext_reaches (behind_reaches 44 refl (into_reads zone_reads west_of (λ o r. drop 1 (offset_then o r)) (λ t r. refl)) (zoned_reaches west_of (λ t r. refl))) (λ o m. rw (← m.is)))
    (λ o m. rw (← m.is)) (λ o m. subst OffsetOk m.is m.ok) (λ o m. subst OffsetOk m.is m.ok))
    (λ o e. rw e) (λ o e. subst OffsetOk (sym e) tt) (λ o h. h)

no_fraction : (o : Offset) (r : List ℕ) → OffsetOk o → Any r → NoFraction (offset_then o r)
no_fraction Offset.utc r h k = record { no_point = refl; no_digit = run_no is_digit 90 r refl }
no_fraction (Offset.east h m) r _ k = record { no_point = refl; no_digit = run_no is_digit 43 _ refl }
no_fraction (Offset.west h m) r _ k = record { no_point = refl; no_digit = run_no is_digit 45 _ refl }

pub full_reaches : Reaches (λ t r. date_then t (84 ∷ time_then t r)) FullOk full full_far
unfolding full full_far
full_reaches =
    into_reaches
    (next_reaches date_reads (next_any clock_reads (next_reads secfrac_reads offset_reads no_fraction)) date_reaches
    (next_reaches clock_reads (next_reads secfrac_reads offset_reads no_fraction) clock_reaches
    (next_reaches secfrac_reads offset_reads secfrac_reaches offset_reaches)))
    timestamp_of (λ t r. date_then t (84 ∷ time_then t r)) (λ t r. refl)
    (λ t h.
    record {
      year_digits = h.0.0.0;
      month_digits = h.0.0.1.0;
      day_digits = h.0.0.1.1;
      date = h.0.1;
      hour_digits = h.1.0.0.0;
      minute_digits = h.1.0.0.1.0;
      second_digits = h.1.0.0.1.1;
      time = h.1.0.1;
      secfrac_ok = h.1.1.0;
      offset_ok = h.1.1.1;
    })

-- a timestamp or NILVALUE
stamp_reads : Reads timestamp_then TimestampOk Any (choose 45 (always none) (into some full))
stamp_reads =
    restate
    (choose_reads 44
    (always_reads (λ o r. drop 1 (timestamp_then o r)) none (λ r. refl))
    (into_reads full_reads some timestamp_then (λ t r. refl))
    (λ o r e. rw e)
    (λ o r m _. rw (← m.is) (let y = m.ok.year_digits in begins is_digit m.of.year _ 45 (omega arith) y.all refl)))
    (λ o h. ⊎_elim inr inl (sides TimestampOk o h)) (λ o h. joined TimestampOk tt o (⊎_elim inr inl h))

stamp_reaches : Reaches timestamp_then TimestampOk (choose 45 (always none) (into some full)) (choose_far 45 none_far full_far)
stamp_reaches =
    choose_reaches 44
    (always_reaches (λ o r. drop 1 (timestamp_then o r)) (λ o. o ≡ none) none)
    (into_reaches full_reaches some timestamp_then {Ok' = Made some FullOk} (λ t r. refl) (λ t h. record { of = t; is = refl; ok = h }))
    (λ o e. rw e) (λ o e. subst TimestampOk (sym e) tt) (λ o m. subst TimestampOk m.is m.ok)

pub timestamp_reaches : Reaches (λ o r. timestamp_then o (32 ∷ r)) TimestampOk timestamp timestamp_far
unfolding timestamp timestamp_far
timestamp_reaches = closed_reaches stamp_reads stamp_reaches 31 refl

-- ---- HOSTNAME SP APP-NAME SP PROCID SP MSGID SP

pub printable_reaches : (most : ℕ) → 1 ≤ most → Reaches (λ t r. t ++ (32 ∷ r)) (Repeat 1 most print_us_ascii) (printable most) (printable_far most)
printable_reaches most l = closed_reaches (repeat_reads most print_us_ascii) (repeat_reaches most print_us_ascii 45 l refl refl) 31 refl

names_reads : Reads (λ (n : List ℕ × (List ℕ × (List ℕ × List ℕ))) r. n.0 ++ (32 ∷ (n.1.0 ++ (32 ∷ (n.1.1.0 ++ (32 ∷ (n.1.1.1 ++ (32 ∷ r))))))))
    (λ n. Repeat 1 255 print_us_ascii n.0 × (Repeat 1 48 print_us_ascii n.1.0 × (Repeat 1 128 print_us_ascii n.1.1.0 × Repeat 1 32 print_us_ascii n.1.1.1))) Any names
unfolding names
names_reads = next_any (printable_reads 255) (next_any (printable_reads 48) (next_any (printable_reads 128) (printable_reads 32)))

-- ---- HEADER SP

pub header_reaches : Reaches header_then HeaderOk header header_far
unfolding header pri_version names header_far names_far
header_reaches =
    next_reaches (next_any pri_reads version_reads) (next_any timestamp_reads names_reads)
    (next_reaches pri_reads version_reads pri_reaches version_sp_reaches)
    (next_reaches timestamp_reads names_reads timestamp_reaches
    (next_reaches (printable_reads 255) (next_any (printable_reads 48) (next_any (printable_reads 128) (printable_reads 32))) (printable_reaches 255 (omega arith))
    (next_reaches (printable_reads 48) (next_any (printable_reads 128) (printable_reads 32)) (printable_reaches 48 (omega arith))
    (next_reaches (printable_reads 128) (printable_reads 32) (printable_reaches 128 (omega arith)) (printable_reaches 32 (omega arith))))))
