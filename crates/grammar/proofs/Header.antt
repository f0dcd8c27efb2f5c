-- The header's readers and what they read.
use Prim.Native.Nat.{ℕ, suc}
use mathlib.Core.Path.{◌≡◌, refl, sym, subst}
use mathlib.Core.Bool.{true, false, not}
use mathlib.Core.List.{List, ◌∷◌, ◌++◌}
use mathlib.Core.Option.{none, some}
use mathlib.Core.Logic.{◌⊎◌, inl, inr, ⊎_elim}
use native.Mathlib.Omega.{arith}
use lib.ListN.{drop}
use lib.Dec.{leb}
use borrow.Author.Tests.{le-leb, leb-true, not-true}
use Rattle.base.specs.Choose.{is_at}
use Rattle.base.specs.Runs.{run}
use Rattle.base.proofs.Tests.{both}
use Rattle.base.proofs.Runs.{run_no}
use Rattle.digits.specs.Digits.{decimal}
use Rattle.grammar.specs.Abnf.{is_digit, print_us_ascii, Repeat}
use Rattle.grammar.specs.Line.{Offset, secfrac_then, offset_then, date_then, time_then, timestamp_then, zero_led, PrivalOk, VersionOk, SecfracOk, NumOffsetOk, OffsetOk, FullOk, TimestampOk}
use Rattle.grammar.specs.Parse.{Header, pri, version, pri_version, Three, two, is_prival, is_version, is_date, is_time, is_zone, date, clock, secfrac, zone, east_of, west_of, offset, timestamp_of, full, timestamp, printable, names, header}
use Rattle.grammar.proofs.Readers.{Reads, Any, Made, sides, joined, restate, under, retext, closed_reads, only_reads, into_reads, fields_reads, next_reads, next_any, always_reads, choose_reads, behind_reads}
use Rattle.grammar.proofs.Bytes.{begins, repeat_reads, fixed_reads}

-- ---- PRI VERSION SP

pub pri_reads : Reads (λ t r. 60 ∷ (t ++ (62 ∷ r))) PrivalOk Any pri
unfolding pri
pri_reads =
    behind_reads 59
    (closed_reads
    (restate (only_reads (repeat_reads 3 is_digit) is_prival)
    (λ t h. (h.digits, rw h.plain (le-leb (decimal t) 191 h.range)))
    (λ t h.
    let u = both (not (zero_led t)) (leb (decimal t) 191) h.1 in
    record { digits = h.0; plain = not-true (zero_led t) u.0; range = leb-true (decimal t) 191 u.1 }))
    61 (λ r. run_no is_digit 62 r refl))

pub version_reads : Reads (λ t r. t ++ (32 ∷ r)) VersionOk Any version
unfolding version
version_reads =
    closed_reads
    (restate (only_reads (repeat_reads 3 is_digit) is_version)
    (λ t h. (h.digits, rw h.nonzero))
    (λ t h. record { digits = h.0; nonzero = not-true (is_at t 0 48) h.1 }))
    31 (λ r. run_no is_digit 32 r refl)

-- ---- TIMESTAMP SP

pub two_reads : (b : ℕ) → Reads (λ t r. suc b ∷ (t ++ r)) (Repeat 2 2 is_digit) Any (two (suc b))
two_reads b = behind_reads b (fixed_reads 2)

-- three numbers with the byte b between them, the first of k digits
abbrev three_then : ℕ → Three → List ℕ → List ℕ
three_then b t r = t.0 ++ (b ∷ (t.1.0 ++ (b ∷ (t.1.1 ++ r))))

abbrev ThreeOk : ℕ → Three → Type 0
ThreeOk k t = Repeat k k is_digit t.0 × (Repeat 2 2 is_digit t.1.0 × Repeat 2 2 is_digit t.1.1)

pub date_reads : Reads (three_then 45) (λ t. ThreeOk 4 t × (is_date t ≡ true)) Any date
unfolding date
date_reads = only_reads (next_any (fixed_reads 4) (next_any (two_reads 44) (two_reads 44))) is_date

pub clock_reads : Reads (λ t r. 84 ∷ three_then 58 t r) (λ t. ThreeOk 2 t × (is_time t ≡ true)) Any clock
unfolding clock
clock_reads = only_reads (next_any (two_reads 83) (next_any (two_reads 57) (two_reads 57))) is_time

-- what stands after a secfrac
pub record NoFraction (r : List ℕ) : Type 0 where
  pub no_point : is_at r 0 46 ≡ false
  pub no_digit : run is_digit r ≡ 0

pub secfrac_reads : Reads secfrac_then SecfracOk NoFraction secfrac
unfolding secfrac
secfrac_reads =
    restate
    (choose_reads 45
    (under (into_reads (repeat_reads 6 is_digit) some (λ o r. drop 1 (secfrac_then o r)) (λ f r. refl)) (λ r k. k.no_digit))
    (always_reads secfrac_then none (λ r. refl))
    (λ o r m. rw (← m.is)) (λ o r e k. rw e k.no_point))
    (sides SecfracOk) (joined SecfracOk tt)

pub zone_reads : Reads (λ t r. t.0 ++ (58 ∷ (t.1 ++ r))) (λ (t : List ℕ × List ℕ). NumOffsetOk t.0 t.1) Any zone
unfolding zone
zone_reads =
    restate (only_reads (next_any (fixed_reads 2) (two_reads 57)) is_zone)
    (λ t h. ((h.hour_digits, h.minute_digits), rw (le-leb (decimal t.0) 23 h.hour_range) (le-leb (decimal t.1) 59 h.minute_range)))
    (λ t h.
    let u = both (leb (decimal t.0) 23) (leb (decimal t.1) 59) h.1 in
    record { hour_digits = h.0.0; minute_digits = h.0.1; hour_range = leb-true (decimal t.0) 23 u.0; minute_range = leb-true (decimal t.1) 59 u.1 })

-- how the offsets divide
abbrev East : Offset → Type 0
East = Made east_of (λ (t : List ℕ × List ℕ). NumOffsetOk t.0 t.1)

abbrev West : Offset → Type 0
West = Made west_of (λ (t : List ℕ × List ℕ). NumOffsetOk t.0 t.1)

which : (o : Offset) → OffsetOk o → (o ≡ Offset.utc) ⊎ (East o ⊎ West o)
which Offset.utc h = inl refl
which (Offset.east h m) k = inr (inl (record { of = (h, m); is = refl; ok = k }))
which (Offset.west h m) k = inr (inr (record { of = (h, m); is = refl; ok = k }))

any_of : (o : Offset) → (o ≡ Offset.utc) ⊎ (East o ⊎ West o) → OffsetOk o
any_of o = ⊎_elim (λ e. subst OffsetOk (sym e) tt) (⊎_elim (λ m. subst OffsetOk m.is m.ok) (λ m. subst OffsetOk m.is m.ok))

pub offset_reads : Reads offset_then OffsetOk Any offset
unfolding offset
offset_reads =
    restate
    (choose_reads 89
    (always_reads (λ o r. drop 1 (offset_then o r)) Offset.utc (λ r. refl))
    (choose_reads 42
    (into_reads zone_reads east_of (λ o r. drop 1 (offset_then o r)) (λ t r. refl))
    (retext (behind_reads 44 (into_reads zone_reads west_of (λ o r. drop 1 (offset_then o r)) (λ t r. refl))) (λ o r m. rw (← m.is)))
    (λ o r m. rw (← m.is)) (λ o r m _. rw (← m.is)))
    (λ o r e. rw e) (λ o r h _. ⊎_elim (λ m. rw (← m.is)) (λ m. rw (← m.is)) h))
    which any_of

no_fraction : (o : Offset) (r : List ℕ) → OffsetOk o → Any r → NoFraction (offset_then o r)
no_fraction Offset.utc r h k = record { no_point = refl; no_digit = run_no is_digit 90 r refl }
no_fraction (Offset.east h m) r _ k = record { no_point = refl; no_digit = run_no is_digit 43 _ refl }
no_fraction (Offset.west h m) r _ k = record { no_point = refl; no_digit = run_no is_digit 45 _ refl }

pub full_reads : Reads (λ t r. date_then t (84 ∷ time_then t r)) FullOk Any full
unfolding full
full_reads =
    fields_reads
    (next_any date_reads (next_any clock_reads (next_reads secfrac_reads offset_reads no_fraction)))
    timestamp_of
    (λ t. ((t.year, (t.month, t.day)), ((t.hour, (t.minute, t.second)), (t.secfrac, t.offset))))
    (λ t r. date_then t (84 ∷ time_then t r)) (λ t. refl) (λ t r. refl)
    (λ t h. (
      ((h.year_digits, (h.month_digits, h.day_digits)), h.date),
      (((h.hour_digits, (h.minute_digits, h.second_digits)), h.time), (h.secfrac_ok, h.offset_ok)),
    ))
    (λ t h.
    record {
      year_digits = h.0.0.0;
      month_digits = h.0.0.1.0;
      day_digits = h.0.0.1.1;
      date = h.0.1;
      hour_digits = h.1.0.0.0;
      minute_digits = h.1.0.0.1.0;
      second_digits = h.1.0.0.1.1;
      time = h.1.0.1;
      secfrac_ok = h.1.1.0;
      offset_ok = h.1.1.1;
    })

pub timestamp_reads : Reads (λ o r. timestamp_then o (32 ∷ r)) TimestampOk Any timestamp
unfolding timestamp
timestamp_reads =
    closed_reads
    (restate
    (choose_reads 44
    (always_reads (λ o r. drop 1 (timestamp_then o r)) none (λ r. refl))
    (into_reads full_reads some timestamp_then (λ t r. refl))
    (λ o r e. rw e)
    (λ o r m _. rw (← m.is) (let y = m.ok.year_digits in begins is_digit m.of.year _ 45 (omega arith) y.all refl)))
    (λ o h. ⊎_elim inr inl (sides TimestampOk o h)) (λ o h. joined TimestampOk tt o (⊎_elim inr inl h)))
    31 (λ r. tt)

-- ---- HOSTNAME SP APP-NAME SP PROCID SP MSGID SP

pub printable_reads : (most : ℕ) → Reads (λ t r. t ++ (32 ∷ r)) (Repeat 1 most print_us_ascii) Any (printable most)
printable_reads most = closed_reads (repeat_reads most print_us_ascii) 31 (λ r. run_no print_us_ascii 32 r refl)

-- ---- HEADER SP

abbrev pub header_then : Header → List ℕ → List ℕ
header_then h r =
    60 ∷ (h.0.0 ++ (62 ∷ (h.0.1 ++ (32 ∷
    timestamp_then h.1.0 (32 ∷ (h.1.1.0 ++ (32 ∷ (h.1.1.1.0 ++ (32 ∷ (h.1.1.1.1.0 ++ (32 ∷ (h.1.1.1.1.1 ++ (32 ∷ r)))))))))))))

abbrev pub HeaderOk : Header → Type 0
HeaderOk h =
    (PrivalOk h.0.0 × VersionOk h.0.1) × (TimestampOk h.1.0 × (Repeat 1 255 print_us_ascii h.1.1.0 × (Repeat 1 48 print_us_ascii h.1.1.1.0
    × (Repeat 1 128 print_us_ascii h.1.1.1.1.0 × Repeat 1 32 print_us_ascii h.1.1.1.1.1))))

pub header_reads : Reads header_then HeaderOk Any header
unfolding header pri_version names
header_reads =
    next_any (next_any pri_reads version_reads)
    (next_any timestamp_reads
    (next_any (printable_reads 255) (next_any (printable_reads 48) (next_any (printable_reads 128) (printable_reads 32)))))
