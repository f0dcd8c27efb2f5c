-- The timestamp: what is written of it is a timestamp of the grammar and says the same; and what a timestamp of the grammar says may be written.
use Rattle.std.specs.Prelude as std
use Rattle.std.specs.Prelude.{Some, None}
use Prim.Native.Nat.{ℕ, suc, ◌≤◌}
use mathlib.Core.Path.{◌≡◌, refl, ap}
use mathlib.Core.Bool.{true}
use mathlib.Core.Option.{Option, none, some}
use native.Mathlib.Omega.{arith}
use lib.IntN.{ℤ, pos, negsuc, neg_ℤ, nat_abs}
use Rattle.calendar.specs.Calendar.{valid}
use Rattle.calendar.specs.Instant.{shown}
use Rattle.calendar.proofs.ThereAndBack.{back, shown_valid, shown_seconds}
use Rattle.record.specs.declared.Timestamp as instant
use Rattle.suits.proofs.Suited.{StampIn}
use Rattle.grammar.specs.Line.{Timestamp, OffsetOk, FullOk, TimestampOk}
use Rattle.grammar.specs.Reading.{offset_of, stamp_of}
use Rattle.claims.specs.Texts.{secfrac_of, clock_in, clock_texts}
use Rattle.claims.proofs.Moments.{clock_of, clock_said, zone_minutes, zone_numbers, frac_said, frac_digits, frac_ok, texts_ok, offset_small, frac_nanos, frac_few, frac_exact, full_valid}
use Rattle.writes.specs.Written.{zone_of, timestamp_of}
use Rattle.writes.proofs.Rules.{Suitable, FewDigits}

-- ---- the offset

zone_ok : (o : ℤ) → nat_abs o ≤ 1439 → OffsetOk (zone_of o)
zone_ok (pos n) h = zone_numbers n h
zone_ok (negsuc n) h = zone_numbers (suc n) h

zone_said : (o : ℤ) → nat_abs o ≤ 1439 → offset_of (zone_of o) ≡ o
zone_said (pos n) h = ap pos (zone_minutes n h)
zone_said (negsuc n) h = ap (λ (k : ℕ). neg_ℤ (pos k)) (zone_minutes (suc n) h)

-- ---- what is written

module _ (m : instant.Timestamp) (h : StampIn m) (few : m.digits ≤ 6) where
  clock_valid : valid h.clock ≡ true
  clock_valid = shown_valid m.seconds m.offset h.clock h.shows

  instant_ok : FullOk (clock_texts (clock_in (shown m.seconds m.offset)) (secfrac_of m.digits m.nanos) (zone_of m.offset))
  instant_ok =
      rw h.shows
      (texts_ok h.clock clock_valid (secfrac_of m.digits m.nanos) (frac_ok m.digits m.nanos few) (zone_of m.offset) (zone_ok m.offset h.offset_in))

  instant_said : stamp_of (timestamp_of (Some m)) ≡ Some m
  instant_said =
      let c = h.clock in
      rw (
        h.shows,
        clock_said c clock_valid (secfrac_of m.digits m.nanos) (zone_of m.offset),
        zone_said m.offset h.offset_in,
        frac_said m.digits m.nanos h.digits_in h.nanos_in h.digits_show,
        frac_digits m.digits m.nanos,
        shown_seconds m.seconds m.offset c h.shows,
      )

pub timestamp_written : (t : std.Option instant.Timestamp) → Suitable t → FewDigits t → TimestampOk (timestamp_of t)
timestamp_written None h f = tt
timestamp_written (Some m) h f = instant_ok m h f

pub timestamp_said : (t : std.Option instant.Timestamp) → Suitable t → FewDigits t → stamp_of (timestamp_of t) ≡ t
timestamp_said None h f = refl
timestamp_said (Some m) h f = instant_said m h f

-- ---- what a timestamp of the grammar says

said_suits : (t : Timestamp) → FullOk t → Suitable (stamp_of (some t))
said_suits t h =
    record {
      nanos_in = frac_nanos t.secfrac h.secfrac_ok;
      digits_in = omega (arith, frac_few t.secfrac h.secfrac_ok);
      digits_show = frac_exact t.secfrac;
      offset_in = offset_small t.offset h.offset_ok;
      clock = clock_of t;
      shows = back (clock_of t) (offset_of t.offset) (full_valid t h);
    }

pub timestamp_suits : (t : Option Timestamp) → TimestampOk t → Suitable (stamp_of t)
timestamp_suits none h = tt
timestamp_suits (some t) h = said_suits t h

pub timestamp_few : (t : Option Timestamp) → TimestampOk t → FewDigits (stamp_of t)
timestamp_few none h = tt
timestamp_few (some t) h = frac_few t.secfrac h.secfrac_ok
