-- The texts of numbers and of an instant, which are written from them. The check has them for private contracts alone; by them the writer says what it writes.
use Rattle.std.specs.Prelude.{ℕ, zero, suc, ◌+◌, ◌-◌, ◌*◌, ◌/◌, ◌%◌, ◌^◌, List, eqb, nat_abs, get_or, if◌then◌else◌, Some, None}
use Rattle.std.specs.Prelude as std
use Rattle.std.proofs.Math.Option.{Option, none, some}
use Rattle.calendar.specs.Instant.{shown}
use Rattle.calendar.specs.declared.DateTime.{DateTime}
use Rattle.output.specs.Numerals.{fixed}
use Rattle.record.specs.declared.Timestamp as instant
use Rattle.record.specs.declared.Protocol.{Protocol}
use Rattle.record.specs.declared.Protocol.TheVariants.{Rfc3164, Rfc5424}
use Rattle.grammar.specs.Line.{Offset, Timestamp}

-- ---- PRI VERSION

abbrev pub level_of : std.Option ℕ → ℕ
level_of None = 0
level_of (Some n) = n

abbrev pub version_of : Protocol → ℕ
version_of Rfc3164 = 0
version_of (Rfc5424 v) = v

abbrev pub priority_of : std.Option ℕ → std.Option ℕ → ℕ
priority_of facility severity = level_of facility * 8 + level_of severity

-- ---- TIMESTAMP

-- the clock that an instant shows (where it shows none, refusal 7 was given)
abbrev pub clock_in : std.Option DateTime → DateTime
clock_in None = record { year = 0; month = 0; day = 0; hour = 0; minute = 0; second = 0 }
clock_in (Some c) = c

-- exactly so many digits; with none, no point
abbrev pub secfrac_of : ℕ → ℕ → Option (List ℕ)
secfrac_of zero nanos = none
secfrac_of (suc k) nanos = some (fixed (suc k) (nanos / 10 ^ (9 - suc k)))

-- the length of the point and the digits
abbrev pub fraction_len : ℕ → ℕ
fraction_len digits = if eqb digits 0 then 0 else digits + 1

-- Z, -hh:mm or +hh:mm, by the byte that stands there, so that all three forms of offset 0 may be claimed
abbrev pub zone_by : ℕ → ℕ → Offset
zone_by b minutes =
    if eqb b 90 then Offset.utc
    else if eqb b 45 then Offset.west (fixed 2 (minutes / 60)) (fixed 2 (minutes % 60))
    else Offset.east (fixed 2 (minutes / 60)) (fixed 2 (minutes % 60))

abbrev pub clock_texts : DateTime → Option (List ℕ) → Offset → Timestamp
clock_texts c f o =
    record {
      year = fixed 4 c.year;
      month = fixed 2 c.month;
      day = fixed 2 c.day;
      hour = fixed 2 c.hour;
      minute = fixed 2 c.minute;
      second = fixed 2 c.second;
      secfrac = f;
      offset = o;
    }

-- where the byte stands by which the offset's form is told, in a text that starts at `at`: behind date, clock and fraction
abbrev pub zone_at : ℕ → ℕ → ℕ
zone_at at digits = at + (19 + fraction_len digits)

abbrev pub written_stamp : List ℕ → ℕ → std.Option instant.Timestamp → Option Timestamp
written_stamp line at None = none
written_stamp line at (Some t) =
    some (clock_texts (clock_in (shown t.seconds t.offset)) (secfrac_of t.digits t.nanos) (zone_by (get_or line (zone_at at t.digits) 0) (nat_abs t.offset)))
