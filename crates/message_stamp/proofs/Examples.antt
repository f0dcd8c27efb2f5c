-- Worked examples, computed from the definitions.
use Rattle.std.specs.Prelude.{Option, Some, None}
use Prim.Native.Nat.{ℕ}
use mathlib.Core.Path.{◌≡◌, refl}
use mathlib.Core.List.{[], ◌∷◌, map}
use lib.IntN.{ℤ, pos, negsuc}
use Rattle.base.specs.Bytes.{bytes}
use Rattle.calendar.specs.Calendar.{leap, month_days, year_days, days_before_year, days_of_months}
use Rattle.calendar.specs.Instant.{span_from, year_of, month_of, clock_of, shown}
use Rattle.output.specs.Numerals.{fixed}
use Rattle.message_stamp.specs.Stamps.{date_text, time_text, clock_text, fraction_text, offset_text, stamp_text}
use Rattle.record.specs.declared.Timestamp.{Timestamp}

-- an instant, its nanoseconds, their digits and the offset at which it is shown
stamp : ℤ → ℕ → ℕ → ℤ → Option Timestamp
stamp seconds nanos digits offset = Some (record { seconds = seconds; nanos = nanos; digits = digits; offset = offset })

printed : map stamp_text
    (None
    ∷ stamp (pos 1675587662) 0 0 (pos 60)
    ∷ stamp (pos 1675591262) 0 3 (pos 60)
    ∷ stamp (pos 0) 500000000 6 (pos 0)
    ∷ stamp (pos 0) 500000000 1 (pos 0)
    ∷ stamp (pos 0) 123456000 6 (negsuc 59)
    ∷ stamp (negsuc 0) 1 9 (negsuc 1438)
    ∷ stamp (negsuc 62167219199) 1000000 3 (pos 1)
    ∷ stamp (pos 253402300799) 999999999 9 (negsuc 0)
    ∷ stamp (pos 0) 0 9 (pos 1439)
    ∷ [])
    ≡ bytes "-"
    ∷ bytes "2023-02-05T10:01:02+01:00"
    ∷ bytes "2023-02-05T11:01:02.000+01:00"
    ∷ bytes "1970-01-01T00:00:00.500000+00:00"
    ∷ bytes "1970-01-01T00:00:00.5+00:00"
    ∷ bytes "1969-12-31T23:00:00.123456-01:00"
    ∷ bytes "1969-12-31T00:00:59.000000001-23:59"
    ∷ bytes "0000-01-01T00:01:00.001+00:01"
    ∷ bytes "9999-12-31T23:58:59.999999999-00:01"
    ∷ bytes "1970-01-01T23:59:00.000000000+23:59"
    ∷ []
unfolding stamp fixed date_text time_text clock_text fraction_text offset_text leap month_days year_days days_before_year days_of_months span_from year_of month_of clock_of shown
printed = refl
