-- hour:minute:second, each of digits of any count within 32 bits.
use Rattle.std.specs.Prelude.{ℕ, List, Option, Some, None}
use Rattle.parsers.specs.Steps.{number_from, byte_from, on_read, on_some}
use Rattle.timestamp.specs.declared.Clock.{Clock}

unfoldable pub clock_from : List ℕ → ℕ → Option (Clock × ℕ)
clock_from s at =
    on_read (number_from s at) None λ hour a.
    on_some (byte_from s a 58) None λ b.
    on_read (number_from s b) None λ minute c.
    on_some (byte_from s c 58) None λ d.
    on_read (number_from s d) None λ second e.
    Some (record { hour = hour; minute = minute; second = second }, e)

abbrev pub on_clock : {R : Type 0} → Option (Clock × ℕ) → R → (ℕ → ℕ → ℕ → ℕ → R) → R
on_clock None r k = r
on_clock (Some x) r k = k x.0.hour x.0.minute x.0.second x.1
