-- The settings, by the tests that decide them.
use Prim.Native.Nat.{ℕ}
use mathlib.Core.Path.{◌≡◌}
use mathlib.Core.Bool.{Bool, ◌&&◌}
use lib.Dec.{leb}
use lib.IntN.{ℤ}
use mir.Syntax.{w32}
use mir.Val.{SFits, to_z, of_z}
use mir.ValLaws.{to_z-of_z}
use Rattle.calendar.specs.Calendar.{last_year, valid_offset}
use Rattle.loose.specs.Loose.{settings_ok}

pub settings_are : (o : ℤ) → SFits w32 o → (variant year : ℕ) (t : Bool) → t ≡ valid_offset (to_z w32 (of_z w32 o))
    → ((leb variant 2 && leb year last_year) && t) ≡ settings_ok variant year o
settings_are o f variant year t e = rw (e, to_z-of_z w32 o f)
