-- The number of a refusal is never that of an answer, and that of one refusal alone is 4.
use mathlib.Core.Path.{◌≡◌, refl}
use mathlib.Core.Bool.{false}
use native.Mathlib.Omega.{arith}
use lib.Dec.{eqb}
use Rattle.record.specs.Refusals.{refusal_number}
use Rattle.record.specs.declared.Refusal.{Refusal}
use Rattle.record.specs.declared.Refusal.TheVariants.{LineTooLong, BadSetting, NotUtf8, NoReading, TooManyElements, TooManyParams, Unsuitable, NotFound, OutputShort, CellFull, BadCount, FrameTooLong, BadLength, UnknownVersion, BadField, WrongClaim, Unwritable}

pub not_0 : (f : Refusal) → eqb (refusal_number f) 0 ≡ false
not_0 LineTooLong = refl
not_0 BadSetting = refl
not_0 NotUtf8 = refl
not_0 NoReading = refl
not_0 TooManyElements = refl
not_0 TooManyParams = refl
not_0 Unsuitable = refl
not_0 NotFound = refl
not_0 OutputShort = refl
not_0 CellFull = refl
not_0 BadCount = refl
not_0 FrameTooLong = refl
not_0 BadLength = refl
not_0 UnknownVersion = refl
not_0 BadField = refl
not_0 WrongClaim = refl
not_0 Unwritable = refl

pub only_4 : (f : Refusal) → (f ≡ NoReading → ⊥) → refusal_number f ≡ 4 → ⊥
only_4 LineTooLong z q = omega arith
only_4 BadSetting z q = omega arith
only_4 NotUtf8 z q = omega arith
only_4 NoReading z q = z refl
only_4 TooManyElements z q = omega arith
only_4 TooManyParams z q = omega arith
only_4 Unsuitable z q = omega arith
only_4 NotFound z q = omega arith
only_4 OutputShort z q = omega arith
only_4 CellFull z q = omega arith
only_4 BadCount z q = omega arith
only_4 FrameTooLong z q = omega arith
only_4 BadLength z q = omega arith
only_4 UnknownVersion z q = omega arith
only_4 BadField z q = omega arith
only_4 WrongClaim z q = omega arith
only_4 Unwritable z q = omega arith
