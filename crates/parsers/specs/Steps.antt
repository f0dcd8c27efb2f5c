-- Steps of a reader at a position of the line: what was read, and the position after it. `onX x r k` goes on with k, or answers r where x failed.
use Rattle.std.specs.Prelude.{ℕ, ◌+◌, List, Bool, not, ◌||◌, eqb, get_or, drop, if◌then◌else◌, Option, Some, None}
use Rattle.base.specs.Choose.{is_at}
use Rattle.base.specs.Runs.{run}
use Rattle.digits.specs.Digits.{number_at}
use Rattle.record.specs.Places.{absent, place}
use Rattle.record.specs.declared.Place.{Place}
use Rattle.parsers.specs.Parsers.{plain_at, host_at, tag_at}
use Rattle.parsers.specs.declared.Text.{Text}
use Rattle.parsers.specs.declared.Text.TheVariants.{Fails, Absent, Given}

-- "blanks" are spaces and tabs
abbrev pub is_blank : ℕ → Bool
is_blank b = eqb b 32 || eqb b 9

-- none or more
abbrev pub blanks_from : List ℕ → ℕ → ℕ
blanks_from s at = at + run is_blank (drop at s)

-- at least one
unfoldable pub some_blanks_from : List ℕ → ℕ → Option ℕ
some_blanks_from s at = if is_blank (get_or s at 0) then Some (blanks_from s at) else None

-- the byte `b`, which is not 0
unfoldable pub byte_from : List ℕ → ℕ → ℕ → Option ℕ
byte_from s at b = if is_at s at b then Some (at + 1) else None

-- an optional `:` is passed
abbrev pub colon_from : List ℕ → ℕ → ℕ
colon_from s at = if is_at s at 58 then at + 1 else at

-- what comes before a `]`
abbrev pub is_inside : ℕ → Bool
is_inside b = not (eqb b 93)

abbrev pub moved : ℕ → Option (ℕ × ℕ) → Option (ℕ × ℕ)
moved at None = None
moved at (Some x) = Some (x.0, at + x.1)

-- digits of any count within 32 bits
unfoldable pub number_from : List ℕ → ℕ → Option (ℕ × ℕ)
number_from s at = moved at (number_at 4294967295 (drop at s))

-- a field's place in the line
abbrev pub placed : ℕ → Text → Option (Place × ℕ)
placed at Fails = None
placed at (Absent n) = Some (absent, at + n)
placed at (Given k n) = Some (place at k, at + n)

unfoldable pub plain_from : List ℕ → ℕ → Option (Place × ℕ)
plain_from s at = placed at (plain_at (drop at s))

unfoldable pub host_from : List ℕ → ℕ → Option (Place × ℕ)
host_from s at = placed at (host_at (drop at s))

unfoldable pub tag_from : List ℕ → ℕ → Option (Place × ℕ)
tag_from s at = placed at (tag_at (drop at s))

abbrev pub on_some : {A : Type 0} {R : Type 0} → Option A → R → (A → R) → R
on_some None r k = r
on_some (Some x) r k = k x

abbrev pub on_read : {A : Type 0} {R : Type 0} → Option (A × ℕ) → R → (A → ℕ → R) → R
on_read None r k = r
on_read (Some x) r k = k x.0 x.1
