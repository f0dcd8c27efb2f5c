-- For private contracts alone: the end of a timestamp's text.
use Rattle.std.specs.Prelude.{ℕ, ◌+◌, ◌/◌, ◌%◌, ◌≤◌, ◌≡◌, Bool, true, ◌&&◌, List, [], ◌∷◌, ◌++◌, eqb, ℤ, nat_abs, length, get_or, if◌then◌else◌, Some}
use Rattle.base.specs.Choose.{is_at}
use Rattle.output.specs.Numerals.{fixed}
use Rattle.record.specs.declared.Timestamp.{Timestamp}
use Rattle.grammar.specs.Line.{offset_then, timestamp_then}
use Rattle.suits.specs.Suits.{stamp_suits}
use Rattle.claims.specs.Texts.{zone_by, zone_at, written_stamp}
use Rattle.claims.specs.Holds.{stands_at, sign_holds}

-- hh:mm
unfoldable pub hours_text : ℕ → List ℕ
hours_text minutes = fixed 2 (minutes / 60) ++ (58 ∷ fixed 2 (minutes % 60))

-- `Z` is one byte, a sign and hh:mm are six
abbrev pub zone_len : List ℕ → ℕ → ℕ
zone_len line at = if is_at line at 90 then 1 else 6

-- the offset is what stands there
unfoldable pub zone_holds : List ℕ → ℕ → ℤ → Bool
zone_holds line at offset = sign_holds (get_or line at 0) offset && stands_at line at (offset_then (zone_by (get_or line at 0) (nat_abs offset)) [])

-- the same by minutes east and west of UTC, where `Z` does not stand there
unfoldable pub sign_at : List ℕ → ℕ → ℕ → ℕ → Bool
sign_at line at east west =
    if is_at line at 45 then eqb east 0 && stands_at line (at + 1) (hours_text (east + west))
    else eqb west 0 && is_at line at 43 && stands_at line (at + 1) (hours_text (east + west))

-- what is asked where a timestamp's text is compared, whose offset is at `zone`
pub record Standing (line : List ℕ) (at zone : ℕ) (t : Timestamp) : Type 0 where
  pub fits : stamp_suits (Some t) ≡ true
  pub is_zone : zone ≡ zone_at at t.digits
  pub inside : zone + zone_len line zone ≤ length line

-- the whole text is as the claimed numbers are written
abbrev pub stamp_stands : List ℕ → ℕ → Timestamp → Bool
stamp_stands line at t =
    sign_holds (get_or line (zone_at at t.digits) 0) t.offset && stands_at line at (timestamp_then (written_stamp line at (Some t)) [])
