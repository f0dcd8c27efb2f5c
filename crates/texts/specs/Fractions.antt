-- A fraction is printed as it was read: the point and every digit, zeros at its end too. A statement to be read without its proof, which is in proofs/Fractions.antt.
use Rattle.std.specs.Prelude.{ℕ, suc, ◌+◌, ◌≡◌, List, [], take, drop, ℤ, if◌then◌else◌, Some}
use Rattle.std.proofs.Math.Option.{some}
use Rattle.base.specs.Choose.{is_at}
use Rattle.base.specs.Texts.{text_at}
use Rattle.white.specs.Trim.{trimmed}
use Rattle.digits.specs.Digits.{digit_run}
use Rattle.record.specs.declared.Record.{Record}
use Rattle.record.specs.declared.Timestamp.{Timestamp}
use Rattle.grammar.specs.Line.{Division, secfrac_then, Derives}
use Rattle.grammar.specs.Line as grammar
use Rattle.grammar.specs.Reading.{record_of}
use Rattle.timestamp.specs.Rfc3339.{rfc3339_from}
use Rattle.timestamp.specs.Timestamp.{without_year, with_year, or_else}
use Rattle.structured_data.specs.Data.{Rows}
use Rattle.draft.specs.Outcome.Outcome.{is_reading}
use Rattle.loose.specs.Loose.{outcome_of}
use Rattle.message_stamp.specs.Stamps.{fraction_text}

-- what printing writes of a timestamp's fraction
abbrev pub written : Timestamp → List ℕ
written t = fraction_text t.digits t.nanos

-- the fraction that stands at `at` of `s`: a point and all digits after it, or nothing
abbrev pub standing : List ℕ → ℕ → List ℕ
standing s at = if is_at s at 46 then text_at s at (suc (digit_run (drop (at + 1) s))) else []

-- A timestamp that a loose reader found in `s`, and the fraction that is printed of it. In form (c), which starts at `at`: the one that stands after the 19 bytes
-- of date, `T` and clock. In form (a) or (b): none.
pub data Kept (year : ℕ) (offset : ℤ) (s : List ℕ) (t : Timestamp) : Type 0 where
  in_form_c : (at n : ℕ) → rfc3339_from s at ≡ Some (Some t, n) → written t ≡ standing s (at + 19) → Kept year offset s t
  in_form_a_b : (at n : ℕ) → or_else (without_year year offset s at) (with_year offset s at) ≡ Some (Some t, n) → written t ≡ [] → Kept year offset s t

pub record KeepsFractions : Type 0 where
  -- Of every line that has a loose reading with a timestamp: of its text up to the White_Space at its end.
  pub loose : (line : List ℕ) (variant year : ℕ) (offset : ℤ) (r : Record) (at : ℕ) (rows : Rows) (t : Timestamp)
      → outcome_of line variant year offset ≡ is_reading r at rows → r.timestamp ≡ Some t → Kept year offset (take (trimmed line).end line) t
  -- Of every line of the strict grammar that has a timestamp: its TIME-SECFRAC, with the point.
  pub strict : (line : List ℕ) (d : Division) (u : grammar.Timestamp) (t : Timestamp)
      → Derives line d → d.timestamp ≡ some u → (record_of d).common.timestamp ≡ Some t → written t ≡ secfrac_then u.secfrac []
