-- Writing a record: 14, 15, 8 in this order, or 32 bytes at the front of the output.
use Rattle.std.specs.Prelude.{ℕ, ◌≡◌, not, List, ltb, length, if◌then◌else◌, Result, Ok, Err}
use Rattle.record.specs.declared.Refusal.TheVariants.{OutputShort, UnknownVersion, BadField}
use Rattle.output.specs.Output.{output_after}
use Rattle.settings.specs.Record.{Meaning, last_version, is_version, in_range, record_size, record_of}
use Rattle.record.specs.declared.Refusal.{Refusal}

unfoldable pub writing : Meaning → ℕ → Result ℕ Refusal
writing m room =
    if not (is_version last_version m.version) then Err UnknownVersion
    else if not (in_range m) then Err BadField
    else if ltb room record_size then Err OutputShort
    else Ok record_size

-- A call of `write`: its bytes past the record are unchanged, and all of them on a refusal.
pub record Writes (m : Meaning) (old : List ℕ) (w : Result ℕ Refusal) (new : List ℕ) : Type 0 where
  pub answer : w ≡ writing m (length old)
  pub output : new ≡ output_after w (record_of m) old
