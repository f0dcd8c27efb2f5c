-- A settings file: records one behind the other, of which the last of a gate counts. What a reader up to a version answers.
use Rattle.std.specs.Prelude.{ℕ, ◌+◌, ◌*◌, ◌/◌, ◌%◌, ◌<◌, ◌≡◌, true, false, List, length, get_or, Result, Ok, Err}
use Rattle.base.specs.Texts.{text_at}
use Rattle.record.specs.declared.Refusal.TheVariants.{NotFound, BadLength, UnknownVersion, BadField}
use Rattle.settings.specs.declared.Settings.{Settings}
use Rattle.settings.specs.Record.{Meaning, is_version, record_size, Holds}
use Rattle.record.specs.declared.Refusal.{Refusal}

-- ---- records

-- nothing but whole records
abbrev pub IsWhole : List ℕ → Type 0
IsWhole file = length file % record_size ≡ 0

abbrev pub record_count : List ℕ → ℕ
record_count file = length file / record_size

-- record `i`, from 0
abbrev pub record_at : List ℕ → ℕ → List ℕ
record_at file i = text_at file (i * record_size) record_size

-- byte 0
abbrev pub version_of : List ℕ → ℕ
version_of bytes = get_or bytes 0 0

-- bytes 6 and 7: all that is asked of a record that is not chosen
abbrev pub gate_of : List ℕ → ℕ
gate_of bytes = get_or bytes 6 0 + 256 * get_or bytes 7 0

-- ---- the record of a gate

-- no record is the gate's
pub record NoneOf (gate : ℕ) (file : List ℕ) : Type 0 where
  pub whole : IsWhole file
  pub none : (i : ℕ) → i < record_count file → gate_of (record_at file i) ≡ gate → ⊥

-- record `i` is the gate's, and none behind it is
pub record Chosen (gate : ℕ) (file : List ℕ) (i : ℕ) : Type 0 where
  pub whole : IsWhole file
  pub inside : i < record_count file
  pub own : gate_of (record_at file i) ≡ gate
  pub last : (k : ℕ) → i < k → k < record_count file → gate_of (record_at file k) ≡ gate → ⊥

-- ---- the answer

-- the byte at which the host starts
abbrev pub host_place : ℕ
host_place = 8

-- settings by value, with the place of the host in the file
abbrev pub settings_of : Meaning → ℕ → Settings
settings_of m start =
    record {
      version = m.version;
      gate = m.gate;
      year = m.year;
      offset = m.offset;
      variant = m.variant;
      host = record { start = start; len = length m.host };
    }

-- A call of a reader that knows the versions up to `greatest`: 13, 9, 14, 15 in this order, or the settings.
pub data Reads (greatest : ℕ) (file : List ℕ) (gate : ℕ) (r : Result Settings Refusal) : Type 0 where
  bad_length : (IsWhole file → ⊥) → r ≡ Err BadLength → Reads greatest file gate r
  no_record : NoneOf gate file → r ≡ Err NotFound → Reads greatest file gate r
  unknown_version : (i : ℕ) → Chosen gate file i → is_version greatest (version_of (record_at file i)) ≡ false → r ≡ Err UnknownVersion → Reads greatest file gate r
  bad_field : (i : ℕ) → Chosen gate file i → is_version greatest (version_of (record_at file i)) ≡ true → ((m : Meaning) → Holds (record_at file i) m → ⊥)
      → r ≡ Err BadField → Reads greatest file gate r
  taken : (i : ℕ) (m : Meaning) → Chosen gate file i → is_version greatest m.version ≡ true → Holds (record_at file i) m
      → r ≡ Ok (settings_of m (i * record_size + host_place)) → Reads greatest file gate r
