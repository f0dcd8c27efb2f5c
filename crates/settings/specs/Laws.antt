-- What holds of settings files: the statements, to be read without their proofs, which are in proofs/.
use Rattle.std.specs.Prelude.{ℕ, ◌+◌, ◌≤◌, ◌≡◌, List, ◌++◌, length, take, Result, Ok, Err}
use Rattle.base.specs.Fills.{filled}
use Rattle.base.specs.Texts.{text_at}
use Rattle.record.specs.declared.Refusal.TheVariants.{UnknownVersion}
use Rattle.settings.specs.declared.Settings.{Settings}
use Rattle.settings.specs.Record.{Meaning, meant, last_version, record_size}
use Rattle.settings.specs.File.{IsWhole, NoneOf, Chosen, version_of, gate_of, record_at, host_place, settings_of, Reads}
use Rattle.settings.specs.Writes.{Writes}
use Rattle.record.specs.declared.Refusal.{Refusal}

-- ---- one answer

-- Any two results that the contract of a reader allows are equal.
abbrev pub OneAnswer : Type 0
OneAnswer = (greatest : ℕ) (file : List ℕ) (gate : ℕ) (r r' : Result Settings Refusal) → Reads greatest file gate r → Reads greatest file gate r' → r ≡ r'

-- And those of the writer.
abbrev pub OneResult : Type 0
OneResult = (m : Meaning) (old new new' : List ℕ) (w w' : Result ℕ Refusal) → Writes m old w new → Writes m old w' new' → (w ≡ w') × (new ≡ new')

-- ---- there and back

-- What is written is read back, wherever its record stands, if none of the gate stands behind it.
pub record BackAs (m : Meaning) (file : List ℕ) (start : ℕ) (r : Result Settings Refusal) : Type 0 where
  pub answer : r ≡ Ok (settings_of m start)
  pub host_is : text_at file start (length m.host) ≡ m.host

abbrev pub ReadsBack : Type 0
ReadsBack = (m : Meaning) (old new front back : List ℕ) (n : ℕ) (r : Result Settings Refusal) → Writes m old (Ok n) new → IsWhole front → NoneOf m.gate back
    → Reads last_version (front ++ (take n new ++ back)) m.gate r → BackAs m (front ++ (take n new ++ back)) (length front + host_place) r

-- Settings that write the same bytes are the same.
abbrev pub OneMeaning : Type 0
OneMeaning = (m m' : Meaning) (old old' new new' : List ℕ) (n n' : ℕ) → Writes m old (Ok n) new → Writes m' old' (Ok n') new' → take n new ≡ take n' new' → m ≡ m'

-- the settings that were read from a file, with the bytes of their host
abbrev pub meaning_in : List ℕ → Settings → Meaning
meaning_in file s = meant s.version s.gate s.year s.offset s.variant (text_at file s.host.start s.host.len)

-- Settings that were read write the bytes of the chosen record: one text for one meaning.
pub record WritesRecord (gate : ℕ) (file : List ℕ) (s : Settings) : Type 0 where
  pub at : ℕ
  pub chosen : Chosen gate file at
  pub writes : (old : List ℕ) → record_size ≤ length old → Writes (meaning_in file s) old (Ok record_size) (filled (record_at file at) old)

abbrev pub OneText : Type 0
OneText = (greatest : ℕ) (file : List ℕ) (gate : ℕ) (s : Settings) → Reads greatest file gate (Ok s) → WritesRecord gate file s

-- ---- the other records

-- the same answer, for a record that stands `by` bytes further on
abbrev pub moved : ℕ → Result Settings Refusal → Result Settings Refusal
moved by (Ok s) =
    Ok (record {
      version = s.version;
      gate = s.gate;
      year = s.year;
      offset = s.offset;
      variant = s.variant;
      host = record { start = by + s.host.start; len = s.host.len };
    })
moved by (Err f) = Err f

-- The answer is that of the chosen record alone: what stands before it, of whatever gate, and what stands behind it, of other gates, is not judged.
abbrev pub OthersNotJudged : Type 0
OthersNotJudged = (greatest gate : ℕ) (front chosen back : List ℕ) (r alone : Result Settings Refusal) → IsWhole front → length chosen ≡ record_size → gate_of chosen ≡ gate → NoneOf gate back
    → Reads greatest (front ++ (chosen ++ back)) gate r → Reads greatest chosen gate alone → r ≡ moved (length front) alone

-- ---- the reader of version 1

-- It answers as the other does, or says that it does not know version 2.
pub data OldAs (file : List ℕ) (gate : ℕ) (old new : Result Settings Refusal) : Type 0 where
  same : old ≡ new → OldAs file gate old new
  newer : (i : ℕ) → Chosen gate file i → version_of (record_at file i) ≡ 2 → old ≡ Err UnknownVersion → OldAs file gate old new

abbrev pub OldReader : Type 0
OldReader = (file : List ℕ) (gate : ℕ) (old new : Result Settings Refusal) → Reads 1 file gate old → Reads last_version file gate new → OldAs file gate old new
