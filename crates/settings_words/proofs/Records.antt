-- What is shown of a record: its gate, whether it counts, and that its host is within it.
use Rattle.std.specs.Prelude.{Result}
use Prim.Native.Nat.{ℕ, ◌+◌, ◌*◌, ◌≤◌, ◌<◌}
use mathlib.Core.Path.{◌≡◌, refl, sym}
use mathlib.Core.Bool.{true, false}
use mathlib.Core.List.{List}
use native.Mathlib.Omega.{arith}
use lib.Dec.{eqb}
use lib.ListN.{get_or}
use Rattle.base.proofs.Tests.{clash}
use Rattle.settings.specs.declared.SettingsAnswer.{SettingsAnswer}
use Rattle.settings.specs.Record.{last_version, host_room}
use Rattle.settings.specs.File.{NoneOf, Chosen, gate_of, Reads}
use Rattle.settings.specs.File.Reads.{bad_length, no_record, unknown_version, bad_field, taken}
use Rattle.settings.specs.Numbers.{settings_answer_of, ReadsNumbers}
use Rattle.settings.proofs.Fields.{ranges}
use Rattle.settings_words.specs.Words.{Last}
use Rattle.record.specs.declared.Refusal.{Refusal}
use Rattle.settings.specs.declared.Settings.{Settings}

-- ---- the gate

pub gate_is : (s : List ℕ) (a b : ℕ) → (a ≡ get_or s 6 0) × (a < 256) → (b ≡ get_or s 7 0) × (b < 256) → a + 256 * b ≡ gate_of s
gate_is s a b (e, l) (f, k) = rw (← e, ← f)

-- ---- whether it counts

counting : (gate : ℕ) (rest : List ℕ) → NoneOf gate rest → Last gate rest true
counting gate rest n = record { counts = λ e. n; alone = λ m. refl }

replaced : (gate : ℕ) (rest : List ℕ) → (NoneOf gate rest → ⊥) → Last gate rest false
replaced gate rest n = record { counts = λ e. clash (sym e); alone = λ m. absurd (n m) }

not_none : (gate : ℕ) (rest : List ℕ) (i : ℕ) → Chosen gate rest i → NoneOf gate rest → ⊥
not_none gate rest i c n = n.none i c.inside c.own

last_of : (gate : ℕ) (rest : List ℕ) (r : Result Settings Refusal) → Reads last_version rest gate r → Last gate rest (eqb (settings_answer_of r).number 9)
last_of gate rest r (bad_length w e) = rw e (replaced gate rest (λ n. w n.whole))
last_of gate rest r (no_record n e) = rw e (counting gate rest n)
last_of gate rest r (unknown_version i c v e) = rw e (replaced gate rest (not_none gate rest i c))
last_of gate rest r (bad_field i c v h e) = rw e (replaced gate rest (not_none gate rest i c))
last_of gate rest r (taken i m c v h e) = rw e (replaced gate rest (not_none gate rest i c))

pub last_is : (gate : ℕ) (rest : List ℕ) (a : SettingsAnswer) → ReadsNumbers last_version rest gate a → Last gate rest (eqb a.number 9)
last_is gate rest a h = rw h.told (last_of gate rest h.read h.reads)

-- ---- the host

room_of : (gate : ℕ) (file : List ℕ) (r : Result Settings Refusal) → Reads last_version file gate r → (settings_answer_of r).host_len ≤ host_room
room_of gate file r (bad_length w e) = rw e (omega arith)
room_of gate file r (no_record n e) = rw e (omega arith)
room_of gate file r (unknown_version i c v e) = rw e (omega arith)
room_of gate file r (bad_field i c v h e) = rw e (omega arith)
room_of gate file r (taken i m c v h e) = rw e (ranges m h.in_range_lem).host_to

pub room_is : (gate : ℕ) (file : List ℕ) (a : SettingsAnswer) → ReadsNumbers last_version file gate a → a.host_len ≤ host_room
room_is gate file a h = rw h.told (room_of gate file h.read h.reads)

pub ruleset record_laws = (gate_is, last_is, room_is)
