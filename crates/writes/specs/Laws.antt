-- What a user would ask of the writer. Each is proved in proofs/.
use Rattle.std.specs.Prelude.{ℕ, ◌≤◌, ◌≡◌, true, List, length, take, Result, Ok}
use Rattle.std.proofs.Math.Option.{some}
use Rattle.record.specs.Limits.{line_limit}
use Rattle.record.specs.declared.StrictReading.{StrictReading}
use Rattle.suits.specs.Suits.{suits}
use Rattle.grammar.specs.Line.{Division, Derives}
use Rattle.grammar.specs.Reading.{StrictReads}
use Rattle.writes.specs.declared.Handed.{Handed}
use Rattle.writes.specs.Written.{written, division_of, Own}
use Rattle.writes.specs.Says.{fields_of}
use Rattle.claims.specs.Claims.{claim_of}
use Rattle.writes.specs.Told.{told_fields, answer_told}
use Rattle.writes.specs.Writes.{fields_in, record_in, Writes}
use Rattle.record.specs.declared.Refusal.{Refusal}

-- Where it writes, the strict reader with tables long enough accepts the line, and record, counts and tables tell the fields that were handed in.
abbrev pub ReadBack : Type 0
ReadBack =
    (text : List ℕ) (h : Handed) (elements params : List (List ℕ)) (before after : List ℕ) (n : ℕ)
    → Writes text h elements params before (Ok n) after
    → (e₀ p₀ : List (List ℕ)) (r : Result StrictReading Refusal) (e₁ p₁ : List (List ℕ)) → StrictReads (take n after) e₀ p₀ r e₁ p₁
    → h.element_count ≤ length e₀ → h.param_count ≤ length p₀
    → answer_told (take n after) r e₁ p₁ ≡ some (fields_in text h elements params)

-- It writes whatever a strict line of any length says, handed in with places, counts and numbers that suit, where the line written has at most 8,192 bytes and the
-- output has room for it.
abbrev pub NothingElseRefused : Type 0
NothingElseRefused =
    (text : List ℕ) (h : Handed) (elements params : List (List ℕ)) (before : List ℕ) (w : Result ℕ Refusal) (after : List ℕ)
    → Writes text h elements params before w after
    → suits text (record_in h) h.element_count h.param_count elements params ≡ true
    → (line : List ℕ) (d : Division) → Derives line d → fields_of d ≡ fields_in text h elements params
    → length (written (fields_of d)) ≤ line_limit → length (written (fields_of d)) ≤ length before
    → w ≡ Ok (length (written (fields_of d)))

-- What the strict reader leaves of a line tells what its division says.
abbrev pub ReaderTells : Type 0
ReaderTells = (line : List ℕ) (d : Division) → Derives line d → told_fields line (claim_of d) ≡ fields_of d

-- What is read and written again is a strict line, which reads the same.
abbrev pub OnceMore : Type 0
OnceMore = (line : List ℕ) (d : Division) → Derives line d → Derives (written (fields_of d)) (division_of (fields_of d)) × (fields_of (division_of (fields_of d)) ≡ fields_of d)

-- A line in the writer's own form is written back byte for byte.
abbrev pub SameBytes : Type 0
SameBytes = (line : List ℕ) (d : Division) → Derives line d → Own d → written (fields_of d) ≡ line

-- What is written is in that form.
abbrev pub OwnForm : Type 0
OwnForm =
    (text : List ℕ) (h : Handed) (elements params : List (List ℕ)) (before after : List ℕ) (n : ℕ)
    → Writes text h elements params before (Ok n) after → (d : Division) → Derives (take n after) d → Own d

-- The contract leaves one answer and one output.
abbrev pub OneWriting : Type 0
OneWriting =
    (text : List ℕ) (h : Handed) (elements params : List (List ℕ)) (before : List ℕ) (w v : Result ℕ Refusal) (x y : List ℕ)
    → Writes text h elements params before w x → Writes text h elements params before v y → (w ≡ v) × (x ≡ y)
