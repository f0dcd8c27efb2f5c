-- What a reader left has a cell of a tally: its facility and severity, added as they stand, are never refused with 7. To be read without its proof, which is
-- in proofs/Tallied.antt.
use Rattle.std.specs.Prelude.{ℕ, ◌≡◌, List, Result}
use Rattle.record.specs.declared.Record.{Record}
use Rattle.tally.specs.Tally.{Tally, Adds}
use Rattle.tally.specs.Numbers.{added_number}
use Rattle.suited.specs.Served.{Left}
use Rattle.record.specs.declared.Refusal.{Refusal}

abbrev pub LeftHasCell : Type 0
LeftHasCell = (line : List ℕ) (r : Record) (e p : ℕ) (elements params : List (List ℕ)) → Left line r e p elements params
    → (old new : Tally) (a : Result (Unit {0}) Refusal) → Adds old r.facility r.severity a new → added_number a ≡ 7 → ⊥
