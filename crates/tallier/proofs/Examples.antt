-- Worked examples, computed from the definitions.
use Rattle.std.specs.Prelude.{Option, Some, None, Result, Ok, Err}
use Prim.Native.Nat.{ℕ}
use mathlib.Core.Path.{◌≡◌, refl}
use mathlib.Core.Bool.{false}
use mathlib.Core.List.{[], ◌∷◌, map}
use lib.ListN.{set, get_or}
use Rattle.base.specs.Bytes.{bytes}
use Rattle.record.specs.declared.Refusal.TheVariants.{NoReading, Unsuitable, CellFull}
use Rattle.record.specs.declared.StrictReading.{StrictReading}
use Rattle.record.specs.declared.Protocol.TheVariants.{Rfc5424}
use Rattle.record.specs.Places.{absent}
use Rattle.output.specs.Numerals.{fixed, width_from}
use Rattle.tally.specs.Tally.{Tally, empty, addition, raised}
use Rattle.tallier.specs.declared.Tallied.TheVariants as tallied
use Rattle.tallier.specs.Text.{up_to, cell_text, row_text, tally_text}
use Rattle.tallier.specs.Frames.{answer_to, tally_after}
use Rattle.record.specs.declared.Refusal.{Refusal}

-- a tally with one cell
at : ℕ → ℕ → ℕ → Tally → Tally
at i j n t = set t i (set (get_or t i []) j n)

-- zero is not written; what is written of one, and of the most that a cell can hold
cells : map (cell_text 24 8) (0 ∷ 1 ∷ 4294967295 ∷ []) ≡ [] ∷ bytes "24 8 1\n" ∷ bytes "24 8 4294967295\n" ∷ []
unfolding cell_text fixed width_from
cells = refl

none_written : tally_text empty ≡ []
unfolding tally_text row_text up_to cell_text
none_written = refl

-- the order of rows, and within a row of columns
in_order : tally_text (at 24 8 1 (at 10 0 7 (at 4 7 12 (at 4 2 31 (at 0 1 5 empty))))) ≡ bytes "0 1 5\n4 2 31\n4 7 12\n10 0 7\n24 8 1\n"
unfolding tally_text row_text up_to cell_text at fixed width_from
in_order = refl

-- a line that is read, of a facility and a severity
line : Option ℕ → Option ℕ → Result StrictReading Refusal
line f s =
    Ok (record {
      reading = record {
        common = record {
          protocol = Rfc5424 1;
          facility = f;
          severity = s;
          timestamp = None;
          host = absent;
          app = absent;
          procid = absent;
          msgid = absent;
          message = record { start = 0; len = 0 };
        };
        timestamp_text = absent;
        has_message = false;
      };
      elements = 0;
      params = 0;
    })

-- a line of facility 4 and severity 2 raises that cell, whatever the others hold; one of none the last; a refused line raises none
raised_cells : map (tally_after (at 2 4 9 empty)) (line (Some 4) (Some 2) ∷ line (Some 23) (Some 7) ∷ line None None ∷ Err NoReading ∷ [])
    ≡ at 4 2 1 (at 2 4 9 empty) ∷ at 23 7 1 (at 2 4 9 empty) ∷ at 24 8 1 (at 2 4 9 empty) ∷ at 2 4 9 empty ∷ []
unfolding line at addition raised
raised_cells = refl

-- what is told: added, up to the most that a cell can hold; 10 there; 7 for what is no facility; a refused line is passed over
told : (map (answer_to (at 4 2 4294967294 empty)) (line (Some 4) (Some 2) ∷ line (Some 24) (Some 2) ∷ line (Some 4) (Some 8) ∷ Err NoReading ∷ [])
    ≡ tallied.Added ∷ tallied.Refused Unsuitable ∷ tallied.Refused Unsuitable ∷ tallied.Passed ∷ [])
    × (answer_to (at 4 2 4294967295 empty) (line (Some 4) (Some 2)) ≡ tallied.Refused CellFull)
unfolding line at addition
told = (refl, refl)
