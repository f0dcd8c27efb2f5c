-- The division that a claim stands for: the texts of the numbers and of the timestamp are written from the claimed numbers, the others are cut out of the line where
-- they are claimed to stand.
use Rattle.std.specs.Prelude.{if◌then◌else◌}
use Prim.Native.Nat.{ℕ, ◌+◌}
use mathlib.Core.Bool.{Bool}
use mathlib.Core.List.{List, [], ◌∷◌}
use mathlib.Core.Option.{Option, none, some}
use lib.ListN.{get_or}
use Rattle.base.specs.Texts.{text_at}
use Rattle.output.specs.Numerals.{numeral}
use Rattle.record.specs.declared.Place.{Place}
use Rattle.record.specs.declared.Span.{Span}
use Rattle.grammar.specs.Line.{Param, Element, Division}
use Rattle.claims.specs.Claims.{Claim}
use Rattle.claims.specs.Texts.{version_of, priority_of, written_stamp}
use Rattle.claims.specs.Holds.{front, rest}

-- "-" for what is absent
abbrev pub told_text : List ℕ → Place → List ℕ
told_text line p = if p.present then text_at line p.start p.len else 45 ∷ []

abbrev pub told_message : List ℕ → Bool → Span → Option (List ℕ)
told_message line has m = if has then some (text_at line m.start m.len) else none

abbrev pub told_params : List ℕ → List (List ℕ) → List Param
told_params line [] = []
told_params line (row ∷ rows) =
    record { name = text_at line (get_or row 1 0) (get_or row 2 0); value = text_at line (get_or row 3 0) (get_or row 4 0) } ∷ told_params line rows

-- the elements from element k on
abbrev pub told_elements : List ℕ → ℕ → List (List ℕ) → List (List ℕ) → List Element
told_elements line k [] params = []
told_elements line k (row ∷ rows) params =
    record { id = text_at line (get_or row 0 0) (get_or row 1 0); params = told_params line (front k params) } ∷ told_elements line (k + 1) rows (rest k params)

unfoldable pub told : List ℕ → Claim → Division
told line c =
    let r = c.reading.common in
    record {
      prival = numeral (priority_of r.facility r.severity);
      version = numeral (version_of r.protocol);
      timestamp = written_stamp line c.reading.timestamp_text.start r.timestamp;
      hostname = told_text line r.host;
      app_name = told_text line r.app;
      procid = told_text line r.procid;
      msgid = told_text line r.msgid;
      elements = told_elements line 0 c.elements c.params;
      message = told_message line c.reading.has_message r.message;
    }
