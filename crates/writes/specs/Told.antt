-- The fields that a strict record and the rows of both tables tell of their line.
use Rattle.std.specs.Prelude.{ℕ, ◌+◌, Bool, List, [], ◌∷◌, eqb, get_or, take, if◌then◌else◌, Result, Ok, Err}
use Rattle.std.proofs.Math.Option.{Option, none, some}
use Rattle.base.specs.Texts.{text_at}
use Rattle.record.specs.declared.Place.{Place}
use Rattle.record.specs.declared.Span.{Span}
use Rattle.record.specs.declared.StrictReading.{StrictReading}
use Rattle.grammar.specs.Line.{Param, Element}
use Rattle.claims.specs.Claims.{Claim}
use Rattle.claims.specs.Texts.{version_of, priority_of}
use Rattle.writes.specs.Fields.{Fields}
use Rattle.writes.specs.Says.{said_elements}
use Rattle.record.specs.declared.Refusal.{Refusal}

abbrev pub told_text : List ℕ → Place → Option (List ℕ)
told_text line p = if p.present then some (text_at line p.start p.len) else none

abbrev pub told_message : List ℕ → Bool → Span → Option (List ℕ)
told_message line has m = if has then some (text_at line m.start m.len) else none

-- the rows in front that are of element k, and those behind them
abbrev pub front : ℕ → List (List ℕ) → List (List ℕ)
front k [] = []
front k (row ∷ rows) = if eqb (get_or row 0 0) k then row ∷ front k rows else []

abbrev pub rest : ℕ → List (List ℕ) → List (List ℕ)
rest k [] = []
rest k (row ∷ rows) = if eqb (get_or row 0 0) k then rest k rows else row ∷ rows

abbrev pub told_params : List ℕ → List (List ℕ) → List Param
told_params line [] = []
told_params line (row ∷ rows) =
    record { name = text_at line (get_or row 1 0) (get_or row 2 0); value = text_at line (get_or row 3 0) (get_or row 4 0) } ∷ told_params line rows

-- the elements, the first of them number k, with their values as the line has them
abbrev pub told_elements : List ℕ → ℕ → List (List ℕ) → List (List ℕ) → List Element
told_elements line k [] params = []
told_elements line k (row ∷ rows) params =
    record { id = text_at line (get_or row 0 0) (get_or row 1 0); params = told_params line (front k params) }
    ∷ told_elements line (k + 1) rows (rest k params)

-- (the strict reader leaves neither level unset)
unfoldable pub told_fields : List ℕ → Claim → Fields
told_fields line c =
    let r = c.reading in
    record {
      priority = priority_of r.common.facility r.common.severity;
      version = version_of r.common.protocol;
      timestamp = r.common.timestamp;
      host = told_text line r.common.host;
      app = told_text line r.common.app;
      procid = told_text line r.common.procid;
      msgid = told_text line r.common.msgid;
      elements = said_elements (told_elements line 0 c.elements c.params);
      message = told_message line r.has_message r.common.message;
    }

-- what an answer of the strict reader and the tables that it filled tell
abbrev pub answer_told : List ℕ → Result StrictReading Refusal → List (List ℕ) → List (List ℕ) → Option Fields
answer_told line (Err f) elements params = none
answer_told line (Ok x) elements params = some (told_fields line (record { reading = x.reading; elements = take x.elements elements; params = take x.params params }))
