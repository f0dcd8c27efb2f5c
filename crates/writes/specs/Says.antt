-- The fields that a division of a line says.
use Rattle.std.specs.Prelude.{ℕ, false, ◌&&◌, List, [], ◌∷◌, eqb, length, if◌then◌else◌}
use Rattle.std.proofs.Math.Option.{Option, none, some}
use Rattle.base.specs.Choose.{is_at}
use Rattle.digits.specs.Digits.{decimal}
use Rattle.lookup.specs.Unescape.{unescaped}
use Rattle.grammar.specs.Line.{Param, Element, Division}
use Rattle.grammar.specs.Reading.{stamp_of}
use Rattle.writes.specs.Fields.{Fields}

-- a text; "-" is absent
abbrev pub said_text : List ℕ → Option (List ℕ)
said_text t = if eqb (length t) 1 && is_at t 0 45 then none else some t

-- values unescaped by the strict kind
abbrev pub said_params : List Param → List Param
said_params [] = []
said_params (p ∷ ps) = record { name = p.name; value = unescaped false p.value } ∷ said_params ps

abbrev pub said_elements : List Element → List Element
said_elements [] = []
said_elements (e ∷ es) = record { id = e.id; params = said_params e.params } ∷ said_elements es

unfoldable pub fields_of : Division → Fields
fields_of d =
    record {
      priority = decimal d.prival;
      version = decimal d.version;
      timestamp = stamp_of d.timestamp;
      host = said_text d.hostname;
      app = said_text d.app_name;
      procid = said_text d.procid;
      msgid = said_text d.msgid;
      elements = said_elements d.elements;
      message = d.message;
    }
