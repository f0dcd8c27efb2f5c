-- message.rs: a record as text.
use Rattle.std.specs.Prelude.{ℕ, ◌+◌, ◌*◌, List, [], ◌∷◌, ◌++◌, eqb, get_or, if◌then◌else◌, Option, Some, None}
use Rattle.base.specs.Bytes.{bytes}
use Rattle.base.specs.Texts.{text_at}
use Rattle.record.specs.declared.Place.{Place}
use Rattle.record.specs.declared.Protocol.{Protocol}
use Rattle.record.specs.declared.Protocol.TheVariants.{Rfc3164, Rfc5424}
use Rattle.record.specs.declared.Record.{Record}
use Rattle.output.specs.Numerals.{numeral}
use Rattle.message_stamp.specs.Stamps.{stamp_text}

-- absent facility counts as 5, absent severity as 7
abbrev pub level_or : ℕ → Option ℕ → ℕ
level_or other None = other
level_or other (Some n) = n

-- `<p>`
unfoldable pub pri_text : Record → List ℕ
pri_text r = bytes "<" ++ numeral (level_or 5 r.facility * 8 + level_or 7 r.severity) ++ bytes ">"

-- version or nothing
abbrev pub version_text : Protocol → List ℕ
version_text Rfc3164 = []
version_text (Rfc5424 v) = numeral v

-- a text, or `-` where it is absent
abbrev pub place_text : List ℕ → Place → List ℕ
place_text line p = if p.present then text_at line p.start p.len else bytes "-"

-- and a space
unfoldable pub field_text : List ℕ → Place → List ℕ
field_text line p = place_text line p ++ bytes " "

-- RFC 3164: `app[pid]: `, `app: ` or, without app, `: `. RFC 5424: app, process id, message id, each with a space.
abbrev pub tag_text : List ℕ → Place → Place → List ℕ
tag_text line app procid =
    if app.present then
    (if procid.present then place_text line app ++ bytes "[" ++ place_text line procid ++ bytes "]: " else place_text line app ++ bytes ": ")
    else bytes ": "

abbrev pub names_text : List ℕ → Record → Protocol → List ℕ
names_text line r Rfc3164 = tag_text line r.app r.procid
names_text line r (Rfc5424 v) = field_text line r.app ++ field_text line r.procid ++ field_text line r.msgid

-- ` name="value"`
unfoldable pub param_text : List ℕ → List ℕ → List ℕ
param_text line row = bytes " " ++ text_at line (get_or row 1 0) (get_or row 2 0) ++ bytes "=\"" ++ text_at line (get_or row 3 0) (get_or row 4 0) ++ bytes "\""

-- of each parameter in front that is of element `k`
unfoldable pub params_text : List ℕ → ℕ → List (List ℕ) → List ℕ
params_text line k [] = []
params_text line k (row ∷ rows) = if eqb (get_or row 0 0) k then param_text line row ++ params_text line k rows else []

-- those after them
unfoldable pub other_params : ℕ → List (List ℕ) → List (List ℕ)
other_params k [] = []
other_params k (row ∷ rows) = if eqb (get_or row 0 0) k then other_params k rows else row ∷ rows

-- `[id`
unfoldable pub open_text : List ℕ → List ℕ → List ℕ
open_text line row = bytes "[" ++ text_at line (get_or row 0 0) (get_or row 1 0)

-- `[id name="value"]` of each element, the first of them number `k`
unfoldable pub elements_text : List ℕ → ℕ → List (List ℕ) → List (List ℕ) → List ℕ
elements_text line k [] params = []
elements_text line k (row ∷ rows) params =
    open_text line row ++ params_text line k params ++ bytes "]" ++ elements_text line (k + 1) rows (other_params k params)

-- the elements, then a space; with none, `- ` for RFC 5424 only
abbrev pub data_text : List ℕ → Protocol → List (List ℕ) → List (List ℕ) → List ℕ
data_text line Rfc3164 [] params = []
data_text line (Rfc5424 v) [] params = bytes "- "
data_text line protocol (row ∷ rows) params = elements_text line 0 (row ∷ rows) params ++ bytes " "

-- `<p>`, version, space, timestamp, space, host, space
unfoldable pub head_text : List ℕ → Record → List ℕ
head_text line r = pri_text r ++ version_text r.protocol ++ bytes " " ++ stamp_text r.timestamp ++ bytes " " ++ field_text line r.host

-- the record, with the rows counted of both tables
unfoldable pub printed : List ℕ → Record → List (List ℕ) → List (List ℕ) → List ℕ
printed line r elements params =
    head_text line r
    ++ names_text line r r.protocol
    ++ data_text line r.protocol elements params
    ++ text_at line r.message.start r.message.len
