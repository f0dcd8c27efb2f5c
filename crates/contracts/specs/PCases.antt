-- RULES Cases 1 to 9 as one table, and what each says of the definitions of loose reading, printing and the grammar.
use Rattle.std.specs.Prelude.{ℕ, ◌≡◌, List, [], ◌∷◌, take, pos, if◌then◌else◌, Option, Some, None}
use Prim.Native.String.{String}
use Rattle.base.specs.Bytes.{bytes}
use Rattle.base.specs.Texts.{text_at}
use Rattle.record.specs.declared.Place.{Place}
use Rattle.pri.specs.Pri.{pri_at}
use Rattle.structured_data.specs.declared.Rules.TheVariants.{Rfc5424Rules}
use Rattle.structured_data.specs.Data.{Item, item_from}
use Rattle.structured_data.specs.Data.Item.{taken, skipped, ended}
use Rattle.draft.specs.Outcome.{Outcome}
use Rattle.draft.specs.Outcome.Outcome.{no_reading, is_reading}
use Rattle.loose.specs.Loose.{outcome_of}
use Rattle.message.specs.Message.{elements_text, printed}
use Rattle.grammar.specs.Line.{Division, timestamp_then, data_then, Each, Derives}

-- ---- what a line is read as, in texts that can be held beside the rules

-- a loose line: facility, severity, host, app name, the elements as the line has them, the message
pub record Loose : Type 0 where
  pub facility : Option ℕ
  pub severity : Option ℕ
  pub host : Option (List ℕ)
  pub app : Option (List ℕ)
  pub elements : List ℕ
  pub message : List ℕ

abbrev pub text_of : List ℕ → Place → Option (List ℕ)
text_of line p = if p.present then Some (text_at line p.start p.len) else None

abbrev pub loose_of : List ℕ → Outcome → Option Loose
loose_of line no_reading = None
loose_of line (is_reading r at rows) =
    Some (record {
      facility = r.facility;
      severity = r.severity;
      host = text_of line r.host;
      app = text_of line r.app;
      elements = elements_text line 0 rows.elements rows.params;
      message = text_at line r.message.start r.message.len;
    })

-- what RFC 5424 skips in front of a text, where an element fails
abbrev pub skip_of : List ℕ → Item → Option (List ℕ)
skip_of text (taken row params next) = None
skip_of text (skipped next) = Some (take next text)
skip_of text ended = None

-- as printing writes it
abbrev pub print_of : List ℕ → Outcome → Option (List ℕ)
print_of line no_reading = None
print_of line (is_reading r at rows) = Some (printed line r rows.elements rows.params)

-- a strict line: timestamp, host, structured data
pub record Strict : Type 0 where
  pub timestamp : List ℕ
  pub host : List ℕ
  pub structured : List ℕ

abbrev pub strict_of : Division → Strict
strict_of d = record { timestamp = timestamp_then d.timestamp []; host = d.hostname; structured = data_then d.elements [] }

-- the grammar derives the line, with these texts
pub record Divides (line : List ℕ) (texts : Strict) : Type 0 where
  pub division : Division
  pub derived : Derives line division
  pub texts_are : strict_of division ≡ texts

-- ---- the cases

-- A loose line is read by variant 1 (RFC 3164) or 2 (RFC 5424), in the year 2023 at +60.
pub data Case : Type 0 where
  -- the priority in front of a text: how many bytes it takes, facility, severity
  priority : List ℕ → ℕ → Option ℕ → Option ℕ → Case
  -- what is skipped in front of a text as an element of RFC 5424 that fails
  skips : List ℕ → List ℕ → Case
  -- the reading of a line; none: there is no reading
  loose : (variant : ℕ) → List ℕ → Option Loose → Case
  -- what its record prints as
  prints : (variant : ℕ) → List ℕ → List ℕ → Case
  -- the division of a line; none: the grammar derives none, and the line is refused
  strict : List ℕ → Option Strict → Case

abbrev pub outcome : ℕ → List ℕ → Outcome
outcome variant line = outcome_of line variant 2023 (pos 60)

-- what a case says of the definitions
abbrev pub Says : Case → Type 0
Says (priority text n f s) = pri_at text ≡ record { next = n; facility = f; severity = s }
Says (skips text front) = skip_of text (item_from Rfc5424Rules 0 0 text) ≡ Some front
Says (loose variant line reading) = loose_of line (outcome variant line) ≡ reading
Says (prints variant line text) = print_of line (outcome variant line) ≡ Some text
Says (strict line (Some texts)) = Divides line texts
Says (strict line None) = (d : Division) → Derives line d → ⊥

-- ---- the table, row by row as RULES Cases lists them

abbrev texts : Option String → Option (List ℕ)
texts None = None
texts (Some t) = Some (bytes t)

abbrev reads : Option ℕ → Option ℕ → (host app : Option String) → (elements message : String) → Option Loose
reads f s h a e m = Some (record { facility = f; severity = s; host = texts h; app = texts a; elements = bytes e; message = bytes m })

abbrev divides : (timestamp host structured : String) → Option Strict
divides t h d = Some (record { timestamp = bytes t; host = bytes h; structured = bytes d })

unfoldable pub table : List (List Case)
table =
    -- `<191>` facility 23, severity 7; `<192>` absent, 0; `<256>` not consumed
    (priority (bytes "<191>") 5 (Some 23) (Some 7)
    ∷ priority (bytes "<192>") 5 None (Some 0)
    ∷ priority (bytes "<256>") 0 None None
    ∷ loose 1 (bytes "<191>Feb 5 10:01:02 h t: m") (reads (Some 23) (Some 7) (Some "h") (Some "t") "" "m")
    ∷ loose 1 (bytes "<192>Feb 5 10:01:02 h t: m") (reads None (Some 0) (Some "h") (Some "t") "" "m")
    ∷ loose 1 (bytes "<256>Feb 5 10:01:02 h t: m") None
    ∷ [])
    -- `[id a="x]y" b]` in RFC 5424: skip takes `[id a="x]`, message `y" b]`
    ∷ (skips (bytes "[id a=\"x]y\" b]") (bytes "[id a=\"x]")
    ∷ loose 2 (bytes "<13>1 - h a p m [id a=\"x]y\" b]") (reads (Some 1) (Some 5) (Some "h") (Some "a") "" "y\" b]")
    ∷ [])
    -- RFC 3164 `[x]` stays in the message
    ∷ (loose 1 (bytes "<13>Feb 5 10:01:02 h t: [x]") (reads (Some 1) (Some 5) (Some "h") (Some "t") "" "[x]") ∷ [])
    -- RFC 3164 message texts `-5 ms` and `- ok` keep the hyphen
    ∷ (loose 1 (bytes "<13>Feb 5 10:01:02 h t: -5 ms") (reads (Some 1) (Some 5) (Some "h") (Some "t") "" "-5 ms")
    ∷ loose 1 (bytes "<13>Feb 5 10:01:02 h t: - ok") (reads (Some 1) (Some 5) (Some "h") (Some "t") "" "- ok")
    ∷ [])
    -- host `gate7`, tag `-`: both absent
    ∷ (loose 1 (bytes "<13>Feb 5 10:01:02 gate7 - m") (reads (Some 1) (Some 5) None None "" "m") ∷ [])
    -- at +60, `Feb 5 2023 10:01:02` prints 11:01:02+01:00
    ∷ (prints 1 (bytes "<13>Feb 5 2023 10:01:02 h t: m") (bytes "<13> 2023-02-05T11:01:02+01:00 h t: m") ∷ [])
    -- strict refuses `[id a="x]y"]`, the loose reader takes it
    ∷ (strict (bytes "<13>1 - h a p m [id a=\"x]y\"]") None
    ∷ loose 2 (bytes "<13>1 - h a p m [id a=\"x]y\"]") (reads (Some 1) (Some 5) (Some "h") (Some "a") "[id a=\"x]y\"]" "")
    ∷ [])
    -- strict takes host `h:`; loose RFC 5424 has no reading
    ∷ (strict (bytes "<13>1 - h: a p m - m") (divides "-" "h:" "-") ∷ loose 2 (bytes "<13>1 - h: a p m - m") None ∷ [])
    -- `2023-02-29` refused, `2024-02-29` taken
    ∷ (strict (bytes "<13>1 2023-02-29T10:01:02Z h a p m - m") None
    ∷ strict (bytes "<13>1 2024-02-29T10:01:02Z h a p m - m") (divides "2024-02-29T10:01:02Z" "h" "-")
    ∷ loose 2 (bytes "<13>1 2023-02-29T10:01:02Z h a p m - m") None
    ∷ loose 2 (bytes "<13>1 2024-02-29T10:01:02Z h a p m - m") (reads (Some 1) (Some 5) (Some "h") (Some "a") "" "m")
    ∷ [])
    ∷ []

-- each row holds
abbrev pub PCases : Type 0
PCases = Each (Each Says) table
