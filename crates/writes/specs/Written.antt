-- The line that is written. Each field's text, laid out as the grammar lays out a division.
use Rattle.std.specs.Prelude as std
use Rattle.std.specs.Prelude.{ℕ, suc, ◌+◌, ◌*◌, ◌/◌, ◌%◌, ◌≡◌, true, false, List, [], ◌∷◌, ℤ, pos, negsuc, if◌then◌else◌, Some, None}
use Rattle.record.specs.declared.Timestamp as stamped
use Rattle.std.proofs.Math.Option.{Option, none, some}
use Rattle.digits.specs.Digits.{decimal}
use Rattle.calendar.specs.Instant.{shown}
use Rattle.output.specs.Numerals.{fixed, numeral}
use Rattle.lookup.specs.Unescape.{is_escaped}
use Rattle.claims.specs.Texts.{clock_in, secfrac_of, clock_texts}
use Rattle.grammar.specs.Line.{Param, Element, Offset, Timestamp, Division, Each, line_text}
use Rattle.writes.specs.Fields.{Fields}

-- `"`, `\` and `]` with a backslash in front
unfoldable pub escape : List ℕ → List ℕ
escape [] = []
escape (b ∷ t) = if is_escaped b then 92 ∷ b ∷ escape t else b ∷ escape t

abbrev pub escape_params : List Param → List Param
escape_params [] = []
escape_params (p ∷ ps) = record { name = p.name; value = escape p.value } ∷ escape_params ps

abbrev pub escape_elements : List Element → List Element
escape_elements [] = []
escape_elements (e ∷ es) = record { id = e.id; params = escape_params e.params } ∷ escape_elements es

-- "-" for what is absent
abbrev pub or_dash : Option (List ℕ) → List ℕ
or_dash none = 45 ∷ []
or_dash (some t) = t

-- sign hh:mm, `+` for 0
abbrev pub zone_of : ℤ → Offset
zone_of (pos n) = Offset.east (fixed 2 (n / 60)) (fixed 2 (n % 60))
zone_of (negsuc n) = Offset.west (fixed 2 (suc n / 60)) (fixed 2 (suc n % 60))

-- the clock that the instant shows, exactly the count's digits, and with none no point
abbrev pub timestamp_of : std.Option stamped.Timestamp → Option Timestamp
timestamp_of None = none
timestamp_of (Some t) =
    some (clock_texts (clock_in (shown t.seconds t.offset)) (secfrac_of t.digits t.nanos) (zone_of t.offset))

-- the texts of the fields
unfoldable pub division_of : Fields → Division
division_of f =
    record {
      prival = numeral f.priority;
      version = numeral f.version;
      timestamp = timestamp_of f.timestamp;
      hostname = or_dash f.host;
      app_name = or_dash f.app;
      procid = or_dash f.procid;
      msgid = or_dash f.msgid;
      elements = escape_elements f.elements;
      message = f.message;
    }

-- the line
abbrev pub written : Fields → List ℕ
written f = line_text (division_of f)

-- ---- the writer's own form: an offset as sign hh:mm with `+` for 0, and no backslash that is not needed

abbrev pub OwnOffset : Offset → Type 0
OwnOffset Offset.utc = ⊥
OwnOffset (Offset.east h m) = Unit {0}
OwnOffset (Offset.west h m) = decimal h * 60 + decimal m ≡ 0 → ⊥

abbrev pub OwnTimestamp : Option Timestamp → Type 0
OwnTimestamp none = Unit {0}
OwnTimestamp (some t) = OwnOffset t.offset

pub data OwnValue : List ℕ → Type 0 where
  nothing : OwnValue []
  plain : {b : ℕ} {t : List ℕ} → is_escaped b ≡ false → OwnValue t → OwnValue (b ∷ t)
  pair : {b : ℕ} {t : List ℕ} → is_escaped b ≡ true → OwnValue t → OwnValue (92 ∷ b ∷ t)

pub record Own (d : Division) : Type 0 where
  pub own_timestamp : OwnTimestamp d.timestamp
  pub own_values : Each (λ (e : Element). Each (λ (p : Param). OwnValue p.value) e.params) d.elements
