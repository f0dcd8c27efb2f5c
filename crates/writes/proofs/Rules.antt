-- The rules of the fields, as facts: refusal 7 for the timestamp, refusal 17 for the rest.
use Rattle.std.specs.Prelude as std
use Rattle.std.specs.Prelude.{Some, None}
use Prim.Native.Nat.{ℕ, ◌≤◌}
use mathlib.Core.Path.{◌≡◌}
use mathlib.Core.List.{List, [], ◌∷◌}
use mathlib.Core.Option.{Option, none, some}
use Rattle.base.specs.Texts.{Distinct}
use Rattle.utf8.specs.Rfc3629.{Utf8}
use Rattle.suits.proofs.Suited.{StampIn}
use Rattle.grammar.specs.Abnf.{print_us_ascii, sd_name_byte, Repeat}
use Rattle.grammar.specs.Line.{Param, Element, Each, MessageOk, ids_of}
use Rattle.writes.specs.Fields.{Fields}
use Rattle.record.specs.declared.Timestamp.{Timestamp}

abbrev pub Suitable : std.Option Timestamp → Type 0
Suitable None = Unit {0}
Suitable (Some t) = StampIn t

abbrev pub FewDigits : std.Option Timestamp → Type 0
FewDigits None = Unit {0}
FewDigits (Some t) = t.digits ≤ 6

pub record GivenOk (most : ℕ) (t : List ℕ) : Type 0 where
  pub bytes : Repeat 1 most print_us_ascii t
  pub no_mark : t ≡ 45 ∷ [] → ⊥

abbrev pub TextOk : ℕ → Option (List ℕ) → Type 0
TextOk most none = Unit {0}
TextOk most (some t) = GivenOk most t

pub record RawParamOk (p : Param) : Type 0 where
  pub name_ok : Repeat 1 32 sd_name_byte p.name
  pub value_utf8 : Utf8 p.value

pub record RawElementOk (e : Element) : Type 0 where
  pub id_ok : Repeat 1 32 sd_name_byte e.id
  pub params_ok : Each RawParamOk e.params

pub record Writable (f : Fields) : Type 0 where
  pub suitable : Suitable f.timestamp
  pub few_digits : FewDigits f.timestamp
  pub priority_to : f.priority ≤ 191
  pub version_from : 1 ≤ f.version
  pub version_to : f.version ≤ 999
  pub host_ok : TextOk 255 f.host
  pub app_ok : TextOk 48 f.app
  pub procid_ok : TextOk 128 f.procid
  pub msgid_ok : TextOk 32 f.msgid
  pub message_ok : MessageOk f.message
  pub elements_ok : Each RawElementOk f.elements
  pub ids_differ : Distinct (ids_of f.elements)
