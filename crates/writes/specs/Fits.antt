-- Refusal 17: the fields that the grammar has a line for, apart from the timestamp's own rules (refusal 7).
use Rattle.std.specs.Prelude as std
use Rattle.std.specs.Prelude.{ℕ, Bool, true, not, ◌&&◌, List, [], ◌∷◌, leb, eqb, length, Some, None}
use Rattle.std.proofs.Math.Option.{Option, none, some}
use Rattle.base.specs.Choose.{within, is_at}
use Rattle.base.specs.Runs.{run}
use Rattle.base.specs.Texts.{all_different}
use Rattle.utf8.specs.Lead.{is_utf8}
use Rattle.grammar.specs.Abnf.{print_us_ascii, sd_name_byte}
use Rattle.grammar.specs.Line.{Param, Element, ids_of}
use Rattle.grammar.specs.Parse.{is_message}
use Rattle.writes.specs.Fields.{Fields}
use Rattle.record.specs.declared.Timestamp.{Timestamp}

-- the fraction has at most six digits
abbrev pub digits_fit : std.Option Timestamp → Bool
digits_fit None = true
digits_fit (Some t) = leb t.digits 6

-- 1*most of a class
abbrev pub class_fits : ℕ → (ℕ → Bool) → List ℕ → Bool
class_fits most p t = within 1 most (length t) && eqb (run p t) (length t)

-- absent, or not "-", since absent has its own mark
abbrev pub text_fits : ℕ → Option (List ℕ) → Bool
text_fits most none = true
text_fits most (some t) = class_fits most print_us_ascii t && not (eqb (length t) 1 && is_at t 0 45)

-- a name, and a value of any UTF-8
abbrev pub param_fits : Param → Bool
param_fits p = class_fits 32 sd_name_byte p.name && is_utf8 p.value

abbrev pub params_fit : List Param → Bool
params_fit [] = true
params_fit (p ∷ ps) = param_fits p && params_fit ps

abbrev pub elements_fit : List Element → Bool
elements_fit [] = true
elements_fit (e ∷ es) = class_fits 32 sd_name_byte e.id && params_fit e.params && elements_fit es

abbrev pub message_fits : Option (List ℕ) → Bool
message_fits none = true
message_fits (some m) = is_message m

unfoldable pub fields_fit : Fields → Bool
fields_fit f =
    leb f.priority 191
    && within 1 999 f.version
    && digits_fit f.timestamp
    && text_fits 255 f.host
    && text_fits 48 f.app
    && text_fits 128 f.procid
    && text_fits 32 f.msgid
    && message_fits f.message
    && elements_fit f.elements
    && all_different (ids_of f.elements)
