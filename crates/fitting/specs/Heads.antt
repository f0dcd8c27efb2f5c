-- For private contracts alone: the tests of refusal 17 on what is handed in.
use Rattle.std.specs.Prelude.{ℕ, Bool, true, false, ◌&&◌, List, leb, get_or}
use Rattle.base.specs.Choose.{within}
use Rattle.base.specs.Texts.{text_at}
use Rattle.grammar.specs.Abnf.{print_us_ascii, sd_name_byte}
use Rattle.writes.specs.declared.Handed.{Handed}
use Rattle.writes.specs.Fits.{digits_fit, text_fits, param_fits, message_fits}
use Rattle.writes.specs.Writes.{part_in, stamp_in}

-- a byte of a name, or of another text
abbrev pub byte_of : Bool → ℕ → Bool
byte_of true = sd_name_byte
byte_of false = print_us_ascii

abbrev pub numbers_fit : Handed → Bool
numbers_fit h = leb h.priority 191 && within 1 999 h.version && digits_fit (stamp_in h)

abbrev pub names_fit : List ℕ → Handed → Bool
names_fit text h =
    text_fits 255 (part_in text h.host) && text_fits 48 (part_in text h.app) && text_fits 128 (part_in text h.procid) && text_fits 32 (part_in text h.msgid)

-- all but the elements
unfoldable pub head_fits : List ℕ → Handed → Bool
head_fits text h = numbers_fit h && names_fit text h && message_fits (part_in text h.message)

-- a parameter
abbrev pub row_fits : List ℕ → List ℕ → Bool
row_fits text row = param_fits (record { name = text_at text (get_or row 1 0) (get_or row 2 0); value = text_at text (get_or row 3 0) (get_or row 4 0) })
