-- For private contracts alone: the elements' text as it is written: what stands between two parameters, and after the last element.
use Rattle.std.specs.Prelude.{ℕ, ◌+◌, ◌-◌, List, [], ◌∷◌, ◌++◌, eqb, length, get_or, take, drop, if◌then◌else◌}
use Rattle.base.specs.Bytes.{bytes}
use Rattle.base.specs.Texts.{text_at}
use Rattle.record.specs.declared.Protocol.{Protocol}
use Rattle.record.specs.declared.Protocol.TheVariants.{Rfc3164, Rfc5424}
use Rattle.record.specs.declared.Record.{Record}
use Rattle.message.specs.Message.{open_text}

-- `[id` of the first element, if there is one
unfoldable pub first_text : List ℕ → List (List ℕ) → List ℕ
first_text line ids = if eqb (length ids) 0 then [] else open_text line (get_or ids 0 [])

-- `][id` of each element from the next one on, up to a parameter's own
unfoldable pub opens_text : List ℕ → List (List ℕ) → List ℕ
opens_text line [] = []
opens_text line (row ∷ rows) = bytes "]" ++ open_text line row ++ opens_text line rows

-- the same of each element after `k`, and the last one's end
unfoldable pub close_text : List ℕ → List (List ℕ) → ℕ → List ℕ
close_text line ids k = if eqb (length ids) 0 then [] else opens_text line (take (length ids - 1 - k) (drop (k + 1) ids)) ++ bytes "]"

abbrev pub none_text : Protocol → List ℕ
none_text Rfc3164 = []
none_text (Rfc5424 v) = bytes "- "

-- a space after the elements; where there are none, `- ` for RFC 5424 only
unfoldable pub end_text : Protocol → ℕ → List ℕ
end_text protocol e = if eqb e 0 then none_text protocol else bytes " "

-- and the message
abbrev pub back_text : List ℕ → Record → ℕ → List ℕ
back_text line r e = end_text r.protocol e ++ text_at line r.message.start r.message.len
