-- For private contracts alone: the front of the line in the pieces that are written.
use Rattle.std.specs.Prelude.{ℕ, List, [], ◌∷◌, ◌++◌}
use Rattle.output.specs.Numerals.{numeral}
use Rattle.message_stamp.specs.Stamps.{stamp_text}
use Rattle.writes.specs.declared.Part.{Part}
use Rattle.writes.specs.declared.Handed.{Handed}
use Rattle.writes.specs.Written.{or_dash}
use Rattle.writes.specs.Writes.{part_in, stamp_in}

-- a text or `-`
abbrev pub part_text : List ℕ → Part → List ℕ
part_text text p = or_dash (part_in text p)

-- and a space
abbrev pub field_text : List ℕ → Part → List ℕ
field_text text p = part_text text p ++ (32 ∷ [])

abbrev pub pair_text : List ℕ → Part → Part → List ℕ
pair_text text p q = field_text text p ++ field_text text q

-- `<p>`
abbrev pub pri_text : Handed → List ℕ
pri_text h = (60 ∷ numeral h.priority) ++ (62 ∷ [])

abbrev pub start_text : Handed → List ℕ
start_text h = pri_text h ++ numeral h.version ++ (32 ∷ [])

abbrev pub stamped_text : Handed → List ℕ
stamped_text h = start_text h ++ stamp_text (stamp_in h) ++ (32 ∷ [])

abbrev pub names_text : List ℕ → Handed → List ℕ
names_text text h = pair_text text h.host h.app ++ pair_text text h.procid h.msgid

unfoldable pub front_text : List ℕ → Handed → List ℕ
front_text text h = stamped_text h ++ pair_text text h.host h.app ++ pair_text text h.procid h.msgid
