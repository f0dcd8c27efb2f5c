-- For private contracts alone: the ids that rows name in a text, and how far they are compared.
use Rattle.std.specs.Prelude.{ℕ, ◌+◌, ◌-◌, ◌≤◌, ◌<◌, ◌≡◌, Bool, true, false, ◌&&◌, Option, Some, None, List, [], ◌∷◌, ◌++◌, length, get_or, take, drop}
use Rattle.base.specs.Texts.{text_at, all_different}
use Rattle.output.specs.Output.{Wrote}
use Rattle.grammar.specs.Abnf.{sd_name_byte, Repeat}
use Rattle.grammar.specs.Line.{Each}
use Rattle.writes.specs.Fits.{class_fits}
use Rattle.ids.specs.declared.Block.{Block}

abbrev pub id_in : List ℕ → List ℕ → List ℕ
id_in text row = text_at text (get_or row 0 0) (get_or row 1 0)

unfoldable pub ids_in : List ℕ → List (List ℕ) → List (List ℕ)
ids_in text [] = []
ids_in text (row ∷ rows) = id_in text row ∷ ids_in text rows

-- they are SD-NAMEs
unfoldable pub ids_fit : List ℕ → List (List ℕ) → Bool
ids_fit text [] = true
ids_fit text (row ∷ rows) = class_fits 32 sd_name_byte (id_in text row) && ids_fit text rows

-- ---- elements with their ids alone

abbrev pub bare_text : List (List ℕ) → List ℕ
bare_text [] = []
bare_text (id ∷ ids) = ((91 ∷ id) ++ (93 ∷ [])) ++ bare_text ids

-- the elements from `from` on, as many as end within `most` bytes, and one at least where it has room
pub record Gathers (text : List ℕ) (rows : List (List ℕ)) (from at most : ℕ) (before : List ℕ) (b : Block) (after : List ℕ) : Type 0 where
  pub forward : from ≤ b.next
  pub inside : b.next ≤ length rows
  pub within : b.end ≤ most
  pub some : from < length rows → at + 34 ≤ most → from < b.next
  pub wrote : Wrote before at (bare_text (ids_in text (take (b.next - from) (drop from rows)))) b.end after

-- whether the ids of such a text differ, where it has some and all are SD-NAMEs
pub record Tells (line : List ℕ) (r : Bool) : Type 0 where
  pub tells : (ids : List (List ℕ)) → line ≡ bare_text ids → 1 ≤ length ids → Each (Repeat 1 32 sd_name_byte) ids → r ≡ all_different ids

-- all ids from a on differ exactly where those behind the block do
pub record Joins (text : List ℕ) (rows : List (List ℕ)) (a next : ℕ) : Type 0 where
  pub forward : a < next
  pub inside : next ≤ length rows
  pub differ : all_different (ids_in text (drop a rows)) ≡ all_different (ids_in text (drop next rows))

-- the ids of the block at a differ from each other and from all behind, and `next` is behind it; or they do not
abbrev pub Meets : List ℕ → List (List ℕ) → ℕ → Option ℕ → Type 0
Meets text rows a None = all_different (ids_in text (drop a rows)) ≡ false
Meets text rows a (Some next) = Joins text rows a next
