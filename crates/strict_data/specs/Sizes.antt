-- For private contracts alone: what the first pass keeps of the pieces of the structured data: how many bytes each takes, and of an element how many parameters it has.
use Rattle.std.specs.Prelude.{ℕ, length, Option, Some, None}
use Rattle.grammar.specs.Line.{Element}
use Rattle.grammar.specs.Parse.{Parsed}
use Rattle.grammar.specs.Parse.Parsed.{failed, found}
use Rattle.strict_data.specs.declared.Block.{Block}
use Rattle.strict_data.specs.declared.Item.{Item}

abbrev pub size_of : {A : Type 0} → Parsed A → Option ℕ
size_of failed = None
size_of (found a n) = Some n

abbrev pub block_of : {A : Type 0} → (A → ℕ) → Parsed A → Option Block
block_of count failed = None
block_of count (found a n) = Some (record { len = n; params = count a })

abbrev pub params_in : Element → ℕ
params_in e = length e.params

-- an element: its bytes, its parameters and the bytes of its id
abbrev pub item_of : Parsed Element → Option Item
item_of failed = None
item_of (found e n) = Some (record { len = n; params = params_in e; id = length e.id })
