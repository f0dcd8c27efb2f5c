-- The words of a record's bytes, of however many there are.
use Rattle.std.specs.Prelude.{ℕ, ◌+◌, ◌*◌, List, leb, length, if◌then◌else◌}
use Rattle.layout.specs.Incoming.{word_at}

-- word `i` where all its eight bytes are there, 0 past the end
abbrev pub word_in : List ℕ → ℕ → ℕ
word_in bytes i = if leb (i * 8 + 8) (length bytes) then word_at bytes i else 0
