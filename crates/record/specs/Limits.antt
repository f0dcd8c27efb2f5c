-- How many bytes a line may have.
use Rattle.std.specs.Prelude.{ℕ}

abbrev pub line_limit : ℕ
line_limit = 8192
