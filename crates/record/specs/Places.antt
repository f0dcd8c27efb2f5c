-- Places of the line, with a presence mark.
use Rattle.std.specs.Prelude.{ℕ, true, false}
use Rattle.record.specs.declared.Place.{Place}

-- an absent text has start and length 0
abbrev pub absent : Place
absent = record { present = false; start = 0; len = 0 }

-- a text that is there, and may be empty
abbrev pub place : ℕ → ℕ → Place
place start len = record { present = true; start = start; len = len }
