-- For private contracts alone: what the walks over a line answer.
use Rattle.std.specs.Prelude.{ℕ, List, Result}
use Rattle.grammar.specs.Parse.{◌next◌, header, message}
use Rattle.viable.specs.Far.{next_far}
use Rattle.viable.specs.Reach.{structured_in, structured_far, end_far, reach}
use Rattle.viable.specs.Walks.{went_at}

-- STRUCTURED-DATA [SP MSG]
abbrev pub body_at : List ℕ → ℕ → Result ℕ ℕ
body_at = went_at (structured_in next message) (next_far structured_in structured_far (λ _. end_far))

-- SYSLOG-MSG
abbrev pub line_at : List ℕ → ℕ → Result ℕ ℕ
line_at = went_at (header next structured_in next message) reach
