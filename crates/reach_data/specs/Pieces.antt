-- For private contracts alone: what the walks over the pieces of the structured data and of the message answer.
use Rattle.std.specs.Prelude.{ℕ, ◌+◌, Bool, ◌&&◌, List, if◌then◌else◌, Result, Ok, Err}
use Rattle.base.specs.Choose.{is_at}
use Rattle.grammar.specs.Abnf.{sd_name_byte}
use Rattle.grammar.specs.Parse.{◌next◌, closed, behind, many, only, all_left, is_message, sd_name, value, param, message}
use Rattle.viable.specs.Far.{Far, next_far, closed_far, behind_far}
use Rattle.viable.specs.Leaves.{repeat_far, value_far, message_far}
use Rattle.viable.specs.Reach.{param_far, params_far, structured_in, structured_far, end_far}
use Rattle.viable.specs.Walks.{went_at}

abbrev pub Walk : Type 0
Walk = List ℕ → ℕ → Result ℕ ℕ

-- SD-NAME, and PARAM-NAME "="
abbrev pub name_at : Walk
name_at = went_at sd_name (repeat_far 32 sd_name_byte)

abbrev pub name_end_at : Walk
name_end_at = went_at (closed sd_name 61) (closed_far sd_name (repeat_far 32 sd_name_byte))

-- PARAM-VALUE %d34, and with %d34 in front
abbrev pub value_at : Walk
value_at = went_at value value_far

abbrev pub quoted_at : Walk
quoted_at = went_at (behind 34 value) (behind_far 34 value_far)

abbrev pub param_at : Walk
param_at = went_at param param_far

-- "]"
abbrev pub bracket_at : Walk
bracket_at s at = if is_at s at 93 then Ok (at + 1) else Err at

-- *(SP SD-PARAM) "]"
abbrev pub params_at : Walk
params_at = went_at (closed (many 32 param) 93) (closed_far (many 32 param) params_far)

-- what is after the "[" of an SD-ELEMENT, whatever its id is
abbrev pub plain_far : Far
plain_far = next_far sd_name (repeat_far 32 sd_name_byte) (λ _. closed_far (many 32 param) params_far)

abbrev pub plain_at : Walk
plain_at = went_at (sd_name next closed (many 32 param) 93) plain_far

-- STRUCTURED-DATA, and [SP MSG]
abbrev pub data_at : Walk
data_at = went_at structured_in structured_far

abbrev pub text_at : Walk
text_at = went_at (only is_message all_left) message_far

abbrev pub message_at : Walk
message_at = went_at message end_far

-- the byte order mark
abbrev pub is_mark : List ℕ → Bool
is_mark m = is_at m 0 0xEF && is_at m 1 0xBB && is_at m 2 0xBF
