-- The walk over a line tells what is reported of it.
use Rattle.std.specs.Prelude.{Result, Ok, Err}
use Prim.Native.Nat.{ℕ, ◌≤◌, ◌<◌}
use mathlib.Core.Path.{◌≡◌, refl, subst}
use mathlib.Core.List.{List}
use native.Mathlib.Omega.{arith}
use lib.ListN.{length}
use Rattle.record.specs.Limits.{line_limit}
use Rattle.grammar.specs.Parse.{◌next◌, into, division_of, header, message}
use Rattle.grammar.specs.Parse.Parsed.{failed, found}
use Rattle.viable.specs.Viable.{Longest, Reports}
use Rattle.viable.specs.Viable.Reports.{too_long, derived, underivable}
use Rattle.viable.specs.Far.{next_far}
use Rattle.viable.specs.Reach.{header_far, structured_in, structured_far, end_far, parse_in, reach}
use Rattle.viable.proofs.Lines.{parse_sound, none_derived, reach_longest}
use Rattle.viable.proofs.Walks.{Seq, seq, got_past, got_stuck}
use Rattle.reach_header.specs.Pieces.{header_at}
use Rattle.reach_data.specs.Pieces.{data_at, message_at}
use Rattle.reach.specs.Lines.{body_at, line_at}

pub body_seq : Seq data_at message_at body_at
body_seq = seq structured_in message structured_far end_far

pub line_seq : Seq header_at body_at line_at
unfolding reach
line_seq = seq header (structured_in next message) header_far (next_far structured_in structured_far (λ _. end_far))

pub reports_long : (line : List ℕ) → line_limit < length line → Reports line 0
reports_long line h = too_long h refl

module _ (line : List ℕ) (short : length line ≤ line_limit) (w : Result ℕ ℕ) (e : w ≡ line_at line 0) where
  pub reports_none : (n : ℕ) → w ≡ Ok n → Reports line 0
  unfolding parse_in into
  reports_none n h =
      let g = got_past (header next structured_in next message) reach line 0 w e n h in
      let f : parse_in line ≡ found (division_of g.value) g.bytes = rw g.is in
      derived (division_of g.value) short (parse_sound line (division_of g.value) g.bytes f) refl

  pub reports_broken : (k : ℕ) → w ≡ Err k → Reports line k
  unfolding parse_in into
  reports_broken k h =
      let g = got_stuck (header next structured_in next message) reach line 0 w e k h in
      let f : parse_in line ≡ failed = rw g.is in
      let z : reach line ≡ k = omega (arith, g.sum) in
      let none = none_derived line f in
      underivable short none (subst (Longest line) z (reach_longest line none))

pub ruleset report_laws = (reports_long, reports_none, reports_broken)
