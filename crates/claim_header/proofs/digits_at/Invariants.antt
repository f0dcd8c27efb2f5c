use Rattle.std.proofs.Common.{◌≤◌, ◌+◌, ◌≡◌, length}
use Rattle.output.specs.Numerals.{fixed}
use Rattle.claims.specs.Holds.{stands_at}
use Rattle.claim_header.proofs.digits_at.Given as goal

abbrev pub invariant-loop-i : goal.invariant-loop-i
invariant-loop-i l = (l.i ≤ l.k) × ((l.at + l.k ≤ length l.line) × (stands_at l.line l.at (fixed l.k l.n) ≡ stands_at l.line l.at (fixed l.i l.rest)))
