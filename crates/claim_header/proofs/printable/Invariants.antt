use Rattle.std.proofs.Common.{◌≤◌, ◌-◌, ◌≡◌, length, drop}
use Rattle.grammar.specs.Abnf.{print_us_ascii}
use Rattle.claims.specs.Holds.{every}
use Rattle.claim_header.proofs.printable.Given as goal

abbrev pub invariant-loop-b : goal.invariant-loop-b
invariant-loop-b l = (l.b-index ≤ length l.t) × (every print_us_ascii l.t ≡ every print_us_ascii (drop l.b-index l.t))

abbrev pub decreases-loop-b : goal.decreases-loop-b
decreases-loop-b l = length l.t - l.b-index
