use Rattle.std.proofs.Common.{drop, ◌≡◌}
use Rattle.claims.specs.Holds.{every}
use Rattle.grammar.specs.Abnf.{sd_name_byte}
use Rattle.claim_data.proofs.name_bytes.Given as goal

abbrev pub invariant-loop-b : goal.invariant-loop-b
invariant-loop-b l = every sd_name_byte l.t ≡ every sd_name_byte (drop l.b-index l.t)
