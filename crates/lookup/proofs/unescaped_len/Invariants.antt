use Rattle.std.proofs.Common.{◌≡◌, ◌+◌, length, drop}
use Rattle.lookup.specs.Unescape.{unescaped_from, unescaped}
use Rattle.lookup.proofs.unescaped_len.Given as goal

abbrev pub invariant-loop-b : goal.invariant-loop-b
invariant-loop-b l = l.n + length (unescaped_from l.loose l.taken (drop l.b-index l.v)) ≡ length (unescaped l.loose l.v)
