use Rattle.std.proofs.Common.{drop}
use Rattle.lookup.specs.Unescape.{unescaped_from, unescaped}
use Rattle.lookup.proofs.Unescaping.{Due}
use Rattle.lookup.proofs.put_unescaped.Given as goal

abbrev pub invariant-loop-b : goal.invariant-loop-b
invariant-loop-b l = Due l.initial.out l.at (unescaped l.loose l.v) l.out l.next (unescaped_from l.loose l.taken (drop l.b-index l.v))
