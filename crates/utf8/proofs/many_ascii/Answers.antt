use Rattle.std.proofs.Common.{rules}
use Rattle.utf8.proofs.Passing.{four_eights}
use Rattle.utf8.proofs.many_ascii.Goals as goal

pub returns : goal.returns
returns c = four_eights c.args.s.now c.args.i c.eight_ascii.result c.eight_ascii-2.result c.eight_ascii-3.result c.eight_ascii-4.result
    (search rules) c.eight_ascii.ensures c.eight_ascii-2.ensures c.eight_ascii-3.ensures c.eight_ascii-4.ensures
