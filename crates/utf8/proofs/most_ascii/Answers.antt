use Rattle.utf8.proofs.Passing.{four_many}
use Rattle.utf8.proofs.most_ascii.Goals as goal

pub returns : goal.returns
returns c = four_many c.args.s.now c.args.i c.many_ascii.result c.many_ascii-2.result c.many_ascii-3.result c.many_ascii-4.result
    c.many_ascii.ensures c.many_ascii-2.ensures c.many_ascii-3.ensures c.many_ascii-4.ensures
