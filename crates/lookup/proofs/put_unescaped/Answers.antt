use Rattle.std.proofs.Common.{rules}
use Rattle.lookup.proofs.Unescaping.{put_laws}
use Rattle.lookup.proofs.put_unescaped.Goals as goal

pub put_added-next-requires : goal.put_added-next-requires
put_added-next-requires c = search (put_laws, rules)

pub loop-b-preserved : goal.loop-b-preserved
loop-b-preserved c = search (put_laws, rules)
