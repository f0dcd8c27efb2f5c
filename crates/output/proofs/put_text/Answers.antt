use Rattle.std.proofs.Common.{rules}
use Rattle.output.proofs.Writes.{copy_none, copy_more, copy_all}
use Rattle.output.proofs.put_text.Goals as goal

pub loop-i-init : goal.loop-i-init
loop-i-init c = search (copy_none, rules)

pub loop-i-preserved : goal.loop-i-preserved
loop-i-preserved c = (search rules, search copy_more)

pub returns : goal.returns
returns c = search copy_all
