use Rattle.std.proofs.Common.{rules}
use Rattle.claim_header.proofs.Stands.{digit_laws}
use Rattle.claim_header.proofs.digits_at.Goals as goal

pub returns-then-line-at : goal.returns-then-line-at
returns-then-line-at c = search (digit_laws, rules)

pub loop-i-preserved : goal.loop-i-preserved
loop-i-preserved c = search (digit_laws, rules)

pub returns : goal.returns
returns c = search (digit_laws, rules)
