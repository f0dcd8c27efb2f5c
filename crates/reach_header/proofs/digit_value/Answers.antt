use Rattle.std.proofs.Common.{rules}
use Rattle.reach_header.proofs.Numbers.{digit_laws}
use Rattle.reach_header.proofs.digit_value.Goals as goal

pub overflow_sub-result : goal.overflow_sub-result
overflow_sub-result c = search (digit_laws, rules)

pub returns : goal.returns
returns c = search (digit_laws, rules)
