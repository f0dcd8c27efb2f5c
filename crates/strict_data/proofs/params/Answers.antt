use Rattle.std.proofs.Common.{◌∙◌, rules}
use Rattle.strict_data.proofs.Counting.{params_laws}
use Rattle.strict_data.proofs.params.Goals as goal

pub returns-then-b-eq93 : goal.returns-then-b-eq93
returns-then-b-eq93 c = search (params_laws, rules)

pub returns-then-b-ne32 : goal.returns-then-b-ne32
returns-then-b-ne32 c = search (params_laws, rules)

pub returns-in_err-n : goal.returns-in_err-n
returns-in_err-n c = c.from_residual.ensures ∙ search (params_laws, c.in_err-n.was, rules)

pub overflow_add-i : goal.overflow_add-i
overflow_add-i c = search (params_laws, c.in_ok-n.was, rules)

pub loop-i-preserved : goal.loop-i-preserved
loop-i-preserved c = search (params_laws, c.in_ok-n.was, rules)

pub returns : goal.returns
returns c = search (params_laws, rules)
