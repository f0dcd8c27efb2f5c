use Rattle.std.proofs.Common.{rules, arith}
use Rattle.digits.proofs.Numbers.{passed_more, ended_text, ended_digits, number_laws}
use Rattle.digits.proofs.digits.Goals as goal

pub loop-i-init : goal.loop-i-init
loop-i-init c = search (number_laws, rules)

pub returns-in_default : goal.returns-in_default
returns-in_default c = ended_digits _ _ _ _ c.loop-i.invariant (omega arith) _ c.in_default.ensures c.written.ensures

pub returns-then-from-wide : goal.returns-then-from-wide
returns-then-from-wide c = search (number_laws, rules)

pub loop-i-preserved : goal.loop-i-preserved
loop-i-preserved c = passed_more _ _ _ _ c.loop-i.invariant (omega arith) _ c.in-Some.ensures _ (omega arith) (omega arith)

pub returns : goal.returns
returns c = ended_text _ _ _ _ c.loop-i.invariant _ (omega arith) (omega arith) c.written-2.ensures
