use Rattle.std.proofs.Common.{rules}
use Rattle.strict.proofs.Readings.{judge_laws}
use Rattle.strict.proofs.judge.Goals as goal

pub returns-then-line-gt-LINE_LIMIT : goal.returns-then-line-gt-LINE_LIMIT
returns-then-line-gt-LINE_LIMIT c = search (judge_laws, rules)

pub returns-in_default : goal.returns-in_default
returns-in_default c = search (judge_laws, rules)

pub returns-then-e-scan : goal.returns-then-e-scan
returns-then-e-scan c = search (judge_laws, rules)

pub returns-then-p-scan : goal.returns-then-p-scan
returns-then-p-scan c = search (judge_laws, rules)

pub returns : goal.returns
returns c = search (judge_laws, rules)
