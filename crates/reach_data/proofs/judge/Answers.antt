use Rattle.std.proofs.Common.{rules}
use Rattle.reach_data.proofs.Noted.{judge_laws}
use Rattle.reach_data.proofs.judge.Goals as goal

pub first_repeat-j-requires : goal.first_repeat-j-requires
first_repeat-j-requires c = search (judge_laws, rules)

pub id_end-requires : goal.id_end-requires
id_end-requires c = search (judge_laws, rules)

pub returns-then-j-n : goal.returns-then-j-n
returns-then-j-n c = search (judge_laws, rules)

pub returns-else-j-n : goal.returns-else-j-n
returns-else-j-n c = search (judge_laws, rules)
