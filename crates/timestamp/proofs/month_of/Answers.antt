use Rattle.std.proofs.Common.{rules}
use Rattle.timestamp.proofs.Months.{month_laws}
use Rattle.timestamp.proofs.month_of.Goals as goal

pub returns-in-6971758 : goal.returns-in-6971758
returns-in-6971758 c = search (month_laws, rules)

pub returns-in-6710626 : goal.returns-in-6710626
returns-in-6710626 c = search (month_laws, rules)

pub returns-in-7168370 : goal.returns-in-7168370
returns-in-7168370 c = search (month_laws, rules)

pub returns-in-6385778 : goal.returns-in-6385778
returns-in-6385778 c = search (month_laws, rules)

pub returns-in-7168377 : goal.returns-in-7168377
returns-in-7168377 c = search (month_laws, rules)

pub returns-in-6976878 : goal.returns-in-6976878
returns-in-6976878 c = search (month_laws, rules)

pub returns-in-6976876 : goal.returns-in-6976876
returns-in-6976876 c = search (month_laws, rules)

pub returns-in-6387047 : goal.returns-in-6387047
returns-in-6387047 c = search (month_laws, rules)

pub returns-in-7562608 : goal.returns-in-7562608
returns-in-7562608 c = search (month_laws, rules)

pub returns-in-7299956 : goal.returns-in-7299956
returns-in-7299956 c = search (month_laws, rules)

pub returns-in-7237494 : goal.returns-in-7237494
returns-in-7237494 c = search (month_laws, rules)

pub returns-in-6579555 : goal.returns-in-6579555
returns-in-6579555 c = search (month_laws, rules)

pub returns-in_default : goal.returns-in_default
returns-in_default c = search (month_laws, rules)
