use Rattle.std.proofs.Common.{rules}
use Rattle.lookup.proofs.Unescaping.{added_laws}
use Rattle.lookup.proofs.put_added.Goals as goal

pub returns-in-Nothing : goal.returns-in-Nothing
returns-in-Nothing c = search (added_laws, rules)

pub returns-in-Pair : goal.returns-in-Pair
returns-in-Pair c = search (added_laws, rules)
