use Rattle.std.proofs.Common.{rules}
use Rattle.strict_header.proofs.Fields.{field_laws}
use Rattle.strict_header.proofs.field.Goals as goal

pub returns-then-not-n-most : goal.returns-then-not-n-most
returns-then-not-n-most c = search (field_laws, rules)

pub returns-then-not-is_at : goal.returns-then-not-is_at
returns-then-not-is_at c = search (field_laws, rules)

pub returns : goal.returns
returns c = search (field_laws, rules)
