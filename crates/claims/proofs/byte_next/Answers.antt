use Rattle.std.proofs.Common.{rules}
use Rattle.claims.proofs.Bytes.{byte_laws}
use Rattle.claims.proofs.byte_next.Goals as goal

pub returns-else-is_at : goal.returns-else-is_at
returns-else-is_at c = search (byte_laws, rules)

pub overflow_add-result : goal.overflow_add-result
overflow_add-result c = search (byte_laws, rules)

pub returns-then-is_at : goal.returns-then-is_at
returns-then-is_at c = search (byte_laws, rules)
