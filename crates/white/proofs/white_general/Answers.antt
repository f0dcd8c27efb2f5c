use Rattle.std.proofs.Common.{rules}
use Rattle.white.proofs.Bytes.{byte_laws}
use Rattle.white.proofs.white_general.Goals as goal

pub returns-then-b-eq128 : goal.returns-then-b-eq128
returns-then-b-eq128 c = search (byte_laws, rules)

pub returns : goal.returns
returns c = search (byte_laws, rules)
