use Rattle.std.proofs.Common.{rules}
use Rattle.white.proofs.Bytes.{byte_laws}
use Rattle.white.proofs.is_blank.Goals as goal

pub returns : goal.returns
returns c = search (byte_laws, rules)
