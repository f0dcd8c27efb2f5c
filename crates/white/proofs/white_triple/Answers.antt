use Rattle.std.proofs.Common.{rules}
use Rattle.white.proofs.Bytes.{byte_laws}
use Rattle.white.proofs.white_triple.Goals as goal

pub returns-in-225 : goal.returns-in-225
returns-in-225 c = search (byte_laws, rules)

pub returns-in-226 : goal.returns-in-226
returns-in-226 c = search (byte_laws, rules)

pub returns-in-227 : goal.returns-in-227
returns-in-227 c = search (byte_laws, rules)

pub returns-in_default : goal.returns-in_default
returns-in_default c = search (byte_laws, rules)
