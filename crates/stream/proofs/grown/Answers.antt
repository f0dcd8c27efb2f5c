use Rattle.std.proofs.Common.{arith, ◌≡◌, min}
use Rattle.stream.proofs.Amounts.{grown_is}
use Rattle.stream.proofs.grown.Goals as goal

pub returns : goal.returns
returns c = let h : c.unwrap_or.result ≡ min c.args.k 4294967295 = grind arith in omega (arith, grown_is c.args.n c.args.k (omega arith))
