use Rattle.std.proofs.Common.{rules}
use Rattle.pairs.specs.Keys.{key_of}
use Rattle.pairs.proofs.Texts.key.Goals as goal

pub returns : goal.returns
unfolding key_of
returns c = search rules
