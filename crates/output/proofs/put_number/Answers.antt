use Rattle.output.proofs.Pieces.{named_fits, named}
use Rattle.output.proofs.Numerals.{numeral_is}
use Rattle.output.proofs.put_number.Goals as goal

pub put_fixed-requires : goal.put_fixed-requires
put_fixed-requires c = search (named_fits, numeral_is)

pub returns : goal.returns
returns c = search (named, numeral_is)
