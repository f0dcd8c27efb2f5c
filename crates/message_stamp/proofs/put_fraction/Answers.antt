use Rattle.std.proofs.Common.{rules}
use Rattle.digits.proofs.Fractions.{unit_some}
use Rattle.output.proofs.Pieces.{named_fits, named, unwritten}
use Rattle.message_stamp.proofs.Texts.{fraction_laws}
use Rattle.message_stamp.proofs.put_fraction.Goals as goal

pub returns-then-digits-eq0 : goal.returns-then-digits-eq0
returns-then-digits-eq0 c = search (unwritten, fraction_laws)

pub nonzero_div-nanos : goal.nonzero_div-nanos
nonzero_div-nanos c = search (unit_some, rules)

pub put_marked-requires : goal.put_marked-requires
put_marked-requires c = search (named_fits, fraction_laws)

pub returns : goal.returns
returns c = search (named, fraction_laws)
