use Rattle.std.proofs.Common.{rules}
use Rattle.output.proofs.Writes.{owes_all}
use Rattle.output.proofs.Numerals.{digits_fit_lem, digit_less, digits_all}
use Rattle.output.proofs.put_fixed.Goals as goal

pub loop-left-init : goal.loop-left-init
loop-left-init c = (search rules, search digits_fit_lem, search owes_all)

pub loop-left-preserved : goal.loop-left-preserved
loop-left-preserved c = (search rules, search rules, search digit_less)

pub returns : goal.returns
returns c = search digits_all
