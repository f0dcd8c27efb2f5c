use Rattle.std.proofs.Common.{sym}
use Rattle.message.proofs.Answers.{print_done}
use Rattle.message.proofs.print.Goals as goal

pub returns : goal.returns
returns c = print_done _ _ _ _ _ _ _ c.if-line-gt-LINE_LIMIT.false (sym c.if-not-is_suitable.ensures) (sym c.if-not-fits.ensures) _ _ c.put_record-end.ensures
