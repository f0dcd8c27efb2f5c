use Rattle.std.proofs.Common.{rules}
use Rattle.writer.proofs.Covered.{answer_laws}
use Rattle.writer.proofs.answer.Goals as goal

pub returns-then-not-w : goal.returns-then-not-w
returns-then-not-w c = search (answer_laws, rules)

pub returns-then-w-gt-LINE_LIMIT : goal.returns-then-w-gt-LINE_LIMIT
returns-then-w-gt-LINE_LIMIT c = search (answer_laws, rules)

pub returns-then-room-w : goal.returns-then-room-w
returns-then-room-w c = search (answer_laws, rules)

pub returns : goal.returns
returns c = search (answer_laws, rules)
