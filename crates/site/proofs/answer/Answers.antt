use Rattle.std.proofs.Common.{rules}
use Rattle.site.specs.Steps.AnswersWith.{refuses}
use Rattle.site.proofs.Answers.{answer_set}
use Rattle.site.proofs.answer.Goals as goal

pub returns-in_err-s : goal.returns-in_err-s
returns-in_err-s c = refuses c.in_err-s.field-0.0 c.in_err-s.ensures (search rules)

pub returns : goal.returns
returns c =
    answer_set c.args.file.now c.args.gate c.args.line.now c.args.e c.args.p c.in_ok-s.s c.in_ok-s.ensures (search rules)
    c.answer-x.result c.answer-x.ensures c.with_default.result c.with_default.ensures
