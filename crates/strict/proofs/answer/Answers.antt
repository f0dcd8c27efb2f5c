use Rattle.std.proofs.Common.{rules}
use Rattle.std.proofs.lemmas.Result.{err_from_is_err_and}
use Rattle.strict.proofs.Readings.{answer_refused, answer_read}
use Rattle.strict.proofs.answer.Goals as goal

pub returns-in_err-judge : goal.returns-in_err-judge
returns-in_err-judge c =
    let p = err_from_is_err_and c.from_residual.result c.from_residual.ensures.1 in
    rw (p.1, p.2) (answer_refused _ _ _ _ c.judge.ensures _ c.in_err-judge.was)

pub returns : goal.returns
returns c = search (answer_read, c.in_ok-judge.was, rules)
