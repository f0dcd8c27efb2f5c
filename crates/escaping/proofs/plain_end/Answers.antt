use Rattle.std.proofs.Common.{rules, ◌∙◌, ◌+◌, ap, sym, drop}
use borrow.Author.Tests.{tests}
use Rattle.std.proofs.lemmas.Iterator.{YieldsList-from_slice}
use Rattle.std.proofs.lemmas.Iterator.Search.{YieldsList-from_take_while}
use Rattle.std.proofs.lemmas.Iterator.Consumers.{count_from_yields_List}
use Rattle.base.proofs.Parts.{rest}
use Rattle.escaping.specs.Plain.{plain}
use Rattle.escaping.proofs.Escapes.{run_taken}
use Rattle.escaping.proofs.plain_end.Goals as goal

pub returns : goal.returns
returns c =
    let i = c.plain_front-i.result in
    ap (λ k. i + k)
    (count_from_yields_List c.take_while.result _ c.count.ensures.ran
    (YieldsList-from_take_while _ plain (YieldsList-from_slice (drop i c.args.s.now) (cc (rest c.args.s.now i))) c.take_while.ensures.closure c.take_while.ensures.done (λ x b q k. search (rules, tests)))
    ∙ run_taken plain (drop i c.args.s.now))
    ∙ sym c.plain_front-i.ensures.s_value
