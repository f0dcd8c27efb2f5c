use Rattle.std.proofs.Common.{◌≡◌, true, false, arith, rules}
use Rattle.std.proofs.lemmas.Iterator.{cases_from_any, YieldsList-from_range}
use borrow.Author.Tests.{tests}
use Rattle.base.specs.Texts.{same_text}
use Rattle.distinct.specs.Tree.{ids_of}
use Rattle.distinct.proofs.Repeats.{of_any}
use Rattle.distinct.proofs.occurs.Goals as goal

pub returns : goal.returns
returns c =
    let id = ids_of c.args.places in
    let own = c.id-own.result.now in
    of_any id c.args.i own c.id-own.ensures c.any.result
    (cases_from_any _ _ _ (λ m. same_text own (id m) ≡ true) (λ m. same_text own (id m) ≡ false) c.any.ensures.ran (YieldsList-from_range 0 c.args.i c.args.i (cc) (omega arith)) (λ x q k. search (rules, tests)) (λ x q k. search (rules, tests)))
