use Rattle.std.proofs.Common.{◌∙◌, rules}
use borrow.Author.Tests.{tests}
use Rattle.std.proofs.lemmas.Iterator.{YieldsList-from_slice}
use Rattle.std.proofs.lemmas.Iterator.Search.{all_from_yields_List}
use Rattle.base.specs.Choose.{within}
use Rattle.settings.proofs.Zeros.{all_listed}
use Rattle.settings.proofs.all_within.Goals as goal

pub returns : goal.returns
returns c =
    all_from_yields_List (within c.args.low c.args.high) _ _ _ c.all.ensures.ran (YieldsList-from_slice c.args.s.now cc) (λ x b q k. search (rules, tests))
    ∙ all_listed c.args.low c.args.high c.args.s.now
