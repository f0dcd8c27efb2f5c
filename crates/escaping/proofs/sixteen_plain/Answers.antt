use Rattle.std.proofs.Common.{rules, ◌≡◌, ◌∙◌, ◌+◌, ◌-◌, Bool, true, take, drop, arith}
use mathlib.Core.Bool.{◌&&◌}
use borrow.Author.Tests.{tests}
use Rattle.std.proofs.lemmas.Iterator.{YieldsList-from_slice}
use Rattle.std.proofs.lemmas.Iterator.Consumers.{fold_from_yields_List}
use Rattle.escaping.specs.Plain.{plain}
use Rattle.escaping.proofs.Escapes.{fold_all}
use Rattle.escaping.proofs.sixteen_plain.Goals as goal

pub returns : goal.returns
returns c =
    let t = take 16 (drop c.args.i c.args.s.now) in
    let z : c.args.i + 16 - c.args.i ≡ 16 = omega arith in
    fold_from_yields_List _ (λ (a : Bool) b. a && plain b) true c.fold.result c.fold.ensures.ran (YieldsList-from_slice t cc) (λ a x b q k. search (rules, tests))
    ∙ fold_all plain true t
