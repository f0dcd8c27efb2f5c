use Rattle.std.proofs.Common.{rules, refl, ◌≡◌, ◌+◌, ◌-◌, true, arith}
use Rattle.std.specs.Bool.{⊤}
use Rattle.std.proofs.lemmas.Iterator.{cases_from_all, YieldsList-from_range}
use borrow.Author.Tests.{tests}
use Rattle.base.specs.Texts.{same_text}
use Rattle.pairs.specs.Keys.{key_of}
use Rattle.pairs.proofs.Weights.{even_halves}
use Rattle.pairs.proofs.Texts.is_even.Goals as goal

pub returns-then-self-m : goal.returns-then-self-m
returns-then-self-m c =
    let key = key_of c.args.self.text.now c.args.self.ends.now in
    let e : c.args.m - 0 ≡ c.args.m = omega arith in
    even_halves _ _ _ c.requires c.if-self-m.true _
    (cases_from_all _ _ _ (λ k. same_text (key k) (key (c.args.m + k)) ≡ true) (λ k. ⊤) c.all.ensures.ran (YieldsList-from_range 0 c.args.m c.args.m refl e)
    (λ x q k. search (rules, tests)) (λ x q k. tt))
