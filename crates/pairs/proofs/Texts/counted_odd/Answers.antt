use Rattle.std.proofs.Common.{◌≡◌, length, arith}
use Rattle.pairs.proofs.Weights.{others_counting, counts_odd}
use Rattle.pairs.proofs.Texts.counted_odd.Goals as goal

pub count-requires-2 : goal.count-requires-2
count-requires-2 g c =
    let all : length c.classify.new.classes ≡ c.args.self.count = omega (arith, c.classify.auto.classes) in
    others_counting _ _ _ _ _ _ all c.classify.ensures c.split_at.ensures.back c.requires.room c.args.self.few

pub returns : goal.returns
returns g c =
    let all : length c.classify.new.classes ≡ c.args.self.count = omega (arith, c.classify.auto.classes) in
    counts_odd _ _ _ _ _ _ _ _ _ _ c.requires.m_bound all c.classify.ensures c.split_at.ensures.front c.split_at.ensures.back c.count.ensures c.count-2.ensures c.least.ensures
