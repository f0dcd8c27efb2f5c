use Rattle.std.proofs.Common.{◌≡◌, ◌+◌, get_or, arith}
use Rattle.pairs.proofs.Walks.{walk_free, walk_taken, walk_falls, walk_on}
use Rattle.pairs.proofs.Texts.find.Goals as goal

pub loop-j-smaller : goal.loop-j-smaller
loop-j-smaller c =
    let at : get_or c.args.kids.now c.loop-j.slot 0 ≡ c.in-Some.j + 1 = omega (arith, c.in-Some.ensures) in
    walk_falls _ _ _ _ _ c.requires _ c.loop-j.invariant _ at _ c.in-Some-meet.ensures

pub loop-j-preserved : goal.loop-j-preserved
loop-j-preserved c =
    let at : get_or c.args.kids.now c.loop-j.slot 0 ≡ c.in-Some.j + 1 = omega (arith, c.in-Some.ensures) in
    walk_on _ _ _ _ _ c.requires _ c.loop-j.invariant _ at _ c.in-Some-meet.ensures

pub returns-in-None : goal.returns-in-None
returns-in-None c =
    let at : get_or c.args.kids.now c.loop-j.slot 0 ≡ c.in-Some.j + 1 = omega (arith, c.in-Some.ensures) in
    walk_taken _ _ _ _ _ c.requires _ c.loop-j.invariant _ at c.in-None.ensures

pub returns : goal.returns
returns c = walk_free _ _ _ _ _ c.requires _ c.loop-j.invariant (omega (arith, c.in_default.ensures))
