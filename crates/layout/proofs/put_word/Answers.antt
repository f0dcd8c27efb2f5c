use Rattle.std.proofs.Common.{arith, length-set}
use Rattle.layout.proofs.Words.{word_room, word_wrote}
use Rattle.layout.proofs.put_word.Goals as goal

pub bounds-out-at : goal.bounds-out-at
bounds-out-at c = omega (arith, word_room _ _ _ c.requires)

pub bounds-out-at-2 : goal.bounds-out-at-2
bounds-out-at-2 c = simp length-set (omega (arith, word_room _ _ _ c.requires))

pub bounds-out-at-3 : goal.bounds-out-at-3
bounds-out-at-3 c = simp length-set (omega (arith, word_room _ _ _ c.requires))

pub bounds-out-at-4 : goal.bounds-out-at-4
bounds-out-at-4 c = simp length-set (omega (arith, word_room _ _ _ c.requires))

pub bounds-out-at-5 : goal.bounds-out-at-5
bounds-out-at-5 c = simp length-set (omega (arith, word_room _ _ _ c.requires))

pub bounds-out-at-6 : goal.bounds-out-at-6
bounds-out-at-6 c = simp length-set (omega (arith, word_room _ _ _ c.requires))

pub bounds-out-at-7 : goal.bounds-out-at-7
bounds-out-at-7 c = simp length-set (omega (arith, word_room _ _ _ c.requires))

pub bounds-out-at-8 : goal.bounds-out-at-8
bounds-out-at-8 c = simp length-set (omega (arith, word_room _ _ _ c.requires))

pub returns : goal.returns
returns c = word_wrote _ _ _ c.requires
