use Rattle.pairs.specs.Keys.{key_of}
use Rattle.pairs.proofs.Trees.{Sorted}
use Rattle.pairs.proofs.Texts.classify.Given as goal

abbrev pub invariant-loop-i : goal.invariant-loop-i
invariant-loop-i l = Sorted (key_of l.self.text.now l.self.ends.now) l.self.count l.depths l.kids l.classes l.i
