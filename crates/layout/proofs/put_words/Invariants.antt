use Rattle.std.proofs.Common.{drop}
use Rattle.layout.proofs.Words.{Putting}
use Rattle.layout.proofs.put_words.Given as goal

abbrev pub invariant-loop-word : goal.invariant-loop-word
invariant-loop-word g l = Putting l.initial.out l.at l.word-items l.out l.next (drop l.word-index l.word-items)
