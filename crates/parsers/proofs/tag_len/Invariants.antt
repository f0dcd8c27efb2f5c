use Rattle.parsers.proofs.Texts.{TagAt}
use Rattle.parsers.proofs.tag_len.Given as goal

abbrev pub invariant-loop-i : goal.invariant-loop-i
invariant-loop-i l = TagAt l.s l.i
