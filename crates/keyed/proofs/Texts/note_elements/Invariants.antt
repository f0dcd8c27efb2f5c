use Rattle.keyed.proofs.Elements.{Walking}
use Rattle.keyed.proofs.Texts.note_elements.Given as goal

abbrev pub invariant-loop-i : goal.invariant-loop-i
invariant-loop-i l = Walking l.line.text.now l.line.ids.now l.initial.self l.self l.i
