use Rattle.std.proofs.Common.{arith, refl, sym, ap, ◌∙◌}
use Rattle.structured_data.specs.Param.{param_at}
use Rattle.keyed.proofs.Notes.{param_within, value_within, param_inside, param_room}
use Rattle.keyed.proofs.Texts.note_one.Goals as goal

pub overflow_add-row : goal.overflow_add-row
overflow_add-row c = record { fits = omega (arith, value_within _ c.args.e _ c.requires.start_in_bounds _ (sym (c.in_ok-p.ensures ∙ ap param_at c.past.ensures))) }

pub note-requires-clause-inside : goal.note-requires-clause-inside
note-requires-clause-inside c = param_inside _ _ _ c.requires.start_in_bounds _ (sym (c.in_ok-p.ensures ∙ ap param_at c.past.ensures))

pub note-requires-clause-roomed : goal.note-requires-clause-roomed
note-requires-clause-roomed c = param_room _ _ _ c.requires.start_in_bounds _ (sym (c.in_ok-p.ensures ∙ ap param_at c.past.ensures)) _ c.requires.roomed

pub overflow_add-result : goal.overflow_add-result
overflow_add-result c = record { fits = omega (arith, param_within _ c.args.e _ c.requires.start_in_bounds _ (sym (c.in_ok-p.ensures ∙ ap param_at c.past.ensures))) }

pub returns : goal.returns
returns c = record { param = c.in_ok-p.p; is = sym (c.in_ok-p.ensures ∙ ap param_at c.past.ensures); behind = refl; notes = c.note.ensures }
