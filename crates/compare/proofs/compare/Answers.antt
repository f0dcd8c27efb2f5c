use Rattle.std.proofs.Common.{ap, refl, ◌∙◌}
use Rattle.record.specs.Params.{rows}
use Rattle.record.proofs.Params.{rows_length}
use Rattle.compare.specs.Steps.{refusal_of}
use Rattle.compare.proofs.Answers.{first_out, first_refused, second_out, second_refused, both_read}
use Rattle.compare.proofs.Lines.{judged_fillable, compared_refused, line_readable₁, line_readable₂, compared_done}
use Rattle.compare.proofs.compare.Goals as goal

pub returns-in-Some : goal.returns-in-Some
returns-in-Some c =
    let q = c.in-Some.ensures ∙ ap refusal_of c.reading_of.ensures in
    compared_refused c.args.line1.now c.args.line2.now c.args.variant c.args.year c.args.offset c.ranges.offset c.args.elements1.now (rows c.args.params1.now) c.args.elements2.now (rows c.args.params2.now) c.judge-first.result c.judge-second.result
    (rw (rows_length c.args.params1.now) c.judge-first.ensures) (rw (rows_length c.args.params2.now) c.judge-second.ensures)
    (first_out _ _ _ q) _ (first_refused _ _ _ q)

pub returns-in-Some-refusal_of : goal.returns-in-Some-refusal_of
returns-in-Some-refusal_of c =
    let p = c.in_default.ensures ∙ ap refusal_of c.reading_of.ensures in
    let q = c.in-Some-refusal_of.ensures ∙ ap refusal_of c.reading_of-2.ensures in
    compared_refused c.args.line1.now c.args.line2.now c.args.variant c.args.year c.args.offset c.ranges.offset c.args.elements1.now (rows c.args.params1.now) c.args.elements2.now (rows c.args.params2.now) c.judge-first.result c.judge-second.result
    (rw (rows_length c.args.params1.now) c.judge-first.ensures) (rw (rows_length c.args.params2.now) c.judge-second.ensures)
    (second_out _ _ p _ q) _ (second_refused _ _ p _ q)

pub fill-requires : goal.fill-requires
fill-requires c =
    judged_fillable c.args.line1.now c.args.variant c.args.year c.args.offset c.ranges.offset c.args.elements1.now (rows c.args.params1.now) _
    (rw (rows_length c.args.params1.now) c.judge-first.ensures)

pub fill-requires-2 : goal.fill-requires-2
fill-requires-2 c =
    judged_fillable c.args.line2.now c.args.variant c.args.year c.args.offset c.ranges.offset c.args.elements2.now (rows c.args.params2.now) _
    (rw (rows_length c.args.params2.now) c.judge-second.ensures)

pub differ_in-requires-clause-readable : goal.differ_in-requires-clause-readable
differ_in-requires-clause-readable c =
    let p = c.in_default.ensures ∙ ap refusal_of c.reading_of.ensures in
    let q = c.in_default-refusal_of.ensures ∙ ap refusal_of c.reading_of-2.ensures in
    line_readable₁ c.args.line1.now c.args.line2.now c.args.variant c.args.year c.args.offset c.ranges.offset c.args.elements1.now (rows c.args.params1.now) c.args.elements2.now (rows c.args.params2.now) c.judge-first.result c.judge-second.result
    (rw (rows_length c.args.params1.now) c.judge-first.ensures) (rw (rows_length c.args.params2.now) c.judge-second.ensures)
    (both_read _ _ p q) _ _ _ _ c.fill.ensures c.fill-2.ensures _ _ c.line_of-a.ensures c.line_of-b.ensures

pub differ_in-requires-clause-readable_2 : goal.differ_in-requires-clause-readable_2
differ_in-requires-clause-readable_2 c =
    let p = c.in_default.ensures ∙ ap refusal_of c.reading_of.ensures in
    let q = c.in_default-refusal_of.ensures ∙ ap refusal_of c.reading_of-2.ensures in
    line_readable₂ c.args.line1.now c.args.line2.now c.args.variant c.args.year c.args.offset c.ranges.offset c.args.elements1.now (rows c.args.params1.now) c.args.elements2.now (rows c.args.params2.now) c.judge-first.result c.judge-second.result
    (rw (rows_length c.args.params1.now) c.judge-first.ensures) (rw (rows_length c.args.params2.now) c.judge-second.ensures)
    (both_read _ _ p q) _ _ _ _ c.fill.ensures c.fill-2.ensures _ _ c.line_of-a.ensures c.line_of-b.ensures

pub returns : goal.returns
returns c =
    let p = c.in_default.ensures ∙ ap refusal_of c.reading_of.ensures in
    let q = c.in_default-refusal_of.ensures ∙ ap refusal_of c.reading_of-2.ensures in
    compared_done c.args.line1.now c.args.line2.now c.args.variant c.args.year c.args.offset c.ranges.offset c.args.elements1.now (rows c.args.params1.now) c.args.elements2.now (rows c.args.params2.now) c.judge-first.result c.judge-second.result
    (rw (rows_length c.args.params1.now) c.judge-first.ensures) (rw (rows_length c.args.params2.now) c.judge-second.ensures)
    (both_read _ _ p q) _ _ _ _ c.fill.ensures c.fill-2.ensures _ _ c.line_of-a.ensures c.line_of-b.ensures _ _ _ c.differ_in.ensures _ refl
