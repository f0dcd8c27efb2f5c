use Rattle.std.proofs.Common.{◌≡◌, ◌∙◌, get_or, take, sym, arith, length-take, rules}
use Rattle.base.specs.Texts.{same_text}
use Rattle.record.specs.Params.{blank}
use Rattle.lookup.specs.Lookup.{id_text}
use Rattle.lookup.proofs.Finding.{counted_in, entry, find_other, find_on, find_hit, find_none, known_now, known_same}
use Rattle.lookup.proofs.find.Goals as goal
use Rattle.lookup.proofs.find.Goals.{then-p-last, else-p-last, else-same-via-then-same+else-text_is, else-same-via-else-same}

pub slice_bounds-p-items-end : goal.slice_bounds-p-items-end
slice_bounds-p-items-end c = let k = counted_in _ _ _ _ _ c.requires in search rules

pub offset_bounds-elements-p : goal.offset_bounds-elements-p
offset_bounds-elements-p c = let k = entry c.args.line.now c.args.element_count c.args.param_count c.args.elements.now c.args.params.now c.requires c.loop-p.p-index c.loop-p-test.true in search rules

pub bounds-elements-p : goal.bounds-elements-p
bounds-elements-p c = (entry c.args.line.now c.args.element_count c.args.param_count c.args.elements.now c.args.params.now c.requires c.loop-p.p-index c.loop-p-test.true).number_in

pub text_is-same-requires : goal.text_is-same-requires
text_is-same-requires c = (entry c.args.line.now c.args.element_count c.args.param_count c.args.elements.now c.args.params.now c.requires c.loop-p.p-index c.loop-p-test.true).id_in

pub text_is-requires : goal.text_is-requires
text_is-requires c = (entry c.args.line.now c.args.element_count c.args.param_count c.args.elements.now c.args.params.now c.requires c.loop-p.p-index c.loop-p-test.true).name_in

pub text_at-requires : goal.text_at-requires
text_at-requires c = (entry c.args.line.now c.args.element_count c.args.param_count c.args.elements.now c.args.params.now c.requires c.loop-p.p-index c.loop-p-test.true).value_in

pub returns-then-text_is : goal.returns-then-text_is
returns-then-text_is c =
    let k = entry c.args.line.now c.args.element_count c.args.param_count c.args.elements.now c.args.params.now c.requires c.loop-p.p-index c.loop-p-test.true in
    let z : c.if-p-last.same ≡ same_text (id_text c.args.line.now c.args.elements.now (get_or (take c.args.param_count c.args.params.now) c.loop-p.p-index blank).element) c.args.id.now =
    elim c.if-p-last.branch [
      | then-p-last w ↦ w.same-is ∙ w.text_is-same.ensures
      | else-p-last w ↦ w.same-is ∙ known_same _ _ _ c.loop-p.invariant.known k.number_below w.if-p-last.false
    ] in
    find_hit c.args.line.now c.args.element_count c.args.param_count c.args.elements.now c.args.params.now c.requires c.loop-p.p-index c.loop-p-test.true c.args.id.now c.args.name.now c.loop-p.invariant.passed _ z _ c.text_is.ensures c.if-same.true c.if-text_is.true _ c.text_at.ensures

pub loop-p-preserved : goal.loop-p-preserved
loop-p-preserved c =
    let k = entry c.args.line.now c.args.element_count c.args.param_count c.args.elements.now c.args.params.now c.requires c.loop-p.p-index c.loop-p-test.true in
    let z : c.if-p-last.same ≡ same_text (id_text c.args.line.now c.args.elements.now (get_or (take c.args.param_count c.args.params.now) c.loop-p.p-index blank).element) c.args.id.now =
    elim c.if-p-last.branch [
      | then-p-last w ↦ w.same-is ∙ w.text_is-same.ensures
      | else-p-last w ↦ w.same-is ∙ known_same _ _ _ c.loop-p.invariant.known k.number_below w.if-p-last.false
    ] in
    let l : c.if-p-last.last ≡ (get_or (take c.args.param_count c.args.params.now) c.loop-p.p-index blank).element = elim c.if-p-last.branch [ then-p-last w ↦ w.last-is | else-p-last w ↦ w.last-is ∙ sym w.if-p-last.false ] in
    record {
      passed =
          elim c.else-same.branch [
            | else-same-via-then-same+else-text_is w ↦
                find_on c.args.line.now c.args.element_count c.args.param_count c.args.elements.now c.args.params.now c.requires c.loop-p.p-index c.loop-p-test.true c.args.id.now c.args.name.now c.loop-p.invariant.passed _ z _ w.text_is.ensures w.if-same.true w.if-text_is.false
            | else-same-via-else-same w ↦
                find_other c.args.line.now c.args.element_count c.args.param_count c.args.elements.now c.args.params.now c.requires c.loop-p.p-index c.loop-p-test.true c.args.id.now c.args.name.now c.loop-p.invariant.passed _ z w.if-same.false
          ];
      known = rw l (known_now _ _ _ _ (get_or (take c.args.param_count c.args.params.now) c.loop-p.p-index blank).element _ z);
    }

pub returns : goal.returns
returns c = find_none c.args.line.now c.args.element_count c.args.param_count c.args.elements.now c.args.params.now c.requires c.args.id.now c.args.name.now c.loop-p.p-index c.loop-p.invariant.passed (omega (arith, counted_in c.args.line.now c.args.element_count c.args.param_count c.args.elements.now c.args.params.now c.requires, length-take c.args.param_count c.args.params.now))
