use Rattle.std.proofs.Common.{rules, ◌∙◌}
use Rattle.checker.proofs.Walking.{facts, first_off, walk_starts, turning, turn_off, turn_on, open_in, walk_ends}
use Rattle.checker.proofs.walk.Goals as goal

pub slice_bounds-ids-end : goal.slice_bounds-ids-end
slice_bounds-ids-end c = let k = (facts c.args.line.now c.args.r c.args.element_count c.args.param_count c.args.elements.now c.args.params.now c.requires).elements_count in search rules

pub header-requires-clause-common_value : goal.header-requires-clause-common_value
header-requires-clause-common_value c = (facts c.args.line.now c.args.r c.args.element_count c.args.param_count c.args.elements.now c.args.params.now c.requires).fields_suit

pub header-requires-clause-timestamp_text_in_bounds : goal.header-requires-clause-timestamp_text_in_bounds
header-requires-clause-timestamp_text_in_bounds c = (facts c.args.line.now c.args.r c.args.element_count c.args.param_count c.args.elements.now c.args.params.now c.requires).text_in

pub first-requires-clause-ids_value : goal.first-requires-clause-ids_value
first-requires-clause-ids_value c = (facts c.args.line.now c.args.r c.args.element_count c.args.param_count c.args.elements.now c.args.params.now c.requires).ids_suit

pub returns-in_err-at : goal.returns-in_err-at
returns-in_err-at c = c.from_residual-in_err-at.ensures ∙ first_off c.args.line.now c.args.r c.args.element_count c.args.param_count c.args.elements.now c.args.params.now c.requires _ c.header.ensures _ c.in_ok-start.was _ c.first.ensures c.in_err-at.was

pub slice_bounds-p-items-end : goal.slice_bounds-p-items-end
slice_bounds-p-items-end c = let k = (facts c.args.line.now c.args.r c.args.element_count c.args.param_count c.args.elements.now c.args.params.now c.requires).params_count in search rules

pub loop-p-init : goal.loop-p-init
loop-p-init c = walk_starts c.args.line.now c.args.r c.args.element_count c.args.param_count c.args.elements.now c.args.params.now c.requires _ c.header.ensures _ c.in_ok-start.was _ c.first.ensures _ c.in_ok-at.was

pub turn-requires-clause-ids_value : goal.turn-requires-clause-ids_value
turn-requires-clause-ids_value c = (facts c.args.line.now c.args.r c.args.element_count c.args.param_count c.args.elements.now c.args.params.now c.requires).ids_suit

pub turn-requires-clause-element_in_bounds : goal.turn-requires-clause-element_in_bounds
turn-requires-clause-element_in_bounds c = (turning c.args.line.now c.args.r c.args.element_count c.args.param_count c.args.elements.now c.args.params.now c.requires c.loop-p.p-index c.loop-p.open c.loop-p.at c.loop-p.invariant c.loop-p-test.true).element_in

pub turn-requires-clause-k_le_element : goal.turn-requires-clause-k_le_element
turn-requires-clause-k_le_element c = (turning c.args.line.now c.args.r c.args.element_count c.args.param_count c.args.elements.now c.args.params.now c.requires c.loop-p.p-index c.loop-p.open c.loop-p.at c.loop-p.invariant c.loop-p-test.true).risen

pub turn-requires-clause-name_len_in_bounds : goal.turn-requires-clause-name_len_in_bounds
turn-requires-clause-name_len_in_bounds c = (turning c.args.line.now c.args.r c.args.element_count c.args.param_count c.args.elements.now c.args.params.now c.requires c.loop-p.p-index c.loop-p.open c.loop-p.at c.loop-p.invariant c.loop-p-test.true).name_in

pub turn-requires-clause-value_len_in_bounds : goal.turn-requires-clause-value_len_in_bounds
turn-requires-clause-value_len_in_bounds c = (turning c.args.line.now c.args.r c.args.element_count c.args.param_count c.args.elements.now c.args.params.now c.requires c.loop-p.p-index c.loop-p.open c.loop-p.at c.loop-p.invariant c.loop-p-test.true).value_in

pub returns-in_err-at-2 : goal.returns-in_err-at-2
returns-in_err-at-2 c = c.from_residual-in_err-at-2.ensures ∙ turn_off c.args.line.now c.args.r c.args.element_count c.args.param_count c.args.elements.now c.args.params.now c.requires c.loop-p.p-index c.loop-p.open c.loop-p.at c.loop-p.invariant c.loop-p-test.true _ c.turn.ensures c.in_err-at-2.was

pub loop-p-preserved : goal.loop-p-preserved
loop-p-preserved c = turn_on c.args.line.now c.args.r c.args.element_count c.args.param_count c.args.elements.now c.args.params.now c.requires c.loop-p.p-index c.loop-p.open c.loop-p.at c.loop-p.invariant c.loop-p-test.true _ c.turn.ensures _ c.in_ok-at-2.was

pub last-requires-clause-ids_value : goal.last-requires-clause-ids_value
last-requires-clause-ids_value c = (facts c.args.line.now c.args.r c.args.element_count c.args.param_count c.args.elements.now c.args.params.now c.requires).ids_suit

pub last-requires-clause-k_in_bounds : goal.last-requires-clause-k_in_bounds
last-requires-clause-k_in_bounds c = open_in c.args.line.now c.args.r c.args.element_count c.args.param_count c.args.elements.now c.args.params.now c.requires c.loop-p.p-index c.loop-p.open c.loop-p.at c.loop-p.invariant c.loop-p-test.false

pub returns : goal.returns
returns c = c.last.ensures ∙ walk_ends c.args.line.now c.args.r c.args.element_count c.args.param_count c.args.elements.now c.args.params.now c.requires c.loop-p.p-index c.loop-p.open c.loop-p.at c.loop-p.invariant c.loop-p-test.false
