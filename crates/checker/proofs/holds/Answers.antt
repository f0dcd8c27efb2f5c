use Rattle.std.proofs.Common.{rules, sym, ◌∙◌}
use Rattle.checker.proofs.Walking.{facts, ends_off, ids_found, ends_on}
use Rattle.checker.proofs.holds.Goals as goal

pub returns-in_default : goal.returns-in_default
returns-in_default c = ends_off c.args.line.now c.args.r c.args.element_count c.args.param_count c.args.elements.now c.args.params.now c.requires _ c.walk.ensures c.in_default.is

pub slice_bounds-ids_differ-end : goal.slice_bounds-ids_differ-end
slice_bounds-ids_differ-end c = let k = (facts c.args.line.now c.args.r c.args.element_count c.args.param_count c.args.elements.now c.args.params.now c.requires).elements_count in search rules

pub ids_differ-requires : goal.ids_differ-requires
ids_differ-requires c = ids_found c.args.line.now c.args.r c.args.element_count c.args.param_count c.args.elements.now c.args.params.now c.requires _ c.walk.ensures _ c.in-Some.is

pub message_holds-requires-clause-len_in_bounds : goal.message_holds-requires-clause-len_in_bounds
message_holds-requires-clause-len_in_bounds c = (facts c.args.line.now c.args.r c.args.element_count c.args.param_count c.args.elements.now c.args.params.now c.requires).message_in

pub returns-then-ids_differ : goal.returns-then-ids_differ
returns-then-ids_differ c =
    let differ = sym c.ids_differ.ensures ∙ c.if-ids_differ.true in
    c.message_holds.ensures ∙ (rw differ at (ends_on c.args.line.now c.args.r c.args.element_count c.args.param_count c.args.elements.now c.args.params.now c.requires _ c.walk.ensures _ c.in-Some.is))

pub returns-else-ids_differ : goal.returns-else-ids_differ
returns-else-ids_differ c =
    let differ = sym c.ids_differ.ensures ∙ c.if-ids_differ.false in
    c.if-ids_differ.false ∙ (rw differ at (ends_on c.args.line.now c.args.r c.args.element_count c.args.param_count c.args.elements.now c.args.params.now c.requires _ c.walk.ensures _ c.in-Some.is))
