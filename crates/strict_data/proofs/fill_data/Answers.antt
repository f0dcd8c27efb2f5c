use Rattle.std.proofs.Common.{rules, ◌^◌, ◌≡◌, sym, ap, subst, ◌∙◌, ◌+◌, ◌<◌, set, length, ℕ, List, true, arith}
use Rattle.record.specs.Params.{row_of, rows}
use Rattle.record.specs.declared.Param.{Param}
use Rattle.record.proofs.Params.{rows_length, rows_set}
use Rattle.strict_data.specs.declared.Step.{Step}
use Rattle.strict_data.proofs.Filling.{Walk, Stepped, data_fits, walk_start, walk_stepping, walk_step, walk_elements, walk_params}
use Rattle.strict_data.proofs.fill_data.Goals as goal

-- the table after a parameter that is stored
module _ (line : List ℕ) (from end : ℕ) (e₀ p₀ : List (List ℕ)) (p : List Param) (i m : ℕ) (s : Step) (e' : List (List ℕ)) (d : Stepped line from end e₀ p₀ (rows p) i m s e') (h : s.holds ≡ true) where
  in_room : m < length p
  in_room = omega (arith, rows_length p, d.room h)

  in_table : (x : Param) (q : List Param) → x ≡ s.row → q ≡ set p m x → Walk line from end e₀ p₀ e' (rows q) s.next s.opened (m + 1)
  in_table x q ex eq =
      subst (λ (y : List (List ℕ)). Walk line from end e₀ p₀ e' y s.next s.opened (m + 1))
      (ap (λ (y : Param). set (rows p) m (row_of y)) (sym ex) ∙ sym (rows_set p m x) ∙ ap rows (sym eq)) (d.stored h)

pub overflow_add-end : goal.overflow_add-end
overflow_add-end c = data_fits c.args.line.now c.args.at c.args.len _ _ c.requires (search rules) c.ranges.at

pub loop-i-init : goal.loop-i-init
loop-i-init c = walk_start _ _ _ _ _ c.requires

pub take_step-s-requires : goal.take_step-s-requires
take_step-s-requires c = walk_stepping _ _ _ _ _ _ _ _ _ _ c.loop-i.invariant c.loop-i-test.true

pub store-requires : goal.store-requires
store-requires c =
    let d = walk_step _ _ _ _ _ _ _ _ _ _ c.loop-i.invariant c.loop-i-test.true _ _ c.take_step-s.ensures.value c.take_step-s.ensures.elements_after in
    in_room _ _ _ _ _ _ _ _ _ _ d c.if-s.true

pub overflow_add-p : goal.overflow_add-p
overflow_add-p c =
    let d = walk_step _ _ _ _ _ _ _ _ _ _ c.loop-i.invariant c.loop-i-test.true _ _ c.take_step-s.ensures.value c.take_step-s.ensures.elements_after in
    let r = in_room _ _ _ _ _ _ _ _ _ _ d c.if-s.true in
    let z : length c.args.params.now < 2 ^ 64 = search rules in
    record { fits = omega (arith, c.loop-i.auto.params) }

pub loop-i-smaller-then-s : goal.loop-i-smaller-then-s
loop-i-smaller-then-s c =
    let d = walk_step _ _ _ _ _ _ _ _ _ _ c.loop-i.invariant c.loop-i-test.true _ _ c.take_step-s.ensures.value c.take_step-s.ensures.elements_after in
    omega (arith, d.further)

pub loop-i-preserved-then-s : goal.loop-i-preserved-then-s
loop-i-preserved-then-s c =
    let d = walk_step _ _ _ _ _ _ _ _ _ _ c.loop-i.invariant c.loop-i-test.true _ _ c.take_step-s.ensures.value c.take_step-s.ensures.elements_after in
    in_table _ _ _ _ _ _ _ _ _ _ d c.if-s.true _ _ c.row_of-row.ensures c.store.ensures

pub loop-i-smaller : goal.loop-i-smaller
loop-i-smaller c =
    let d = walk_step _ _ _ _ _ _ _ _ _ _ c.loop-i.invariant c.loop-i-test.true _ _ c.take_step-s.ensures.value c.take_step-s.ensures.elements_after in
    omega (arith, d.further)

pub loop-i-preserved : goal.loop-i-preserved
loop-i-preserved c =
    let d = walk_step _ _ _ _ _ _ _ _ _ _ c.loop-i.invariant c.loop-i-test.true _ _ c.take_step-s.ensures.value c.take_step-s.ensures.elements_after in
    d.kept c.if-s.false

pub returns-clause-elements_after : goal.returns-clause-elements_after
returns-clause-elements_after c = walk_elements _ _ _ _ _ _ _ _ _ _ c.loop-i.invariant c.loop-i-test.false

pub returns-clause-params_after : goal.returns-clause-params_after
returns-clause-params_after c = walk_params _ _ _ _ _ _ _ _ _ _ c.loop-i.invariant c.loop-i-test.false
