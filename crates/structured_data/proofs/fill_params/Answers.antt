use Rattle.std.proofs.Common.{ℕ, ◌≡◌, ◌+◌, not, List, set, ap, ◌∙◌, arith, rules}
use Rattle.record.specs.Params.{row_of, rows}
use Rattle.record.specs.declared.Param.{Param}
use Rattle.record.proofs.Params.{rows_length, rows_set}
use Rattle.structured_data.proofs.Entries.{storing_none, stored_all, stored_given_up, index_within, count_fits, stored_last, walk_less, storing_on}
use Rattle.structured_data.proofs.fill_params.Goals as goal

-- the table behind a store, as rows
rows_stored : (p q : List Param) (i : ℕ) (x y : Param) → q ≡ set p i x → x ≡ y → rows q ≡ set (rows p) i (row_of y)
rows_stored p q i x y e f = ap rows e ∙ rows_set p i x ∙ ap (λ (z : Param). set (rows p) i (row_of z)) f

pub loop-start-init : goal.loop-start-init
loop-start-init c = storing_none _ _ _ _ _ _ _ c.requires

pub entry_from-entry-requires : goal.entry_from-entry-requires
entry_from-entry-requires c = c.loop-start.invariant.walk.start_within

pub returns-then-behind-start : goal.returns-then-behind-start
returns-then-behind-start c =
    rw c.walk_to.ensures (stored_all _ _ _ _ _ _ _ c.requires _ _ _ _ c.loop-start.invariant _ c.entry_from-entry.ensures c.if-behind-start.true)

pub overflow_add-i : goal.overflow_add-i
overflow_add-i c = search rules

pub returns-then-i-end : goal.returns-then-i-end
returns-then-i-end c =
    rw c.walk_to-then-i-end.ensures
    (stored_given_up _ _ _ _ _ _ _ c.requires _ _ _ _ c.loop-start.invariant _ c.entry_from-entry.ensures c.if-behind-start.false c.if-i-end.true)

pub store-requires : goal.store-requires
store-requires c =
    omega (
      arith,
      rows_length c.loop-start.params,
      index_within _ _ _ _ _ _ _ c.requires _ _ _ _ c.loop-start.invariant _ c.entry_from-entry.ensures c.if-behind-start.false c.if-i-end.false,
    )

pub overflow_add-count : goal.overflow_add-count
overflow_add-count c = count_fits _ _ _ _ _ _ c.loop-start.invariant.walk _ c.entry_from-entry.ensures c.if-behind-start.false (search rules)

pub loop-start-smaller : goal.loop-start-smaller
loop-start-smaller c =
    walk_less _ _ _ _ _ _ c.loop-start.invariant.walk _ c.entry_from-entry.ensures c.if-behind-start.false _ c.is_at-more.ensures (ap not c.if-more.true)

pub loop-start-preserved : goal.loop-start-preserved
loop-start-preserved c =
    let stored = rows_stored c.loop-start.params c.store.new.table (c.args.first + c.loop-start.count) c.row_of-row.result c.entry_from-entry.result.row c.store.ensures c.row_of-row.ensures in
    rw stored
    (storing_on _ _ _ _ _ _ _ c.requires _ _ _ _ c.loop-start.invariant _ c.entry_from-entry.ensures c.if-behind-start.false c.if-i-end.false _ c.is_at-more.ensures (ap not c.if-more.true))

pub returns-else-more : goal.returns-else-more
returns-else-more c =
    let stored = rows_stored c.loop-start.params c.store.new.table (c.args.first + c.loop-start.count) c.row_of-row.result c.entry_from-entry.result.row c.store.ensures c.row_of-row.ensures in
    rw (c.walk_to-else-more.ensures, stored)
    (stored_last _ _ _ _ _ _ _ c.requires _ _ _ _ c.loop-start.invariant _ c.entry_from-entry.ensures c.if-behind-start.false c.if-i-end.false _ c.is_at-more.ensures (ap not c.if-more.false))
