use Rattle.std.proofs.Common.{rules, refl}
use Rattle.ids.proofs.Many.{meet_start, meet_inside, meet_half, meet_room, meet_end, meet_limit, meet_on, meet_less, meet_all, meet_not}
use Rattle.ids.proofs.meet.Goals as goal

pub loop-first-init : goal.loop-first-init
loop-first-init c = (search (meet_start, rules), refl)

pub gather-both-requires-clause-from_in_bounds : goal.gather-both-requires-clause-from_in_bounds
gather-both-requires-clause-from_in_bounds c = search (meet_inside, rules)

pub gather-both-requires-clause-at_le_most : goal.gather-both-requires-clause-at_le_most
gather-both-requires-clause-at_le_most c = search (meet_half, rules)

pub gather-both-requires-clause-most_in_bounds : goal.gather-both-requires-clause-most_in_bounds
gather-both-requires-clause-most_in_bounds c = search (meet_room, rules)

pub bare_differ-requires-clause-end_in_bounds : goal.bare_differ-requires-clause-end_in_bounds
bare_differ-requires-clause-end_in_bounds c = search (meet_end, rules)

pub bare_differ-requires-clause-end_le_line_limit : goal.bare_differ-requires-clause-end_le_line_limit
bare_differ-requires-clause-end_le_line_limit c = search (meet_limit, rules)

pub returns-then-not-bare_differ : goal.returns-then-not-bare_differ
returns-then-not-bare_differ c = let g = c.gather-both in
    let d = c.bare_differ in
    let first = c.gather-first.result in
    meet_not c.args.text.now c.args.rows.now c.args.a c.loop-first.line c.requires.rows_value_2 first.next first.end c.loop-first.b (search rules) g.result g.new.out g.ensures d.result d.ensures (search rules)

pub returns-then-rows-b : goal.returns-then-rows-b
returns-then-rows-b c = let g = c.gather-both in
    let d = c.bare_differ in
    let first = c.gather-first.result in
    meet_all c.args.text.now c.args.rows.now c.args.a c.loop-first.line c.requires.rows_value_2 first.next first.end c.loop-first.b (search rules) g.result g.new.out g.ensures d.result d.ensures (search rules) (search rules)

pub loop-first-smaller : goal.loop-first-smaller
loop-first-smaller c = search (meet_less, rules)

pub loop-first-preserved : goal.loop-first-preserved
loop-first-preserved c = (search (meet_on, rules), search rules)
