use Rattle.std.proofs.Common.{◌+◌, ◌≡◌, [], get_or, drop}
use Rattle.base.specs.Texts.{is_in}
use Rattle.ids.specs.Ids.{id_in, ids_in}
use Rattle.ids.proofs.is_behind.Given as goal

abbrev pub invariant-loop-j : goal.invariant-loop-j
invariant-loop-j l = is_in (id_in l.text (get_or l.rows l.k [])) (ids_in l.text (drop (l.k + 1) l.rows)) ≡ is_in (id_in l.text (get_or l.rows l.k [])) (ids_in l.text (drop l.j l.rows))
