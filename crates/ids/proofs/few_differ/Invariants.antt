use Rattle.std.proofs.Common.{◌≡◌, drop}
use Rattle.base.specs.Texts.{all_different}
use Rattle.ids.specs.Ids.{ids_in}
use Rattle.ids.proofs.few_differ.Given as goal

abbrev pub invariant-loop-k : goal.invariant-loop-k
invariant-loop-k l = all_different (ids_in l.text l.rows) ≡ all_different (ids_in l.text (drop l.k l.rows))
