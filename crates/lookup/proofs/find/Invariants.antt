use Rattle.std.proofs.Common.{◌≡◌, drop, take}
use Rattle.record.specs.Params.{rows}
use Rattle.lookup.specs.Lookup.{found}
use Rattle.lookup.proofs.Finding.{Known}
use Rattle.lookup.proofs.find.Given as goal

-- the entries passed do not match
abbrev pub invariant-loop-p : goal.invariant-loop-p
invariant-loop-p l = record {
  passed : found l.line l.elements l.id l.name (take l.param_count (rows l.params)) ≡ found l.line l.elements l.id l.name (drop l.p-index (take l.param_count (rows l.params)));
  known : Known l.line l.elements l.id l.element_count l.last l.same;
}
