use Rattle.std.proofs.Common.{refl, rules}
use Rattle.record.specs.Params.{rows}
use Rattle.site.specs.Site.ReadsWith.{unset}
use Rattle.site.proofs.Calls.{reads_set}
use Rattle.site.proofs.read.Goals as goal

pub returns-in_err-s : goal.returns-in_err-s
returns-in_err-s c = unset c.in_err-s.field-0.0 c.in_err-s.ensures (search rules) refl refl

pub returns : goal.returns
returns c =
    reads_set c.args.file.now c.args.gate c.args.line.now c.args.elements.now (rows c.args.params.now) c.in_ok-s.s c.in_ok-s.ensures (search rules)
    c.read-x.result c.read-x.new.elements (rows c.read-x.new.params) c.read-x.ensures c.with_default.result c.with_default.ensures
