use Rattle.std.proofs.Common.{rules}
use Rattle.output.specs.Fits.{Fits}
use Rattle.lookup.specs.Unescape.{unescaped}
use Rattle.lookup.proofs.Answers.{value_laws}
use Rattle.lookup.proofs.put_value.Goals as goal
use Rattle.lookup.proofs.put_value.Goals.{else-out-v-via-then-out-v+else-out-unescaped_len, else-out-v-via-else-out-v}

pub put_unescaped-requires : goal.put_unescaped-requires
put_unescaped-requires c = elim c.else-out-v.branch [ else-out-v-via-then-out-v+else-out-unescaped_len w ↦ search (value_laws, rules) | else-out-v-via-else-out-v w ↦ search (value_laws, rules) ]

pub returns : goal.returns
returns c =
    let f : Fits c.args.out.now 0 (unescaped c.args.loose c.args.v.now) =
    elim c.else-out-v.branch [ else-out-v-via-then-out-v+else-out-unescaped_len w ↦ search (value_laws, rules) | else-out-v-via-else-out-v w ↦ search (value_laws, rules) ] in
    search (value_laws, rules)
