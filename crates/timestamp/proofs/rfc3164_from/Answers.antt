use Rattle.std.proofs.Common.{rules}
use Rattle.timestamp.proofs.Forms.{forms}
use Rattle.timestamp.proofs.rfc3164_from.Goals as goal

pub returns : goal.returns
returns c =
    forms c.args.year c.args.offset c.ranges.offset c.args.s.now c.args.at c.without_year.result c.without_year.ensures c.or_else.result (search rules) c.or_else-2.result (search rules)
