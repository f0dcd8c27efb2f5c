use Rattle.std.proofs.Common.{rules}
use Rattle.loose.proofs.Variants.{variant_laws}
use Rattle.loose.proofs.by_variant.Goals as goal

pub returns-then-variant-eq1 : goal.returns-then-variant-eq1
returns-then-variant-eq1 c = search (variant_laws, rules)

pub returns-in_default : goal.returns-in_default
returns-in_default c = search (variant_laws, rules)

pub returns-then-variant-eq0 : goal.returns-then-variant-eq0
returns-then-variant-eq0 c = search (variant_laws, rules)

pub returns : goal.returns
returns c = search (variant_laws, rules)
