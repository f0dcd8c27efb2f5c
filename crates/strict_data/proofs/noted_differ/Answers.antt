use Rattle.std.proofs.Common.{rules}
use Rattle.strict_data.proofs.Differing.{differ_laws, listed_tell}
use Rattle.strict_data.proofs.noted_differ.Goals as goal

pub first_repeat-requires : goal.first_repeat-requires
first_repeat-requires c = search (differ_laws, rules)

pub returns : goal.returns
returns c = listed_tell _ _ c.requires.among _ _ _ _ c.requires.spacious _ _ c.elements.ensures.listed _ c.first_repeat.ensures
