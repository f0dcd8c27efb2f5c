use Rattle.std.proofs.Common.{rules}
use Rattle.claim_data.proofs.Notes.{made_spacious, ids_most}
use Rattle.claim_data.proofs.most_differ.Goals as goal

pub tree_noted-requires : goal.tree_noted-requires
tree_noted-requires c = search (made_spacious, ids_most, rules)
