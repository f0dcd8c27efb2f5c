use Rattle.std.proofs.Common.{rules}
use Rattle.claim_data.proofs.Notes.{made_notable}
use Rattle.claim_data.proofs.few_differ.Goals as goal

pub few_noted-requires : goal.few_noted-requires
few_noted-requires c = search (made_notable, rules)
