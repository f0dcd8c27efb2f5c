use Rattle.std.proofs.Common.{length}
use Rattle.claim_data.proofs.+ids_differ.Given as goal

abbrev pub decreases-ids_differ : goal.decreases-ids_differ
decreases-ids_differ l = length l.ids.now
