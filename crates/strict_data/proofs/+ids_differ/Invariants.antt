use Rattle.strict_data.proofs.+ids_differ.Given as goal

abbrev pub decreases-ids_differ : goal.decreases-ids_differ
decreases-ids_differ l = l.count
