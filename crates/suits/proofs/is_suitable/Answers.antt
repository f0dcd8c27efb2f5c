use Rattle.std.proofs.Common.{rules}
use Rattle.suits.proofs.Tests.{whole_laws}
use Rattle.suits.proofs.is_suitable.Goals as goal

pub returns-then-elements-element_count : goal.returns-then-elements-element_count
returns-then-elements-element_count c = search (whole_laws, rules)

pub returns-then-params-param_count : goal.returns-then-params-param_count
returns-then-params-param_count c = search (whole_laws, rules)

pub returns-then-not-record_suits : goal.returns-then-not-record_suits
returns-then-not-record_suits c = search (whole_laws, rules)

pub returns-then-elements_suit : goal.returns-then-elements_suit
returns-then-elements_suit c = search (whole_laws, rules)

pub returns-else-elements_suit : goal.returns-else-elements_suit
returns-else-elements_suit c = search (whole_laws, rules)
