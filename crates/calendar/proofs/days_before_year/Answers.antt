use Rattle.std.proofs.Common.{refl}
use Rattle.calendar.proofs.Years.{years_closed}
use Rattle.calendar.proofs.days_before_year.Goals as goal

pub returns : goal.returns
returns c = years_closed _ _ refl
