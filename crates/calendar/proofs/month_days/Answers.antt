use Rattle.calendar.proofs.Dates.{month_at}
use Rattle.calendar.proofs.month_days.Goals as goal

pub returns : goal.returns
returns c = search month_at
