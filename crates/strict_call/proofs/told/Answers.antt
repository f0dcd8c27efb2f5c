use Rattle.exports.proofs.Calls.{told_broke, told_other}
use Rattle.strict_call.proofs.told.Goals as goal
use Rattle.strict_call.proofs.told.Goals.{in-NoReading, in_default}

pub returns : goal.returns
returns c =
    elim c.match-refusal.branch [
      | in-NoReading w ↦ rw w.reach-is (told_broke c.args.line.now c.args.refusal _ c.from.ensures _ w.reach-reach.ensures)
      | in_default w ↦ rw w.reach-is (told_other c.args.line.now c.args.refusal _ c.from.ensures w.in_default.not-NoReading)
    ]
