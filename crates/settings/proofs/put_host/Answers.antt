use Rattle.std.proofs.Common.{rules}
use Rattle.output.proofs.Pieces.{starts, first_fits, next_fits, two_are}
use Rattle.settings.proofs.Writing.{zeros_room}
use Rattle.settings.proofs.put_host.Goals as goal

pub put_text-next-requires : goal.put_text-next-requires
put_text-next-requires c = search (starts, first_fits, next_fits, rules)

pub put_zeros-requires : goal.put_zeros-requires
put_zeros-requires c = search (zeros_room, starts, first_fits, next_fits, rules)

pub returns : goal.returns
returns c = search (starts, two_are, rules)
