use Rattle.message.proofs.Texts.{pri_is, pri_starts}
use Rattle.message.specs.Message.{pri_text}
use Rattle.output.proofs.Pieces.{starts, starts_named, first_fits, next_fits, last_fits, three_are}
use Rattle.message.proofs.fields.put_pri.Goals as goal

pub put-a-requires : goal.put-a-requires
unfolding pri_text
put-a-requires c = search (first_fits, starts)

pub put_number-b-requires : goal.put_number-b-requires
put_number-b-requires c = search (next_fits, pri_starts)

pub put-requires : goal.put-requires
put-requires c = last_fits c.requires c.put-a.ensures c.put_number-b.ensures (search (starts_named, pri_is))

pub returns : goal.returns
returns c = three_are c.requires c.put-a.ensures c.put_number-b.ensures c.put.ensures (search pri_is)
