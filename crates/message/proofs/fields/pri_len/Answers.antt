use Rattle.message.proofs.Texts.{pri_sized, pri_small}
use Rattle.message.proofs.fields.pri_len.Goals as goal

pub overflow_add-result : goal.overflow_add-result
overflow_add-result c = search pri_small

pub returns : goal.returns
returns c = search pri_sized
