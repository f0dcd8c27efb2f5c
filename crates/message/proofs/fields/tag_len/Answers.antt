use Rattle.message.proofs.Texts.{tag_sizes}
use Rattle.message.proofs.fields.tag_len.Goals as goal

pub returns-then-not-app : goal.returns-then-not-app
returns-then-not-app c = search tag_sizes

pub returns-then-not-procid : goal.returns-then-not-procid
returns-then-not-procid c = search tag_sizes

pub returns : goal.returns
returns c = search tag_sizes
