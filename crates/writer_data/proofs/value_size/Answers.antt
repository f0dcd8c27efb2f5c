use Rattle.std.proofs.Common.{rules}
use Rattle.writer_data.proofs.Sizes.{value_laws}
use Rattle.writer_data.proofs.value_size.Goals as goal

pub returns-then-v-gt-LINE_LIMIT : goal.returns-then-v-gt-LINE_LIMIT
returns-then-v-gt-LINE_LIMIT c = search (value_laws, rules)

pub returns : goal.returns
returns c = search (value_laws, rules)
