use Rattle.message.proofs.Texts.{tag_starts, tag_pid, tag_app, tag_none}
use Rattle.output.proofs.Pieces.{starts_named, first_fits, next_fits, two_are, named_fits, named}
use Rattle.message.proofs.fields.put_tag.Goals as goal

pub put_text-requires : goal.put_text-requires
put_text-requires c = search (named_fits, tag_none)

pub returns-then-not-app : goal.returns-then-not-app
returns-then-not-app c = search (named, tag_none)

pub put_place-a-requires-clause-fits : goal.put_place-a-requires-clause-fits
put_place-a-requires-clause-fits c = search (first_fits, tag_starts)

pub put_text-requires-then-not-procid : goal.put_text-requires-then-not-procid
put_text-requires-then-not-procid c = next_fits c.requires.fits c.put_place-a.ensures (search (starts_named, tag_app))

pub returns-then-not-procid : goal.returns-then-not-procid
returns-then-not-procid c = search (two_are, tag_app)

pub put_pid-requires-clause-fits : goal.put_pid-requires-clause-fits
put_pid-requires-clause-fits c = next_fits c.requires.fits c.put_place-a.ensures (search (starts_named, tag_pid))

pub returns : goal.returns
returns c = search (two_are, tag_pid)
