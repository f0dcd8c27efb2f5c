use Rattle.std.proofs.Common.{refl}
use Rattle.output.proofs.Pieces.{starts, first_fits, next_fits, last_fits, three_are}
use Rattle.fitting.proofs.Tests.{places_in}
use Rattle.writer_header.specs.Fronts.{front_text}
use Rattle.writer_header.proofs.put_front.Goals as goal

pub put_stamped-a-requires : goal.put_stamped-a-requires
unfolding front_text
put_stamped-a-requires c = search (first_fits, starts)

pub put_pair-b-requires-clause-fits : goal.put_pair-b-requires-clause-fits
unfolding front_text
put_pair-b-requires-clause-fits c = search (next_fits, starts)

pub put_pair-b-requires-clause-len_in_bounds : goal.put_pair-b-requires-clause-len_in_bounds
unfolding front_text
put_pair-b-requires-clause-len_in_bounds c = search places_in

pub put_pair-b-requires-clause-len_in_bounds_2 : goal.put_pair-b-requires-clause-len_in_bounds_2
unfolding front_text
put_pair-b-requires-clause-len_in_bounds_2 c = search places_in

pub put_pair-requires-clause-fits : goal.put_pair-requires-clause-fits
unfolding front_text
put_pair-requires-clause-fits c = last_fits c.requires.fits c.put_stamped-a.ensures c.put_pair-b.ensures (search starts)

pub put_pair-requires-clause-len_in_bounds : goal.put_pair-requires-clause-len_in_bounds
unfolding front_text
put_pair-requires-clause-len_in_bounds c = search places_in

pub put_pair-requires-clause-len_in_bounds_2 : goal.put_pair-requires-clause-len_in_bounds_2
unfolding front_text
put_pair-requires-clause-len_in_bounds_2 c = search places_in

pub returns : goal.returns
unfolding front_text
returns c = three_are c.requires.fits c.put_stamped-a.ensures c.put_pair-b.ensures c.put_pair.ensures refl
