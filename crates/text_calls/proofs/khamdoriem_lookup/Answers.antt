use Rattle.exports.proofs.Services.{served}
use Rattle.text_calls.proofs.khamdoriem_lookup.Goals as goal

pub returns : goal.returns
returns c =
    let h = c.in-Some.ensures in
    served c.args.memory.now _ _ _ _ h.0 _ h.1 _ h.2 _ h.3 _ _ c.lookup-w.ensures c.output_answer_of.ensures
