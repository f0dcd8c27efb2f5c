use Rattle.std.proofs.Common.{rules, arith, length, ◌≡◌, refl}
use Rattle.base.proofs.Parts.{ended}
use Rattle.layout.proofs.Words.{putting_all, putting_end, next_room, next_put}
use Rattle.layout.proofs.put_words.Goals as goal

pub loop-word-init : goal.loop-word-init
loop-word-init g c = putting_all _ _ _ _ refl

pub put_word-next-requires : goal.put_word-next-requires
put_word-next-requires g c =
    let l : length c.args.words ≡ g.row.N = search rules in
    next_room c.requires c.loop-word.invariant (omega arith)

pub loop-word-preserved : goal.loop-word-preserved
loop-word-preserved g c =
    let l : length c.args.words ≡ g.row.N = search rules in
    next_put c.requires c.loop-word.invariant (omega arith) c.put_word-next.ensures

pub returns : goal.returns
returns g c =
    let l : length c.args.words ≡ g.row.N = search rules in
    putting_end _ _ _ _ _ _ c.loop-word.invariant (ended c.args.words c.loop-word.word-index (omega arith))
