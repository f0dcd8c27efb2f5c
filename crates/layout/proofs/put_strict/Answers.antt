use Rattle.std.proofs.Common.{◌≡◌, ◌∷◌, [], rules, arith, refl}
use Rattle.layout.specs.Layout.{mark}
use Rattle.layout.proofs.Words.{piece_room, piece_on, piece_last}
use Rattle.layout.proofs.Fields.{strict_pieces, strict_filled}
use Rattle.layout.proofs.put_strict.Goals as goal

pub put_words-mark-requires : goal.put_words-mark-requires
put_words-mark-requires c =
    let text = piece_on (strict_pieces _ c.args.r c.args.e c.args.p c.requires) refl c.put_common-text.ensures in
    (omega arith, piece_room text c.place_words.ensures)

pub put_words-requires : goal.put_words-requires
put_words-requires c =
    let text = piece_on (strict_pieces _ c.args.r c.args.e c.args.p c.requires) refl c.put_common-text.ensures in
    let has = piece_on text c.place_words.ensures c.put_words-mark.ensures in
    let e : c.from.result ∷ [] ≡ mark c.args.r.has_message ∷ [] = search rules in
    (omega arith, piece_room has e)

pub returns : goal.returns
returns c =
    let text = piece_on (strict_pieces _ c.args.r c.args.e c.args.p c.requires) refl c.put_common-text.ensures in
    let has = piece_on text c.place_words.ensures c.put_words-mark.ensures in
    let e : c.from.result ∷ [] ≡ mark c.args.r.has_message ∷ [] = search rules in
    strict_filled _ _ c.args.e c.args.p _ _ (piece_last has e c.put_words.ensures)
