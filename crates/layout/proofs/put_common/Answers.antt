use Rattle.std.proofs.Common.{arith, refl}
use Rattle.layout.proofs.Words.{piece_room, piece_on, piece_last}
use Rattle.layout.proofs.Fields.{FieldsLeft, fields_all}
use Rattle.layout.proofs.put_common.Goals as goal
use Rattle.layout.proofs.put_common.Goals.{After-protocol_words, After-level_words, After-level_words-2, After-stamp_words, After-place_words, After-place_words-2, After-place_words-3, After-place_words-4}

at_protocol : (c : After-protocol_words) → FieldsLeft c.args.out.now c.args.r.now c.args.e c.args.p 0 c.args.out.now 0
at_protocol c = fields_all _ _ _ _ c.requires

pub put_words-facility-requires : goal.put_words-facility-requires
put_words-facility-requires c = (omega arith, piece_room (at_protocol c) c.protocol_words.ensures)

at_facility : (c : After-level_words) → FieldsLeft c.args.out.now c.args.r.now c.args.e c.args.p 1 c.put_words-facility.new.out c.put_words-facility.result
at_facility c = piece_on (at_protocol (goal.at.put_words-severity-requires c).After-protocol_words) c.protocol_words.ensures c.put_words-facility.ensures

pub put_words-severity-requires : goal.put_words-severity-requires
put_words-severity-requires c = (omega arith, piece_room (at_facility c) c.level_words.ensures)

at_severity : (c : After-level_words-2) → FieldsLeft c.args.out.now c.args.r.now c.args.e c.args.p 2 c.put_words-severity.new.out c.put_words-severity.result
at_severity c = piece_on (at_facility (goal.at.put_words-timestamp-requires c).After-level_words) c.level_words.ensures c.put_words-severity.ensures

pub put_words-timestamp-requires : goal.put_words-timestamp-requires
put_words-timestamp-requires c = (omega arith, piece_room (at_severity c) c.level_words-2.ensures)

at_timestamp : (c : After-stamp_words) → FieldsLeft c.args.out.now c.args.r.now c.args.e c.args.p 3 c.put_words-timestamp.new.out c.put_words-timestamp.result
at_timestamp c = piece_on (at_severity (goal.at.put_words-host-requires c).After-level_words-2) c.level_words-2.ensures c.put_words-timestamp.ensures

pub put_words-host-requires : goal.put_words-host-requires
put_words-host-requires c = (omega arith, piece_room (at_timestamp c) c.stamp_words.ensures)

at_host : (c : After-place_words) → FieldsLeft c.args.out.now c.args.r.now c.args.e c.args.p 4 c.put_words-host.new.out c.put_words-host.result
at_host c = piece_on (at_timestamp (goal.at.put_words-app-requires c).After-stamp_words) c.stamp_words.ensures c.put_words-host.ensures

pub put_words-app-requires : goal.put_words-app-requires
put_words-app-requires c = (omega arith, piece_room (at_host c) c.place_words.ensures)

at_app : (c : After-place_words-2) → FieldsLeft c.args.out.now c.args.r.now c.args.e c.args.p 5 c.put_words-app.new.out c.put_words-app.result
at_app c = piece_on (at_host (goal.at.put_words-procid-requires c).After-place_words) c.place_words.ensures c.put_words-app.ensures

pub put_words-procid-requires : goal.put_words-procid-requires
put_words-procid-requires c = (omega arith, piece_room (at_app c) c.place_words-2.ensures)

at_procid : (c : After-place_words-3) → FieldsLeft c.args.out.now c.args.r.now c.args.e c.args.p 6 c.put_words-procid.new.out c.put_words-procid.result
at_procid c = piece_on (at_app (goal.at.put_words-msgid-requires c).After-place_words-2) c.place_words-2.ensures c.put_words-procid.ensures

pub put_words-msgid-requires : goal.put_words-msgid-requires
put_words-msgid-requires c = (omega arith, piece_room (at_procid c) c.place_words-3.ensures)

at_msgid : (c : After-place_words-4) → FieldsLeft c.args.out.now c.args.r.now c.args.e c.args.p 7 c.put_words-msgid.new.out c.put_words-msgid.result
at_msgid c = piece_on (at_procid (goal.at.put_words-message-requires c).After-place_words-3) c.place_words-3.ensures c.put_words-msgid.ensures

pub put_words-message-requires : goal.put_words-message-requires
put_words-message-requires c = (omega arith, piece_room (at_msgid c) c.place_words-4.ensures)

pub put_words-requires : goal.put_words-requires
put_words-requires c =
    (omega arith, piece_room (piece_on (at_msgid (goal.at.put_words-requires c).After-place_words-4) c.place_words-4.ensures c.put_words-message.ensures) refl)

pub returns : goal.returns
returns c =
    piece_last (piece_on (at_msgid (goal.at.returns c).After-place_words-4) c.place_words-4.ensures c.put_words-message.ensures) refl c.put_words.ensures
