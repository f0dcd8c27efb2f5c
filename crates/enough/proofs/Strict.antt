-- A line that divides by the grammar: how many rows it has at most, and how long its record is in print.
use Rattle.std.specs.Prelude.{Some}
use Prim.Native.Nat.{ℕ, ◌+◌, ◌*◌, ◌/◌, ◌%◌, ◌≤◌}
use mathlib.Core.Path.{◌≡◌, refl, sym, ap}
use mathlib.Core.List.{List, [], ◌∷◌}
use mathlib.Core.Option.{Option, none, some}
use mathlib.Core.Bool.{◌&&◌}
use native.Mathlib.Omega.{arith}
use lib.Dec.{eqb}
use lib.ListN.{length, length-append}
use Rattle.base.specs.Choose.{is_at}
use Rattle.base.proofs.Tests.{by_if}
use Rattle.digits.specs.Digits.{decimal}
use Rattle.record.specs.declared.Place.{Place}
use Rattle.record.specs.declared.Protocol.TheVariants.{Rfc5424}
use Rattle.grammar.specs.Line.{Param, Element, Offset, Timestamp, Division, Each, each_then, param_then, element_then, data_then, secfrac_then, offset_then, timestamp_then, message_text, TimestampOk, ParamOk, ElementOk, Derives}
use Rattle.grammar.specs.Reading.{hostname_at, app_name_at, procid_at, msgid_at, data_at, data_end, place_of, nanos_of, digits_of, stamp_of, message_span, record_of, param_count, element_rows, rows_of_params, param_rows}
use Rattle.grammar.proofs.Readers.{text_length}
use Rattle.grammar.proofs.Data.{param_reads, element_reads}
use Rattle.strict_data.proofs.Filling.{params_length, param_length, elements_many, all_many}
use Rattle.message_stamp.specs.Stamps.{fraction_text}
use Rattle.message_stamp.proofs.Texts.{fraction_le, fraction_none}
use Rattle.message.specs.Message.{field_text}
use Rattle.message.specs.Rooms.{element_size, param_size, total}
use Rattle.suited.proofs.Strict.{line_length, division_suits}
use Rattle.bounds.proofs.Data.{total_append}
use Rattle.enough.proofs.Stamps.{StampFrom}
use Rattle.enough.proofs.Heads.{width_small, pri_size, stamp_size, place_size, field_size}
use Rattle.enough.proofs.Lines.{Bounded, pieces, end_le, version_le}

-- ---- the structured data

-- rows of `n` texts whose text takes `len` bytes: `least` of them at least for each, and all that they are in print
record Takes (least n size len : ℕ) : Type 0 where
  many : least * n ≤ len
  small : size ≤ len

params_take : (k at : ℕ) (ps : List Param) → Each ParamOk ps → Takes 5 (length ps) (total param_size (rows_of_params k at ps)) (length (each_then param_then ps []))
unfolding total param_size
params_take k at [] h = record { many = omega arith; small = omega arith }
params_take k at (p ∷ ps) h =
    let here = param_length p in
    let far = text_length param_reads p (each_then param_then ps []) h.0 in
    let more = params_take k (at + length (param_then p [])) ps h.1 in
    record { many = omega (arith, more.many, h.0.name_ok.at_least); small = omega (arith, more.small) }

record ElementsTake (k at : ℕ) (es : List Element) (len : ℕ) : Type 0 where
  elements : 3 * length es ≤ len
  params : 5 * param_count es ≤ len
  small : total element_size (element_rows at es) + total param_size (param_rows k at es) ≤ len

elements_take : (k at : ℕ) (es : List Element) → Each ElementOk es → ElementsTake k at es (length (each_then element_then es []))
unfolding total element_size
elements_take k at [] h = record { elements = omega arith; params = omega arith; small = omega arith }
elements_take k at (e ∷ es) h =
    let far = text_length element_reads e (each_then element_then es []) h.0 in
    let id = length-append e.id (each_then param_then e.params (93 ∷ [])) in
    let params = params_length e.params (93 ∷ []) h.0.params_ok in
    let own = params_take k (at + length e.id + 1) e.params h.0.params_ok in
    let more = elements_take (k + 1) (at + length (element_then e [])) es h.1 in
    record {
      elements = omega (arith, more.elements, h.0.id_ok.at_least);
      params = omega (arith, more.params, own.many);
      small = rw total_append (omega (arith, more.small, own.small));
    }

data_takes : (es : List Element) (at : ℕ) → Each ElementOk es → ElementsTake 0 at es (length (data_then es []))
unfolding total
data_takes [] at h = record { elements = omega arith; params = omega arith; small = omega arith }
data_takes (e ∷ es) at h = elements_take 0 at (e ∷ es) h

-- ---- the timestamp

secfrac_le : (o : Option (List ℕ)) → length (fraction_text (digits_of o) (nanos_of o)) ≤ length (secfrac_then o [])
secfrac_le none = omega (arith, ap length (sym (fraction_none 0 0 refl)))
secfrac_le (some f) = simp length-append (omega (arith, fraction_le (length f) (nanos_of (some f))))

secfrac_length : (o : Option (List ℕ)) (r : List ℕ) → length (secfrac_then o r) ≡ length (secfrac_then o []) + length r
secfrac_length none r = omega arith
secfrac_length (some f) r = simp length-append (omega arith)

offset_some : (o : Offset) → 1 ≤ length (offset_then o [])
offset_some Offset.utc = omega arith
offset_some (Offset.east h m) = omega arith
offset_some (Offset.west h m) = omega arith

stamp_from : (o : Option Timestamp) → TimestampOk o → StampFrom 20 0 (Some (stamp_of o, length (timestamp_then o [])))
stamp_from none h = omega arith
stamp_from (some t) h =
    simp length-append
    (omega (arith, h.year_digits.at_least, h.month_digits.at_least, h.day_digits.at_least, h.hour_digits.at_least, h.minute_digits.at_least, h.second_digits.at_least, secfrac_length t.secfrac (offset_then t.offset []), secfrac_le t.secfrac, offset_some t.offset))

-- ---- the record

place_le : (at : ℕ) (t : List ℕ) → 1 ≤ length t → place_size (place_of at t) ≤ length t
place_le at t h = by_if (λ (p : Place). place_size p ≤ length t) (eqb (length t) 1 && is_at t 0 45) _ _ (λ q. h) (λ q. omega arith)

field_le : (line : List ℕ) (at : ℕ) (t : List ℕ) → 1 ≤ length t → length (field_text line (place_of at t)) ≤ length t + 1
field_le line at t h = omega (arith, field_size line (place_of at t), place_le at t h)

message_le : (at : ℕ) (m : Option (List ℕ)) → (message_span at m).len ≤ length (message_text m)
message_le at none = omega arith
message_le at (some m) = omega arith

pub division_bounded : (line : List ℕ) (d : Division) → Derives line d
    → Bounded line (record_of d).common (element_rows (data_at d) d.elements) (param_rows 0 (data_at d) d.elements)
unfolding record_of
division_bounded line d h =
    let takes = data_takes d.elements (data_at d) h.elements_ok in
    let whole = line_length line d h in
    let suits = division_suits line d h in
    let stamp = stamp_size 20 0 _ (stamp_of d.timestamp) (omega arith) suits.of_record.timestamp_in (stamp_from d.timestamp h.timestamp_ok) in
    let p = decimal d.prival in
    let pri = width_small 9 2 (p / 8 * 8 + p % 8) (omega (arith, h.prival_ok.range)) in
    let host = field_le line (hostname_at d) d.hostname h.hostname_ok.at_least in
    let app = field_le line (app_name_at d) d.app_name h.app_name_ok.at_least in
    let procid = field_le line (procid_at d) d.procid h.procid_ok.at_least in
    let msgid = field_le line (msgid_at d) d.msgid h.msgid_ok.at_least in
    record {
      elements_few = rw elements_many (omega (arith, takes.elements));
      params_few = rw all_many (omega (arith, takes.params));
      printed_small =
          rw pieces
          (rw pri_size
          (simp length-append
          (omega (arith, pri, h.prival_ok.digits.at_least, version_le (decimal d.version), h.version_ok.digits.at_least, stamp, host, app, procid, msgid, end_le (Rfc5424 (decimal d.version)) (length (element_rows (data_at d) d.elements)), takes.small, message_le (data_end d) d.message, whole))));
    }
