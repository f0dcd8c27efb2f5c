-- A line that has a loose reading: how many rows it has at most, and how long the reading is in print.
use Rattle.std.specs.Prelude.{Option, Some, None}
use Prim.Native.Nat.{ℕ, ◌+◌, ◌*◌, ◌≤◌}
use mathlib.Core.Path.{◌≡◌, refl}
use mathlib.Core.List.{List}
use mathlib.Core.Bool.{true, ◌&&◌}
use native.Mathlib.Omega.{arith}
use lib.Dec.{leb, eqb}
use lib.ListN.{length, take, drop, length-append, length-take}
use lib.IntN.{ℤ, nat_abs}
use borrow.Author.Tests.{leb-true}
use Rattle.base.proofs.Tests.{both, by_if}
use Rattle.white.specs.Trim.{trimmed}
use Rattle.calendar.specs.Calendar.{offset_limit, last_year}
use Rattle.record.specs.declared.Protocol.{Protocol}
use Rattle.record.specs.declared.Protocol.TheVariants.{Rfc3164, Rfc5424}
use Rattle.record.specs.declared.Record.{Record}
use Rattle.output.proofs.Numerals.{length_fixed, width_le}
use Rattle.pri.specs.Pri.{pri_at}
use Rattle.pri.specs.declared.Pri.{Pri}
use Rattle.parsers.specs.Steps.{blanks_from, some_blanks_from, number_from, on_read}
use Rattle.parsers.proofs.Steps.{blanks_within}
use Rattle.timestamp.specs.Rfc3339.{rfc3339_from}
use Rattle.timestamp.specs.Timestamp.{rfc3164_from}
use Rattle.timestamp.proofs.Onward.{on_num_lem, on_pos_lem}
use Rattle.timestamp.proofs.Answers.{rfc3164_within, rfc3164_stamp}
use Rattle.structured_data.specs.Data.{data_from, rows_or}
use Rattle.structured_data.specs.declared.Rules.TheVariants.{Rfc3164Rules, Rfc5424Rules}
use Rattle.draft.specs.Outcome.{Outcome}
use Rattle.draft.specs.Outcome.Outcome.{no_reading, is_reading}
use Rattle.rfc3164.specs.Rfc3164 as rfc3164
use Rattle.rfc3164.proofs.Lines.{header_within, end_within}
use Rattle.rfc5424.specs.Rfc5424 as rfc5424
use Rattle.rfc5424.specs.declared.Start.{Start}
use Rattle.rfc5424.proofs.Headers.{start_stamp, four_within}
use Rattle.rfc5424.proofs.Lines.{on_start_lem, on_four_lem, on_data_lem}
use Rattle.loose.specs.Loose.{outcome_of, settings_ok}
use Rattle.loose.proofs.Variants.{of_variant}
use Rattle.message.specs.Message.{pri_text, version_text, field_text, names_text, head_text}
use Rattle.message_stamp.specs.Stamps.{stamp_text}
use Rattle.message.specs.Opens.{end_text}
use Rattle.message.specs.Rooms.{element_size, param_size, total, other_size}
use Rattle.suited.proofs.Records.{stamp_suits_lem}
use Rattle.bounds.proofs.Data.{Takes, data_takes}
use Rattle.enough.proofs.Stamps.{num_is, pos_is, number_from_lem, some_from, colon_from_lem, StampFrom, rfc3339_from_lem, rfc3164_from_lem}
use Rattle.enough.proofs.Heads.{pri_grows, pri_size, stamp_size, field_size, size_le}
use Rattle.enough.proofs.Names.{four_from_lem, header_grows, header_onward}
use Rattle.record.specs.declared.Timestamp.{Timestamp}

-- A reading of the line: 3 bytes of it for each element, 5 for each parameter, and the bound of the text (see `printFor`).
pub record Bounded (line : List ℕ) (r : Record) (elements params : List (List ℕ)) : Type 0 where
  pub elements_few : 3 * length elements ≤ length line
  pub params_few : 5 * length params ≤ length line
  pub printed_small : 7 * (other_size line r elements + total param_size params) ≤ 8 * length line + 164

abbrev pub OutcomeBounded : List ℕ → Outcome → Type 0
OutcomeBounded line no_reading = Unit {0}
OutcomeBounded line (is_reading r at rows) = Bounded line r rows.elements rows.params

-- the pieces of the text
pub pieces : (line : List ℕ) (r : Record) (es ps : List (List ℕ))
    → other_size line r es + total param_size ps
    ≡ length (pri_text r) + length (version_text r.protocol) + length (stamp_text r.timestamp) + length (field_text line r.host) + length (names_text line r r.protocol)
    + length (end_text r.protocol (length es)) + r.message.len + (total element_size es + total param_size ps) + 2
unfolding other_size head_text
pieces line r es ps = simp length-append (omega arith)

pub end_le : (p : Protocol) (e : ℕ) → length (end_text p e) ≤ 2
unfolding end_text
end_le Rfc3164 e = by_if (λ (t : List ℕ). length t ≤ 2) (eqb e 0) _ _ (λ q. omega arith) (λ q. omega arith)
end_le (Rfc5424 v) e = by_if (λ (t : List ℕ). length t ≤ 2) (eqb e 0) _ _ (λ q. omega arith) (λ q. omega arith)

end_3164 : (e : ℕ) → length (end_text Rfc3164 e) ≤ 1
unfolding end_text
end_3164 e = by_if (λ (t : List ℕ). length t ≤ 1) (eqb e 0) _ _ (λ q. omega arith) (λ q. omega arith)

tag_end_from : (s : List ℕ) (at : ℕ) → at ≤ rfc3164.tag_end s at
unfolding rfc3164.tag_end
tag_end_from s at = omega (arith, colon_from_lem s (blanks_from s at))

-- version and timestamp of an RFC 5424 line: a digit and a blank at least, and the timestamp
record Begins (at : ℕ) (t : Option Timestamp) (next : ℕ) : Type 0 where
  from : ℕ
  behind : at + 2 ≤ from
  stamped : StampFrom 20 from (Some (t, next))

abbrev StartFrom : ℕ → Option (Start × ℕ) → Type 0
StartFrom at None = Unit {0}
StartFrom at (Some x) = Begins at x.0.timestamp x.1

start_from_lem : (s : List ℕ) (at : ℕ) → StartFrom at (rfc5424.start_from s at)
unfolding rfc5424.start_from
start_from_lem s at =
    on_num_lem (StartFrom at) (number_from s at) _ _ tt λ version a e1.
    on_pos_lem (StartFrom at) (some_blanks_from s a) _ _ tt λ b e2.
    go version b (omega (arith, num_is (number_from_lem s at) e1, pos_is (some_from s a) e2)) (rfc3339_from s b) (rfc3339_from_lem s b)
  where
    go : (version b : ℕ) → at + 2 ≤ b → (g : Option (Option Timestamp × ℕ)) → StampFrom 20 b g → StartFrom at (rfc5424.start_of version g)
    go version b l None h = tt
    go version b l (Some x) h = record { from = b; behind = l; stamped = h }

pub version_le : (v : ℕ) → length (version_text (Rfc5424 v)) ≤ 10
version_le v = rw length_fixed (width_le 9 v)

module _ (line s : List ℕ) (inside : length s ≤ length line) (start : ℕ) where
  rfc5424_bounded : OutcomeBounded line (rfc5424.rfc5424 s start)
  unfolding rfc5424.rfc5424 rfc5424.body_from
  rfc5424_bounded =
      let pri = pri_at (drop start s) in
      on_start_lem (OutcomeBounded line) (rfc5424.start_from s (start + pri.next)) _ _ tt λ version t a e1.
      on_four_lem (OutcomeBounded line) (rfc5424.four_from s a) _ _ tt λ host app procid msgid b e2.
      on_data_lem (OutcomeBounded line) (data_from Rfc5424Rules s (blanks_from s b)) _ _ tt λ rows e3.
      let begins : Begins (start + pri.next) t a = rw e1 at (start_from_lem s (start + pri.next)) in
      let stamp = stamp_size 20 begins.from a t (omega arith) (stamp_suits_lem t (start_stamp s _ _ refl version t a e1)) begins.stamped in
      let four : a + 4 + host.len + app.len + procid.len + msgid.len ≤ b = rw e2 at (four_from_lem s a) in
      let at_in = blanks_within s b _ refl (four_within s a _ refl host app procid msgid b e2) in
      let takes : Takes (blanks_from s b) (length s) (length rows.elements) (length rows.params) (total element_size rows.elements + total param_size rows.params) rows.next =
      rw e3 at (data_takes Rfc5424Rules s (blanks_from s b) at_in) in
      let message = blanks_within s rows.next _ refl takes.inside in
      record {
        elements_few = omega (arith, takes.elements_many, takes.inside);
        params_few = omega (arith, takes.params_many, takes.inside);
        printed_small =
            rw pieces
            (rw pri_size
            (simp length-append
            (omega (arith, pri_grows (drop start s), version_le version, begins.behind, stamp, field_size line host, size_le line host, field_size line app, size_le line app, field_size line procid, size_le line procid, field_size line msgid, size_le line msgid, end_le (Rfc5424 version) (length rows.elements), takes.small, takes.inside, message))));
      }

  module _ (year : ℕ) (offset : ℤ) (range : nat_abs offset ≤ offset_limit) where
    rfc3164_bounded : OutcomeBounded line (rfc3164.rfc3164 year offset s start)
    unfolding rfc3164.rfc3164 rfc3164.body_from
    rfc3164_bounded = go (rfc3164_from year offset s from) refl (rfc3164_from_lem s offset from year)
      where
        pri : Pri
        pri = pri_at (drop start s)

        from : ℕ
        from = blanks_from s (start + pri.next)

        go : (g : Option (Option Timestamp × ℕ)) → g ≡ rfc3164_from year offset s from → StampFrom 11 from g
            → OutcomeBounded line (on_read g no_reading (λ stamp a. rfc3164.body_from pri stamp s a))
        go None q f = tt
        go (Some x) q f =
            let within_line = rfc3164_within s from _ x.0 x.1 refl year offset q in
            let header = rfc3164.header_from s x.1 in
            let b = rfc3164.tag_end s header.next in
            let b_in = end_within s header.next (header_within s x.1 within_line _ refl) b refl in
            let rows = rows_or b (data_from Rfc3164Rules s b) in
            let takes = data_takes Rfc3164Rules s b b_in in
            let message = blanks_within s rows.next _ refl takes.inside in
            let stamp = stamp_size 11 from x.1 x.0 (omega arith) (stamp_suits_lem x.0 (rfc3164_stamp s from _ x.0 x.1 refl year offset q range)) f in
            record {
              elements_few = omega (arith, takes.elements_many, takes.inside);
              params_few = omega (arith, takes.params_many, takes.inside);
              printed_small =
                  rw pieces
                  (rw pri_size
                  (omega (arith, pri_grows (drop start s), stamp, header_grows line s x.1, header_onward s x.1, tag_end_from s header.next, end_3164 (length rows.elements), takes.small, takes.inside, message)));
            }

-- the text of a line is its trimmed part
pub outcome_bounded : (line : List ℕ) (variant year : ℕ) (offset : ℤ) → settings_ok variant year offset ≡ true
    → OutcomeBounded line (outcome_of line variant year offset)
unfolding outcome_of
outcome_bounded line variant year offset h =
    let ends = trimmed line in
    let range = leb-true (nat_abs offset) offset_limit (both (leb variant 2 && leb year last_year) _ h).1 in
    let s = take ends.end line in
    let inside : length s ≤ length line = omega (arith, length-take ends.end line) in
    of_variant (OutcomeBounded line) variant year offset s ends.start
    (rfc5424_bounded line s inside ends.start) (rfc3164_bounded line s inside ends.start year offset range)
