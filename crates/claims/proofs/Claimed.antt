-- The check, field after field, holds exactly of the claim that the strict grammar gives for the line.
use Rattle.std.specs.Prelude.{Some, None}
use Prim.Native.Nat.{ℕ, ◌/◌, ◌%◌, ◌≤◌}
use mathlib.Core.Path.{◌≡◌, refl, sym, ap, ◌∙◌}
use mathlib.Core.Bool.{true}
use mathlib.Core.List.{List, [], ◌∷◌}
use Rattle.std.specs.Prelude as std
use mathlib.Core.Option.{Option, none, some}
use native.Mathlib.Omega.{arith}
use lib.ListN.{length}
use Rattle.base.specs.Texts.{all_different}
use Rattle.base.proofs.Tests.{both, clash}
use Rattle.base.proofs.Texts.{different_sound, different_complete}
use Rattle.digits.specs.Digits.{decimal}
use Rattle.record.specs.declared.Protocol.TheVariants.{Rfc5424}
use Rattle.grammar.specs.Line.{Element, Timestamp, Division, timestamp_then, data_then, message_text, ids_of, Derives}
use Rattle.grammar.specs.Reading.{timestamp_at, hostname_at, app_name_at, procid_at, msgid_at, data_at, data_end, place_of, stamp_of, timestamp_place, message_span, message_flag, element_rows, param_rows, record_of}
use Rattle.grammar.proofs.Data.{data_reads}
use Rattle.claims.specs.Claims.{Claim, claim_of, Claimed}
use Rattle.claims.specs.Holds.{head_next, stamp_next, text_next, header_next, data_next, ids_at, message_holds, end_holds, holds}
use Rattle.claims.proofs.Told.{told}
use Rattle.claims.proofs.Places.{here_as, laid}
use Rattle.claims.proofs.Tests.{on_next_lem, here_fits, text_step, text_taken}
use Rattle.claims.proofs.Pieces.{head_step, head_taken, message_sound, message_complete}
use Rattle.claims.proofs.Stamps.{place_for, stamp_step, stamp_taken}
use Rattle.claims.proofs.Rows.{data_step, data_taken, data_told, ids_told}

-- ---- a claim of which the check holds is a division's

place_for_lem : (d : Division) (t : Option Timestamp) → d.timestamp ≡ t → timestamp_place d t ≡ place_for (timestamp_at d) t
place_for_lem d none e = refl
place_for_lem d (some t) e =
    ap (λ (x : Option Timestamp). record { present = true; start = timestamp_at d; len = length (timestamp_then x []) }) e

-- a claim is a division's where each of its fields is
same_claim : (c : Claim) (d : Division)
    → Some (decimal d.prival / 8) ≡ c.reading.common.facility
    → Some (decimal d.prival % 8) ≡ c.reading.common.severity
    → Rfc5424 (decimal d.version) ≡ c.reading.common.protocol
    → stamp_of d.timestamp ≡ c.reading.common.timestamp
    → place_for (timestamp_at d) d.timestamp ≡ c.reading.timestamp_text
    → place_of (hostname_at d) d.hostname ≡ c.reading.common.host
    → place_of (app_name_at d) d.app_name ≡ c.reading.common.app
    → place_of (procid_at d) d.procid ≡ c.reading.common.procid
    → place_of (msgid_at d) d.msgid ≡ c.reading.common.msgid
    → element_rows (data_at d) d.elements ≡ c.elements
    → param_rows 0 (data_at d) d.elements ≡ c.params
    → message_span (data_end d) d.message ≡ c.reading.common.message
    → message_flag d.message ≡ c.reading.has_message
    → claim_of d ≡ c
unfolding claim_of record_of
same_claim c d f s p t l h a i m e w n b = rw (f, s, p, t, place_for_lem d d.timestamp refl, l, h, a, i, m, e, w, n, b)

-- where it ended
record Ended (line : List ℕ) (c : Claim) (n : std.Option ℕ) : Type 0 where
  pub at : ℕ
  pub is : n ≡ Some at
  pub differ : all_different (ids_at line c.elements) ≡ true
  pub message : message_holds line at c.reading.has_message c.reading.common.message ≡ true

ended : (line : List ℕ) (c : Claim) (n : std.Option ℕ) → end_holds line c n ≡ true → Ended line c n
ended line c None h = clash (sym h)
ended line c (Some at) h =
    let u = both (all_different (ids_at line c.elements)) (message_holds line at c.reading.has_message c.reading.common.message) h in
    record { at = at; is = refl; differ = u.0; message = u.1 }

module _ (line : List ℕ) (c : Claim) (h : holds line c ≡ true) where
  pub holds_claimed : Claimed line c
  unfolding holds told
  holds_claimed =
      let r = c.reading.common in
      let d = told line c in
      let z = ended line c _ h in
      let w = on_next_lem (header_next line c.reading) (λ a. data_next line a c.elements c.params) z.at z.is in
      let w1 = on_next_lem (head_next line r.facility r.severity r.protocol) _ w.to w.first in
      let w2 = on_next_lem (stamp_next line w1.to c.reading.timestamp_text r.timestamp) _ w.to w1.second in
      let w3 = on_next_lem (text_next line 255 w2.to r.host) _ w.to w2.second in
      let w4 = on_next_lem (text_next line 48 w3.to r.app) _ w.to w3.second in
      let w5 = on_next_lem (text_next line 128 w4.to r.procid) _ w.to w4.second in
      let head = head_step line r.facility r.severity r.protocol w1.to w1.first in
      let stamp = stamp_step line w1.to c.reading.timestamp_text r.timestamp w2.to w2.first in
      let host = text_step line 255 w2.to r.host w3.to (omega arith) w3.first in
      let app = text_step line 48 w3.to r.app w4.to (omega arith) w4.first in
      let procid = text_step line 128 w4.to r.procid w5.to (omega arith) w5.first in
      let msgid = text_step line 32 w5.to r.msgid w.to (omega arith) w5.second in
      let dat = data_step line w.to c.elements c.params z.at w.second in
      let message = message_sound line z.at c.reading.has_message r.message.start r.message.len z.message in
      let e1 : w1.to ≡ timestamp_at d = head.ends in
      let e2 : w2.to ≡ hostname_at d = omega (arith, e1, stamp.ends) in
      let e3 : w3.to ≡ app_name_at d = omega (arith, e2, host.ends) in
      let e4 : w4.to ≡ procid_at d = omega (arith, e3, app.ends) in
      let e5 : w5.to ≡ msgid_at d = omega (arith, e4, procid.ends) in
      let e6 : w.to ≡ data_at d = omega (arith, e5, msgid.ends) in
      let e7 : z.at ≡ data_end d = omega (arith, e6, dat.ends) in
      record {
        division = d;
        derives = record {
          text = head.here _ (stamp.here _ (host.here _ (app.here _ (procid.here _ (msgid.here _ (dat.here _ message.here))))));
          prival_ok = head.prival_ok;
          version_ok = head.version_ok;
          timestamp_ok = stamp.ok;
          hostname_ok = host.ok;
          app_name_ok = app.ok;
          procid_ok = procid.ok;
          msgid_ok = msgid.ok;
          elements_ok = dat.ok;
          ids_differ = different_sound (ids_of d.elements) (ap all_different (ids_told line c.elements 0 c.params) ∙ z.differ);
          message_ok = message.ok;
        };
        is = sym (same_claim c d head.is_facility head.is_severity head.is_protocol stamp.is_stamp
            (ap (λ (k : ℕ). place_for k d.timestamp) (sym e1) ∙ stamp.is_place)
            (ap (λ (k : ℕ). place_of k d.hostname) (sym e2) ∙ host.is)
            (ap (λ (k : ℕ). place_of k d.app_name) (sym e3) ∙ app.is)
            (ap (λ (k : ℕ). place_of k d.procid) (sym e4) ∙ procid.is)
            (ap (λ (k : ℕ). place_of k d.msgid) (sym e5) ∙ msgid.is)
            (ap (λ (k : ℕ). element_rows k d.elements) (sym e6) ∙ dat.is_rows)
            (ap (λ (k : ℕ). param_rows 0 k d.elements) (sym e6) ∙ dat.is_params)
            (ap (λ (k : ℕ). message_span k d.message) (sym e7) ∙ message.is)
            message.is_has);
      }

-- ---- and the check holds of each division's claim

some_data : (es : List Element) → 1 ≤ length (data_then es [])
some_data [] = omega arith
some_data (e ∷ es) = omega arith

module _ (line : List ℕ) (d : Division) (k : Derives line d) where
  header_taken : header_next line (record_of d) ≡ Some (data_at d)
  unfolding record_of
  header_taken =
      let l = laid line d k in
      rw (
        place_for_lem d d.timestamp refl,
        head_taken line d.prival d.version _ k.prival_ok k.version_ok k.text,
        stamp_taken line (timestamp_at d) d.timestamp _ k.timestamp_ok l.at_timestamp,
        text_taken line 255 (hostname_at d) d.hostname _ k.hostname_ok l.at_host,
        text_taken line 48 (app_name_at d) d.app_name _ k.app_name_ok l.at_app,
        text_taken line 128 (procid_at d) d.procid _ k.procid_ok l.at_procid,
        text_taken line 32 (msgid_at d) d.msgid _ k.msgid_ok l.at_msgid,
      )

  ids_are : ids_at line (element_rows (data_at d) d.elements) ≡ ids_of d.elements
  ids_are =
      let at = data_at d in
      let es = d.elements in
      sym (ids_told line (element_rows at es) 0 (param_rows 0 at es)) ∙ ap ids_of (data_told line at es _ (laid line d k).at_data)

  pub division_holds : holds line (claim_of d) ≡ true
  unfolding holds claim_of record_of
  division_holds =
      let l = laid line d k in
      let inside : data_end d ≤ length line =
      here_fits line (data_at d) (data_then d.elements []) (message_text d.message) (some_data d.elements)
      (here_as l.at_data (data_reads.plain d.elements (message_text d.message) (k.elements_ok, k.ids_differ))) in
      rw (
        header_taken,
        data_taken line (data_at d) d.elements _ k.elements_ok l.at_data,
        ids_are,
        different_complete (ids_of d.elements) k.ids_differ,
        message_complete line (data_end d) d.message inside k.message_ok l.at_end_lem,
      )

pub claimed_holds : (line : List ℕ) (c : Claim) → Claimed line c → holds line c ≡ true
claimed_holds line c k = ap (holds line) k.is ∙ division_holds line k.division k.derives
