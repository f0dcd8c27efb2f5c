-- What was laid out comes back: the bytes of a record whose numbers fit their types hold a record, that one.
use Rattle.std.specs.Prelude.{Option, Some, None}
use Prim.Native.Nat.{ℕ, zero, suc, ◌+◌, ◌-◌, ◌*◌, ◌/◌, ◌^◌, ◌<◌, ◌≤◌}
use mathlib.Core.Path.{◌≡◌, refl, sym, ap, ◌∙◌}
use mathlib.Core.Bool.{Bool, true, false}
use mathlib.Core.List.{List, [], ◌∷◌, ◌++◌, append_assoc}
use native.Mathlib.Nat.{pow-suc}
use native.Mathlib.Omega.{arith}
use lib.Dec.{eqb, leb, ltb}
use lib.IntN.{ℤ, pos, negsuc}
use lib.ListN.{length, get_or, take, drop, length-append}
use lib.Seq.{take-append_seam, drop-append-add}
use mir.Syntax.{w32, w64}
use mir.Val.{SFits}
use borrow.Author.Tests.{lt-ltb, le-ltb, le-leb}
use Rattle.base.proofs.Casts.{wider}
use Rattle.record.specs.declared.Protocol.{Protocol}
use Rattle.record.specs.declared.Protocol.TheVariants.{Rfc3164, Rfc5424}
use Rattle.record.specs.declared.Place.{Place}
use Rattle.record.specs.declared.Record.{Record}
use Rattle.layout.specs.Layout.{protocol_word, version_word, facility_word, severity_word, timestamp_word, seconds_word, nanos_word, digits_word, offset_word, host_word, app_word, procid_word, msgid_word, message_word, elements_word, params_word, word_count, record_size, little, words_bytes, bits, mark, protocol_words, level_words, stamp_words, record_words, record_bytes}
use Rattle.layout.specs.Incoming.{number, word_at, signed, marked, narrow, stamped, front_held, marks_held, holds_record, protocol_at, level_at, stamp_at, place_at, record_at, element_count_at, param_count_at}
use Rattle.layout.proofs.Words.{length_little, words_length}
use Rattle.layout.proofs.Fields.{record_length}
use Rattle.record.specs.declared.Timestamp.{Timestamp}

-- ---- words

number_little : (k n : ℕ) → n < 256 ^ k → number (little k n) ≡ n
unfolding number little
number_little zero n h = omega arith
number_little (suc k) n h =
    let l : n / 256 < 256 ^ k = omega (arith, pow-suc 256 k) in
    omega (arith, number_little k (n / 256) l)

abbrev AllFit : List ℕ → Type 0
AllFit [] = Unit {0}
AllFit (w ∷ ws) = (w < 18446744073709551616) × AllFit ws

-- word `i` of some words, whatever stands after them
word_back : (ws rest : List ℕ) (i : ℕ) → AllFit ws → i < length ws → word_at (words_bytes ws ++ rest) i ≡ get_or ws i 0
unfolding word_at words_bytes
word_back [] rest i a h = absurd (omega arith)
word_back (w ∷ ws) rest zero a h =
    let l : length (little 8 w) ≡ 8 = length_little 8 w in
    let t : take 8 ((little 8 w ++ words_bytes ws) ++ rest) ≡ little 8 w =
    ap (take 8) (append_assoc (little 8 w) (words_bytes ws) rest)
    ∙ ap (λ (k : ℕ). take k (little 8 w ++ (words_bytes ws ++ rest))) (sym l)
    ∙ take-append_seam (little 8 w) (words_bytes ws ++ rest) in
    ap number t ∙ number_little 8 w a.0
word_back (w ∷ ws) rest (suc i) a h =
    let l : suc i * 8 ≡ length (little 8 w) + i * 8 = omega (arith, length_little 8 w) in
    let d : drop (suc i * 8) ((little 8 w ++ words_bytes ws) ++ rest) ≡ drop (i * 8) (words_bytes ws ++ rest) =
    ap (drop (suc i * 8)) (append_assoc (little 8 w) (words_bytes ws) rest)
    ∙ ap (λ (k : ℕ). drop k (little 8 w ++ (words_bytes ws ++ rest))) l
    ∙ drop-append-add (little 8 w) (words_bytes ws ++ rest) (i * 8) in
    ap (λ (s : List ℕ). number (take 8 s)) d ∙ word_back ws rest i a.1 (omega arith)

-- ---- each field: its mark and its values

abbrev protocol_mark : Protocol → ℕ
protocol_mark Rfc3164 = 0
protocol_mark (Rfc5424 v) = 1

abbrev version : Protocol → ℕ
version Rfc3164 = 0
version (Rfc5424 v) = v

abbrev level_mark : Option ℕ → ℕ
level_mark None = 0
level_mark (Some n) = 1

abbrev level : Option ℕ → ℕ
level None = 0
level (Some n) = n

abbrev stamp_mark : Option Timestamp → ℕ
stamp_mark None = 0
stamp_mark (Some t) = 1

abbrev seconds : Option Timestamp → ℕ
seconds None = 0
seconds (Some t) = bits t.seconds

abbrev nanos : Option Timestamp → ℕ
nanos None = 0
nanos (Some t) = t.nanos

abbrev digits : Option Timestamp → ℕ
digits None = 0
digits (Some t) = t.digits

abbrev offset : Option Timestamp → ℕ
offset None = 0
offset (Some t) = bits t.offset

-- the numbers fit their types
abbrev pub ProtocolIn : Protocol → Type 0
ProtocolIn Rfc3164 = Unit {0}
ProtocolIn (Rfc5424 v) = v < 4294967296

abbrev pub LevelIn : Option ℕ → Type 0
LevelIn None = Unit {0}
LevelIn (Some n) = n < 256

abbrev pub StampIn : Option Timestamp → Type 0
StampIn None = Unit {0}
StampIn (Some t) = SFits w64 t.seconds × (t.nanos < 4294967296) × (t.digits < 4294967296) × SFits w32 t.offset

abbrev PlaceIn : ℕ → ℕ → Type 0
PlaceIn start len = (start < 18446744073709551616) × (len < 18446744073709551616)

pub record InTypes (r : Record) (e p : ℕ) : Type 0 where
  pub protocol_in : ProtocolIn r.protocol
  pub facility_in : LevelIn r.facility
  pub severity_in : LevelIn r.severity
  pub timestamp_in : StampIn r.timestamp
  pub host_in : PlaceIn r.host.start r.host.len
  pub app_in : PlaceIn r.app.start r.app.len
  pub procid_in : PlaceIn r.procid.start r.procid.len
  pub msgid_in : PlaceIn r.msgid.start r.msgid.len
  pub message_in : PlaceIn r.message.start r.message.len
  pub counts_in : PlaceIn e p

-- what a field's words say, and that the field comes back from them
record ProtocolBack (p : Protocol) : Type 0 where
  words : protocol_words p ≡ protocol_mark p ∷ version p ∷ []
  mark_fits : protocol_mark p < 18446744073709551616
  fits : version p < 18446744073709551616
  held : marked 4294967296 (protocol_mark p) (version p) ≡ true
  back : protocol_at (protocol_mark p) (version p) ≡ p

protocol_back : (p : Protocol) → ProtocolIn p → ProtocolBack p
protocol_back Rfc3164 h = record { words = refl; mark_fits = omega arith; fits = omega arith; held = refl; back = refl }
protocol_back (Rfc5424 v) h = record { words = refl; mark_fits = omega arith; fits = omega arith; held = rw (lt-ltb v 4294967296 h); back = refl }

record LevelBack (l : Option ℕ) : Type 0 where
  words : level_words l ≡ level_mark l ∷ level l ∷ []
  mark_fits : level_mark l < 18446744073709551616
  fits : level l < 18446744073709551616
  held : marked 256 (level_mark l) (level l) ≡ true
  back : level_at (level_mark l) (level l) ≡ l

level_back : (l : Option ℕ) → LevelIn l → LevelBack l
level_back None h = record { words = refl; mark_fits = omega arith; fits = omega arith; held = refl; back = refl }
level_back (Some n) h = record { words = refl; mark_fits = omega arith; fits = omega arith; held = rw (lt-ltb n 256 h); back = refl }

bits_fit : (z : ℤ) → SFits w64 z → bits z < 18446744073709551616
bits_fit (pos n) h = omega (arith, h.sfits)
bits_fit (negsuc n) h = omega arith

signed_pos : (n : ℕ) → n < 9223372036854775808 → signed n ≡ pos n
signed_pos n h = rw (lt-ltb n 9223372036854775808 h)

signed_neg : (n : ℕ) → 9223372036854775808 ≤ n → signed n ≡ negsuc (18446744073709551615 - n)
signed_neg n h = rw (le-ltb n 9223372036854775808 h)

bits_back : (z : ℤ) → SFits w64 z → signed (bits z) ≡ z
bits_back (pos n) h = signed_pos n (omega (arith, h.sfits))
bits_back (negsuc n) h =
    let e : 18446744073709551615 - (18446744073709551615 - n) ≡ n = omega (arith, h.sfits) in
    signed_neg (18446744073709551615 - n) (omega (arith, h.sfits)) ∙ ap negsuc e

bits_narrow : (z : ℤ) → SFits w32 z → narrow (bits z) ≡ true
bits_narrow (pos n) h = rw (lt-ltb n 2147483648 (omega (arith, h.sfits)))
bits_narrow (negsuc n) h =
    rw (le-ltb (18446744073709551615 - n) 2147483648 (omega (arith, h.sfits)), lt-ltb 18446744071562067967 (18446744073709551615 - n) (omega (arith, h.sfits)))

record StampBack (s : Option Timestamp) : Type 0 where
  words : stamp_words s ≡ stamp_mark s ∷ seconds s ∷ nanos s ∷ digits s ∷ offset s ∷ []
  mark_fits : stamp_mark s < 18446744073709551616
  seconds_fit : seconds s < 18446744073709551616
  nanos_fit : nanos s < 18446744073709551616
  digits_fit_lem : digits s < 18446744073709551616
  offset_fits : offset s < 18446744073709551616
  held : stamped (stamp_mark s) (seconds s) (nanos s) (digits s) (offset s) ≡ true
  back : stamp_at (stamp_mark s) (seconds s) (nanos s) (digits s) (offset s) ≡ s

stamp_back : (s : Option Timestamp) → StampIn s → StampBack s
stamp_back None h =
    record { words = refl; mark_fits = omega arith; seconds_fit = omega arith; nanos_fit = omega arith; digits_fit_lem = omega arith; offset_fits = omega arith; held = refl; back = refl }
stamp_back (Some t) (a, b, d, c) =
    record {
      words = refl;
      mark_fits = omega arith;
      seconds_fit = bits_fit t.seconds a;
      nanos_fit = omega arith;
      digits_fit_lem = omega arith;
      offset_fits = bits_fit t.offset (wider t.offset c);
      held = rw (lt-ltb t.nanos 4294967296 b, lt-ltb t.digits 4294967296 d, bits_narrow t.offset c);
      back = rw (bits_back t.seconds a, bits_back t.offset (wider t.offset c));
    }

mark_fits : (b : Bool) → mark b < 18446744073709551616
mark_fits true = omega arith
mark_fits false = omega arith

mark_held : (b : Bool) → ltb (mark b) 2 ≡ true
mark_held true = refl
mark_held false = refl

mark_back : (b : Bool) → eqb (mark b) 1 ≡ b
mark_back true = refl
mark_back false = refl

-- ---- the record

abbrev listed : Record → ℕ → ℕ → List ℕ
listed r e p =
    protocol_mark r.protocol ∷ version r.protocol
    ∷ level_mark r.facility ∷ level r.facility
    ∷ level_mark r.severity ∷ level r.severity
    ∷ stamp_mark r.timestamp ∷ seconds r.timestamp ∷ nanos r.timestamp ∷ digits r.timestamp ∷ offset r.timestamp
    ∷ mark r.host.present ∷ r.host.start ∷ r.host.len
    ∷ mark r.app.present ∷ r.app.start ∷ r.app.len
    ∷ mark r.procid.present ∷ r.procid.start ∷ r.procid.len
    ∷ mark r.msgid.present ∷ r.msgid.start ∷ r.msgid.len
    ∷ r.message.start ∷ r.message.len ∷ e ∷ p ∷ []

module _ (r : Record) (e p : ℕ) (h : InTypes r e p) (rest : List ℕ) where
  of_protocol : ProtocolBack r.protocol
  of_protocol = protocol_back r.protocol h.protocol_in

  of_facility : LevelBack r.facility
  of_facility = level_back r.facility h.facility_in

  of_severity : LevelBack r.severity
  of_severity = level_back r.severity h.severity_in

  of_timestamp : StampBack r.timestamp
  of_timestamp = stamp_back r.timestamp h.timestamp_in

  same : record_words r e p ≡ listed r e p
  unfolding record_words
  same = rw (of_protocol.words, of_facility.words, of_severity.words, of_timestamp.words)

  all_fit : AllFit (listed r e p)
  all_fit = (
    of_protocol.mark_fits,
    (
      of_protocol.fits,
      (
        of_facility.mark_fits,
        (
          of_facility.fits,
          (
            of_severity.mark_fits,
            (
              of_severity.fits,
              (
                of_timestamp.mark_fits,
                (
                  of_timestamp.seconds_fit,
                  (
                    of_timestamp.nanos_fit,
                    (
                      of_timestamp.digits_fit_lem,
                      (
                        of_timestamp.offset_fits,
                        (
                          mark_fits r.host.present,
                          (
                            h.host_in.0,
                            (
                              h.host_in.1,
                              (
                                mark_fits r.app.present,
                                (
                                  h.app_in.0,
                                  (
                                    h.app_in.1,
                                    (
                                      mark_fits r.procid.present,
                                      (
                                        h.procid_in.0,
                                        (
                                          h.procid_in.1,
                                          (
                                            mark_fits r.msgid.present,
                                            (
                                              h.msgid_in.0,
                                              (
                                                h.msgid_in.1,
                                                (h.message_in.0, (h.message_in.1, (h.counts_in.0, (h.counts_in.1, tt)))),
                                              ),
                                            ),
                                          ),
                                        ),
                                      ),
                                    ),
                                  ),
                                ),
                              ),
                            ),
                          ),
                        ),
                      ),
                    ),
                  ),
                ),
              ),
            ),
          ),
        ),
      ),
    ),
  )

  abbrev whole : List ℕ
  whole = record_bytes r e p ++ rest

  at : (i : ℕ) → i < word_count → word_at whole i ≡ get_or (listed r e p) i 0
  at i l = rw same (word_back (listed r e p) rest i all_fit l)

  long : leb record_size (length whole) ≡ true
  long = le-leb record_size (length whole) (omega (arith, length-append (record_bytes r e p) rest, words_length (record_words r e p), record_length r e p))

  front : front_held whole ≡ true
  unfolding front_held
  front =
      rw (
        at protocol_word (omega arith),
        at version_word (omega arith),
        at facility_word (omega arith),
        at (facility_word + 1) (omega arith),
        at severity_word (omega arith),
        at (severity_word + 1) (omega arith),
        at timestamp_word (omega arith),
        at seconds_word (omega arith),
        at nanos_word (omega arith),
        at digits_word (omega arith),
        at offset_word (omega arith),
        of_protocol.held,
        of_facility.held,
        of_severity.held,
        of_timestamp.held,
      )

  marks : marks_held whole ≡ true
  unfolding marks_held
  marks =
      rw (
        at host_word (omega arith),
        at app_word (omega arith),
        at procid_word (omega arith),
        at msgid_word (omega arith),
        mark_held r.host.present,
        mark_held r.app.present,
        mark_held r.procid.present,
        mark_held r.msgid.present,
      )

  pub laid_held : holds_record (record_bytes r e p ++ rest) ≡ true
  unfolding holds_record
  laid_held = rw (long, front, marks)

  pub laid_counts : (element_count_at (record_bytes r e p ++ rest) ≡ e) × (param_count_at (record_bytes r e p ++ rest) ≡ p)
  laid_counts = (at elements_word (omega arith), at params_word (omega arith))

  place_back : (i : ℕ) → (q : Place) → word_at whole i ≡ mark q.present → word_at whole (i + 1) ≡ q.start → word_at whole (i + 2) ≡ q.len → place_at whole i ≡ q
  place_back i q a b c = rw (a, b, c, mark_back q.present)

  pub laid_back : record_at (record_bytes r e p ++ rest) ≡ r
  unfolding record_at
  laid_back =
      rw (
        place_back host_word r.host (at host_word (omega arith)) (at (host_word + 1) (omega arith)) (at (host_word + 2) (omega arith)),
        place_back app_word r.app (at app_word (omega arith)) (at (app_word + 1) (omega arith)) (at (app_word + 2) (omega arith)),
        place_back procid_word r.procid (at procid_word (omega arith)) (at (procid_word + 1) (omega arith)) (at (procid_word + 2) (omega arith)),
        place_back msgid_word r.msgid (at msgid_word (omega arith)) (at (msgid_word + 1) (omega arith)) (at (msgid_word + 2) (omega arith)),
        at protocol_word (omega arith),
        at version_word (omega arith),
        at facility_word (omega arith),
        at (facility_word + 1) (omega arith),
        at severity_word (omega arith),
        at (severity_word + 1) (omega arith),
        at timestamp_word (omega arith),
        at seconds_word (omega arith),
        at nanos_word (omega arith),
        at digits_word (omega arith),
        at offset_word (omega arith),
        at message_word (omega arith),
        at (message_word + 1) (omega arith),
        of_protocol.back,
        of_facility.back,
        of_severity.back,
        of_timestamp.back,
      )
