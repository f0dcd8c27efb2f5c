-- The words of each field, and of the whole record.
use Rattle.std.specs.Prelude.{Option, Some, None}
use Prim.Native.Nat.{ℕ, ◌≤◌}
use mathlib.Core.Path.{◌≡◌, refl, ◌∙◌}
use mathlib.Core.List.{List, [], ◌∷◌, append_assoc}
use native.Mathlib.Omega.{arith}
use lib.ListN.{length, drop, length-append}
use Rattle.base.specs.Fills.{filled}
use Rattle.output.proofs.Writes.{written_front}
use Rattle.record.specs.declared.Protocol.{Protocol}
use Rattle.record.specs.declared.Protocol.TheVariants.{Rfc3164, Rfc5424}
use Rattle.record.specs.declared.Record.{Record}
use Rattle.record.specs.declared.StrictRecord.{StrictRecord}
use Rattle.layout.specs.Layout.{word_count, strict_word_count, record_size, strict_size, mark, protocol_words, level_words, stamp_words, place_words, end_words, record_words, record_bytes, strict_words, strict_bytes, Room, Puts}
use Rattle.layout.proofs.Words.{words_length, Pieces, pieces_all}
use Rattle.record.specs.declared.Timestamp.{Timestamp}

-- ---- the whole

protocol_length : (p : Protocol) → length (protocol_words p) ≡ 2
protocol_length Rfc3164 = refl
protocol_length (Rfc5424 v) = refl

level_length : (l : Option ℕ) → length (level_words l) ≡ 2
level_length None = refl
level_length (Some n) = refl

stamp_length : (s : Option Timestamp) → length (stamp_words s) ≡ 5
stamp_length None = refl
stamp_length (Some t) = refl

pub record_length : (r : Record) (e p : ℕ) → length (record_words r e p) ≡ word_count
unfolding record_words
record_length r e p =
    simp length-append (omega (arith, protocol_length r.protocol, level_length r.facility, level_length r.severity, stamp_length r.timestamp))

pub strict_length : (r : StrictRecord) (e p : ℕ) → length (strict_words r e p) ≡ strict_word_count
unfolding strict_words
strict_length r e p = simp length-append (omega (arith, record_length r.common e p))

record_room : (o : List ℕ) (r : Record) (e p : ℕ) → record_size ≤ length o → Room o 0 (record_words r e p)
record_room o r e p h = record { fits = record { fits = omega (arith, words_length (record_words r e p), record_length r e p) } }

-- ---- field after field

abbrev fields : Record → ℕ → ℕ → List (List ℕ)
fields r e p =
    protocol_words r.protocol
    ∷ level_words r.facility
    ∷ level_words r.severity
    ∷ stamp_words r.timestamp
    ∷ place_words r.host
    ∷ place_words r.app
    ∷ place_words r.procid
    ∷ place_words r.msgid
    ∷ end_words r e p
    ∷ []

-- all but the first `k` fields are still to come
abbrev pub FieldsLeft : List ℕ → Record → ℕ → ℕ → ℕ → List ℕ → ℕ → Type 0
FieldsLeft o r e p k q n = Pieces o (record_words r e p) q n (drop k (fields r e p))

pub fields_all : (o : List ℕ) (r : Record) (e p : ℕ) → record_size ≤ length o → FieldsLeft o r e p 0 o 0
unfolding record_words
fields_all o r e p h = pieces_all o (record_words r e p) (fields r e p) (record_room o r e p h) (simp append_assoc)

pub record_filled : (o : List ℕ) (r : Record) (e p n : ℕ) (q : List ℕ) → Puts o 0 (record_words r e p) n q → q ≡ filled (record_bytes r e p) o
record_filled o r e p n q w = w.wrote.holds ∙ written_front o (record_bytes r e p)

pub has_room : (o : List ℕ) → strict_size ≤ length o → record_size ≤ length o
has_room o h = omega (arith, h)

module _ (o : List ℕ) (r : StrictRecord) (e p : ℕ) (h : strict_size ≤ length o) where
  strict_room : Room o 0 (strict_words r e p)
  strict_room = record { fits = record { fits = omega (arith, words_length (strict_words r e p), strict_length r e p) } }

  pub strict_pieces : Pieces o (strict_words r e p) o 0 (record_words r.common e p ∷ place_words r.timestamp_text ∷ (mark r.has_message ∷ []) ∷ [])
  unfolding strict_words
  strict_pieces = pieces_all o (strict_words r e p) _ strict_room (simp append_assoc)

pub strict_filled : (o : List ℕ) (r : StrictRecord) (e p n : ℕ) (q : List ℕ) → Puts o 0 (strict_words r e p) n q → q ≡ filled (strict_bytes r e p) o
strict_filled o r e p n q w = w.wrote.holds ∙ written_front o (strict_bytes r e p)
