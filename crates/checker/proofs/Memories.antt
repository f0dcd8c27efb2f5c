-- A strict record that comes in as bytes, and the numbers of the answers.
use Rattle.std.specs.Prelude.{Result}
use Prim.Native.Nat.{ℕ, ◌+◌, ◌-◌, ◌*◌, ◌≤◌, ◌<◌}
use mathlib.Core.Path.{◌≡◌, sym, ap, ◌∙◌}
use mathlib.Core.Bool.{true, ◌&&◌}
use mathlib.Core.List.{List}
use native.Mathlib.Omega.{arith}
use lib.Dec.{eqb, leb, ltb}
use lib.ListN.{length, take, drop, length-drop}
use lib.Seq.{drop-drop}
use borrow.Author.Tests.{leb-true}
use Rattle.base.proofs.Tests.{clash, both}
use Rattle.record.specs.declared.Record.{Record}
use Rattle.record.specs.declared.StrictRecord.{StrictRecord}
use Rattle.record.specs.declared.Refusal.{Refusal}
use Rattle.layout.specs.Layout.{word_count, strict_word_count, record_size, strict_size}
use Rattle.layout.specs.Incoming.{number, word_at, holds_record, record_at, element_count_at, param_count_at}
use Rattle.claims.specs.Claims.{Checks, checked_number}
use Rattle.claims.proofs.Laws.{one_answer}
use Rattle.checker.specs.Memory.{text_word, message_mark_word, holds_strict, strict_at, ChecksBytes, OneNumber}
use Rattle.checker.specs.Memory.ChecksBytes.{held, unheld}

-- ---- the words

-- four words on
module _ (bytes : List ℕ) (i : ℕ) where
  pub word_later : (s : List ℕ) → s ≡ drop 32 bytes → 4 ≤ i → (n : ℕ) → n ≡ word_at s (i - 4) → n ≡ word_at bytes i
  unfolding word_at
  word_later s es l n e =
      let q : 32 + (i - 4) * 8 ≡ i * 8 = omega arith in
      e ∙ ap (λ (t : List ℕ). number (take 8 (drop ((i - 4) * 8) t))) es
      ∙ ap (λ (t : List ℕ). number (take 8 t)) (drop-drop ((i - 4) * 8) 32 bytes ∙ ap (λ (k : ℕ). drop k bytes) q)

  pub word_past : strict_size ≤ length bytes → 32 ≤ length bytes
  word_past h = omega arith

  pub word_room : strict_size ≤ length bytes → (s : List ℕ) → s ≡ drop 32 bytes → record_size ≤ length s
  word_room h s es = rw (es, length-drop 32 bytes) (omega arith)

  pub word_inside : i < strict_word_count → i - 4 < word_count
  word_inside h = omega arith

pub ruleset word_laws = (word_later, word_past, word_room, word_inside)

-- ---- the record

module _ (bytes : List ℕ) where
  module _ (h : holds_strict bytes ≡ true) where
    parts : (strict_size ≤ length bytes) × (holds_record bytes ≡ true)
    unfolding holds_strict
    parts =
        let x1 = leb strict_size (length bytes) in
        let x2 = holds_record bytes in
        let x3 = ltb (word_at bytes text_word) 2 in
        let x4 = ltb (word_at bytes message_mark_word) 2 in
        let u1 = both (x1 && x2 && x3) x4 h in
        let u2 = both (x1 && x2) x3 u1.0 in
        let u3 = both x1 x2 u2.0 in
        (leb-true strict_size (length bytes) u3.0, u3.1)

    pub strict_room : strict_size ≤ length bytes
    strict_room = parts.0

    pub strict_record : holds_record bytes ≡ true
    strict_record = parts.1

  pub strict_is : (c : Record) → c ≡ record_at bytes → (a b d n : ℕ) → a ≡ word_at bytes text_word → b ≡ word_at bytes (text_word + 1) → d ≡ word_at bytes (text_word + 2) → n ≡ word_at bytes message_mark_word
      → record { common = c; timestamp_text = record { present = eqb a 1; start = b; len = d }; has_message = eqb n 1 } ≡ strict_at bytes
  unfolding strict_at
  strict_is c ec a b d n ea eb ed en = rw (ec, ea, eb, ed, en)

pub ruleset strict_laws = (strict_room, strict_record, strict_is)

-- ---- the call

pub served : (line bytes : List ℕ) (elements params : List (List ℕ)) (n : ℕ) → holds_strict bytes ≡ true → (r : StrictRecord) → r ≡ strict_at bytes
    → (e : ℕ) → e ≡ element_count_at bytes → (p : ℕ) → p ≡ param_count_at bytes → (a : Result Unit Refusal) → Checks line r e p elements params a → n ≡ checked_number a
    → ChecksBytes line bytes elements params n
served line bytes elements params n q r er e ee p ep a h en = held q a (rw (← er, ← ee, ← ep) h) en

pub one_number : OneNumber
one_number line bytes elements params m n (held h a c q) (held k b d r) =
    q ∙ ap checked_number (one_answer line (strict_at bytes) (element_count_at bytes) (param_count_at bytes) elements params a b c d) ∙ sym r
one_number line bytes elements params m n (held h a c q) (unheld k r) = clash (sym h ∙ k)
one_number line bytes elements params m n (unheld h q) (held k b d r) = clash (sym k ∙ h)
one_number line bytes elements params m n (unheld h q) (unheld k r) = q ∙ sym r
