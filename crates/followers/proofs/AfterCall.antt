-- What the strict reader laid out comes back as the claim that it was made of, and so is told yes.
use Rattle.std.specs.Prelude.{Result}
use Prim.Native.Nat.{ℕ, ◌+◌, ◌*◌, ◌≤◌, ◌<◌}
use mathlib.Core.Path.{◌≡◌, sym, ap, ◌∙◌}
use mathlib.Core.Bool.{Bool, true, false}
use mathlib.Core.List.{List, [], ◌∷◌, ◌++◌, append_assoc}
use native.Mathlib.Omega.{arith}
use lib.Dec.{eqb, ltb}
use lib.ListN.{length, take, drop, replicate, length-append}
use lib.Seq.{drop-append-add}
use borrow.Author.Tests.{le-leb}
use Rattle.base.specs.Fills.{filled}
use Rattle.base.proofs.Tests.{clash}
use Rattle.record.specs.Limits.{line_limit}
use Rattle.record.specs.Records.{empty_record}
use Rattle.record.specs.declared.StrictRecord.{StrictRecord}
use Rattle.record.specs.declared.StrictReading.{StrictReading}
use Rattle.layout.specs.Layout.{strict_size, word_count, words_bytes, mark, place_words, record_words, strict_words, record_bytes, strict_bytes}
use Rattle.layout.specs.Incoming.{number, word_at, holds_record, record_at, element_count_at, param_count_at}
use Rattle.layout.proofs.Words.{words_append, words_length}
use Rattle.layout.proofs.Fields.{record_length, strict_length}
use Rattle.layout.proofs.Back.{InTypes, laid_counts}
use Rattle.grammar.proofs.Readings.{strict_determined}
use Rattle.exports.specs.Exports.{strict_bytes_of, LeavesStrict}
use Rattle.boundary.specs.Called.{read, StrictCommon}
use Rattle.boundary.proofs.Memory.{memory_holds}
use Rattle.claims.specs.Claims.{checked_number}
use Rattle.checker.specs.Memory.{text_word, message_mark_word, holds_strict, strict_at, ChecksBytes}
use Rattle.checker.specs.Memory.ChecksBytes.{held, unheld}
use Rattle.followers.specs.Told.{LeftIsTold}
use Rattle.followers.proofs.Followers.{text_in, reader_is_told}
use Rattle.record.specs.declared.Refusal.{Refusal}

-- ---- words behind others

behind : (x y : List ℕ) (i j : ℕ) → length x ≡ i * 8 → word_at (x ++ y) (i + j) ≡ word_at y j
unfolding word_at
behind x y i j l =
    let q : (i + j) * 8 ≡ length x + j * 8 = omega arith in
    ap (λ (k : ℕ). number (take 8 (drop k (x ++ y)))) q ∙ ap (λ (s : List ℕ). number (take 8 s)) (drop-append-add x y (j * 8))

-- words in two parts, and what stands behind them
parted : (x y rest : List ℕ) → words_bytes (x ++ y) ++ rest ≡ words_bytes x ++ (words_bytes y ++ rest)
parted x y rest = ap (λ (bytes : List ℕ). bytes ++ rest) (words_append x y) ∙ append_assoc (words_bytes x) (words_bytes y) rest

-- two words come back, as the counts of a record do
module _ (m n : ℕ) (lm : m < 18446744073709551616) (ln : n < 18446744073709551616) (rest : List ℕ) where
  abbrev zeros : List ℕ
  zeros = replicate 25 0

  abbrev pair : List ℕ
  pair = words_bytes (m ∷ n ∷ []) ++ rest

  counts_in : InTypes empty_record m n
  counts_in =
      let z : 0 < 18446744073709551616 = omega arith in
      record {
        protocol_in = tt;
        facility_in = tt;
        severity_in = tt;
        timestamp_in = tt;
        host_in = (z, z);
        app_in = (z, z);
        procid_in = (z, z);
        msgid_in = (z, z);
        message_in = (z, z);
        counts_in = (lm, ln);
      }

  counts_are : record_bytes empty_record m n ++ rest ≡ words_bytes zeros ++ pair
  unfolding record_words
  counts_are = parted zeros (m ∷ n ∷ []) rest

  pair_word : (i k : ℕ) → word_at (record_bytes empty_record m n ++ rest) (25 + i) ≡ k → word_at pair i ≡ k
  pair_word i k h = sym (behind (words_bytes zeros) pair 25 i (words_length zeros)) ∙ sym (ap (λ (s : List ℕ). word_at s (25 + i)) counts_are) ∙ h

  first_word : word_at pair 0 ≡ m
  first_word = pair_word 0 m (laid_counts empty_record m n counts_in rest).0

  second_word : word_at pair 1 ≡ n
  second_word = pair_word 1 n (laid_counts empty_record m n counts_in rest).1

-- ---- the strict record

mark_in : (b : Bool) → mark b < 18446744073709551616
mark_in true = omega arith
mark_in false = omega arith

mark_said : (b : Bool) (n : ℕ) → n ≡ mark b → (ltb n 2 ≡ true) × (eqb n 1 ≡ b)
mark_said true n h = (rw h, rw h)
mark_said false n h = (rw h, rw h)

module _ (s : StrictRecord) (e p : ℕ) (l : s.timestamp_text.start + s.timestamp_text.len ≤ line_limit) (rest memory : List ℕ) (q : memory ≡ strict_bytes s e p ++ rest) where
  abbrev text : List ℕ
  text = mark s.timestamp_text.present ∷ s.timestamp_text.start ∷ []

  abbrev message : List ℕ
  message = s.timestamp_text.len ∷ mark s.has_message ∷ []

  abbrev tail : List ℕ
  tail = words_bytes text ++ (words_bytes message ++ rest)

  memory_is : memory ≡ record_bytes s.common e p ++ tail
  unfolding strict_words
  memory_is =
      q
      ∙ ap (λ (words : List ℕ). words_bytes words ++ rest) (append_assoc (record_words s.common e p) (place_words s.timestamp_text) (mark s.has_message ∷ []))
      ∙ parted (record_words s.common e p) (text ++ message) rest
      ∙ ap (λ (bytes : List ℕ). record_bytes s.common e p ++ bytes) (parted text message rest)

  tail_word : (j n : ℕ) → word_at tail j ≡ n → word_at memory (word_count + j) ≡ n
  tail_word j n h =
      ap (λ (bytes : List ℕ). word_at bytes (word_count + j)) memory_is
      ∙ behind (record_bytes s.common e p) tail word_count j (omega (arith, words_length (record_words s.common e p), record_length s.common e p))
      ∙ h

  text_present : word_at memory text_word ≡ mark s.timestamp_text.present
  text_present = tail_word 0 _ (first_word _ _ (mark_in s.timestamp_text.present) (omega arith) (words_bytes message ++ rest))

  text_start : word_at memory (text_word + 1) ≡ s.timestamp_text.start
  text_start = tail_word 1 _ (second_word _ _ (mark_in s.timestamp_text.present) (omega arith) (words_bytes message ++ rest))

  text_len : word_at memory (text_word + 2) ≡ s.timestamp_text.len
  text_len = tail_word 2 _ (behind (words_bytes text) (words_bytes message ++ rest) 2 0 (words_length text) ∙ first_word _ _ (omega arith) (mark_in s.has_message) rest)

  message_mark_lem : word_at memory message_mark_word ≡ mark s.has_message
  message_mark_lem = tail_word 3 _ (behind (words_bytes text) (words_bytes message ++ rest) 2 1 (words_length text) ∙ second_word _ _ (omega arith) (mark_in s.has_message) rest)

  memory_long : strict_size ≤ length memory
  memory_long = rw q (omega (arith, length-append (strict_bytes s e p) rest, words_length (strict_words s e p), strict_length s e p))

  strict_held : holds_record memory ≡ true → holds_strict memory ≡ true
  unfolding holds_strict
  strict_held h =
      rw (
        le-leb strict_size (length memory) memory_long,
        h,
        (mark_said s.timestamp_text.present _ text_present).0,
        (mark_said s.has_message _ message_mark_lem).0,
      )

  strict_back : record_at memory ≡ s.common → strict_at memory ≡ s
  unfolding strict_at
  strict_back h =
      rw (
        h,
        (mark_said s.timestamp_text.present _ text_present).1,
        text_start,
        text_len,
        (mark_said s.has_message _ message_mark_lem).1,
      )

-- ---- the call

module _ {line out memory : List ℕ} {e₀ p₀ elements params : List (List ℕ)} (h : LeavesStrict line e₀ p₀ out read elements params memory) where
  common : StrictCommon line e₀ p₀ elements params (record_at memory) (element_count_at memory) (param_count_at memory)
  common = (memory_holds.strict h).reads

  abbrev rest : List ℕ
  rest = drop (length (strict_bytes common.full (element_count_at memory) (param_count_at memory))) out

  memory_laid : memory ≡ strict_bytes common.full (element_count_at memory) (param_count_at memory) ++ rest
  memory_laid = h.leaves.record_is ∙ ap (λ (r : Result StrictReading Refusal). filled (strict_bytes_of r) out) (strict_determined h.leaves.reads common.reads).0

  told : {n : ℕ} → ChecksBytes line memory elements params n → n ≡ 0
  told (unheld k z) =
      clash (sym (strict_held common.full _ _ (text_in common.reads) rest memory memory_laid (memory_holds.strict h).holds) ∙ k)
  told (held k a x z) =
      let b = strict_back common.full _ _ (text_in common.reads) rest memory memory_laid common.common in
      z ∙ ap checked_number (reader_is_told line e₀ p₀ elements params common.full _ _ a common.reads (rw b at x))

pub left_is_told : LeftIsTold
left_is_told line out memory e₀ p₀ elements params n h c = told h c
