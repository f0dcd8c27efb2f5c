-- The memory of the record after a call of a reader that answered 0 holds the reading's own record and counts (specs/Called.antt: MemoryHolds).
use Rattle.std.specs.Prelude.{if◌then◌else◌, Result, Ok, Err}
use Prim.Native.Nat.{ℕ}
use mathlib.Core.Path.{◌≡◌, refl, sym, ap, ◌∙◌}
use mathlib.Core.Bool.{Bool, true, false}
use mathlib.Core.List.{List, [], ◌∷◌, ◌++◌, append_assoc}
use lib.Dec.{eqb, ltb}
use lib.ListN.{length}
use lib.IntN.{ℤ}
use Rattle.base.specs.Fills.{filled}
use Rattle.base.proofs.Tests.{clash}
use Rattle.record.specs.Refusals.{refusal_number}
use Rattle.record.specs.Answers.{read_answer_of, strict_read_answer_of}
use Rattle.record.specs.declared.ReadAnswer.{ReadAnswer}
use Rattle.record.specs.declared.Record.{Record}
use Rattle.record.specs.declared.Reading.{Reading}
use Rattle.record.specs.declared.Reading.TheVariants as loose
use Rattle.record.specs.declared.StrictRecord.{StrictRecord}
use Rattle.record.specs.declared.StrictReading.{StrictReading}
use Rattle.record.specs.declared.Refusal.{Refusal}
use Rattle.layout.specs.Layout.{record_size, strict_size, words_bytes, mark, place_words, record_words, strict_words, record_bytes, strict_bytes}
use Rattle.layout.proofs.Words.{words_append}
use Rattle.layout.proofs.Back.{laid_held, laid_counts, laid_back}
use Rattle.loose.specs.Loose.{Reads}
use Rattle.grammar.specs.Reading.{StrictReads}
use Rattle.exports.specs.Exports.{left_answer, bytes_of, strict_bytes_of, with_reach, LeavesLoose, LeavesStrict}
use Rattle.exports.proofs.Refusals.{not_0}
use Rattle.suited.specs.Served.{Left}
use Rattle.boundary.specs.Called.{read, whole, Holds, StrictCommon, WholeLine, MemoryHolds}
use Rattle.boundary.proofs.Fitting.{left_in}

-- an answer of number 0, and a refusal's
abbrev done : ℕ → ReadAnswer
done mark = record { number = 0; whole = mark; reach = 0 }

abbrev refusing : ℕ → Refusal → ReadAnswer
refusing n f = record { number = refusal_number f; whole = 0; reach = n }

-- a refusal's number is never 0, with too little memory neither
never : {A : Type 0} (n mark : ℕ) (f : Refusal) (size room : ℕ) → done mark ≡ left_answer (refusing n f) size room → A
never {A} n mark f size room h = go (ltb room size) (rw (not_0 f) at h)
  where
    go : (b : Bool) → done mark ≡ (if b then refusing n f else refusing n f) → A
    go true h = clash (ap (λ (a : ReadAnswer). eqb a.number 0) h ∙ not_0 f)
    go false h = clash (ap (λ (a : ReadAnswer). eqb a.number 0) h ∙ not_0 f)

-- and a reading is told apart from a whole line
apart : {A : Type 0} (m k size room : ℕ) → eqb k k ≡ true → eqb m k ≡ false → done m ≡ left_answer (done k) size room → A
apart {A} m k size room t f h = go (ltb room size) h
  where
    go : (b : Bool) → done m ≡ (if b then record { number = 8; whole = 0; reach = 0 } else done k) → A
    go true h = clash (ap (λ (a : ReadAnswer). eqb a.number 0) h)
    go false h = clash (sym t ∙ sym (ap (λ (a : ReadAnswer). eqb a.whole k) h) ∙ f)

-- the words that the strict reader adds
abbrev added : StrictRecord → List ℕ
added s = place_words s.timestamp_text ++ (mark s.has_message ∷ [])

strict_front : (s : StrictRecord) (e p : ℕ) (rest : List ℕ) → strict_bytes s e p ++ rest ≡ record_bytes s.common e p ++ (words_bytes (added s) ++ rest)
unfolding strict_words
strict_front s e p rest =
    ap (λ (words : List ℕ). words_bytes words ++ rest) (append_assoc (record_words s.common e p) (place_words s.timestamp_text) _)
    ∙ ap (λ (bytes : List ℕ). bytes ++ rest) (words_append (record_words s.common e p) (added s))
    ∙ append_assoc (record_bytes s.common e p) (words_bytes (added s)) rest

module _ {line memory : List ℕ} {elements params : List (List ℕ)} where
  laid_holds : (Reads : Record → ℕ → ℕ → Type 0) → ((r : Record) (e p : ℕ) → Reads r e p → Left line r e p elements params)
      → (r : Record) (e p : ℕ) (rest : List ℕ) → memory ≡ record_bytes r e p ++ rest → Reads r e p → Holds memory Reads
  laid_holds Reads left r e p rest q h =
      let t = left_in (left r e p h) in
      let (n, m) = laid_counts r e p t rest in
      rw q (record { holds = laid_held r e p t rest; reads = rw (laid_back r e p t rest, n, m) h })

  module _ {variant year : ℕ} {offset : ℤ} {e₀ p₀ : List (List ℕ)} {out : List ℕ} where
    loose_holds : LeavesLoose line variant year offset e₀ p₀ out read elements params memory
        → Holds memory (λ r e p. Reads line variant year offset e₀ p₀ (Ok (loose.Read r e p)) elements params)
    loose_holds h = go h.answer (rw (← h.elements_are, ← h.params_are) at h.reads) h.told_is h.record_is
      where
        go : (a : Result Reading Refusal) → Reads line variant year offset e₀ p₀ a elements params → read ≡ left_answer (read_answer_of a) record_size (length out)
            → memory ≡ filled (bytes_of a) out → Holds memory (λ r e p. Reads line variant year offset e₀ p₀ (Ok (loose.Read r e p)) elements params)
        go (Ok (loose.Read r e p)) k t q =
            laid_holds (λ r e p. Reads line variant year offset e₀ p₀ (Ok (loose.Read r e p)) elements params) (λ r e p k. Left.by_loose k) r e p _ q k
        go (Ok (loose.Whole r)) k t q = apart 0 1 record_size (length out) refl refl t
        go (Err f) k t q = never 0 0 f record_size (length out) t

    whole_holds : LeavesLoose line variant year offset e₀ p₀ out whole elements params memory → Holds memory (WholeLine line variant year offset e₀ p₀ elements params)
    whole_holds h = go h.answer (rw (← h.elements_are, ← h.params_are) at h.reads) h.told_is h.record_is
      where
        go : (a : Result Reading Refusal) → Reads line variant year offset e₀ p₀ a elements params → whole ≡ left_answer (read_answer_of a) record_size (length out)
            → memory ≡ filled (bytes_of a) out → Holds memory (WholeLine line variant year offset e₀ p₀ elements params)
        go (Ok (loose.Read r e p)) k t q = apart 1 0 record_size (length out) refl refl t
        go (Ok (loose.Whole r)) k t q =
            laid_holds (WholeLine line variant year offset e₀ p₀ elements params) (λ r e p k. Left.by_whole k.reads k.no_elements k.no_params)
            r 0 0 _ q (record { reads = k; no_elements = refl; no_params = refl })
        go (Err f) k t q = never 0 1 f record_size (length out) t

  module _ {e₀ p₀ : List (List ℕ)} {out : List ℕ} where
    strict_holds : LeavesStrict line e₀ p₀ out read elements params memory → Holds memory (StrictCommon line e₀ p₀ elements params)
    strict_holds h = let l = h.leaves in go h.reach l.answer (rw (← l.elements_are, ← l.params_are) at l.reads) l.told_is l.record_is
      where
        go : (n : ℕ) (a : Result StrictReading Refusal) → StrictReads line e₀ p₀ a elements params → read ≡ left_answer (with_reach n (strict_read_answer_of a)) strict_size (length out)
            → memory ≡ filled (strict_bytes_of a) out → Holds memory (StrictCommon line e₀ p₀ elements params)
        go k (Ok x) h n q =
            laid_holds (StrictCommon line e₀ p₀ elements params) (λ r e p k. Left.by_strict k.reads k.common)
            x.reading.common x.elements x.params _ (q ∙ strict_front x.reading x.elements x.params _) (record { full = x.reading; common = refl; reads = h })
        go k (Err f) h n q = never k 0 f strict_size (length out) n

pub memory_holds : MemoryHolds
memory_holds = record { loose = loose_holds; whole_line = whole_holds; strict = strict_holds }
