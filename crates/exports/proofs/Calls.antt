-- The calls of the readers: what is left, from what was answered and read.
use Rattle.std.specs.Prelude.{if◌then◌else◌, Result, Ok, Err}
use Prim.Native.Nat.{ℕ, ◌≤◌, ◌<◌}
use mathlib.Core.Path.{◌≡◌, refl, sym, ap, ◌∙◌}
use mathlib.Core.Bool.{false}
use mathlib.Core.List.{List}
use lib.Dec.{eqb}
use lib.IntN.{ℤ}
use lib.ListN.{length}
use borrow.Author.Tests.{lt-ltb, le-ltb}
use mir.Syntax.{w32}
use mir.Val.{SFits, to_z, of_z}
use mir.ValLaws.{to_z-of_z}
use Rattle.base.specs.Fills.{filled}
use Rattle.base.proofs.Tests.{clash, by_test}
use Rattle.record.specs.Answers.{read_answer_of, strict_read_answer_of}
use Rattle.record.specs.declared.ReadAnswer.{ReadAnswer}
use Rattle.record.specs.Refusals.{refusal_number}
use Rattle.record.specs.declared.Refusal.{Refusal}
use Rattle.record.specs.declared.Refusal.TheVariants.{NoReading}
use Rattle.record.specs.declared.Reading.{Reading}
use Rattle.record.specs.declared.Reading.TheVariants.{Read, Whole}
use Rattle.record.specs.declared.StrictReading.{StrictReading}
use Rattle.layout.specs.Layout.{record_size, strict_size, strict_bytes}
use Rattle.grammar.specs.Reading.{StrictReads}
use Rattle.grammar.specs.Reading.StrictReads.{too_long, underivable, elements_over, params_over, accepted}
use Rattle.loose.specs.Loose.{outcome_of, answered, table_after, rows_of, Reads}
use Rattle.strict.specs.Scan as scan
use Rattle.strict.proofs.Readings.{answers}
use Rattle.viable.specs.Viable.{Reports}
use Rattle.exports.specs.Exports.{short_answer, Leaves, bytes_of, strict_bytes_of, with_reach, LeavesLoose, LeavesStrict}
use Rattle.exports.specs.Steps.{LeftBy, Left, StrictTold, StrictShort, StrictLeft}
use Rattle.exports.specs.Steps.StrictTold.{broke, other}
use Rattle.exports.proofs.Refusals.{not_0, only_4}

-- ---- the record of an answer

-- of a strict reading
module _ (line : List ℕ) where
  module _ (f : Refusal) (k : ℕ) (h : k ≡ refusal_number f) where
    pub told_broke : (n : ℕ) → Reports line n → StrictTold line (Err f) (record { number = k; whole = 0; reach = n })
    told_broke n report = broke n report (rw h)

    pub told_other : (f ≡ NoReading → ⊥) → StrictTold line (Err f) (record { number = k; whole = 0; reach = 0 })
    told_other z = other (only_4 f z) (rw h)

  -- a number that is told is not 0
  told_not_0 : (f : Refusal) (a : ReadAnswer) → StrictTold line (Err f) a → eqb a.number 0 ≡ false
  told_not_0 f a (broke n report e) = ap (λ (x : ReadAnswer). eqb x.number 0) e ∙ not_0 f
  told_not_0 f a (other z e) = ap (λ (x : ReadAnswer). eqb x.number 0) e ∙ not_0 f

  told_done : (x : StrictReading) → StrictTold line (Ok x) (record { number = 0; whole = 0; reach = 0 })
  told_done x = other (λ q. clash (ap (λ n. eqb n 4) (sym q))) refl

  module _ (r : Result StrictReading Refusal) (x : StrictReading) (q : r ≡ Ok x) where
    pub strict_read : (old new : List ℕ) → new ≡ filled (strict_bytes x.reading x.elements x.params) old
        → StrictLeft line r old (record { number = 0; whole = 0; reach = 0 }) new
    strict_read old new h = record { tells = rw q (told_done x); record_is = rw q h }

    pub short_read : StrictShort line r (record { number = 8; whole = 0; reach = 0 })
    short_read = record { told = record { number = 0; whole = 0; reach = 0 }; tells = rw q (told_done x); answer_is = refl }

  module _ (r : Result StrictReading Refusal) (f : Refusal) (q : r ≡ Err f) (a : ReadAnswer) (h : StrictTold line (Err f) a) where
    pub strict_refused : (old : List ℕ) → StrictLeft line r old a old
    strict_refused old = record { tells = rw q h; record_is = rw (told_not_0 f a h) }

    pub short_told : StrictShort line r a
    short_told = record { told = a; tells = rw q h; answer_is = rw (told_not_0 f a h) }

pub ruleset strict_laws = (strict_read, strict_refused, short_read, short_told)

-- ---- a call

never_zero : (a : ReadAnswer) → eqb (short_answer a).number 0 ≡ false
never_zero a =
    by_test (λ b. eqb a.number 0 ≡ b → eqb (if b then record { number = 8; whole = 0; reach = 0 } else a).number 0 ≡ false) (eqb a.number 0) (λ e q. refl) (λ e q. q) refl

module _ {A : Type 0} (told : A → ReadAnswer) (bytes : A → List ℕ) (size : ℕ) (ReadsTo : A → List (List ℕ) → List (List ℕ) → Type 0)
    (e₀ p₀ : List (List ℕ)) (out : List ℕ) (r : A) (e p : List (List ℕ)) (h : ReadsTo r e p) where
  -- with too little memory for the record nothing changes
  leaves_short : length out < size → (a : ReadAnswer) → a ≡ short_answer (told r) → Leaves told bytes size ReadsTo e₀ p₀ out a e₀ p₀ out
  leaves_short l a q =
      let z : eqb a.number 0 ≡ false = ap (λ (k : ReadAnswer). eqb k.number 0) q ∙ never_zero (told r) in
      record {
        answer = r;
        elements = e;
        params = p;
        reads = h;
        told_is = rw (lt-ltb (length out) size l) q;
        elements_are = rw z;
        params_are = rw z;
        record_is = rw z;
      }

  -- with enough the reading is left, whose refusals change no table
  leaves_all : size ≤ length out → (eqb (told r).number 0 ≡ false → (e ≡ e₀) × (p ≡ p₀)) → (a : ReadAnswer) (new : List ℕ) → LeftBy told bytes r out a new
      → Leaves told bytes size ReadsTo e₀ p₀ out a e p new
  leaves_all l same a new w =
      record {
        answer = r;
        elements = e;
        params = p;
        reads = h;
        told_is = rw (le-ltb (length out) size l) w.told_is;
        elements_are = by_test (λ b. eqb a.number 0 ≡ b → e ≡ (if b then e else e₀)) (eqb a.number 0) (λ t q. refl) (λ t q. (same (zero_is q)).0) refl;
        params_are = by_test (λ b. eqb a.number 0 ≡ b → p ≡ (if b then p else p₀)) (eqb a.number 0) (λ t q. refl) (λ t q. (same (zero_is q)).1) refl;
        record_is = w.record_is;
      }
    where
      zero_is : eqb a.number 0 ≡ false → eqb (told r).number 0 ≡ false
      zero_is q = ap (λ (k : ReadAnswer). eqb k.number 0) (sym w.told_is) ∙ q

-- ---- the loose reader

unread : (r : Result Reading Refusal) (rows old new : List (List ℕ)) → new ≡ table_after r rows old → eqb (read_answer_of r).number 0 ≡ false → new ≡ old
unread (Ok (Read r e p)) rows old new h q = clash q
unread (Ok (Whole r)) rows old new h q = h
unread (Err f) rows old new h q = h

module _ (line : List ℕ) (variant year : ℕ) (o : ℤ) (f : SFits w32 o) (e₀ p₀ : List (List ℕ)) (out : List ℕ) where
  pub loose_short : length out < record_size → (r : Result Reading Refusal) → r ≡ answered line variant year (to_z w32 (of_z w32 o)) (length e₀) (length p₀)
      → (a : ReadAnswer) → a ≡ short_answer (read_answer_of r) → LeavesLoose line variant year o e₀ p₀ out a e₀ p₀ out
  loose_short l r h a q =
      let rows = rows_of (outcome_of line variant year o) in
      leaves_short read_answer_of bytes_of record_size (Reads line variant year o e₀ p₀) e₀ p₀ out r (table_after r rows.elements e₀) (table_after r rows.params p₀)
      (record { answer = rw (to_z-of_z w32 o f) at h; elements = refl; params = refl }) l a q

  pub loose_all : record_size ≤ length out → (r : Result Reading Refusal) (e p : List (List ℕ)) → Reads line variant year (to_z w32 (of_z w32 o)) e₀ p₀ r e p
      → (a : ReadAnswer) (new : List ℕ) → Left r out a new → LeavesLoose line variant year o e₀ p₀ out a e p new
  loose_all l r e p k a new w =
      let h : Reads line variant year o e₀ p₀ r e p = rw (to_z-of_z w32 o f) at k in
      leaves_all read_answer_of bytes_of record_size (Reads line variant year o e₀ p₀) e₀ p₀ out r e p h l
      (λ q. (unread r _ e₀ e h.elements q, unread r _ p₀ p h.params q)) a new w

-- ---- the strict reader

strict_unread : {line : List ℕ} {e₀ p₀ : List (List ℕ)} {r : Result StrictReading Refusal} {e p : List (List ℕ)} → StrictReads line e₀ p₀ r e p
    → eqb (strict_read_answer_of r).number 0 ≡ false → (e ≡ e₀) × (p ≡ p₀)
strict_unread (too_long l a b c) q = (b, c)
strict_unread (underivable l h a b c) q = (b, c)
strict_unread (elements_over d l h m a b c) q = (b, c)
strict_unread (params_over d l h k m a b c) q = (b, c)
strict_unread (accepted d l h k m a b c) q = clash (rw a at q)

-- what is reported of the line, and told beside the number
abbrev Reported : List ℕ → Result StrictReading Refusal → ReadAnswer → Type 0
Reported line r a = (n : ℕ) × Reports line n × (a ≡ with_reach n (strict_read_answer_of r))

reported : {line : List ℕ} {e₀ p₀ : List (List ℕ)} {r : Result StrictReading Refusal} {e p : List (List ℕ)} {a : ReadAnswer} → StrictReads line e₀ p₀ r e p → StrictTold line r a
    → Reported line r a
reported h (broke n k e) = (n, k, e)
reported (too_long l a b c) (other z e) = (0, Reports.too_long l refl, e)
reported (underivable l h a b c) (other z e) = absurd (z (rw a refl))
reported (elements_over d l h m a b c) (other z e) = (0, Reports.derived d l h refl, e)
reported (params_over d l h k m a b c) (other z e) = (0, Reports.derived d l h refl, e)
reported (accepted d l h k m a b c) (other z e) = (0, Reports.derived d l h refl, e)

module _ (line : List ℕ) (e₀ p₀ : List (List ℕ)) (out : List ℕ) where
  pub strict_short : length out < strict_size → (r : Result StrictReading Refusal) → r ≡ scan.answered line (length e₀) (length p₀)
      → (a : ReadAnswer) → StrictShort line r a → LeavesStrict line e₀ p₀ out a e₀ p₀ out
  strict_short l r h a q =
      let t = answers line e₀ p₀ in
      let k : StrictReads line e₀ p₀ r t.elements t.params = rw h t.reads in
      let (n, report, told) = reported k q.tells in
      record {
        reach = n;
        reports = report;
        leaves = leaves_short (λ (r : Result StrictReading Refusal). with_reach n (strict_read_answer_of r)) strict_bytes_of strict_size (StrictReads line e₀ p₀) e₀ p₀ out r t.elements t.params k l a
            (q.answer_is ∙ ap short_answer told);
      }

  pub strict_all : strict_size ≤ length out → (r : Result StrictReading Refusal) (e p : List (List ℕ)) → StrictReads line e₀ p₀ r e p → (a : ReadAnswer) (new : List ℕ) → StrictLeft line r out a new
      → LeavesStrict line e₀ p₀ out a e p new
  strict_all l r e p h a new w =
      let (n, report, told) = reported h w.tells in
      record {
        reach = n;
        reports = report;
        leaves = leaves_all (λ (r : Result StrictReading Refusal). with_reach n (strict_read_answer_of r)) strict_bytes_of strict_size (StrictReads line e₀ p₀) e₀ p₀ out r e p h l (strict_unread h) a new
            (record { told_is = told; record_is = w.record_is });
      }
