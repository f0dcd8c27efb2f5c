-- The contracts leave nothing open: any two results that one allows on the same inputs are equal.
use Rattle.std.specs.Prelude.{Result}
use Prim.Native.Nat.{ℕ}
use mathlib.Core.Path.{◌≡◌, sym, ap, ap₂, ◌∙◌}
use mathlib.Core.List.{List}
use lib.IntN.{ℤ}
use lib.ListN.{length}
use Rattle.base.specs.Fills.{filled}
use Rattle.base.proofs.Tests.{clash}
use Rattle.record.specs.Answers.{read_answer_of, strict_read_answer_of, output_answer_of}
use Rattle.record.specs.declared.Record.{Record}
use Rattle.record.specs.declared.Refusal.{Refusal}
use Rattle.record.specs.declared.OutputAnswer.{OutputAnswer}
use Rattle.record.specs.declared.ReadAnswer.{ReadAnswer}
use Rattle.record.specs.declared.StrictReading.{StrictReading}
use Rattle.grammar.proofs.Readings.{strict_determined}
use Rattle.grammar.specs.Reading.{StrictReads}
use Rattle.viable.proofs.Laws.{reports_one}
use Rattle.loose.specs.Loose.{Reads}
use Rattle.loose.proofs.Determined.{one_reading}
use Rattle.message.specs.Prints.{Prints}
use Rattle.message.proofs.Laws.{answers_agree, outputs_agree}
use Rattle.lookup.specs.Lookup.{Looks}
use Rattle.lookup.proofs.Answers.{looks_one}
use Rattle.layout.specs.Layout.{record_size, strict_size}
use Rattle.layout.specs.Incoming.{record_at, element_count_at, param_count_at}
use Rattle.exports.specs.Exports.{left_answer, kept, Leaves, bytes_of, strict_bytes_of, with_reach, LeavesLoose, LeavesStrict, Serves, first_refusal, ServesPrint, ServesLookup}
use Rattle.exports.specs.Exports.Serves.{held, unheld}

-- the answer, the tables and the record's memory
pub record Same (a b : ReadAnswer) (e e' p p' : List (List ℕ)) (out out' : List ℕ) : Type 0 where
  pub answer : a ≡ b
  pub elements : e ≡ e'
  pub params : p ≡ p'
  pub memory : out ≡ out'

-- a reader, where its reading is determined
module _ {A : Type 0} (told : A → ReadAnswer) (bytes : A → List ℕ) (size : ℕ) (ReadsTo : A → List (List ℕ) → List (List ℕ) → Type 0)
    (one : (r s : A) (e₁ e₂ p₁ p₂ : List (List ℕ)) → ReadsTo r e₁ p₁ → ReadsTo s e₂ p₂ → (r ≡ s) × (e₁ ≡ e₂) × (p₁ ≡ p₂))
    (e₀ p₀ : List (List ℕ)) (out : List ℕ) where
  pub leaves_one : (a b : ReadAnswer) (e e' p p' : List (List ℕ)) (new new' : List ℕ)
      → Leaves told bytes size ReadsTo e₀ p₀ out a e p new → Leaves told bytes size ReadsTo e₀ p₀ out b e' p' new' → Same a b e e' p p' new new'
  leaves_one a b e e' p p' new new' h k =
      let (r, t, u) = one h.answer k.answer h.elements k.elements h.params k.params h.reads k.reads in
      let q : a ≡ b = h.told_is ∙ ap (λ (x : A). left_answer (told x) size (length out)) r ∙ sym k.told_is in
      record {
        answer = q;
        elements = h.elements_are ∙ ap₂ (λ (x : ReadAnswer) (t : List (List ℕ)). kept x.number t e₀) q t ∙ sym k.elements_are;
        params = h.params_are ∙ ap₂ (λ (x : ReadAnswer) (t : List (List ℕ)). kept x.number t p₀) q u ∙ sym k.params_are;
        memory = h.record_is ∙ ap₂ (λ (x : ReadAnswer) (y : A). kept x.number (filled (bytes y) out) out) q r ∙ sym k.record_is;
      }

-- a service, where it is determined
module _ (bytes : List ℕ) (first : Refusal) (Service : Record → ℕ → ℕ → Result ℕ Refusal → List ℕ → Type 0)
    (one : (v w : Result ℕ Refusal) (new other : List ℕ) → Service (record_at bytes) (element_count_at bytes) (param_count_at bytes) v new
    → Service (record_at bytes) (element_count_at bytes) (param_count_at bytes) w other → (v ≡ w) × (new ≡ other))
    (old : List ℕ) where
  pub serves_one : {a b : OutputAnswer} {new other : List ℕ} → Serves bytes first Service old a new → Serves bytes first Service old b other → (a ≡ b) × (new ≡ other)
  serves_one {a} {b} {new} {other} (held t v h e) (held u w k f) = let (x, y) = one v w new other h k in (e ∙ ap output_answer_of x ∙ sym f, y)
  serves_one (held t v h e) (unheld u f g) = clash (sym t ∙ u)
  serves_one (unheld t e g) (held u w k f) = clash (sym u ∙ t)
  serves_one (unheld t e g) (unheld u f k) = (e ∙ sym f, g ∙ sym k)

-- ---- the four functions

module _ (line : List ℕ) (e₀ p₀ : List (List ℕ)) (out : List ℕ) (a b : ReadAnswer) (e e' p p' : List (List ℕ)) (new new' : List ℕ) where
  pub loose_one : (variant year : ℕ) (offset : ℤ) → LeavesLoose line variant year offset e₀ p₀ out a e p new → LeavesLoose line variant year offset e₀ p₀ out b e' p' new'
      → Same a b e e' p p' new new'
  loose_one variant year offset =
      leaves_one read_answer_of bytes_of record_size (Reads line variant year offset e₀ p₀) (one_reading line variant year offset e₀ p₀) e₀ p₀ out a b e e' p p' new new'

  pub strict_one : LeavesStrict line e₀ p₀ out a e p new → LeavesStrict line e₀ p₀ out b e' p' new' → Same a b e e' p p' new new'
  strict_one h k =
      leaves_one (λ (r : Result StrictReading Refusal). with_reach h.reach (strict_read_answer_of r)) strict_bytes_of strict_size (StrictReads line e₀ p₀) (λ r s e₁ e₂ p₁ p₂ h k. strict_determined h k)
      e₀ p₀ out a b e e' p p' new new' h.leaves (rw (reports_one line h.reach k.reach h.reports k.reports) k.leaves)

module _ (line bytes : List ℕ) (elements params : List (List ℕ)) (old : List ℕ) {a b : OutputAnswer} {new other : List ℕ} where
  pub print_one : ServesPrint line bytes elements params old a new → ServesPrint line bytes elements params old b other → (a ≡ b) × (new ≡ other)
  print_one =
      let r = record_at bytes in
      let e = element_count_at bytes in
      let p = param_count_at bytes in
      serves_one bytes (first_refusal (length line) 0) (λ r e p w new. Prints line r e p elements params old w new)
      (λ v w new other h k. (answers_agree line r e p elements params old v w new other h k, outputs_agree line r e p elements params old v w new other h k)) old

  pub lookup_one : (id name : List ℕ) (kind : ℕ) → ServesLookup line bytes elements params id name kind old a new → ServesLookup line bytes elements params id name kind old b other
      → (a ≡ b) × (new ≡ other)
  lookup_one id name kind =
      serves_one bytes (first_refusal (length line) kind) (λ r e p w new. Looks line r e p elements params id name kind old w new) (λ v w new other h k. looks_one h k) old
