-- The strict reader's contract leaves nothing open: any two results that it allows are equal.
use Rattle.std.specs.Prelude.{if◌then◌else◌, Result, Ok, Err}
use Prim.Native.Nat.{ℕ}
use mathlib.Core.Path.{◌≡◌, refl, sym, ap, ◌∙◌}
use mathlib.Core.List.{List}
use lib.ListN.{length}
use lib.Dec.{leb}
use borrow.Author.Tests.{le-leb, lt-leb}
use Rattle.base.specs.Fills.{filled}
use Rattle.record.specs.Limits.{line_limit}
use Rattle.record.specs.declared.StrictReading.{StrictReading}
use Rattle.record.specs.declared.Refusal.{Refusal}
use Rattle.record.specs.declared.Refusal.TheVariants.{LineTooLong, NoReading, TooManyElements, TooManyParams}
use Rattle.grammar.specs.Line.{Division, Derives}
use Rattle.grammar.specs.Parse.{Parsed, parse}
use Rattle.grammar.specs.Parse.Parsed.{failed, found}
use Rattle.grammar.specs.Reading.{data_at, record_of, param_count, element_rows, param_rows, StrictReads}
use Rattle.grammar.specs.Reading.StrictReads.{too_long, underivable, elements_over, params_over, accepted}
use Rattle.grammar.proofs.Lines.{parse_sound, parse_found}

-- an answer, and what the tables hold then
pub record Outcome : Type 0 where
  pub reading : Result StrictReading Refusal
  pub elements : List (List ℕ)
  pub params : List (List ℕ)

module _ (e₀ p₀ : List (List ℕ)) where
  abbrev refused : Refusal → Outcome
  refused f = record { reading = Err f; elements = e₀; params = p₀ }

  abbrev read : Division → Outcome
  read d =
      record {
        reading = Ok (record { reading = record_of d; elements = length d.elements; params = param_count d.elements });
        elements = filled (element_rows (data_at d) d.elements) e₀;
        params = filled (param_rows 0 (data_at d) d.elements) p₀;
      }

  abbrev parsed : Parsed Division → Outcome
  parsed failed = refused NoReading
  parsed (found d n) =
      if leb (length d.elements) (length e₀) then (if leb (param_count d.elements) (length p₀) then read d else refused TooManyParams)
      else refused TooManyElements

  -- the outcome of a line
  pub outcome : List ℕ → Outcome
  outcome line = if leb (length line) line_limit then parsed (parse line) else refused LineTooLong

  fails : (line : List ℕ) → ((d : Division) → Derives line d → ⊥) → (o : Parsed Division) → parse line ≡ o → parse line ≡ failed
  fails line h failed e = e
  fails line h (found d n) e = absurd (h d (parse_sound line d n e))

  pub strict_outcome : {line : List ℕ} {r : Result StrictReading Refusal} {e₁ p₁ : List (List ℕ)} → StrictReads line e₀ p₀ r e₁ p₁
      → ◌≡◌ {A = Outcome} (record { reading = r; elements = e₁; params = p₁ }) (outcome line)
  unfolding outcome
  strict_outcome {line} (too_long l a b c) = rw (a, b, c, lt-leb (length line) line_limit l)
  strict_outcome {line} (underivable l h a b c) = rw (a, b, c, le-leb (length line) line_limit l, fails line h (parse line) refl)
  strict_outcome {line} (elements_over d l h m a b c) =
      rw (a, b, c, le-leb (length line) line_limit l, parse_found line d h, lt-leb (length d.elements) (length e₀) m)
  strict_outcome {line} (params_over d l h k m a b c) =
      rw (
        a,
        b,
        c,
        le-leb (length line) line_limit l,
        parse_found line d h,
        le-leb (length d.elements) (length e₀) k,
        lt-leb (param_count d.elements) (length p₀) m,
      )
  strict_outcome {line} (accepted d l h k m a b c) =
      rw (
        a,
        b,
        c,
        le-leb (length line) line_limit l,
        parse_found line d h,
        le-leb (length d.elements) (length e₀) k,
        le-leb (param_count d.elements) (length p₀) m,
      )

-- one line and one state of the tables have one result
pub strict_determined : {line : List ℕ} {e₀ p₀ : List (List ℕ)} {r r' : Result StrictReading Refusal} {e₁ e₁' p₁ p₁' : List (List ℕ)}
    → StrictReads line e₀ p₀ r e₁ p₁ → StrictReads line e₀ p₀ r' e₁' p₁'
    → (r ≡ r') × (e₁ ≡ e₁') × (p₁ ≡ p₁')
strict_determined {line} {e₀} {p₀} h k =
    let q = strict_outcome e₀ p₀ h ∙ sym (strict_outcome e₀ p₀ k) in
    (ap (λ (o : Outcome). o.reading) q, ap (λ (o : Outcome). o.elements) q, ap (λ (o : Outcome). o.params) q)
