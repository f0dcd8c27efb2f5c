-- Entries past the counts and bytes past the result are as they were: what each contract leaves is filled as far as its answer counts.
use Rattle.std.specs.Prelude.{Result}
use Prim.Native.Nat.{ℕ}
use mathlib.Core.Path.{◌≡◌, refl, ap, ap₂}
use mathlib.Core.Bool.{Bool, not}
use mathlib.Core.List.{List}
use lib.Dec.{eqb, ltb}
use lib.ListN.{length, take, drop}
use lib.Seq.{drop-append_seam}
use lib.IntN.{ℤ}
use Rattle.base.specs.Fills.{filled}
use Rattle.base.proofs.Tests.{by_if}
use Rattle.utf8.specs.Lead.{is_utf8}
use Rattle.record.specs.Limits.{line_limit}
use Rattle.record.specs.Answers.{answer_of, strict_answer_of, output_answer_of}
use Rattle.record.specs.declared.Reading.{Reading}
use Rattle.record.specs.declared.StrictReading.{StrictReading}
use Rattle.output.specs.Output.{output_after}
use Rattle.draft.specs.Outcome.{Outcome}
use Rattle.draft.specs.Outcome.Outcome.{no_reading, is_reading}
use Rattle.loose.specs.Loose.{outcome_of, settings_ok, judged, table_after, rows_of, Reads}
use Rattle.grammar.specs.Reading.{data_at, element_rows, param_rows, StrictReads}
use Rattle.grammar.specs.Reading.StrictReads.{too_long, underivable, elements_over, params_over, accepted}
use Rattle.strict_data.proofs.Filling.{elements_many, all_many}
use Rattle.suits.specs.Suits.{suits}
use Rattle.message.specs.Message.{printed}
use Rattle.lookup.specs.Unescape.{unescaped}
use Rattle.lookup.specs.Lookup.{Found, found, value_answer, value_text}
use Rattle.contracts.specs.Services.{Service, Elements, Params, Lent, past}
use Rattle.contracts.specs.Demands.{RestIsKept}
use Rattle.record.specs.declared.Refusal.{Refusal}

rest_filled : {A : Type 0} (front old : List A) → drop (length front) (filled front old) ≡ drop (length front) old
rest_filled front old = drop-append_seam front (drop (length front) old)

-- ---- the loose reader

module _ (o : Outcome) (e₀ : Elements) (p₀ : Params) where
  abbrev Kept : Result Reading Refusal → Type 0
  Kept r =
      let rest = past (answer_of r).elements (answer_of r).params 0 in
      rest (Lent.tables (table_after r (rows_of o).elements e₀) (table_after r (rows_of o).params p₀)) ≡ rest (Lent.tables e₀ p₀)

judged_kept : (line : List ℕ) (o : Outcome) (e₀ : Elements) (p₀ : Params) → Kept o e₀ p₀ (judged line o (length e₀) (length p₀))
judged_kept line no_reading e₀ p₀ = refl
judged_kept line (is_reading r at rows) e₀ p₀ =
    let K = Kept (is_reading r at rows) e₀ p₀ in
    by_if K (ltb (length e₀) (length rows.elements)) _ _ (λ q. refl) (λ q.
    by_if K (ltb (length p₀) (length rows.params)) _ _ (λ q. refl)
    (λ q. ap₂ Lent.tables (rest_filled rows.elements e₀) (rest_filled rows.params p₀)))

loose_kept : {line : List ℕ} {variant year : ℕ} {offset : ℤ} {e₀ e₁ : Elements} {p₀ p₁ : Params} {r : Result Reading Refusal}
    → Reads line variant year offset e₀ p₀ r e₁ p₁
    → let rest = past (answer_of r).elements (answer_of r).params 0 in rest (Lent.tables e₁ p₁) ≡ rest (Lent.tables e₀ p₀)
loose_kept {line} {variant} {year} {offset} {e₀} {e₁} {p₀} {p₁} h =
    let o = outcome_of line variant year offset in
    let K = Kept o e₀ p₀ in
    rw (h.elements, h.params, h.answer)
    (by_if K (ltb line_limit (length line)) _ _ (λ q. refl) (λ q.
    by_if K (not (settings_ok variant year offset)) _ _ (λ q. refl) (λ q.
    by_if K (not (is_utf8 line)) _ _ (λ q. refl) (λ q. judged_kept line o e₀ p₀))))

-- ---- the strict reader

strict_kept : {line : List ℕ} {e₀ : Elements} {p₀ : Params} {r : Result StrictReading Refusal} {e₁ : Elements} {p₁ : Params} → StrictReads line e₀ p₀ r e₁ p₁
    → let rest = past (strict_answer_of r).elements (strict_answer_of r).params 0 in rest (Lent.tables e₁ p₁) ≡ rest (Lent.tables e₀ p₀)
strict_kept (too_long l a b c) = rw (b, c)
strict_kept (underivable l h a b c) = rw (b, c)
strict_kept (elements_over d l h m a b c) = rw (b, c)
strict_kept (params_over d l h k m a b c) = rw (b, c)
strict_kept {e₀} {p₀} (accepted d l h k m a b c) =
    let at = data_at d in
    let es = d.elements in
    rw (a, b, c, ← elements_many at es, ← all_many 0 at es)
    (ap₂ Lent.tables (rest_filled (element_rows at es) e₀) (rest_filled (param_rows 0 at es) p₀))

-- ---- printing and lookup

module _ (text old : List ℕ) where
  abbrev OutputKept : Result ℕ Refusal → Type 0
  OutputKept w = let rest = past 0 0 (output_answer_of w).len in rest (Lent.output (output_after w text old)) ≡ rest (Lent.output old)

value_kept : (loose : Bool) (f : Found) (old : List ℕ) → OutputKept (value_text loose f) old (value_answer loose f (length old))
value_kept loose Found.nothing old = refl
value_kept loose (Found.value v) old =
    let text = unescaped loose v in
    by_if (OutputKept text old) (ltb (length old) (length text)) _ _ (λ q. refl) (λ q. ap Lent.output (rest_filled text old))

pub rest_is_kept : RestIsKept
rest_is_kept Service.loose i x h = loose_kept h
rest_is_kept Service.strict i x h = strict_kept h
rest_is_kept Service.print i x h =
    let text = printed i.line i.reading (take i.element_count i.elements) (take i.param_count i.params) in
    let K = OutputKept text i.output in
    rw (h.output, h.answer)
    (by_if K (ltb line_limit (length i.line)) _ _ (λ q. refl) (λ q.
    by_if K (not (suits i.line i.reading i.element_count i.param_count i.elements i.params)) _ _ (λ q. refl) (λ q.
    by_if K (ltb (length i.output) (length text)) _ _ (λ q. refl) (λ q. ap Lent.output (rest_filled text i.output)))))
rest_is_kept Service.lookup i x h =
    let p = i.printing in
    let f = found p.line p.elements i.id i.name (take p.param_count p.params) in
    let K = OutputKept (value_text (eqb i.kind 0) f) p.output in
    rw (h.output, h.answer)
    (by_if K (ltb line_limit (length p.line)) _ _ (λ q. refl) (λ q.
    by_if K (ltb 1 i.kind) _ _ (λ q. refl) (λ q.
    by_if K (not (suits p.line p.reading p.element_count p.param_count p.elements p.params)) _ _ (λ q. refl) (λ q.
    value_kept (eqb i.kind 0) f p.output))))
