-- Which numbers the services answer: each contract's refusals, gone through.
use Rattle.std.specs.Prelude.{if◌then◌else◌, Result}
use Prim.Native.Nat.{ℕ}
use mathlib.Core.Path.{◌≡◌, refl}
use mathlib.Core.Bool.{Bool, true, false, not}
use mathlib.Core.List.{List}
use lib.Dec.{eqb, ltb}
use lib.ListN.{length, take}
use Rattle.utf8.specs.Lead.{is_utf8}
use Rattle.record.specs.Limits.{line_limit}
use Rattle.record.specs.Answers.{answer_of, strict_answer_of, output_answer_of}
use Rattle.record.specs.declared.Reading.{Reading}
use Rattle.record.specs.declared.StrictReading.{StrictReading}
use Rattle.draft.specs.Outcome.{Outcome}
use Rattle.draft.specs.Outcome.Outcome.{no_reading, is_reading}
use Rattle.loose.specs.Loose.{outcome_of, settings_ok, judged}
use Rattle.grammar.specs.Reading.{StrictReads}
use Rattle.grammar.specs.Reading.StrictReads.{too_long, underivable, elements_over, params_over, accepted}
use Rattle.suits.specs.Suits.{suits}
use Rattle.message.specs.Message.{printed}
use Rattle.lookup.specs.Unescape.{unescaped}
use Rattle.lookup.specs.Lookup.{Found, found, value_answer}
use Rattle.contracts.specs.Services.{Service, Elements, Params}
use Rattle.contracts.specs.Demands.{numbers, among, NoOtherNumber}
use Rattle.record.specs.declared.Refusal.{Refusal}

abbrev Gives : Service → ℕ → Type 0
Gives s n = among n (numbers s) ≡ true

-- of two answers, by a test
either : {A : Type 0} (s : Service) (n : A → ℕ) (b : Bool) (x y : A) → Gives s (n x) → Gives s (n y) → Gives s (n (if b then x else y))
either s n true x y h k = h
either s n false x y h k = k

abbrev of : Result Reading Refusal → ℕ
of r = (answer_of r).number

abbrev to : Result ℕ Refusal → ℕ
to w = (output_answer_of w).number

-- refusals 5 and 6, after the others
judged_gives : (line : List ℕ) (o : Outcome) (e p : ℕ) → Gives Service.loose (of (judged line o e p))
judged_gives line no_reading e p = refl
judged_gives line (is_reading r at rows) e p =
    either Service.loose of (ltb e (length rows.elements)) _ _ refl (either Service.loose of (ltb p (length rows.params)) _ _ refl refl)

strict_gives : {line : List ℕ} {e₀ : Elements} {p₀ : Params} {r : Result StrictReading Refusal} {e₁ : Elements} {p₁ : Params}
    → StrictReads line e₀ p₀ r e₁ p₁ → Gives Service.strict (strict_answer_of r).number
strict_gives (too_long l a b c) = rw a
strict_gives (underivable l h a b c) = rw a
strict_gives (elements_over d l h m a b c) = rw a
strict_gives (params_over d l h k m a b c) = rw a
strict_gives (accepted d l h k m a b c) = rw a

value_gives : (loose : Bool) (f : Found) (out : ℕ) → Gives Service.lookup (to (value_answer loose f out))
value_gives loose Found.nothing out = refl
value_gives loose (Found.value v) out = either Service.lookup to (ltb out (length (unescaped loose v))) _ _ refl refl

pub no_other_number : NoOtherNumber
no_other_number Service.loose i x h =
    rw h.answer
    (either Service.loose of (ltb line_limit (length i.line)) _ _ refl
    (either Service.loose of (not (settings_ok i.variant i.year i.offset)) _ _ refl
    (either Service.loose of (not (is_utf8 i.line)) _ _ refl
    (judged_gives i.line (outcome_of i.line i.variant i.year i.offset) (length i.elements) (length i.params)))))
no_other_number Service.strict i x h = strict_gives h
no_other_number Service.print i x h =
    let text = printed i.line i.reading (take i.element_count i.elements) (take i.param_count i.params) in
    rw h.answer
    (either Service.print to (ltb line_limit (length i.line)) _ _ refl
    (either Service.print to (not (suits i.line i.reading i.element_count i.param_count i.elements i.params)) _ _ refl
    (either Service.print to (ltb (length i.output) (length text)) _ _ refl refl)))
no_other_number Service.lookup i x h =
    let p = i.printing in
    rw h.answer
    (either Service.lookup to (ltb line_limit (length p.line)) _ _ refl
    (either Service.lookup to (ltb 1 i.kind) _ _ refl
    (either Service.lookup to (not (suits p.line p.reading p.element_count p.param_count p.elements p.params)) _ _ refl
    (value_gives (eqb i.kind 0) (found p.line p.elements i.id i.name (take p.param_count p.params)) (length p.output)))))
