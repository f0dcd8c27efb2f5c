-- The demands of specs/Demands.antt, proved of the contracts.
use Rattle.std.specs.Prelude.{Result, Ok, Err}
use Prim.Native.Nat.{ℕ, ◌<◌, ◌≤◌}
use mathlib.Core.Path.{◌≡◌, refl, sym, ap, ap₂, ◌∙◌, subst}
use mathlib.Core.List.{List}
use lib.ListN.{length}
use lib.IntN.{ℤ}
use borrow.Author.Tests.{ltb-false}
use Rattle.record.specs.Limits.{line_limit}
use Rattle.record.specs.Records.{message_alone}
use Rattle.record.specs.Answers.{answer_of, strict_answer_of, output_answer_of}
use Rattle.record.specs.declared.Record.{Record}
use Rattle.record.specs.declared.StrictReading.{StrictReading}
use Rattle.record.specs.declared.Reading.{Reading}
use Rattle.record.specs.declared.Reading.TheVariants as loose
use Rattle.record.specs.declared.Refusal.{Refusal}
use Rattle.record.specs.declared.Refusal.TheVariants.{LineTooLong, BadSetting, NotUtf8, NoReading, TooManyElements, TooManyParams, Unsuitable, NotFound, OutputShort, CellFull, BadCount, FrameTooLong, BadLength, UnknownVersion, BadField, WrongClaim, Unwritable}
use Rattle.output.specs.Output.{output_after}
use Rattle.loose.specs.Loose.{table_after, Reads}
use Rattle.loose.specs.Judging.{Passes}
use Rattle.loose.proofs.Judging.{passed}
use Rattle.loose.proofs.Answers.{whole_is}
use Rattle.grammar.specs.Line.{Division}
use Rattle.grammar.specs.Reading.{StrictReads}
use Rattle.grammar.specs.Reading.StrictReads.{too_long, underivable, elements_over, params_over, accepted}
use Rattle.grammar.proofs.Lines.{unambiguous}
use Rattle.grammar.proofs.Readings.{strict_determined}
use Rattle.contracts.specs.Services.{Service, Elements, Params, Lent}
use Rattle.contracts.specs.Demands.{RefusedChangesNothing, refused_with, RefusedIsEmpty, AnsweredWhole, Unread, LooseCalls, Derivable, ElementsOver, ParamsOver, Underivable, Holds, StrictCall, Demand3}

-- ---- RULES Demands 1

tables_kept : (r : Result Reading Refusal) (rows old : List (List ℕ)) → ((answer_of r).number ≡ 0 → ⊥) → table_after r rows old ≡ old
tables_kept (Ok (loose.Read x e p)) rows old n = absurd (n refl)
tables_kept (Ok (loose.Whole x)) rows old n = refl
tables_kept (Err f) rows old n = refl

output_kept : (w : Result ℕ Refusal) (text old : List ℕ) → ((output_answer_of w).number ≡ 0 → ⊥) → output_after w text old ≡ old
output_kept (Ok k) text old n = absurd (n refl)
output_kept (Err f) text old n = refl

strict_kept : {line : List ℕ} {e₀ : Elements} {p₀ : Params} {r : Result StrictReading Refusal} {e₁ : Elements} {p₁ : Params}
    → StrictReads line e₀ p₀ r e₁ p₁ → ((strict_answer_of r).number ≡ 0 → ⊥) → Lent.tables e₁ p₁ ≡ Lent.tables e₀ p₀
strict_kept (too_long l a b c) n = ap₂ Lent.tables b c
strict_kept (underivable l h a b c) n = ap₂ Lent.tables b c
strict_kept (elements_over d l h m a b c) n = ap₂ Lent.tables b c
strict_kept (params_over d l h k m a b c) n = ap₂ Lent.tables b c
strict_kept (accepted d l h k m a b c) n = absurd (n (ap (λ (r : Result StrictReading Refusal). (strict_answer_of r).number) a))

pub refused_changes_nothing : RefusedChangesNothing
refused_changes_nothing Service.loose i x h n =
    ap₂ Lent.tables (h.elements ∙ tables_kept x.answer _ i.elements n) (h.params ∙ tables_kept x.answer _ i.params n)
refused_changes_nothing Service.strict i x h n = strict_kept h n
refused_changes_nothing Service.print i x h n = ap Lent.output (h.output ∙ output_kept x.answer _ i.output n)
refused_changes_nothing Service.lookup i x h n = ap Lent.output (h.output ∙ output_kept x.answer _ i.printing.output n)

-- ---- RULES Numbers d

loose_empty : (r : Result Reading Refusal) → ((answer_of r).number ≡ 0 → ⊥) → answer_of r ≡ refused_with Service.loose (answer_of r).number
loose_empty (Ok (loose.Read x e p)) n = absurd (n refl)
loose_empty (Ok (loose.Whole x)) n = absurd (n refl)
loose_empty (Err f) n = refl

strict_empty : (r : Result StrictReading Refusal) → ((strict_answer_of r).number ≡ 0 → ⊥) → strict_answer_of r ≡ refused_with Service.strict (strict_answer_of r).number
strict_empty (Ok y) n = absurd (n refl)
strict_empty (Err f) n = refl

output_empty : (w : Result ℕ Refusal) → ((output_answer_of w).number ≡ 0 → ⊥) → output_answer_of w ≡ refused_with Service.print (output_answer_of w).number
output_empty (Ok k) n = absurd (n refl)
output_empty (Err f) n = refl

pub refused_is_empty : RefusedIsEmpty
refused_is_empty Service.loose x n = loose_empty x.answer n
refused_is_empty Service.strict x n = strict_empty x.answer n
refused_is_empty Service.print x n = output_empty x.answer n
refused_is_empty Service.lookup x n = output_empty x.answer n

-- ---- a line that the rules give no reading

module _ {line : List ℕ} {variant year : ℕ} {offset : ℤ} {e₀ : Elements} {p₀ : Params} {r : Result Reading Refusal} {e₁ : Elements} {p₁ : Params}
    (h : Reads line variant year offset e₀ p₀ r e₁ p₁) where
  module _ (a : AnsweredWhole r) where
    call : Reads line variant year offset e₀ p₀ (Ok (loose.Whole a.reading)) e₁ p₁
    call = rw a.is at h

    unread : Unread line variant year offset
    unread =
        let w = whole_is call in
        record { limit = ltb-false line_limit (length line) w.short; settings = w.settings; text = w.text; none = w.is.none }

    alone : r ≡ Ok (loose.Whole (message_alone (length line)))
    alone = let whole : Record → Result Reading Refusal = λ x. Ok (loose.Whole x) in a.is ∙ ap whole (whole_is call).is.alone

  answered_whole : Unread line variant year offset → AnsweredWhole r
  answered_whole u =
      let passes : Passes line variant year offset = record { short = u.limit; settings = u.settings; text = u.text } in
      record {
        reading = message_alone (length line);
        is = h.answer ∙ sym (passed line variant year offset passes (length e₀) (length p₀) _ (rw u.none));
      }

pub loose_calls : LooseCalls
loose_calls =
    record {
      each_call = λ h. record {
        whole_exactly = record { only = unread h; whenever = answered_whole h };
        whole_is_alone = alone h;
        tables_kept = λ a. ((call h a).elements, (call h a).params);
      };
    }

-- ---- RULES Demands 3

module _ (line : List ℕ) (e₀ : Elements) (p₀ : Params) where
  -- why a call is answered so
  abbrev WhyRefused : Refusal → Type 0
  WhyRefused LineTooLong = line_limit < length line
  WhyRefused NoReading = (length line ≤ line_limit) × Underivable line
  WhyRefused TooManyElements = ElementsOver line e₀
  WhyRefused TooManyParams = ParamsOver line e₀ p₀
  WhyRefused BadSetting = ⊥
  WhyRefused NotUtf8 = ⊥
  WhyRefused Unsuitable = ⊥
  WhyRefused NotFound = ⊥
  WhyRefused OutputShort = ⊥
  WhyRefused CellFull = ⊥
  WhyRefused BadCount = ⊥
  WhyRefused FrameTooLong = ⊥
  WhyRefused BadLength = ⊥
  WhyRefused UnknownVersion = ⊥
  WhyRefused BadField = ⊥
  WhyRefused WrongClaim = ⊥
  WhyRefused Unwritable = ⊥

  abbrev Why : Result StrictReading Refusal → Type 0
  Why (Ok x) = Derivable line e₀ p₀
  Why (Err f) = WhyRefused f

  module _ {r : Result StrictReading Refusal} {e₁ : Elements} {p₁ : Params} where
    why : StrictReads line e₀ p₀ r e₁ p₁ → Why r
    why (too_long l a b c) = rw a l
    why (underivable l h a b c) = rw a (l, h)
    why (elements_over d l h m a b c) = rw a (record { division = d; derived = h; short = l; many = m })
    why (params_over d l h k m a b c) = rw a (record { division = d; derived = h; short = l; many = (k, m) })
    why (accepted d l h k m a b c) = rw a (record { division = d; derived = h; short = l; many = (k, m) })

    module _ (call : StrictReads line e₀ p₀ r e₁ p₁) where
      because : {s : Result StrictReading Refusal} → r ≡ s → Why s
      because q = subst Why q (why call)

      holds : (f : Derivable line e₀ p₀) → Holds f.division e₀ p₀ r e₁ p₁
      holds f =
          let q = strict_determined call (accepted f.division f.short f.derived f.many.0 f.many.1 refl refl refl) in
          record { answer = q.0; elements = q.1; params = q.2 }

      over_elements : ElementsOver line e₀ → r ≡ Err TooManyElements
      over_elements f = (strict_determined call (elements_over f.division f.short f.derived f.many refl refl refl)).0

      over_params : ParamsOver line e₀ p₀ → r ≡ Err TooManyParams
      over_params f = (strict_determined call (params_over f.division f.short f.derived f.many.0 f.many.1 refl refl refl)).0

      strict_call : StrictCall line e₀ p₀ r e₁ p₁
      strict_call =
          record {
            accepts_exactly = record { only = λ w. because w.is; whenever = λ f. record { reading = _; elements = _; params = _; is = (holds f).answer } };
            refuses_exactly = record { only = because; whenever = λ h. (strict_determined call (underivable h.0 h.1 refl refl refl)).0 };
            five_exactly = record { only = because; whenever = over_elements };
            six_exactly = record { only = because; whenever = over_params };
            holds_the_one = λ w d h.
                let f : Derivable line e₀ p₀ = because w.is in
                subst (λ (c : Division). Holds c e₀ p₀ r e₁ p₁) (unambiguous line f.division d f.derived h) (holds f);
            limit_exactly = record { only = because; whenever = λ l. (strict_determined call (too_long l refl refl refl)).0 };
          }

pub demand_3 : Demand3
demand_3 = record { one_division = unambiguous; each_call = strict_call _ _ _ }
