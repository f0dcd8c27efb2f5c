-- What a record and the rows tell of a line is what its division says; so the strict reader, on a line that was written, tells the fields handed in.
use Rattle.std.specs.Prelude.{if◌then◌else◌, Result, Ok}
use Prim.Native.Nat.{ℕ, suc, ◌+◌, ◌*◌, ◌/◌, ◌%◌, ◌≤◌}
use mathlib.Core.Path.{◌≡◌, refl, sym, ap, ap₂, ◌∙◌}
use mathlib.Core.Bool.{◌&&◌}
use mathlib.Core.List.{List, [], ◌∷◌, append-nil}
use mathlib.Core.Option.{Option, none, some}
use native.Mathlib.Omega.{arith}
use lib.Dec.{eqb}
use lib.ListN.{length, take, drop, length-append}
use lib.Seq.{take_at}
use Rattle.base.specs.Choose.{is_at}
use Rattle.base.specs.Texts.{text_at}
use Rattle.base.specs.Fills.{filled}
use Rattle.base.proofs.Tests.{by_test}
use Rattle.digits.specs.Digits.{decimal}
use Rattle.record.specs.Places.{absent, place}
use Rattle.record.specs.declared.StrictReading.{StrictReading}
use Rattle.grammar.specs.Line.{Param, Element, param_then, Division, element_then, data_then, message_text, ElementOk, Each, Derives}
use Rattle.grammar.specs.Reading.{place_of, message_span, message_flag, data_at, data_end, record_of, element_rows, rows_of_params, param_rows, param_count, StrictReads}
use Rattle.grammar.specs.Reading.StrictReads.{too_long, underivable, elements_over, params_over, accepted}
use Rattle.record.specs.Limits.{line_limit}
use Rattle.writes.specs.Fields.{Fields}
use Rattle.writes.specs.Written.{escape_params, escape_elements, division_of, written}
use Rattle.writes.specs.Says.{said_text, fields_of}
use Rattle.claims.specs.Claims.{claim_of}
use Rattle.writes.specs.Told.{told_text, told_message, told_elements, told_fields, answer_told}
use Rattle.claims.proofs.Places.{Here, here_next, here_text, here_as, laid}
use Rattle.writes.proofs.Rules.{Writable}
use Rattle.writes.proofs.Lines.{written_derives, written_said, division_is}
use Rattle.writes.proofs.Rows.{elements_told}
use Rattle.record.specs.declared.Refusal.{Refusal}

pub text_told : (line : List ℕ) (at : ℕ) (t : List ℕ) → text_at line at (length t) ≡ t → told_text line (place_of at t) ≡ said_text t
text_told line at t e =
    by_test (λ b. told_text line (if b then absent else place at (length t)) ≡ (if b then none else some t))
    (eqb (length t) 1 && is_at t 0 45) (λ q. refl) (λ q. ap some e)

pub message_told : (line : List ℕ) (at : ℕ) (m : Option (List ℕ)) → Here line at (message_text m) → told_message line (message_flag m) (message_span at m) ≡ m
message_told line at none h = refl
message_told line at (some m) h = ap some (here_text m [] (here_as (here_next h) (sym (append-nil m))))

pub data_told : (line : List ℕ) (at : ℕ) (es : List Element) (r : List ℕ) → Each ElementOk es → Here line at (data_then es r)
    → told_elements line 0 (element_rows at es) (param_rows 0 at es) ≡ es
data_told line at [] r ok h = refl
data_told line at (e ∷ es) r ok h = elements_told 0 at (e ∷ es) r ok h

module _ (line : List ℕ) (d : Division) (h : Derives line d) where
  pub told_said : told_fields line (claim_of d) ≡ fields_of d
  unfolding told_fields claim_of fields_of record_of
  told_said =
      let l = laid line d h in
      let p : decimal d.prival / 8 * 8 + decimal d.prival % 8 ≡ decimal d.prival = omega arith in
      rw (
        p,
        text_told line _ d.hostname l.host_is,
        text_told line _ d.app_name l.app_is,
        text_told line _ d.procid l.procid_is,
        text_told line _ d.msgid l.msgid_is,
        data_told line (data_at d) d.elements _ h.elements_ok l.at_data,
        message_told line (data_end d) d.message l.at_end_lem,
      )

-- ---- the tables hold the rows

pub length_elements : (at : ℕ) (es : List Element) → length (element_rows at es) ≡ length es
length_elements at [] = refl
length_elements at (e ∷ es) = ap suc (length_elements (at + length (element_then e [])) es)

length_own : (k at : ℕ) (ps : List Param) → length (rows_of_params k at ps) ≡ length ps
length_own k at [] = refl
length_own k at (p ∷ ps) = ap suc (length_own k (at + length (param_then p [])) ps)

pub length_params : (k at : ℕ) (es : List Element) → length (param_rows k at es) ≡ param_count es
length_params k at [] = refl
length_params k at (e ∷ es) =
    length-append (rows_of_params k (at + length e.id + 1) e.params) (param_rows (k + 1) (at + length (element_then e [])) es)
    ∙ omega (arith, length_own k (at + length e.id + 1) e.params, length_params (k + 1) (at + length (element_then e [])) es)

pub front_rows : {A : Type 0} (n : ℕ) (rows old : List A) → length rows ≡ n → take n (filled rows old) ≡ rows
front_rows n rows old e = take_at rows (drop (length rows) old) n e

-- what is accepted tells what the division says
pub accepted_told : (line : List ℕ) (d : Division) (e₀ p₀ : List (List ℕ)) → Derives line d
    → answer_told line (Ok (record { reading = record_of d; elements = length d.elements; params = param_count d.elements }))
    (filled (element_rows (data_at d) d.elements) e₀) (filled (param_rows 0 (data_at d) d.elements) p₀)
    ≡ some (fields_of d)
unfolding claim_of
accepted_told line d e₀ p₀ h =
    rw (
      front_rows (length d.elements) (element_rows (data_at d) d.elements) e₀ (length_elements (data_at d) d.elements),
      front_rows (param_count d.elements) (param_rows 0 (data_at d) d.elements) p₀ (length_params 0 (data_at d) d.elements),
    ) (ap some (told_said line d h))

count_written : (es : List Element) → param_count (escape_elements es) ≡ param_count es
count_written [] = refl
count_written (e ∷ es) = ap₂ (λ (a b : ℕ). a + b) (own e.params) (count_written es)
  where
    own : (ps : List Param) → length (escape_params ps) ≡ length ps
    own [] = refl
    own (p ∷ ps) = ap suc (own ps)

length_written : (es : List Element) → length (escape_elements es) ≡ length es
length_written [] = refl
length_written (e ∷ es) = ap suc (length_written es)

-- The strict reader with tables long enough accepts what is written and gives the same fields.
module _ (f : Fields) (w : Writable f) (short : length (written f) ≤ line_limit)
    (e₀ p₀ : List (List ℕ)) (room : length f.elements ≤ length e₀) (space : param_count f.elements ≤ length p₀) where
  elements_in_lem : (d : Division) → Derives (written f) d → length d.elements ≡ length f.elements
  unfolding division_of
  elements_in_lem d h = ap (λ (x : Division). length x.elements) (division_is f w d h) ∙ length_written f.elements

  params_in_lem : (d : Division) → Derives (written f) d → param_count d.elements ≡ param_count f.elements
  unfolding division_of
  params_in_lem d h = ap (λ (x : Division). param_count x.elements) (division_is f w d h) ∙ count_written f.elements

  pub reader_tells : (r : Result StrictReading Refusal) (e₁ p₁ : List (List ℕ)) → StrictReads (written f) e₀ p₀ r e₁ p₁ → answer_told (written f) r e₁ p₁ ≡ some f
  reader_tells r e₁ p₁ (too_long l a b c) = absurd (omega arith)
  reader_tells r e₁ p₁ (underivable l h a b c) = absurd (h (division_of f) (written_derives f w))
  reader_tells r e₁ p₁ (elements_over d l h m a b c) = absurd (omega (arith, elements_in_lem d h))
  reader_tells r e₁ p₁ (params_over d l h k m a b c) = absurd (omega (arith, params_in_lem d h))
  reader_tells r e₁ p₁ (accepted d l h k m a b c) =
      rw (a, b, c) (accepted_told (written f) d e₀ p₀ h ∙ ap some (ap fields_of (division_is f w d h) ∙ written_said f w))
