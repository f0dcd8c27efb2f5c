-- The outcome of a line: each text is UTF-8.
use Prim.Native.Nat.{ℕ, ◌+◌}
use mathlib.Core.Path.{◌≡◌, refl, subst}
use mathlib.Core.List.{List, [], ◌∷◌, ◌++◌, append-nil}
use mathlib.Core.Bool.{true}
use native.Mathlib.Omega.{arith}
use lib.Dec.{eqb}
use lib.ListN.{length, take, drop, take-append-drop}
use lib.IntN.{ℤ}
use Rattle.base.proofs.Tests.{by_if}
use Rattle.utf8.specs.Lead.{utf8_from, is_utf8}
use Rattle.utf8.proofs.Cuts.{cut_front}
use Rattle.white.specs.Trim.{text_end, trimmed}
use Rattle.white.specs.declared.Ends.{Ends}
use Rattle.white.proofs.ByCharacters.{end_cuts}
use Rattle.record.specs.declared.Record.{Record}
use Rattle.grammar.specs.Line.{Each}
use Rattle.structured_data.specs.Data.{Rows}
use Rattle.draft.specs.Outcome.{Outcome}
use Rattle.draft.specs.Outcome.Outcome.{no_reading, is_reading}
use Rattle.record.specs.Records.{message_alone}
use Rattle.loose.specs.Loose.{by_variant, outcome_of}
use Rattle.loose.proofs.Variants.{of_variant}
use Rattle.texts.specs.Texts.{OfRecord, OfElement, OfParam}
use Rattle.texts.proofs.Cuts.{between_text, at_start, at_end_lem}
use Rattle.texts.proofs.Records.{RecordCut, OutcomeCut, absent_cut, rfc5424_cut, rfc3164_reading_cut}

pub record OutcomeTexts (line : List ℕ) (r : Record) (rows : Rows) : Type 0 where
  pub of_record : OfRecord line r
  pub of_elements : Each (OfElement line) rows.elements
  pub of_params : Each (OfParam line) rows.params

abbrev pub TextsOf : List ℕ → Outcome → Type 0
TextsOf line no_reading = Unit {0}
TextsOf line (is_reading r at rows) = OutcomeTexts line r rows

each_of : {A : Type 0} {P Q : A → Type 0} → ((a : A) → P a → Q a) → (l : List A) → Each P l → Each Q l
each_of f [] h = tt
each_of f (a ∷ l) h = (f a h.0, each_of f l h.1)

-- the texts of what is read from `s`, in a line that goes on with `r`
module _ (s r : List ℕ) where
  record_texts : (x : Record) → RecordCut s x → OfRecord (s ++ r) x
  record_texts x c =
      record {
        host = between_text s r _ _ c.host;
        app = between_text s r _ _ c.app;
        procid = between_text s r _ _ c.procid;
        msgid = between_text s r _ _ c.msgid;
        message = between_text s r _ _ c.message;
      }

  texts_of : (o : Outcome) → OutcomeCut s o → TextsOf (s ++ r) o
  texts_of no_reading h = tt
  texts_of (is_reading x at rows) (c, d) =
      record {
        of_record = record_texts x c;
        of_elements = each_of (λ row b. between_text s r _ _ b) rows.elements d.ids;
        of_params = each_of (λ row b. record { name = between_text s r _ _ b.0; value = between_text s r _ _ b.1 }) rows.params d.params;
      }

module _ (line : List ℕ) (u : is_utf8 line ≡ true) where
  -- the trimmed line is cut at its end
  trimmed_utf8 : is_utf8 (take (trimmed line).end line) ≡ true
  unfolding trimmed utf8_from
  trimmed_utf8 = by_if (λ (x : Ends). is_utf8 (take x.end line) ≡ true) (eqb (text_end line) 0) _ _ (λ h. refl) (λ h. cut_front line u (text_end line) (end_cuts line u))

  pub outcome_texts : (variant year : ℕ) (offset : ℤ) → TextsOf line (outcome_of line variant year offset)
  unfolding outcome_of
  outcome_texts variant year offset =
      let ends = trimmed line in
      let s = take ends.end line in
      let o = by_variant variant year offset s ends.start in
      subst (λ (l : List ℕ). TextsOf l o) (take-append-drop ends.end line) (
      texts_of s (drop ends.end line) o (
      of_variant (OutcomeCut s) variant year offset s ends.start
      (rfc5424_cut s trimmed_utf8 ends.start) (rfc3164_reading_cut s trimmed_utf8 year offset ends.start))
      )

  -- a line that is the message whole
  pub whole_texts : OfRecord line (message_alone (length line))
  whole_texts =
      let z : length line ≡ 0 + length line = omega arith in
      let nowhere = absent_cut line u in
      subst (λ (l : List ℕ). OfRecord l (message_alone (length line))) (append-nil line)
      (record_texts line [] (message_alone (length line))
      (record { host = nowhere; app = nowhere; procid = nowhere; msgid = nowhere; message = record { from = at_start line u; to = rw z at (at_end_lem line u) } }))
