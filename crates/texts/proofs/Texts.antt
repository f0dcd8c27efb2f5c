-- Whole characters, as specs/Texts.antt says it: what the loose reader leaves, and what lookup gives and printing writes of it.
use Rattle.std.specs.Prelude.{if◌then◌else◌, Result, Ok, Err}
use Prim.Native.Nat.{ℕ}
use mathlib.Core.Path.{◌≡◌, refl}
use mathlib.Core.List.{List, [], ◌∷◌}
use mathlib.Core.Bool.{Bool, true, false, not, ◌&&◌}
use lib.Dec.{ltb, eqb}
use lib.ListN.{length, get_or, take, drop}
use lib.IntN.{ℤ}
use lib.Seq.{take-append_seam}
use Rattle.base.specs.Fills.{filled}
use Rattle.base.specs.Texts.{text_at, same_text}
use Rattle.base.proofs.Tests.{clash, by_if}
use Rattle.utf8.specs.Rfc3629.{Utf8}
use Rattle.utf8.proofs.Texts.{utf8_sound, utf8_complete}
use Rattle.record.specs.Limits.{line_limit}
use Rattle.record.specs.declared.Record.{Record}
use Rattle.record.specs.declared.Reading.TheVariants.{Read, Whole}
use Rattle.record.specs.declared.Refusal.{Refusal}
use Rattle.grammar.specs.Line.{Each}
use Rattle.structured_data.specs.Data.{Rows}
use Rattle.draft.specs.Outcome.{Outcome}
use Rattle.draft.specs.Outcome.Outcome.{is_reading}
use Rattle.loose.specs.Loose.{rows_of, Reads}
use Rattle.loose.proofs.Answers.{whole_is}
use Rattle.suits.specs.Suits.{suits}
use Rattle.lookup.specs.Unescape.{unescaped}
use Rattle.lookup.specs.Lookup.{id_text, Found, found, value_answer, value_text, Looks}
use Rattle.lookup.proofs.ByCharacters.{unescaped_utf8}
use Rattle.message.specs.Message.{printed}
use Rattle.message.specs.Prints.{Prints}
use Rattle.suited.proofs.Frame.{reading_utf8, reading_judged}
use Rattle.texts.specs.Texts.{OfParam, Texts, WholeCharacters}
use Rattle.texts.proofs.Outcomes.{TextsOf, OutcomeTexts, outcome_texts, whole_texts}
use Rattle.texts.proofs.Printing.{printed_text}

-- ---- a reading that is done

-- in tables whose front the rows fill
texts_filled : (line : List ℕ) (r : Record) (rows : Rows) (e₀ p₀ : List (List ℕ)) → OutcomeTexts line r rows
    → Texts line r (length rows.elements) (length rows.params) (filled rows.elements e₀) (filled rows.params p₀)
texts_filled line r rows e₀ p₀ h =
    record {
      of_record = h.of_record;
      of_elements = rw (take-append_seam rows.elements (drop (length rows.elements) e₀)) h.of_elements;
      of_params = rw (take-append_seam rows.params (drop (length rows.params) p₀)) h.of_params;
    }

judged_texts : (line : List ℕ) (r : Record) (e p : ℕ) (e₀ p₀ e₁ p₁ : List (List ℕ)) (o : Outcome) (at : ℕ) (rows : Rows)
    → o ≡ is_reading r at rows → e ≡ length rows.elements → p ≡ length rows.params → TextsOf line o
    → e₁ ≡ filled (rows_of o).elements e₀ → p₁ ≡ filled (rows_of o).params p₀ → Texts line r e p e₁ p₁
judged_texts line r e p e₀ p₀ e₁ p₁ o at rows q n m t a b = rw (a, b, q, n, m) (texts_filled line r rows e₀ p₀ (rw q at t))

reading_texts : {r : Record} {e p : ℕ} (line : List ℕ) (e₀ p₀ e₁ p₁ : List (List ℕ)) (variant year : ℕ) (offset : ℤ)
    → Reads line variant year offset e₀ p₀ (Ok (Read r e p)) e₁ p₁ → Texts line r e p e₁ p₁
reading_texts line e₀ p₀ e₁ p₁ variant year offset h =
    let u = reading_utf8 line e₀ p₀ e₁ p₁ variant year offset h in
    let j = reading_judged line e₀ p₀ e₁ p₁ variant year offset h in
    judged_texts line _ _ _ e₀ p₀ e₁ p₁ _ j.at j.rows j.outcome j.elements_many j.params_many (outcome_texts line u variant year offset) h.elements h.params

line_texts : {r : Record} (line : List ℕ) {e₀ p₀ e₁ p₁ : List (List ℕ)} {variant year : ℕ} {offset : ℤ} → Reads line variant year offset e₀ p₀ (Ok (Whole r)) e₁ p₁
    → Texts line r 0 0 e₁ p₁
line_texts line h = let w = whole_is h in record { of_record = rw w.is.alone (whole_texts line w.text); of_elements = tt; of_params = tt }

-- ---- lookup

abbrev FoundText : Found → Type 0
FoundText Found.nothing = Unit {0}
FoundText (Found.value v) = Utf8 v

found_text : (line : List ℕ) (elements : List (List ℕ)) (id name : List ℕ) (rows : List (List ℕ)) → Each (OfParam line) rows
    → FoundText (found line elements id name rows)
unfolding found
found_text line elements id name [] h = tt
found_text line elements id name (row ∷ rows) h =
    by_if FoundText (same_text (id_text line elements (get_or row 0 0)) id && same_text (text_at line (get_or row 1 0) (get_or row 2 0)) name) _ _
    (λ q. h.0.value) (λ q. found_text line elements id name rows h.1)

value_utf8 : (loose : Bool) (f : Found) → FoundText f → Utf8 (value_text loose f)
value_utf8 loose Found.nothing h = record { characters = []; each = tt; text = refl }
value_utf8 loose (Found.value v) h = utf8_sound _ (unescaped_utf8 loose v (utf8_complete v h))

module _ {n : ℕ} where
  never : {A : Type 0} (f : Refusal) → Ok n ≡ Err f → A
  never f h = let z : true ≡ false = cc in clash z

  past : (b : Bool) (f : Refusal) (x : Result ℕ Refusal) → Ok n ≡ (if b then Err f else x) → Ok n ≡ x
  past true f x h = never f h
  past false f x h = h

  value_length : (loose : Bool) (f : Found) (out : ℕ) → Ok n ≡ value_answer loose f out → n ≡ length (value_text loose f)
  value_length loose Found.nothing out h = never _ h
  value_length loose (Found.value v) out h = let q = past (ltb out (length (unescaped loose v))) _ _ h in cc

-- the front of an output that was filled
front_utf8 : (text old after : List ℕ) (n : ℕ) → after ≡ filled text old → n ≡ length text → Utf8 text → Utf8 (take n after)
front_utf8 text old after n e l u = rw (e, l, take-append_seam text (drop (length text) old)) u

lookup_utf8 : {line : List ℕ} {r : Record} {e p : ℕ} {elements params : List (List ℕ)} {id name : List ℕ} {kind n : ℕ} {before after : List ℕ}
    → Texts line r e p elements params → Looks line r e p elements params id name kind before (Ok n) after → Utf8 (take n after)
lookup_utf8 {line} {r} {e} {p} {elements} {params} {id} {name} {kind} {n} {before} {after} t h =
    let f = found line elements id name (take p params) in
    let short = past (ltb line_limit (length line)) _ _ h.answer in
    let known = past (ltb 1 kind) _ _ short in
    let suited = past (not (suits line r e p elements params)) _ _ known in
    front_utf8 (value_text (eqb kind 0) f) before after n h.output (value_length (eqb kind 0) f (length before) suited)
    (value_utf8 (eqb kind 0) f (found_text line elements id name (take p params) t.of_params))

-- ---- printing

print_utf8 : {line : List ℕ} {r : Record} {e p : ℕ} {elements params : List (List ℕ)} {n : ℕ} {before after : List ℕ}
    → Texts line r e p elements params → Prints line r e p elements params before (Ok n) after → Utf8 (take n after)
print_utf8 {line} {r} {e} {p} {elements} {params} {n} {before} {after} t h =
    let text = printed line r (take e elements) (take p params) in
    let short = past (ltb line_limit (length line)) _ _ h.answer in
    let suited = past (not (suits line r e p elements params)) _ _ short in
    let fits = past (ltb (length before) (length text)) _ _ suited in
    let many : n ≡ length text = cc in
    front_utf8 text before after n h.output many (printed_text line r (take e elements) (take p params) t.of_record t.of_elements t.of_params)

-- ---- the statement

pub whole_characters : WholeCharacters
whole_characters =
    record {
      loose = λ {line} {variant} {year} {offset} {e₀} {p₀} {e₁} {p₁} h. reading_texts line e₀ p₀ e₁ p₁ variant year offset h;
      whole = λ {line} h. line_texts line h;
      lookup = lookup_utf8;
      print = print_utf8;
    }
