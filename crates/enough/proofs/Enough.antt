-- Tables and an output that are always enough (specs/Enough.antt), from the bounds of a reading.
use Rattle.std.specs.Prelude.{Result, Ok, Err}
use Prim.Native.Nat.{ℕ, ◌+◌, ◌≤◌}
use mathlib.Core.Path.{◌≡◌, refl, ap}
use mathlib.Core.List.{List, [], ◌∷◌}
use mathlib.Core.Bool.{Bool, true, false, not, ◌&&◌}
use native.Mathlib.Omega.{arith}
use lib.Dec.{leb, ltb, eqb}
use lib.IntN.{ℤ}
use lib.ListN.{length, get_or, take, drop, length-take, length-drop}
use lib.Seq.{take-append_seam, length-take-le}
use borrow.Author.Tests.{not-false, ltb-true, ltb-false, eqb-false}
use Rattle.base.specs.Fills.{filled}
use Rattle.base.specs.Texts.{text_at, same_text}
use Rattle.base.proofs.Tests.{by_if, both, clash}
use Rattle.utf8.specs.Lead.{is_utf8}
use Rattle.record.specs.Answers.{answer_of, strict_answer_of, output_answer_of}
use Rattle.record.specs.Limits.{line_limit}
use Rattle.record.specs.Places.{absent}
use Rattle.record.specs.Records.{message_alone}
use Rattle.record.specs.declared.Protocol.TheVariants.{Rfc3164}
use Rattle.record.specs.declared.Record.{Record}
use Rattle.record.specs.declared.Reading.{Reading}
use Rattle.record.specs.declared.Reading.TheVariants.{Read}
use Rattle.record.specs.declared.StrictRecord.{StrictRecord}
use Rattle.record.specs.declared.StrictReading.{StrictReading}
use Rattle.record.specs.declared.Refusal.{Refusal}
use Rattle.grammar.specs.Reading.{data_at, record_of, param_count, element_rows, param_rows, StrictReads}
use Rattle.grammar.specs.Reading.StrictReads.{too_long, underivable, elements_over, params_over, accepted}
use Rattle.strict_data.proofs.Filling.{elements_many, all_many}
use Rattle.structured_data.specs.Data.{Rows}
use Rattle.draft.specs.Outcome.{Outcome}
use Rattle.draft.specs.Outcome.Outcome.{no_reading, is_reading}
use Rattle.loose.specs.Loose.{outcome_of, settings_ok, judged, rows_of, Reads}
use Rattle.loose.proofs.Answers.{passes, read_done, whole_is}
use Rattle.suits.specs.Suits.{suits, record_suits, tables_suit, elements_suit}
use Rattle.suits.proofs.Suited.{record_in_lem, elements_fit_lem}
use Rattle.lookup.specs.Unescape.{unescaped}
use Rattle.lookup.specs.Lookup.{Found, found, value_answer, id_text, Looks}
use Rattle.lookup.proofs.Unescaping.{unescaped_le}
use Rattle.message.specs.Message.{printed}
use Rattle.message.specs.Prints.{Prints}
use Rattle.message.specs.Rooms.{param_size, total, other_size}
use Rattle.message.proofs.Lengths.{printed_size}
use Rattle.suited.specs.Served.{Left}
use Rattle.suited.proofs.Frame.{reading_judged}
use Rattle.suited.proofs.AfterReading.{left_suits, left_short, left_served}
use Rattle.enough.specs.Enough.{elements_for, params_for, print_for, Enough, AlwaysEnough}
use Rattle.enough.proofs.Heads.{width_small, pri_size, field_size}
use Rattle.enough.proofs.Lines.{Bounded, OutcomeBounded, outcome_bounded, pieces, end_le}
use Rattle.enough.proofs.Strict.{division_bounded}

-- ---- the readers: an answer that is not 5 where the elements fit, nor 6 where the parameters do, nor 8

abbrev pub Fitting : ℕ → ℕ → ℕ → ℕ → Type 0
Fitting n e p number = (elements_for n ≤ e → eqb number 5 ≡ false) × (params_for n ≤ p → eqb number 6 ≡ false) × (eqb number 8 ≡ false)

abbrev pub LooseFits : ℕ → ℕ → ℕ → Result Reading Refusal → Type 0
LooseFits n e p r = Fitting n e p (answer_of r).number

judged_fits : (n : ℕ) (line : List ℕ) (e p : ℕ) → length line ≤ n → (o : Outcome) → OutcomeBounded line o → LooseFits n e p (judged line o e p)
judged_fits n line e p l no_reading h = (λ a. refl, λ a. refl, refl)
judged_fits n line e p l (is_reading x at rows) h =
    by_if (LooseFits n e p) (ltb e (length rows.elements)) _ _
    (λ q. (λ a. absurd (omega (arith, ltb-true e (length rows.elements) q, h.elements_few)), λ a. refl, refl)) λ q.
    by_if (LooseFits n e p) (ltb p (length rows.params)) _ _
    (λ q. (λ a. refl, λ a. absurd (omega (arith, ltb-true p (length rows.params) q, h.params_few)), refl)) (λ q. (λ a. refl, λ a. refl, refl))

module _ (n : ℕ) {line : List ℕ} (short : length line ≤ line_limit → length line ≤ n) where
  module _ {variant year : ℕ} {offset : ℤ} {e₀ p₀ e₁ p₁ : List (List ℕ)} {r : (Result Reading Refusal)} where
    pub loose_fits : Reads line variant year offset e₀ p₀ r e₁ p₁ → LooseFits n (length e₀) (length p₀) r
    loose_fits h =
        rw h.answer
        (by_if (LooseFits n (length e₀) (length p₀)) (ltb line_limit (length line)) _ _ (λ q. (λ a. refl, λ a. refl, refl)) λ long.
        by_if (LooseFits n (length e₀) (length p₀)) (not (settings_ok variant year offset)) _ _ (λ q. (λ a. refl, λ a. refl, refl)) λ settings.
        by_if (LooseFits n (length e₀) (length p₀)) (not (is_utf8 line)) _ _ (λ q. (λ a. refl, λ a. refl, refl)) λ text.
        judged_fits n line (length e₀) (length p₀) (short (ltb-false line_limit (length line) long)) (outcome_of line variant year offset)
        (outcome_bounded line variant year offset (not-false _ settings)))

  pub strict_fits : {e₀ p₀ e₁ p₁ : List (List ℕ)} {r : (Result StrictReading Refusal)} → StrictReads line e₀ p₀ r e₁ p₁ → Fitting n (length e₀) (length p₀) (strict_answer_of r).number
  strict_fits (too_long l a b c) = rw a (λ a. refl, λ a. refl, refl)
  strict_fits (underivable l h a b c) = rw a (λ a. refl, λ a. refl, refl)
  strict_fits (elements_over d l h m a b c) =
      rw a (λ k. absurd (omega (arith, short l, (division_bounded line d h).elements_few, elements_many (data_at d) d.elements)), λ a. refl, refl)
  strict_fits (params_over d l h k m a b c) =
      rw a (λ a. refl, λ k. absurd (omega (arith, short l, (division_bounded line d h).params_few, all_many 0 (data_at d) d.elements)), refl)
  strict_fits (accepted d l h k m a b c) = rw a (λ a. refl, λ a. refl, refl)

-- ---- printing and lookup: another answer than 8

abbrev pub Done : Result ℕ Refusal → Type 0
Done w = eqb (output_answer_of w).number 8 ≡ false

-- what a reader left, in tables whose front its rows fill
rows_bounded : (line : List ℕ) (r : Record) (elements params e₀ p₀ : List (List ℕ)) → Bounded line r elements params
    → Bounded line r (take (length elements) (filled elements e₀)) (take (length params) (filled params p₀))
rows_bounded line r elements params e₀ p₀ h =
    rw (take-append_seam elements (drop (length elements) e₀), take-append_seam params (drop (length params) p₀)) h

judged_bounded : (line : List ℕ) (r : Record) (e p at : ℕ) (rows : Rows) (e₀ p₀ e₁ p₁ : List (List ℕ)) (o : Outcome) → o ≡ is_reading r at rows
    → e ≡ length rows.elements → p ≡ length rows.params → e₁ ≡ filled (rows_of o).elements e₀ → p₁ ≡ filled (rows_of o).params p₀ → OutcomeBounded line o
    → Bounded line r (take e e₁) (take p p₁)
judged_bounded line r e p at rows e₀ p₀ e₁ p₁ o q a b c d h = rw (c, d, q, a, b) (rows_bounded line r rows.elements rows.params e₀ p₀ (rw q at h))

loose_bounded : {line : List ℕ} {variant year : ℕ} {offset : ℤ} {e₀ p₀ e₁ p₁ : List (List ℕ)} {r : Record} {e p : ℕ}
    → Reads line variant year offset e₀ p₀ (Ok (Read r e p)) e₁ p₁ → Bounded line r (take e e₁) (take p p₁)
loose_bounded {line} {variant} {year} {offset} {e₀} {p₀} {e₁} {p₁} {r} {e} {p} h =
    let j = reading_judged line e₀ p₀ e₁ p₁ variant year offset h in
    let settings = (passes (Ok (Read r e p)) (read_done r e p) line variant year offset (length e₀) (length p₀) h.answer).settings in
    judged_bounded line r e p j.at j.rows e₀ p₀ e₁ p₁ _ j.outcome j.elements_many j.params_many h.elements h.params
    (outcome_bounded line variant year offset settings)

whole_bounded : (line : List ℕ) → Bounded line (message_alone (length line)) [] []
unfolding total
whole_bounded line =
    record {
      elements_few = omega arith;
      params_few = omega arith;
      printed_small = rw pieces (rw pri_size (omega (arith, width_small 9 1 47 (omega arith), end_le Rfc3164 0, field_size line absent)));
    }

never : {A : Type 0} {r : StrictReading} (f : Refusal) → ◌≡◌ {A = Result StrictReading Refusal} (Ok r) (Err f) → A
never f h = absurd (cc)

same_reading : {r q : StrictReading} → ◌≡◌ {A = Result StrictReading Refusal} (Ok r) (Ok q) → r ≡ q
same_reading h = cc

strict_bounded : {line : List ℕ} {e₀ p₀ e₁ p₁ : List (List ℕ)} {s : StrictRecord} {e p : ℕ}
    → StrictReads line e₀ p₀ (Ok (record { reading = s; elements = e; params = p })) e₁ p₁ → Bounded line s.common (take e e₁) (take p p₁)
strict_bounded (too_long l a b c) = never _ a
strict_bounded (underivable l h a b c) = never _ a
strict_bounded (elements_over d l h m a b c) = never _ a
strict_bounded (params_over d l h k m a b c) = never _ a
strict_bounded {line} {e₀} {p₀} {s} {e} {p} (accepted d l h k m a b c) =
    let es = d.elements in
    let q = same_reading a in
    let its : s ≡ record_of d = ap (λ (x : StrictReading). x.reading) q in
    let n : e ≡ length es = ap (λ (x : StrictReading). x.elements) q in
    let m : p ≡ param_count es = ap (λ (x : StrictReading). x.params) q in
    rw (its, n, m, b, c, ← elements_many (data_at d) es, ← all_many 0 (data_at d) es)
    (rows_bounded line (record_of d).common (element_rows (data_at d) es) (param_rows 0 (data_at d) es) e₀ p₀ (division_bounded line d h))

-- the length of the text
printed_length : (line : List ℕ) (r : Record) (e p : ℕ) (elements params : List (List ℕ)) → suits line r e p elements params ≡ true
    → length (printed line r (take e elements) (take p params)) ≡ other_size line r (take e elements) + total param_size (take p params)
unfolding suits tables_suit
printed_length line r e p elements params h =
    let of = both (record_suits line r) _ h in
    let counts = leb e (length elements) && leb p (length params) in
    let rows = both (counts && elements_suit line (take e elements)) _ of.1 in
    let ids = both counts _ rows.0 in
    let many : length (take e elements) ≡ e = length-take-le e elements (elements_fit_lem line e p elements params of.1) in
    printed_size line r (take e elements) (take p params) (record_in_lem line r of.0).message_in ids.1 (rw many rows.1)

module _ {line : List ℕ} {r : Record} {e p : ℕ} {elements params : List (List ℕ)} where
  left_bounded : Left line r e p elements params → Bounded line r (take e elements) (take p params)
  left_bounded (Left.by_loose h) = loose_bounded h
  left_bounded (Left.by_whole h a b) = rw (a, b, (whole_is h).is.alone) (whole_bounded line)
  left_bounded (Left.by_strict h q) = rw q (strict_bounded h)

  pub print_done : (n : ℕ) {before after : List ℕ} {w : (Result ℕ Refusal)} → length line ≤ n → print_for n ≤ length before → Left line r e p elements params
      → Prints line r e p elements params before w after → Done w
  print_done n {before} l room left h =
      let text = printed line r (take e elements) (take p params) in
      rw ((left_served line r e p elements params left).print_answers h)
      (by_if Done (ltb (length before) (length text)) _ _
      (λ q. absurd (omega (arith, ltb-true (length before) (length text) q, printed_length line r e p elements params (left_suits left), (left_bounded left).printed_small))) (λ q. refl))

text_in : (line : List ℕ) (start len : ℕ) → length (text_at line start len) ≤ length line
text_in line start len = simp (length-take, length-drop) (omega arith)

abbrev FoundIn : ℕ → Found → Type 0
FoundIn n Found.nothing = Unit {0}
FoundIn n (Found.value v) = length v ≤ n

found_in_lem : (line : List ℕ) (elements : List (List ℕ)) (id name : List ℕ) (rows : List (List ℕ)) → FoundIn (length line) (found line elements id name rows)
unfolding found
found_in_lem line elements id name [] = tt
found_in_lem line elements id name (row ∷ rows) =
    by_if (FoundIn (length line)) (same_text (id_text line elements (get_or row 0 0)) id && same_text (text_at line (get_or row 1 0) (get_or row 2 0)) name) _ _
    (λ q. text_in line (get_or row 3 0) (get_or row 4 0)) (λ q. found_in_lem line elements id name rows)

value_done : (loose : Bool) (f : Found) (m out : ℕ) → FoundIn m f → m ≤ out → Done (value_answer loose f out)
value_done loose Found.nothing m out h l = refl
value_done loose (Found.value v) m out h l =
    by_if Done (ltb out (length (unescaped loose v))) _ _
    (λ q. absurd (omega (arith, ltb-true out (length (unescaped loose v)) q, unescaped_le loose v))) (λ q. refl)

pub lookup_done : (n : ℕ) {line : List ℕ} {r : Record} {e p : ℕ} {elements params : List (List ℕ)} {id name : List ℕ} {kind : ℕ} {before after : List ℕ} {w : (Result ℕ Refusal)}
    → (length line ≤ line_limit → length line ≤ n) → n ≤ length before → Looks line r e p elements params id name kind before w after → Done w
lookup_done n {line} {r} {e} {p} {elements} {params} {id} {name} {kind} {before} short room h =
    rw h.answer
    (by_if Done (ltb line_limit (length line)) _ _ (λ q. refl) λ long.
    by_if Done (ltb 1 kind) _ _ (λ q. refl) λ q.
    by_if Done (not (suits line r e p elements params)) _ _ (λ q. refl) λ q.
    value_done (eqb kind 0) (found line elements id name (take p params)) (length line) (length before) (found_in_lem line elements id name (take p params))
    (omega (arith, short (ltb-false line_limit (length line) long))))

-- ---- together

enough_for : (n : ℕ) (Line : List ℕ → Type 0) → ((line : List ℕ) → Line line → length line ≤ line_limit → length line ≤ n)
    → Enough Line (elements_for n) (params_for n) (print_for n) n
enough_for n Line short =
    record {
      loose_not_5 = λ {line} l a h. eqb-false _ 5 ((loose_fits n (short line l) h).0 a);
      loose_not_6 = λ {line} l a h. eqb-false _ 6 ((loose_fits n (short line l) h).1 a);
      strict_not_5 = λ {line} l a h. eqb-false _ 5 ((strict_fits n (short line l) h).0 a);
      strict_not_6 = λ {line} l a h. eqb-false _ 6 ((strict_fits n (short line l) h).1 a);
      print_not_8 = λ {line} l a left h. eqb-false _ 8 (print_done n (short line l (ltb-false line_limit (length line) (left_short left))) a left h);
      lookup_not_8 = λ {line} l a h. eqb-false _ 8 (lookup_done n (short line l) a h);
    }

pub always_enough : AlwaysEnough
always_enough =
    record {
      any = enough_for line_limit (λ line. Unit {0}) (λ line u l. l);
      up_to = λ n. enough_for n (λ line. length line ≤ n) (λ line l _. l);
    }
