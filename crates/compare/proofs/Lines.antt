-- Two lines that were judged: what is asked of each, and what the call leaves.
use Rattle.std.specs.Prelude.{Result, Ok, Err}
use Prim.Native.Nat.{ℕ, ◌+◌, ◌*◌, ◌≤◌, ◌<◌}
use mathlib.Core.Path.{◌≡◌, refl, sym, ap, ap₂, ◌∙◌, subst}
use mathlib.Core.Bool.{true, false, ◌&&◌}
use mathlib.Core.List.{List, [], ◌∷◌}
use native.Mathlib.Decide.{dec_le}
use native.Mathlib.Omega.{arith}
use lib.Dec.{eqb}
use lib.ListN.{length, get_or, take, drop, length-append, drop_of_length-le}
use lib.Seq.{take-append_seam, take_all, length-take-le, get_or-take}
use lib.IntN.{ℤ}
use borrow.Author.Tests.{le-leb}
use mir.Syntax.{w32}
use mir.Val.{SFits, to_z, of_z}
use mir.ValLaws.{to_z-of_z}
use Rattle.base.specs.Fills.{filled}
use Rattle.base.proofs.Tests.{both, by_if, clash}
use Rattle.record.specs.declared.Record.{Record}
use Rattle.record.specs.declared.Reading.{Reading}
use Rattle.record.specs.declared.Reading.TheVariants as loose
use Rattle.structured_data.specs.Data.{Rows, elements_from, Data, hyphen_at, data_from, rows_or}
use Rattle.structured_data.specs.declared.Rules.{Rules}
use Rattle.draft.specs.Outcome.{Outcome}
use Rattle.draft.specs.Outcome.Outcome.{is_reading}
use Rattle.loose.specs.Loose.{outcome_of, answered, rows_of as rows_read, table_after as table_read, Reads}
use Rattle.loose.specs.Judging.{Fits, Judges, reading_of, Fillable, FilledIn}
use Rattle.loose.specs.declared.Judged.{Judged}
use Rattle.loose.specs.declared.Judged.TheVariants.{Settled, Fitting}
use Rattle.loose.proofs.Readings.{answer_is, served, fillable, reads_filled}
use Rattle.suits.specs.Suits.{record_suits, elements_suit, params_suit, tables_suit, suits}
use Rattle.suits.proofs.Suited.{record_in_lem, id_suited, param_suited}
use Rattle.suited.specs.Served.{Left}
use Rattle.suited.proofs.AfterReading.{left_suits}
use Rattle.suited.proofs.Tests.{RowsIn}
use Rattle.suited.proofs.Data.{data_in}
use Rattle.message.specs.Rooms.{param_size, total}
use Rattle.bounds.proofs.Data.{data_takes}
use Rattle.keyed.specs.Notes.{rows_from}
use Rattle.keyed.specs.Odd.{rows_of}
use Rattle.keyed.proofs.Data.{data_walked, data_few}
use Rattle.differ.specs.Seen.{seen_of}
use Rattle.differ.specs.Differences.{differences_of}
use Rattle.differ.specs.Steps.{RecordIn, RowIn, Readable, seen_by, Differs}
use Rattle.differ.specs.declared.Differences.{Differences}
use Rattle.differ.specs.declared.Line.{Line}
use Rattle.compare.specs.Compare.{nothing, compared_of, seen_in, table_after, Compares}
use Rattle.compare.specs.Numbers.{answer_of, Answers}
use Rattle.compare.specs.Steps.{is_read, line_of}
use Rattle.compare.specs.declared.CompareAnswer.{CompareAnswer}
use Rattle.compare.specs.declared.Refused.{Refused}
use Rattle.compare.proofs.Answers.{refused_any, refused_keeps}
use Rattle.record.specs.declared.Refusal.{Refusal}

-- ---- the rows of a text

-- past the end there are none
past_elements : (rules : Rules) (s : List ℕ) (at : ℕ) → length s ≤ at → ((rows_or at (data_from rules s at)).elements ≡ []) × ((rows_or at (data_from rules s at)).params ≡ [])
unfolding data_from elements_from
past_elements rules s at h =
    by_if (λ (d : Data). ((rows_or at d).elements ≡ []) × ((rows_or at d).params ≡ [])) (hyphen_at rules s at) _ _ (λ q. (refl, refl)) λ q.
    by_if (λ (d : Data). ((rows_or at d).elements ≡ []) × ((rows_or at d).params ≡ [])) (eqb (elements_from rules 0 0 at (drop at s)).next at) _ _ (λ q. (refl, refl))
    (λ q.
    (ap (λ (t : List ℕ). (elements_from rules 0 0 at t).elements) (drop_of_length-le s h), ap (λ (t : List ℕ). (elements_from rules 0 0 at t).params) (drop_of_length-le s h)))

record Suits (s : List ℕ) (elements params : List (List ℕ)) : Type 0 where
  tables : tables_suit s (length elements) (length params) elements params ≡ true
  few : 3 * length elements ≤ length s

pub tables_suit_lem : (s : List ℕ) (elements params : List (List ℕ)) → RowsIn s 0 elements params → tables_suit s (length elements) (length params) elements params ≡ true
unfolding tables_suit
tables_suit_lem s elements params r =
    let z : 0 + length elements ≡ length elements = omega arith in
    rw (
      le-leb (length elements) (length elements) (omega arith),
      le-leb (length params) (length params) (omega arith),
      take_all (length elements) elements (omega arith),
      take_all (length params) params (omega arith),
      r.of_elements,
    )
    (ap (λ (n : ℕ). params_suit s n 0 params) (sym z) ∙ r.of_params 0 (omega arith))

none_suit : (s : List ℕ) → Suits s [] []
unfolding tables_suit elements_suit params_suit
none_suit s = record { tables = refl; few = omega arith }

data_suits : (rules : Rules) (s : List ℕ) (at : ℕ) → Suits s (rows_or at (data_from rules s at)).elements (rows_or at (data_from rules s at)).params
data_suits rules s at = go (dec_le at (length s))
  where
    go : Dec (at ≤ length s) → Suits s (rows_or at (data_from rules s at)).elements (rows_or at (data_from rules s at)).params
    go (yes h) = let t = data_takes rules s at h in record { tables = tables_suit_lem s _ _ (data_in s rules s at h (omega arith)); few = omega (arith, t.elements_many, t.inside) }
    go (no h) =
        let (x, y) = past_elements rules s at (omega arith) in
        subst (λ (e : List (List ℕ)). Suits s e (rows_or at (data_from rules s at)).params) (sym x) (subst (λ (p : List (List ℕ)). Suits s [] p) (sym y) (none_suit s))

-- ---- one line

module _ (line : List ℕ) (variant year : ℕ) (o : ℤ) (f : SFits w32 o) (e₀ p₀ : List (List ℕ)) where
  -- a line that is read
  pub record Known (j : Judged) (e₁ p₁ : List (List ℕ)) : Type 0 where
    pub reads : Reads line variant year o e₀ p₀ (reading_of j) e₁ p₁
    pub readable : Readable line (line_of j) e₁
    pub seen : seen_in line (outcome_of line variant year o) ≡ seen_by line (line_of j) e₁

  module _ (rules : Rules) (r : Record) (end at n m : ℕ) (h : Fits line variant year o (length e₀) (length p₀) rules r end at n m) (e₁ p₁ : List (List ℕ))
      (reads : Reads line variant year o e₀ p₀ (Ok (loose.Read r n m)) e₁ p₁) where
    abbrev s : List ℕ
    s = take end line

    abbrev rows : Rows
    rows = rows_or at (data_from rules s at)

    outcome : outcome_of line variant year o ≡ is_reading r at rows
    outcome = h.drafts.is

    n_is : n ≡ length rows.elements
    n_is = h.drafts.elements_are

    m_is : m ≡ length rows.params
    m_is = h.drafts.params_are

    table : e₁ ≡ filled rows.elements e₀
    table = reads.elements ∙ ap (λ (x : Outcome). filled (rows_read x).elements e₀) outcome

    front : take n e₁ ≡ rows.elements
    front = ap₂ take n_is table ∙ take-append_seam rows.elements (drop (length rows.elements) e₀)

    walked : rows_of s e₁ n ≡ rows.params
    walked = ap (rows_from s 0) front ∙ sym (data_walked s rules at)

    given : n ≤ length e₁
    given = omega (arith, n_is, ap length table, length-append rows.elements (drop (length rows.elements) e₀))

    suit : Suits s rows.elements rows.params
    suit = data_suits rules s at

    end_is : length s ≡ end
    end_is = length-take-le end line h.inside

    id_at_lem : (i : ℕ) → i < n → get_or e₁ i [] ≡ get_or rows.elements i []
    id_at_lem i l = sym (get_or-take n e₁ i [] l) ∙ ap (λ (t : List (List ℕ)). get_or t i []) front

    of_record : RecordIn line r
    unfolding suits
    of_record =
        let i = record_in_lem line r (both (record_suits line r) _ (left_suits (Left.by_loose reads))).0 in
        record { host_in = i.host_in; app_in = i.app_in; procid_in = i.procid_in; msgid_in = i.msgid_in; message_in = i.message_in }

    rows_are : (i : ℕ) → i < length (rows_of s e₁ n) → RowIn s n (get_or (rows_of s e₁ n) i [])
    rows_are i l =
        let q = ap length walked in
        let p = param_suited s (length rows.elements) (length rows.params) rows.elements rows.params suit.tables i (omega arith) in
        subst (λ (t : List (List ℕ)). RowIn s n (get_or t i [])) (sym walked) (record { below = omega (arith, p.below, n_is); name_in = p.name_in; value_in = p.value_in })

    line_readable : Readable line (record { read = r; end = end; ids = n; params = m }) e₁
    line_readable =
        let w = data_few rules s at in
        record {
          record_in_lem = of_record;
          end_in = h.inside;
          short = h.passes.short;
          listed =
              record {
                given = given;
                inside = λ i l.
                    subst (λ (row : List ℕ). get_or row 0 0 + get_or row 1 0 ≤ length s) (sym (id_at_lem i l))
                    (id_suited s (length rows.elements) (length rows.params) rows.elements rows.params suit.tables i (omega (arith, n_is)));
              };
          ids_few = omega (arith, n_is, suit.few, end_is, h.inside, h.passes.short);
          size = subst (λ (t : List (List ℕ)). 7 * total param_size t ≤ 8 * end) (sym walked) (omega (arith, w.size, end_is));
          count = subst (λ (t : List (List ℕ)). 5 * length t ≤ end) (sym walked) (omega (arith, w.count, end_is));
          params_are = m_is ∙ ap length (sym walked);
          rows_in = rows_are;
        }

    line_seen : seen_in line (outcome_of line variant year o) ≡ seen_by line (record { read = r; end = end; ids = n; params = m }) e₁
    line_seen = ap (seen_in line) outcome ∙ ap₂ (seen_of line r) (sym front) (sym walked)

  module _ (j : Judged) (c : Judges line variant year (to_z w32 (of_z w32 o)) (length e₀) (length p₀) j) where
    here : Judges line variant year o (length e₀) (length p₀) j
    here = rw (to_z-of_z w32 o f) at c

    pub judged_fillable : Fillable line j e₀ p₀
    judged_fillable = fillable (served line variant year o f e₀ p₀ j c)

    pub judged_answer : reading_of j ≡ answered line variant year o (length e₀) (length p₀)
    judged_answer = answer_is line variant year o f (length e₀) (length p₀) j c (reading_of j) refl

  -- no answer that is settled reads the line: the tables stay as they are
  settled_not : (x : Result Reading Refusal) → ((rows old : List (List ℕ)) → old ≡ table_read x rows old) → is_read x ≡ true → ⊥
  settled_not (Ok (loose.Read r n m)) k q = let z : ◌≡◌ {A = ℕ} 0 1 = ap length (k ([] ∷ []) []) in omega arith
  settled_not (Ok (loose.Whole r)) k q = clash (sym q)
  settled_not (Err g) k q = clash (sym q)

  pub judged_known : (j : Judged) → Judges line variant year (to_z w32 (of_z w32 o)) (length e₀) (length p₀) j → is_read (reading_of j) ≡ true → (e₁ p₁ : List (List ℕ)) → FilledIn line j e₀ p₀ e₁ p₁ → Known j e₁ p₁
  judged_known (Settled x) c q e₁ p₁ g = absurd (settled_not x (here (Settled x) c).is.keeps q)
  judged_known (Fitting rules end at r n m) c q e₁ p₁ g =
      let reads = reads_filled (served line variant year o f e₀ p₀ (Fitting rules end at r n m) c) e₁ p₁ g in
      let fits = (here (Fitting rules end at r n m) c).is in
      record {
        reads = reads;
        readable = line_readable rules r end at n m fits e₁ p₁ reads;
        seen = line_seen rules r end at n m fits e₁ p₁ reads;
      }

-- ---- two lines

read_table : (x : Result Reading Refusal) → is_read x ≡ true → (rows old : List (List ℕ)) → table_read x rows old ≡ filled rows old
read_table (Ok (loose.Read r n m)) q xs old = refl
read_table (Ok (loose.Whole r)) q xs old = clash (sym q)
read_table (Err g) q xs old = clash (sym q)

both_done : (x y : Result Reading Refusal) (d : Differences) → is_read x ≡ true → is_read y ≡ true → Ok d ≡ compared_of x y d
both_done (Ok (loose.Read r n m)) (Ok (loose.Read s k l)) d p q = refl
both_done (Ok (loose.Read r n m)) (Ok (loose.Whole s)) d p q = clash (sym q)
both_done (Ok (loose.Read r n m)) (Err g) d p q = clash (sym q)
both_done (Ok (loose.Whole r)) y d p q = clash (sym p)
both_done (Err g) y d p q = clash (sym p)

module _ (line₁ line₂ : List ℕ) (variant year : ℕ) (o : ℤ) (f : SFits w32 o) (e₁ p₁ e₂ p₂ : List (List ℕ)) (j₁ j₂ : Judged)
    (c₁ : Judges line₁ variant year (to_z w32 (of_z w32 o)) (length e₁) (length p₁) j₁) (c₂ : Judges line₂ variant year (to_z w32 (of_z w32 o)) (length e₂) (length p₂) j₂) where
  answers : (d : Differences) → compared_of (reading_of j₁) (reading_of j₂) d
      ≡ compared_of (answered line₁ variant year o (length e₁) (length p₁)) (answered line₂ variant year o (length e₂) (length p₂)) d
  answers d =
      ap₂ (λ (x y : Result Reading Refusal). compared_of x y d) (judged_answer line₁ variant year o f e₁ p₁ j₁ c₁) (judged_answer line₂ variant year o f e₂ p₂ j₂ c₂)

  pub compared_refused : (is_read (reading_of j₁) && is_read (reading_of j₂)) ≡ false → (c : Result Differences Refused) → c ≡ compared_of (reading_of j₁) (reading_of j₂) nothing
      → Compares line₁ line₂ variant year o e₁ p₁ e₂ p₂ c e₁ p₁ e₂ p₂
  compared_refused h c q =
      let D = differences_of (seen_in line₁ (outcome_of line₁ variant year o)) (seen_in line₂ (outcome_of line₂ variant year o)) in
      let k : (rows old : List (List ℕ)) → old ≡ table_after (compared_of (reading_of j₁) (reading_of j₂) nothing) rows old = refused_keeps nothing nothing (reading_of j₁) (reading_of j₂) h in
      rw q
      (record {
        answer = refused_any nothing D (reading_of j₁) (reading_of j₂) h ∙ answers D;
        elements₁ = k _ e₁;
        params₁ = k _ p₁;
        elements₂ = k _ e₂;
        params₂ = k _ p₂;
      })

  module _ (t : (is_read (reading_of j₁) && is_read (reading_of j₂)) ≡ true) where
    read₁ : is_read (reading_of j₁) ≡ true
    read₁ = (both (is_read (reading_of j₁)) (is_read (reading_of j₂)) t).0

    read₂ : is_read (reading_of j₂) ≡ true
    read₂ = (both (is_read (reading_of j₁)) (is_read (reading_of j₂)) t).1

    module _ (e₁' p₁' e₂' p₂' : List (List ℕ)) (f₁ : FilledIn line₁ j₁ e₁ p₁ e₁' p₁') (f₂ : FilledIn line₂ j₂ e₂ p₂ e₂' p₂') where
      known₁ : Known line₁ variant year o f e₁ p₁ j₁ e₁' p₁'
      known₁ = judged_known line₁ variant year o f e₁ p₁ j₁ c₁ read₁ e₁' p₁' f₁

      known₂ : Known line₂ variant year o f e₂ p₂ j₂ e₂' p₂'
      known₂ = judged_known line₂ variant year o f e₂ p₂ j₂ c₂ read₂ e₂' p₂' f₂

      module _ (a b : Line) (ea : a ≡ line_of j₁) (eb : b ≡ line_of j₂) where
        pub line_readable₁ : Readable line₁ a e₁'
        line_readable₁ = subst (λ (l : Line). Readable line₁ l e₁') (sym ea) known₁.readable

        pub line_readable₂ : Readable line₂ b e₂'
        line_readable₂ = subst (λ (l : Line). Readable line₂ l e₂') (sym eb) known₂.readable

        pub compared_done : (d : Differences) (e₁'' e₂'' : List (List ℕ)) → Differs line₁ a e₁' line₂ b e₂' d e₁'' e₂'' → (c : Result Differences Refused) → c ≡ Ok d → Compares line₁ line₂ variant year o e₁ p₁ e₂ p₂ c e₁'' p₁' e₂'' p₂'
        compared_done d e₁'' e₂'' w c q =
            let D = differences_of (seen_in line₁ (outcome_of line₁ variant year o)) (seen_in line₂ (outcome_of line₂ variant year o)) in
            let same : d ≡ D = w.is ∙ sym (ap₂ differences_of (known₁.seen ∙ ap (λ (l : Line). seen_by line₁ l e₁') (sym ea)) (known₂.seen ∙ ap (λ (l : Line). seen_by line₂ l e₂') (sym eb))) in
            rw q
            (record {
              answer = ap Ok same ∙ both_done (reading_of j₁) (reading_of j₂) D read₁ read₂ ∙ answers D;
              elements₁ = w.kept₁ ∙ known₁.reads.elements ∙ read_table (reading_of j₁) read₁ _ e₁;
              params₁ = known₁.reads.params ∙ read_table (reading_of j₁) read₁ _ p₁;
              elements₂ = w.kept₂ ∙ known₂.reads.elements ∙ read_table (reading_of j₂) read₂ _ e₂;
              params₂ = known₂.reads.params ∙ read_table (reading_of j₂) read₂ _ p₂;
            })

-- ---- as C has it

pub call_answers : (line₁ line₂ : List ℕ) (variant year : ℕ) (o : ℤ) → SFits w32 o → (e₁ p₁ e₂ p₂ : List (List ℕ)) (c : Result Differences Refused) (e₁' p₁' e₂' p₂' : List (List ℕ))
    → Compares line₁ line₂ variant year (to_z w32 (of_z w32 o)) e₁ p₁ e₂ p₂ c e₁' p₁' e₂' p₂' → (a : CompareAnswer) → a ≡ answer_of c
    → Answers line₁ line₂ variant year o e₁ p₁ e₂ p₂ a e₁' p₁' e₂' p₂'
call_answers line₁ line₂ variant year o f e₁ p₁ e₂ p₂ c e₁' p₁' e₂' p₂' h a q = record { compared = c; compares = rw (to_z-of_z w32 o f) at h; is = q }
