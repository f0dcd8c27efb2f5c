-- The refusals in their order, the whole line, and a reading that the tables have room for.
use Rattle.std.specs.Prelude.{Option, Some, None, Result, Ok, Err}
use Prim.Native.Nat.{ℕ, ◌-◌, ◌≤◌, ◌<◌}
use mathlib.Core.Path.{◌≡◌, refl, sym, ap, ◌∙◌}
use mathlib.Core.Bool.{Bool, true, false, not}
use mathlib.Core.List.{List}
use native.Mathlib.Omega.{arith}
use lib.ListN.{length, take}
use lib.Seq.{length-take-le}
use lib.IntN.{ℤ}
use borrow.Author.Tests.{lt-ltb, le-ltb, not-true, not-false}
use mir.Syntax.{w32}
use mir.Val.{SFits, to_z, of_z}
use mir.ValLaws.{to_z-of_z}
use Rattle.utf8.specs.Lead.{is_utf8}
use Rattle.white.specs.Trim.{trimmed}
use Rattle.white.specs.declared.Ends.{Ends}
use Rattle.white.proofs.Trims.{lies}
use Rattle.record.specs.Limits.{line_limit}
use Rattle.record.specs.Records.{message_alone}
use Rattle.record.specs.declared.Record.{Record}
use Rattle.record.specs.declared.Reading.{Reading}
use Rattle.record.specs.declared.Reading.TheVariants.{Whole}
use Rattle.record.specs.declared.Refusal.{Refusal}
use Rattle.record.specs.declared.Refusal.TheVariants.{LineTooLong, BadSetting, NotUtf8, TooManyElements, TooManyParams}
use Rattle.structured_data.specs.Data.{data_from, rows_or}
use Rattle.structured_data.specs.declared.Rules.{Rules}
use Rattle.draft.specs.Outcome.{Outcome}
use Rattle.draft.specs.Outcome.Outcome.{no_reading, is_reading}
use Rattle.draft.specs.Drafts.{rules_by, draft_of}
use Rattle.draft.specs.declared.Draft.{Draft}
use Rattle.draft.proofs.Outcomes.{no_draft, RowsIn}
use Rattle.loose.specs.Loose.{by_variant, outcome_of, settings_ok, judged, answered}
use Rattle.loose.specs.Judging.{Drafts, Passes, Judges}
use Rattle.loose.specs.declared.Judged.{Judged}
use Rattle.loose.specs.declared.Judged.TheVariants.{Settled, Fitting}
use Rattle.loose.proofs.Variants.{variant_rows}

-- after the first three refusals
pub passed : (line : List ℕ) (variant year : ℕ) (o : ℤ) → Passes line variant year o → (e p : ℕ) (a : Result Reading Refusal) → a ≡ judged line (outcome_of line variant year o) e p
    → a ≡ answered line variant year o e p
passed line variant year o h e p a q = rw (le-ltb line_limit (length line) h.short, h.settings, h.text) q

-- a draft of an outcome whose rows are those of its rules
drafted : (s : List ℕ) (o : Outcome) → RowsIn s o → (rules : Rules) (r : Record) (at n m : ℕ) → Some (record { rules = rules; read = r; at = at; elements = n; params = m }) ≡ draft_of o → Drafts s o rules r at n m
drafted s no_reading k rules r at n m q = let z : ◌≡◌ {A = ℕ} 0 1 = cc in absurd (omega arith)
drafted s (is_reading x b rows) k rules r at n m q =
    let y : ◌≡◌ {A = Draft} (record { rules = rules; read = r; at = at; elements = n; params = m }) (record { rules = rules_by x.protocol; read = x; at = b; elements = length rows.elements; params = length rows.params }) = cc in
    let er : x ≡ r = sym (ap (λ (d : Draft). d.read) y) in
    let eb : b ≡ at = sym (ap (λ (d : Draft). d.at) y) in
    let eu : rules_by x.protocol ≡ rules = sym (ap (λ (d : Draft). d.rules) y) in
    let en : n ≡ length rows.elements = ap (λ (d : Draft). d.elements) y in
    let em : m ≡ length rows.params = ap (λ (d : Draft). d.params) y in
    let are : rows ≡ rows_or at (data_from rules s at) = k ∙ ap (λ (u : Rules). rows_or b (data_from u s b)) eu ∙ ap (λ (i : ℕ). rows_or i (data_from rules s i)) eb in
    record { is = rw (er, eb, ← are); elements_are = en ∙ rw (← are); params_are = em ∙ rw (← are) }

module _ (line : List ℕ) (variant year : ℕ) (o : ℤ) (f : SFits w32 o) (h : Passes line variant year o) (ends : Ends) (e : ends ≡ trimmed line) where
  pub text_inside : ends.end ≤ length line
  text_inside = (lies line ends e).inside

  whole_part : ends.end - 0 ≡ ends.end
  whole_part = omega arith

  pub text_starts : ends.start ≤ length (take (ends.end - 0) line)
  text_starts = rw (whole_part, length-take-le ends.end line text_inside) (lies line ends e).ordered

  rows : RowsIn (take ends.end line) (outcome_of line variant year o)
  unfolding outcome_of
  rows = rw e (variant_rows variant year o (take (trimmed line).end line) (trimmed line).start)

  module _ (g : Option Draft) (i : g ≡ draft_of (by_variant variant year (to_z w32 (of_z w32 o)) (take (ends.end - 0) line) ends.start)) (x y : ℕ) where
    outcome : g ≡ draft_of (outcome_of line variant year o)
    unfolding outcome_of
    outcome = rw (← e) (rw (whole_part, to_z-of_z w32 o f) at i)

    refused : (a : Refusal) → Err a ≡ judged line (outcome_of line variant year o) x y → Judges line variant year o x y (Settled (Err a))
    refused a q = record { is = record { answer = passed line variant year o h x y (Err a) q; keeps = λ rows old. refl } }

    pub judged_none : g ≡ None → (r : Record) → r ≡ message_alone (length line) → Judges line variant year o x y (Settled (Ok (Whole r)))
    judged_none z r q =
        record { is = record { answer = passed line variant year o h x y (Ok (Whole r)) (rw (no_draft (outcome_of line variant year o) (sym z ∙ outcome), q)); keeps = λ rows old. refl } }

    module _ (rules : Rules) (r : Record) (at n m : ℕ) (z : g ≡ Some (record { rules = rules; read = r; at = at; elements = n; params = m })) where
      drafts : Drafts (take ends.end line) (outcome_of line variant year o) rules r at n m
      drafts = drafted (take ends.end line) (outcome_of line variant year o) rows rules r at n m (sym z ∙ outcome)

      pub judged_elements : x < n → Judges line variant year o x y (Settled (Err TooManyElements))
      judged_elements l = refused TooManyElements (rw (drafts.is, ← drafts.elements_are, lt-ltb x n l))

      module _ (k : n ≤ x) where
        pub judged_params : y < m → Judges line variant year o x y (Settled (Err TooManyParams))
        judged_params l = refused TooManyParams (rw (drafts.is, ← drafts.elements_are, le-ltb x n k, ← drafts.params_are, lt-ltb y m l))

        pub judged_fits : m ≤ y → Judges line variant year o x y (Fitting rules ends.end at r n m)
        judged_fits l = record { is = record { passes = h; inside = text_inside; drafts = drafts; elements_fit_lem = k; params_fit_lem = l } }

pub ruleset judge_text_laws = (text_inside, text_starts, judged_none, judged_elements, judged_params, judged_fits)

-- the first three
module _ (line : List ℕ) (variant year : ℕ) (o : ℤ) (f : SFits w32 o) where
  pub judge_long : (e p : ℕ) → line_limit < length line → Judges line variant year o e p (Settled (Err LineTooLong))
  judge_long e p l = record { is = record { answer = rw (lt-ltb line_limit (length line) l); keeps = λ rows old. refl } }

  module _ (l : length line ≤ line_limit) (t : Bool) (et : t ≡ settings_ok variant year (to_z w32 (of_z w32 o))) where
    settings : t ≡ settings_ok variant year o
    settings = et ∙ rw (to_z-of_z w32 o f)

    pub judge_settings : (e p : ℕ) → not t ≡ true → Judges line variant year o e p (Settled (Err BadSetting))
    judge_settings e p z =
        let q : settings_ok variant year o ≡ false = sym settings ∙ not-true t z in
        record { is = record { answer = rw (le-ltb line_limit (length line) l, q); keeps = λ rows old. refl } }

    module _ (z : not t ≡ false) (u : Bool) (eu : u ≡ is_utf8 line) where
      good : settings_ok variant year o ≡ true
      good = sym settings ∙ not-false t z

      pub judge_bytes : (e p : ℕ) → not u ≡ true → Judges line variant year o e p (Settled (Err NotUtf8))
      judge_bytes e p y =
          let q : is_utf8 line ≡ false = sym eu ∙ not-true u y in
          record { is = record { answer = rw (le-ltb line_limit (length line) l, good, q); keeps = λ rows old. refl } }

      pub judge_passes : not u ≡ false → Passes line variant year (to_z w32 (of_z w32 o))
      judge_passes y = rw (to_z-of_z w32 o f) (record { short = l; settings = good; text = sym eu ∙ not-false u y })

  pub judge_on : (e p : ℕ) (j : Judged) → Judges line variant year (to_z w32 (of_z w32 o)) e p j → Judges line variant year o e p j
  judge_on e p j h = rw (to_z-of_z w32 o f) at h

pub ruleset judge_laws = (judge_long, judge_settings, judge_bytes, judge_passes, judge_on)
