-- The readings: what was judged, and the tables.
use Rattle.std.specs.Prelude.{Result, Ok}
use Prim.Native.Nat.{ℕ, ◌-◌, ◌≤◌}
use mathlib.Core.Path.{◌≡◌, refl, sym, ◌∙◌}
use mathlib.Core.Bool.{Bool, true, false}
use mathlib.Core.List.{List}
use native.Mathlib.Omega.{arith}
use lib.ListN.{length, take}
use lib.IntN.{ℤ}
use borrow.Author.Tests.{le-ltb}
use mir.Syntax.{w32}
use mir.Val.{SFits, to_z, of_z}
use mir.ValLaws.{to_z-of_z}
use Rattle.base.proofs.Tests.{clash, by_test}
use Rattle.record.specs.declared.Record.{Record}
use Rattle.record.specs.declared.Reading.{Reading}
use Rattle.record.specs.declared.Reading.TheVariants.{Read}
use Rattle.structured_data.specs.Tables.{Room, Fills}
use Rattle.structured_data.specs.declared.Rules.{Rules}
use Rattle.structured_data.specs.declared.Rules.TheVariants.{Rfc3164Rules}
use Rattle.loose.specs.Loose.{answered, Reads}
use Rattle.loose.specs.Judging.{Fits, Settles, Judges, is_fitting, data_of, rules_of, reading_of, Fillable, FilledIn}
use Rattle.loose.specs.declared.Data.{Data}
use Rattle.loose.specs.declared.Judged.{Judged}
use Rattle.loose.specs.declared.Judged.TheVariants.{Settled, Fitting}
use Rattle.loose.proofs.Judging.{passed}
use Rattle.record.specs.declared.Refusal.{Refusal}

-- what was judged, and what is asked of it
module _ (j : Judged) where
  module _ (x : Result Reading Refusal) (z : j ≡ Settled x) where
    pub fitting_settled : false ≡ is_fitting j
    fitting_settled = rw z

    pub rules_settled : Rfc3164Rules ≡ rules_of j
    rules_settled = rw z

    pub data_settled : record { end = 0; at = 0; ids = 0; params = 0 } ≡ data_of j
    data_settled = rw z

    pub reading_settled : x ≡ reading_of j
    reading_settled = rw z

  module _ (rules : Rules) (r : Record) (end at n m : ℕ) (z : j ≡ Fitting rules end at r n m) where
    pub fitting_read : true ≡ is_fitting j
    fitting_read = rw z

    pub rules_read : rules ≡ rules_of j
    rules_read = rw z

    pub data_read : record { end = end; at = at; ids = n; params = m } ≡ data_of j
    data_read = rw z

    pub reading_read : Ok (Read r n m) ≡ reading_of j
    reading_read = rw z

pub ruleset asked_laws = (fitting_settled, rules_settled, data_settled, reading_settled, fitting_read, rules_read, data_read, reading_read)

-- what was judged of tables of `e` and `p` entries, no table at hand
module _ (line : List ℕ) (variant year : ℕ) (o : ℤ) (f : SFits w32 o) (e p : ℕ) (j : Judged) (c : Judges line variant year (to_z w32 (of_z w32 o)) e p j) where
  here : Judges line variant year o e p j
  here = rw (to_z-of_z w32 o f) at c

  settles : (x : Result Reading Refusal) → j ≡ Settled x → Settles line variant year o e p x
  settles x z = rw z at here.is

  module _ (rules : Rules) (r : Record) (end at n m : ℕ) (z : j ≡ Fitting rules end at r n m) where
    fits : Fits line variant year o e p rules r end at n m
    fits = rw z at here.is

    answer_read : Ok (Read r n m) ≡ answered line variant year o e p
    answer_read =
        let d = fits.drafts in
        passed line variant year o fits.passes e p _
        (rw (d.is, ← d.elements_are, le-ltb e n fits.elements_fit_lem, ← d.params_are, le-ltb p m fits.params_fit_lem))

pub answer_is : (line : List ℕ) (variant year : ℕ) (o : ℤ) → SFits w32 o → (e p : ℕ) (j : Judged) → Judges line variant year (to_z w32 (of_z w32 o)) e p j
    → (x : Result Reading Refusal) → x ≡ reading_of j → x ≡ answered line variant year o e p
answer_is line variant year o f e p (Settled a) c x h = h ∙ (settles line variant year o f e p (Settled a) c a refl).answer
answer_is line variant year o f e p (Fitting rules end at r n m) c x h = h ∙ answer_read line variant year o f e p (Fitting rules end at r n m) c rules r end at n m refl

-- and of the tables
module _ (line : List ℕ) (variant year : ℕ) (o : ℤ) (f : SFits w32 o) (e₀ p₀ : List (List ℕ)) (j : Judged)
    (c : Judges line variant year (to_z w32 (of_z w32 o)) (length e₀) (length p₀) j) where
  reads_settled : (x : Result Reading Refusal) → j ≡ Settled x → Reads line variant year o e₀ p₀ x e₀ p₀
  reads_settled x z =
      let s = settles line variant year o f (length e₀) (length p₀) j c x z in
      record { answer = s.answer; elements = s.keeps _ e₀; params = s.keeps _ p₀ }

  module _ (rules : Rules) (r : Record) (end at n m : ℕ) (z : j ≡ Fitting rules end at r n m) where
    fitting : Fits line variant year o (length e₀) (length p₀) rules r end at n m
    fitting = fits line variant year o f (length e₀) (length p₀) j c rules r end at n m z

    part_ends : end ≤ length line
    part_ends = fitting.inside

    part_whole : end - 0 ≡ end
    part_whole = omega arith

    tables_room : Room rules (take (end - 0) line) at n m e₀ p₀
    tables_room =
        let d = fitting.drafts in
        rw part_whole (record { elements_are = d.elements_are; params_are = d.params_are; elements_fit_lem = fitting.elements_fit_lem; params_fit_lem = fitting.params_fit_lem })

    reads_fitting : (e₁ p₁ : List (List ℕ)) → Fills rules (take (end - 0) line) at e₀ p₀ e₁ p₁ → Reads line variant year o e₀ p₀ (Ok (Read r n m)) e₁ p₁
    reads_fitting e₁ p₁ g =
        let d = fitting.drafts in
        let k : Fills rules (take end line) at e₀ p₀ e₁ p₁ = rw part_whole at g in
        record {
          answer = answer_read line variant year o f (length e₀) (length p₀) j c rules r end at n m z;
          elements = k.elements ∙ rw d.is;
          params = k.params ∙ rw d.is;
        }

-- What is asked of a judgement is right for the tables: as they are where the answer is settled, and filled where it is read.
pub record Served (line : List ℕ) (variant year : ℕ) (o : ℤ) (e₀ p₀ : List (List ℕ)) (reads : Bool) (rules : Rules) (d : Data) (x : Result Reading Refusal) : Type 0 where
  pub as_they_are : reads ≡ false → Reads line variant year o e₀ p₀ x e₀ p₀
  pub inside : reads ≡ true → d.end ≤ length line
  pub room : reads ≡ true → Room rules (take (d.end - 0) line) d.at d.ids d.params e₀ p₀
  pub filled_in : reads ≡ true → (e₁ p₁ : List (List ℕ)) → Fills rules (take (d.end - 0) line) d.at e₀ p₀ e₁ p₁ → Reads line variant year o e₀ p₀ x e₁ p₁

module _ (line : List ℕ) (variant year : ℕ) (o : ℤ) (f : SFits w32 o) (e₀ p₀ : List (List ℕ)) where
  pub served : (j : Judged) → Judges line variant year (to_z w32 (of_z w32 o)) (length e₀) (length p₀) j → Served line variant year o e₀ p₀ (is_fitting j) (rules_of j) (data_of j) (reading_of j)
  served (Settled x) c =
      record { as_they_are = λ t. reads_settled line variant year o f e₀ p₀ (Settled x) c x refl; inside = λ t. clash (sym t); room = λ t. clash (sym t); filled_in = λ t. clash (sym t) }
  served (Fitting rules end at r n m) c =
      record {
        as_they_are = λ t. clash t;
        inside = λ t. part_ends line variant year o f e₀ p₀ (Fitting rules end at r n m) c rules r end at n m refl;
        room = λ t. tables_room line variant year o f e₀ p₀ (Fitting rules end at r n m) c rules r end at n m refl;
        filled_in = λ t. reads_fitting line variant year o f e₀ p₀ (Fitting rules end at r n m) c rules r end at n m refl;
      }

-- what filling leaves
module _ (line : List ℕ) (j : Judged) (e₀ p₀ : List (List ℕ)) where
  pub filled_settled : is_fitting j ≡ false → FilledIn line j e₀ p₀ e₀ p₀
  filled_settled h = record { elements_kept = λ q. refl; params_kept = λ q. refl; filled_in = λ q. clash (sym q ∙ h) }

  pub filled_read : is_fitting j ≡ true → (e₁ p₁ : List (List ℕ)) → Fills (rules_of j) (take ((data_of j).end - 0) line) (data_of j).at e₀ p₀ e₁ p₁ → FilledIn line j e₀ p₀ e₁ p₁
  filled_read h e₁ p₁ f = record { elements_kept = λ q. clash (sym h ∙ q); params_kept = λ q. clash (sym h ∙ q); filled_in = λ q. f }

-- and that it is right for the tables
module _ {line : List ℕ} {variant year : ℕ} {o : ℤ} {e₀ p₀ : List (List ℕ)} {j : Judged} (s : Served line variant year o e₀ p₀ (is_fitting j) (rules_of j) (data_of j) (reading_of j)) where
  pub fillable : Fillable line j e₀ p₀
  fillable = record { inside = s.inside; room = s.room }

  pub reads_filled : (e₁ p₁ : List (List ℕ)) → FilledIn line j e₀ p₀ e₁ p₁ → Reads line variant year o e₀ p₀ (reading_of j) e₁ p₁
  reads_filled e₁ p₁ f =
      by_test (λ t. is_fitting j ≡ t → Reads line variant year o e₀ p₀ (reading_of j) e₁ p₁) (is_fitting j)
      (λ h q. s.filled_in q e₁ p₁ (f.filled_in q)) (λ h q. rw (f.elements_kept q, f.params_kept q) (s.as_they_are q)) refl
