-- A call of the reading, and of C: what is left, from what was answered and read.
use Rattle.std.specs.Prelude.{if◌then◌else◌, Result, Ok, Err}
use Prim.Native.Nat.{ℕ, ◌≤◌, ◌<◌}
use mathlib.Core.Path.{◌≡◌, refl, ap, ◌∙◌}
use mathlib.Core.Bool.{Bool, true, false}
use mathlib.Core.List.{List}
use lib.Dec.{eqb}
use lib.ListN.{length}
use mir.Syntax.{w32}
use mir.Val.{SFits, to_z, of_z}
use mir.ValLaws.{to_z-of_z}
use borrow.Author.Tests.{lt-ltb, le-ltb}
use Rattle.base.proofs.Tests.{clash, by_test}
use Rattle.record.specs.declared.Span.{Span}
use Rattle.record.specs.declared.Reading.{Reading}
use Rattle.record.specs.declared.Reading.TheVariants as loose
use Rattle.record.specs.declared.Refusal.{Refusal}
use Rattle.layout.specs.Layout.{record_size}
use Rattle.loose.specs.Loose.{outcome_of, answered, table_after, rows_of, Reads}
use Rattle.settings.specs.Record.{last_version}
use Rattle.settings.specs.File as settings
use Rattle.site.specs.declared.SiteReading.{SiteReading}
use Rattle.site.specs.declared.SiteAnswer.{SiteAnswer}
use Rattle.site.specs.Site.{with_host, ReadsWith}
use Rattle.site.specs.Site.ReadsWith.{unset, by_settings}
use Rattle.site.specs.Numbers.{site_answer_of, short_answer, kept, LeavesSite}
use Rattle.site.specs.Laws.{RefusedLeaves}
use Rattle.site.specs.Steps.{AnswersWith, Left}
use Rattle.site.specs.Steps.AnswersWith.{refuses, answers}
use Rattle.site.proofs.Answers.{read_zero, kept_same}
use Rattle.settings.specs.declared.Settings.{Settings}

-- ---- the reading

module _ (file : List ℕ) (gate : ℕ) (line : List ℕ) (e₀ p₀ : List (List ℕ)) where
  pub reads_set : (s : Settings) → settings.Reads last_version file gate (Ok s) → SFits w32 s.offset → (x : Result Reading Refusal) (e₁ p₁ : List (List ℕ))
      → Reads line s.variant s.year (to_z w32 (of_z w32 s.offset)) e₀ p₀ x e₁ p₁ → (r : Result SiteReading Refusal) → r ≡ with_host s.host x → ReadsWith file gate line e₀ p₀ r e₁ p₁
  reads_set s h f x e₁ p₁ k r q = by_settings s x h (rw (to_z-of_z w32 s.offset f) at k) q

  -- with no table at hand there are the tables that the answer would leave
  pub record Found (r : Result SiteReading Refusal) : Type 0 where
    pub elements : List (List ℕ)
    pub params : List (List ℕ)
    pub reads : ReadsWith file gate line e₀ p₀ r elements params

  pub found : (r : Result SiteReading Refusal) → AnswersWith file gate line (length e₀) (length p₀) r → Found r
  found r (refuses f h q) = record { elements = e₀; params = p₀; reads = unset f h q refl refl }
  found r (answers s h q) =
      let x = answered line s.variant s.year s.offset (length e₀) (length p₀) in
      let rows = rows_of (outcome_of line s.variant s.year s.offset) in
      record {
        elements = table_after x rows.elements e₀;
        params = table_after x rows.params p₀;
        reads = by_settings s x h (record { answer = refl; elements = refl; params = refl }) q;
      }

-- ---- a refused call

is_refused : Result SiteReading Refusal → Bool
is_refused (Ok x) = false
is_refused (Err f) = true

unread : (default : Span) (x : Result Reading Refusal) (f : Refusal) → Err f ≡ with_host default x → (rows old new : List (List ℕ)) → new ≡ table_after x rows old → new ≡ old
unfolding is_refused
unread default (Ok (loose.Read r e p)) f q rows old new h = clash (ap is_refused q)
unread default (Ok (loose.Whole r)) f q rows old new h = h
unread default (Err g) f q rows old new h = h

pub refused_leaves : RefusedLeaves
refused_leaves file gate line e₀ p₀ e₁ p₁ f (unset g h q a b) = (a, b)
refused_leaves file gate line e₀ p₀ e₁ p₁ f (by_settings s x h k q) =
    (unread s.host x f q _ e₀ e₁ k.elements, unread s.host x f q _ p₀ p₁ k.params)

-- ---- the call

never_zero : (a : SiteAnswer) → eqb (short_answer a).number 0 ≡ false
never_zero a = by_test (λ t. eqb a.number 0 ≡ t → eqb (if t then record { number = 8; holder = 0; host_start = 0; host_len = 0 } else a).number 0 ≡ false) (eqb a.number 0)
    (λ t e. refl) (λ t e. e) refl

module _ (file : List ℕ) (gate : ℕ) (line : List ℕ) (e₀ p₀ : List (List ℕ)) (out : List ℕ) where
  -- with too little memory the answer alone is told
  pub leaves_short : length out < record_size → (r : Result SiteReading Refusal) → AnswersWith file gate line (length e₀) (length p₀) r → (a : SiteAnswer) → a ≡ short_answer (site_answer_of r)
      → LeavesSite file gate line e₀ p₀ out a e₀ p₀ out
  leaves_short l r h a q =
      let w = found file gate line e₀ p₀ r h in
      let z : eqb a.number 0 ≡ false = ap (λ (k : SiteAnswer). eqb k.number 0) q ∙ never_zero (site_answer_of r) in
      record {
        answer = r;
        elements = w.elements;
        params = w.params;
        reads = w.reads;
        told_is = rw (lt-ltb (length out) record_size l) q;
        elements_are = rw z;
        params_are = rw z;
        record_is = rw z;
      }

  -- with enough the reading is left, whose refusals change no table
  tables_are : (r : Result SiteReading Refusal) (e p : List (List ℕ)) → ReadsWith file gate line e₀ p₀ r e p → (e ≡ kept (site_answer_of r).number e e₀) × (p ≡ kept (site_answer_of r).number p p₀)
  tables_are (Ok y) e p w = rw (read_zero y.holder) (refl, refl)
  tables_are (Err f) e p w =
      let (a, b) = refused_leaves file gate line e₀ p₀ e p f w in
      (rw a (kept_same (site_answer_of (Err f)).number e₀), rw b (kept_same (site_answer_of (Err f)).number p₀))

  pub leaves_all : record_size ≤ length out → (r : Result SiteReading Refusal) (e p : List (List ℕ)) → ReadsWith file gate line e₀ p₀ r e p → (a : SiteAnswer) (new : List ℕ) → Left r out a new
      → LeavesSite file gate line e₀ p₀ out a e p new
  leaves_all l r e p h a new w =
      let (x, y) = tables_are r e p h in
      record {
        answer = r;
        elements = e;
        params = p;
        reads = h;
        told_is = rw (le-ltb (length out) record_size l) w.told_is;
        elements_are = rw w.told_is x;
        params_are = rw w.told_is y;
        record_is = w.record_is;
      }
