-- The answers, by the cases of the settings and of the reading.
use Rattle.std.specs.Prelude.{if◌then◌else◌, Result, Ok, Err}
use Prim.Native.Nat.{ℕ}
use mathlib.Core.Path.{◌≡◌, refl, ap, ◌∙◌}
use mathlib.Core.List.{List}
use lib.Dec.{eqb}
use mir.Syntax.{w32}
use mir.Val.{SFits, to_z, of_z}
use mir.ValLaws.{to_z-of_z}
use borrow.Author.Tests.{ne_eqb}
use Rattle.base.specs.Fills.{filled}
use Rattle.base.proofs.Tests.{by_test}
use Rattle.record.specs.Refusals.{refusal_number}
use Rattle.record.specs.declared.Record.{Record}
use Rattle.record.specs.declared.Span.{Span}
use Rattle.record.specs.declared.Reading.{Reading}
use Rattle.record.specs.declared.Reading.TheVariants as loose
use Rattle.record.specs.declared.Refusal.{Refusal}
use Rattle.record.specs.declared.Refusal.TheVariants.{NoReading}
use Rattle.layout.specs.Layout.{record_bytes}
use Rattle.loose.specs.Loose.{answered}
use Rattle.settings.specs.Record.{last_version}
use Rattle.settings.specs.File as settings
use Rattle.settings.specs.declared.Settings.{Settings}
use Rattle.site.specs.declared.Holder.{Holder}
use Rattle.site.specs.declared.Holder.TheVariants.{Nowhere, InLine, InSettings}
use Rattle.site.specs.declared.SiteReading.{SiteReading}
use Rattle.site.specs.declared.SiteAnswer.{SiteAnswer}
use Rattle.site.specs.Site.{host_of, with_host}
use Rattle.site.specs.Numbers.{read_with, site_answer_of, short_answer, kept}
use Rattle.site.specs.Steps.{AnswersWith, Left}
use Rattle.site.specs.Steps.AnswersWith.{answers}

-- ---- the reading

module _ (default : Span) (x : Result Reading Refusal) where
  pub default_read : (r : Record) (e p : ℕ) (h : Holder) → x ≡ Ok (loose.Read r e p) → h ≡ host_of r.host default → Ok (record { reading = r; elements = e; params = p; holder = h }) ≡ with_host default x
  default_read r e p h q k = rw (q, k)

  pub default_whole : (r : Record) → x ≡ Ok (loose.Whole r) → Err NoReading ≡ with_host default x
  default_whole r q = rw q

  pub default_refused : (f : Refusal) → x ≡ Err f → Err f ≡ with_host default x
  default_refused f q = rw q

pub ruleset default_laws = (default_read, default_whole, default_refused)

-- the settings' refusal, or the loose reading with them
pub answer_set : (file : List ℕ) (gate : ℕ) (line : List ℕ) (e p : ℕ) (s : Settings) → settings.Reads last_version file gate (Ok s) → SFits w32 s.offset
    → (x : Result Reading Refusal) → x ≡ answered line s.variant s.year (to_z w32 (of_z w32 s.offset)) e p
    → (r : Result SiteReading Refusal) → r ≡ with_host s.host x → AnswersWith file gate line e p r
answer_set file gate line e p s h f x ex r k = answers s h (k ∙ ap (with_host s.host) (ex ∙ rw (to_z-of_z w32 s.offset f)))

-- ---- for C

module _ (h : Holder) where
  pub told_none : h ≡ Nowhere → record { number = 0; holder = 0; host_start = 0; host_len = 0 } ≡ read_with h
  told_none e = rw e

  pub told_line : (p : Span) → h ≡ InLine p → record { number = 0; holder = 1; host_start = p.start; host_len = p.len } ≡ read_with h
  told_line p e = rw e

  pub told_settings : (p : Span) → h ≡ InSettings p → record { number = 0; holder = 2; host_start = p.start; host_len = p.len } ≡ read_with h
  told_settings p e = rw e

pub ruleset holder_laws = (told_none, told_line, told_settings)

module _ (r : Result SiteReading Refusal) where
  pub told_read : (x : Record) (e p : ℕ) (h : Holder) (a : SiteAnswer) → r ≡ Ok (record { reading = x; elements = e; params = p; holder = h }) → a ≡ read_with h → a ≡ site_answer_of r
  told_read x e p h a q k = rw q k

  pub told_refused : (f : Refusal) (n : ℕ) → r ≡ Err f → n ≡ refusal_number f → record { number = n; holder = 0; host_start = 0; host_len = 0 } ≡ site_answer_of r
  told_refused f n q k = rw (q, k)

  module _ (a : SiteAnswer) (e : a ≡ site_answer_of r) where
    pub short_done : a.number ≡ 0 → record { number = 8; holder = 0; host_start = 0; host_len = 0 } ≡ short_answer (site_answer_of r)
    short_done z = rw (← e, z)

    pub short_refused : (a.number ≡ 0 → ⊥) → a ≡ short_answer (site_answer_of r)
    short_refused z = rw (← e, ne_eqb a.number 0 z)

pub ruleset told_laws = (told_read, told_refused)

pub ruleset short_laws = (short_done, short_refused)

-- ---- the record in memory

pub read_zero : (h : Holder) → (read_with h).number ≡ 0
read_zero Nowhere = refl
read_zero (InLine p) = refl
read_zero (InSettings p) = refl

pub kept_same : {A : Type 0} (n : ℕ) (x : A) → x ≡ kept n x x
kept_same n x = by_test (λ t. x ≡ (if t then x else x)) (eqb n 0) (λ e. refl) (λ e. refl)

module _ (r : Result SiteReading Refusal) (old : List ℕ) (a : SiteAnswer) (e : a ≡ site_answer_of r) where
  pub left_read : (x : Record) (n p : ℕ) (h : Holder) → r ≡ Ok (record { reading = x; elements = n; params = p; holder = h }) → (new : List ℕ) → new ≡ filled (record_bytes x n p) old → Left r old a new
  left_read x n p h q new k =
      let z : a.number ≡ 0 = ap (λ (y : SiteAnswer). y.number) (e ∙ ap site_answer_of q) ∙ read_zero h in
      record { told_is = e; record_is = rw (z, q) k }

  pub left_refused : (f : Refusal) → r ≡ Err f → Left r old a old
  left_refused f q = record { told_is = e; record_is = rw q (kept_same a.number old) }

pub ruleset left_laws = (left_read, left_refused)
