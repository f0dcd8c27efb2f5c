-- What holds of readings with settings: the statements, to be read without their proofs, which are in proofs/.
use Rattle.std.specs.Prelude.{ℕ, ◌≡◌, true, List, if◌then◌else◌, Result, Ok, Err}
use Rattle.base.specs.Texts.{text_at}
use Rattle.record.specs.declared.Record.{Record}
use Rattle.record.specs.declared.Refusal.{Refusal}
use Rattle.record.specs.declared.Refusal.TheVariants.{BadSetting}
use Rattle.loose.specs.Loose.{settings_ok}
use Rattle.settings.specs.Record.{Meaning, Holds}
use Rattle.settings.specs.File.{Chosen, record_at}
use Rattle.settings.specs.File as settings
use Rattle.settings.specs.declared.Settings.{Settings}
use Rattle.site.specs.declared.Holder.{Holder}
use Rattle.site.specs.declared.SiteReading.{SiteReading}
use Rattle.site.specs.declared.SiteAnswer.{SiteAnswer}
use Rattle.site.specs.Site.{host_text, ReadsWith}
use Rattle.site.specs.Numbers.{LeavesSite}

-- Settings that were read are in the ranges of refusal 2, by either reader.
abbrev pub InRange : Type 0
InRange = (greatest : ℕ) (file : List ℕ) (gate : ℕ) (s : Settings) → settings.Reads greatest file gate (Ok s) → settings_ok s.variant s.year s.offset ≡ true

-- So 2 is never given.
abbrev pub NeverTwo : Type 0
NeverTwo = (file : List ℕ) (gate : ℕ) (line : List ℕ) (e₀ p₀ e₁ p₁ : List (List ℕ)) → ReadsWith file gate line e₀ p₀ (Err BadSetting) e₁ p₁ → ⊥

-- A refused call leaves the tables.
abbrev pub RefusedLeaves : Type 0
RefusedLeaves = (file : List ℕ) (gate : ℕ) (line : List ℕ) (e₀ p₀ e₁ p₁ : List (List ℕ)) (f : Refusal) → ReadsWith file gate line e₀ p₀ (Err f) e₁ p₁ → (e₁ ≡ e₀) × (p₁ ≡ p₀)

-- The bytes of the host are the line's own where the record has a host, and else those of the settings that the chosen record holds; none, if there are none.
pub record HostIs (file : List ℕ) (gate : ℕ) (line : List ℕ) (r : Record) (host : Holder) : Type 0 where
  pub at : ℕ
  pub chosen : Chosen gate file at
  pub kept : Meaning
  pub holds : Holds (record_at file at) kept
  pub bytes_are : host_text line file host ≡ (if r.host.present then text_at line r.host.start r.host.len else kept.host)

abbrev pub HostOfEither : Type 0
HostOfEither = (file : List ℕ) (gate : ℕ) (line : List ℕ) (e₀ p₀ e₁ p₁ : List (List ℕ)) (r : Record) (e p : ℕ) (host : Holder)
    → ReadsWith file gate line e₀ p₀ (Ok (record { reading = r; elements = e; params = p; holder = host })) e₁ p₁ → HostIs file gate line r host

-- Any two results that the contract allows are equal.
abbrev pub OneReading : Type 0
OneReading = (file : List ℕ) (gate : ℕ) (line : List ℕ) (e₀ p₀ e₁ e₂ p₁ p₂ : List (List ℕ)) (r s : Result SiteReading Refusal) → ReadsWith file gate line e₀ p₀ r e₁ p₁ → ReadsWith file gate line e₀ p₀ s e₂ p₂
    → (r ≡ s) × (e₁ ≡ e₂) × (p₁ ≡ p₂)

-- And those of the call.
pub record Same (a b : SiteAnswer) (e e' p p' : List (List ℕ)) (out out' : List ℕ) : Type 0 where
  pub answer : a ≡ b
  pub elements : e ≡ e'
  pub params : p ≡ p'
  pub memory : out ≡ out'

abbrev pub OneAnswer : Type 0
OneAnswer = (file : List ℕ) (gate : ℕ) (line : List ℕ) (e₀ p₀ : List (List ℕ)) (out : List ℕ) (a b : SiteAnswer) (e e' p p' : List (List ℕ)) (new new' : List ℕ)
    → LeavesSite file gate line e₀ p₀ out a e p new → LeavesSite file gate line e₀ p₀ out b e' p' new' → Same a b e e' p p' new new'
