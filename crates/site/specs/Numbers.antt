-- The call of C: a number, the slice that holds the host and its place there, and the record in memory.
use Rattle.std.specs.Prelude.{ℕ, ◌≡◌, List, [], eqb, ltb, length, if◌then◌else◌, Result, Ok, Err}
use Rattle.base.specs.Fills.{filled}
use Rattle.record.specs.Refusals.{refusal_number}
use Rattle.layout.specs.Layout.{record_size, record_bytes}
use Rattle.site.specs.declared.Holder.{Holder}
use Rattle.site.specs.declared.Holder.TheVariants.{Nowhere, InLine, InSettings}
use Rattle.site.specs.declared.SiteReading.{SiteReading}
use Rattle.site.specs.declared.SiteAnswer.{SiteAnswer}
use Rattle.site.specs.Site.{ReadsWith}
use Rattle.record.specs.declared.Refusal.{Refusal}

-- a refusal has zeros
abbrev pub refused_with : ℕ → SiteAnswer
refused_with n = record { number = n; holder = 0; host_start = 0; host_len = 0 }

-- 0 no host, 1 the line's, 2 the settings'
abbrev pub read_with : Holder → SiteAnswer
read_with Nowhere = record { number = 0; holder = 0; host_start = 0; host_len = 0 }
read_with (InLine p) = record { number = 0; holder = 1; host_start = p.start; host_len = p.len }
read_with (InSettings p) = record { number = 0; holder = 2; host_start = p.start; host_len = p.len }

abbrev pub site_answer_of : Result SiteReading Refusal → SiteAnswer
site_answer_of (Ok x) = read_with x.holder
site_answer_of (Err f) = refused_with (refusal_number f)

-- 8, last of all, where the record's memory is too short
abbrev pub short_answer : SiteAnswer → SiteAnswer
short_answer a = if eqb a.number 0 then refused_with 8 else a

abbrev pub left_answer : SiteAnswer → ℕ → SiteAnswer
left_answer a room = if ltb room record_size then short_answer a else a

-- a call that answers a number other than 0 has changed nothing that it was lent
abbrev pub kept : {A : Type 0} → ℕ → A → A → A
kept n new old = if eqb n 0 then new else old

-- the bytes of the record and the counts
abbrev pub bytes_of : Result SiteReading Refusal → List ℕ
bytes_of (Ok x) = record_bytes x.reading x.elements x.params
bytes_of (Err f) = []

pub record LeavesSite (file : List ℕ) (gate : ℕ) (line : List ℕ) (e₀ p₀ : List (List ℕ)) (out₀ : List ℕ) (a : SiteAnswer) (e₁ p₁ : List (List ℕ)) (out₁ : List ℕ) : Type 0 where
  pub answer : Result SiteReading Refusal
  pub elements : List (List ℕ)
  pub params : List (List ℕ)
  pub reads : ReadsWith file gate line e₀ p₀ answer elements params
  pub told_is : a ≡ left_answer (site_answer_of answer) (length out₀)
  pub elements_are : e₁ ≡ kept a.number elements e₀
  pub params_are : p₁ ≡ kept a.number params p₀
  pub record_is : out₁ ≡ kept a.number (filled (bytes_of answer) out₀) out₀
