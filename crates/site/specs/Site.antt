-- Loose reading with the settings of a gate, and whose host it is.
use Rattle.std.specs.Prelude.{ℕ, ◌≡◌, List, [], eqb, if◌then◌else◌, Result, Ok, Err}
use Rattle.base.specs.Texts.{text_at}
use Rattle.record.specs.declared.Place.{Place}
use Rattle.record.specs.declared.Span.{Span}
use Rattle.record.specs.declared.Reading.{Reading}
use Rattle.record.specs.declared.Reading.TheVariants as loose
use Rattle.record.specs.declared.Refusal.{Refusal}
use Rattle.record.specs.declared.Refusal.TheVariants.{NoReading}
use Rattle.loose.specs.Loose.{Reads}
use Rattle.settings.specs.Record.{last_version}
use Rattle.settings.specs.File as settings
use Rattle.settings.specs.declared.Settings.{Settings}
use Rattle.site.specs.declared.Holder.{Holder}
use Rattle.site.specs.declared.Holder.TheVariants.{Nowhere, InLine, InSettings}
use Rattle.site.specs.declared.SiteReading.{SiteReading}

-- the line's own where it has one, an empty one too; else the settings', if that is not empty
abbrev pub host_of : Place → Span → Holder
host_of own default =
    if own.present then InLine (record { start = own.start; len = own.len })
    else if eqb default.len 0 then Nowhere
    else InSettings default

-- its bytes
abbrev pub host_text : List ℕ → List ℕ → Holder → List ℕ
host_text line file Nowhere = []
host_text line file (InLine p) = text_at line p.start p.len
host_text line file (InSettings p) = text_at file p.start p.len

-- a loose reading with the default host; a line with no reading is refused
abbrev pub with_host : Span → Result Reading Refusal → Result SiteReading Refusal
with_host default (Ok (loose.Read r e p)) = Ok (record { reading = r; elements = e; params = p; holder = host_of r.host default })
with_host default (Ok (loose.Whole r)) = Err NoReading
with_host default (Err f) = Err f

-- A call of `read`, with tables that held e₀ and p₀ and hold e₁ and p₁: the refusal of the settings, or what the loose reader makes of the line with them.
pub data ReadsWith (file : List ℕ) (gate : ℕ) (line : List ℕ) (e₀ p₀ : List (List ℕ)) (r : Result SiteReading Refusal) (e₁ p₁ : List (List ℕ)) : Type 0 where
  unset : (f : Refusal) → settings.Reads last_version file gate (Err f) → r ≡ Err f → e₁ ≡ e₀ → p₁ ≡ p₀ → ReadsWith file gate line e₀ p₀ r e₁ p₁
  by_settings : (s : Settings) (x : Result Reading Refusal) → settings.Reads last_version file gate (Ok s) → Reads line s.variant s.year s.offset e₀ p₀ x e₁ p₁
      → r ≡ with_host s.host x → ReadsWith file gate line e₀ p₀ r e₁ p₁
