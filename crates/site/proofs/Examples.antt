-- Worked examples, computed from the definitions.
use Rattle.std.specs.Prelude.{Ok, Err}
use Prim.Native.Nat.{ℕ}
use mathlib.Core.Path.{◌≡◌, refl}
use mathlib.Core.List.{[], ◌∷◌, map}
use Rattle.base.specs.Bytes.{bytes}
use Rattle.record.specs.Places.{absent, place}
use Rattle.record.specs.Records.{empty_record, message_alone}
use Rattle.record.specs.declared.Span.{Span}
use Rattle.record.specs.declared.Reading.TheVariants as loose
use Rattle.record.specs.declared.Refusal.TheVariants.{NoReading, TooManyParams, BadField}
use Rattle.site.specs.declared.Holder.TheVariants.{Nowhere, InLine, InSettings}
use Rattle.site.specs.declared.SiteAnswer.{SiteAnswer}
use Rattle.site.specs.Site.{host_of, host_text, with_host}
use Rattle.site.specs.Numbers.{site_answer_of, left_answer, kept}

abbrev span : ℕ → ℕ → Span
span start len = record { start = start; len = len }

-- the line's own host, an empty one too; else the default, if it has a byte
hosts : (host_of (place 4 5) (span 8 3) ≡ InLine (span 4 5)) × (host_of (place 4 0) (span 8 3) ≡ InLine (span 4 0)) × (host_of absent (span 8 3) ≡ InSettings (span 8 3))
    × (host_of absent (span 8 1) ≡ InSettings (span 8 1)) × (host_of absent (span 8 0) ≡ Nowhere)
hosts = (refl, refl, refl, refl, refl)

texts : map (host_text (bytes "line of gate7") (bytes "settings of gate8")) (InLine (span 8 5) ∷ InSettings (span 12 5) ∷ InLine (span 8 0) ∷ Nowhere ∷ [])
    ≡ bytes "gate7" ∷ bytes "gate8" ∷ [] ∷ [] ∷ []
texts = refl

-- a line with no reading is refused with 4
readings : map (with_host (span 8 3)) (Ok (loose.Read empty_record 2 5) ∷ Ok (loose.Whole (message_alone 9)) ∷ Err TooManyParams ∷ [])
    ≡ Ok (record { reading = empty_record; elements = 2; params = 5; holder = InSettings (span 8 3) }) ∷ Err NoReading ∷ Err TooManyParams ∷ []
readings = refl

-- ---- in numbers

abbrev told : ℕ → ℕ → ℕ → ℕ → SiteAnswer
told number holder start len = record { number = number; holder = holder; host_start = start; host_len = len }

answers : map site_answer_of (Ok (record { reading = empty_record; elements = 0; params = 0; holder = Nowhere }) ∷ Ok (record { reading = empty_record; elements = 0; params = 0; holder = InLine (span 4 5) }) ∷ Ok (record { reading = empty_record; elements = 0; params = 0; holder = InSettings (span 8 3) }) ∷ Err NoReading ∷ Err BadField ∷ [])
    ≡ told 0 0 0 0 ∷ told 0 1 4 5 ∷ told 0 2 8 3 ∷ told 4 0 0 0 ∷ told 15 0 0 0 ∷ []
answers = refl

-- 8 behind every other number; 216 bytes are enough
short : (map (left_answer (told 0 1 4 5)) (0 ∷ 215 ∷ 216 ∷ 217 ∷ []) ≡ told 8 0 0 0 ∷ told 8 0 0 0 ∷ told 0 1 4 5 ∷ told 0 1 4 5 ∷ [])
    × (map (left_answer (told 4 0 0 0)) (0 ∷ 216 ∷ []) ≡ told 4 0 0 0 ∷ told 4 0 0 0 ∷ []) × (left_answer (told 1 0 0 0) 0 ≡ told 1 0 0 0)
short = (refl, refl, refl)

keeps : map (λ (n : ℕ). kept {A = ℕ} n 7 5) (0 ∷ 1 ∷ 8 ∷ []) ≡ 7 ∷ 5 ∷ 5 ∷ []
keeps = refl
