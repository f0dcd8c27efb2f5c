-- The answers of C.
use Rattle.std.specs.Prelude.{Result, Ok, Err}
use Prim.Native.Nat.{ℕ}
use mathlib.Core.Path.{◌≡◌}
use mathlib.Core.List.{List}
use lib.IntN.{ℤ, pos}
use mir.Syntax.{w32}
use mir.Val.{SFits, to_z, of_z}
use mir.ValLaws.{to_z-of_z}
use Rattle.record.specs.Refusals.{refusal_number}
use Rattle.record.specs.Answers.{output_answer_of}
use Rattle.record.specs.declared.OutputAnswer.{OutputAnswer}
use Rattle.record.specs.declared.Refusal.{Refusal}
use Rattle.settings.specs.declared.Settings.{Settings}
use Rattle.settings.specs.declared.SettingsAnswer.{SettingsAnswer}
use Rattle.settings.specs.Record.{meant}
use Rattle.settings.specs.File.{Reads}
use Rattle.settings.specs.Writes.{Writes}
use Rattle.settings.specs.Numbers.{settings_answer_of, ReadsNumbers, WritesNumbers}

module _ (r : Result Settings Refusal) where
  pub told_read : (s : Settings) (a : SettingsAnswer) → r ≡ Ok s → a ≡ settings_answer_of (Ok s) → a ≡ settings_answer_of r
  told_read s a e q = rw e q

  pub told_refused : (f : Refusal) (n : ℕ) → r ≡ Err f → n ≡ refusal_number f
      → record { number = n; version = 0; gate = 0; year = 0; offset = pos 0; variant = 0; host_start = 0; host_len = 0 } ≡ settings_answer_of r
  told_refused f n e q = rw (e, q)

pub ruleset told_laws = (told_read, told_refused)

pub reads_numbers : (greatest : ℕ) (file : List ℕ) (gate : ℕ) (r : Result Settings Refusal) (a : SettingsAnswer) → Reads greatest file gate r → a ≡ settings_answer_of r → ReadsNumbers greatest file gate a
reads_numbers greatest file gate r a h e = record { read = r; reads = h; told = e }

-- the offset comes by its bits
module _ (version gate year variant : ℕ) (offset : ℤ) (f : SFits w32 offset) (host old : List ℕ) (w : Result ℕ Refusal) (new : List ℕ) (a : OutputAnswer) where
  pub writes_numbers : Writes (meant version gate year (to_z w32 (of_z w32 offset)) variant host) old w new → a ≡ output_answer_of w
      → WritesNumbers (meant version gate year offset variant host) old a new
  writes_numbers h e = record { written = w; writes = rw (to_z-of_z w32 offset f) at h; told = e }
