-- The calls of C: a number, 0 where the settings are read or written, and zeros where the call is refused.
use Rattle.std.specs.Prelude.{ℕ, ◌≡◌, List, pos, Result, Ok, Err}
use Rattle.record.specs.Refusals.{refusal_number}
use Rattle.record.specs.Answers.{output_answer_of}
use Rattle.record.specs.declared.OutputAnswer.{OutputAnswer}
use Rattle.settings.specs.declared.SettingsAnswer.{SettingsAnswer}
use Rattle.settings.specs.Record.{Meaning}
use Rattle.settings.specs.File.{Reads}
use Rattle.settings.specs.Writes.{Writes}
use Rattle.record.specs.declared.Refusal.{Refusal}
use Rattle.settings.specs.declared.Settings.{Settings}

abbrev pub settings_answer_of : Result Settings Refusal → SettingsAnswer
settings_answer_of (Ok s) =
    record {
      number = 0;
      version = s.version;
      gate = s.gate;
      year = s.year;
      offset = s.offset;
      variant = s.variant;
      host_start = s.host.start;
      host_len = s.host.len;
    }
settings_answer_of (Err f) =
    record { number = refusal_number f; version = 0; gate = 0; year = 0; offset = pos 0; variant = 0; host_start = 0; host_len = 0 }

pub record ReadsNumbers (greatest : ℕ) (file : List ℕ) (gate : ℕ) (a : SettingsAnswer) : Type 0 where
  pub read : Result Settings Refusal
  pub reads : Reads greatest file gate read
  pub told : a ≡ settings_answer_of read

pub record WritesNumbers (m : Meaning) (old : List ℕ) (a : OutputAnswer) (new : List ℕ) : Type 0 where
  pub written : Result ℕ Refusal
  pub writes : Writes m old written new
  pub told : a ≡ output_answer_of written
