-- For private contracts alone: the answer with no table at hand, and what a call leaves.
use Rattle.std.specs.Prelude.{ℕ, ◌≡◌, List, Result, Ok, Err}
use Rattle.base.specs.Fills.{filled}
use Rattle.loose.specs.Loose.{answered}
use Rattle.settings.specs.Record.{last_version}
use Rattle.settings.specs.File as settings
use Rattle.settings.specs.declared.Settings.{Settings}
use Rattle.site.specs.declared.SiteReading.{SiteReading}
use Rattle.site.specs.declared.SiteAnswer.{SiteAnswer}
use Rattle.site.specs.Site.{with_host}
use Rattle.site.specs.Numbers.{site_answer_of, kept, bytes_of}
use Rattle.record.specs.declared.Refusal.{Refusal}

-- what is answered to tables of `e` and `p` entries
pub data AnswersWith (file : List ℕ) (gate : ℕ) (line : List ℕ) (e p : ℕ) (r : Result SiteReading Refusal) : Type 0 where
  refuses : (f : Refusal) → settings.Reads last_version file gate (Err f) → r ≡ Err f → AnswersWith file gate line e p r
  answers : (s : Settings) → settings.Reads last_version file gate (Ok s) → r ≡ with_host s.host (answered line s.variant s.year s.offset e p) → AnswersWith file gate line e p r

-- what is told of a reading, and its bytes at the front of the memory where the number is 0
pub record Left (r : Result SiteReading Refusal) (old : List ℕ) (a : SiteAnswer) (new : List ℕ) : Type 0 where
  pub told_is : a ≡ site_answer_of r
  pub record_is : new ≡ kept a.number (filled (bytes_of r) old) old
