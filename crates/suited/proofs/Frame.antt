-- A loose reading that was done: the settings were right, the outcome is the record, and the tables hold its rows.
use Rattle.std.specs.Prelude.{Ok}
use Prim.Native.Nat.{ℕ}
use mathlib.Core.Path.{◌≡◌, refl}
use mathlib.Core.List.{List, []}
use mathlib.Core.Bool.{true, false}
use native.Mathlib.Omega.{arith}
use lib.Dec.{ltb}
use lib.ListN.{length}
use lib.IntN.{ℤ}
use Rattle.base.specs.Fills.{filled}
use Rattle.base.proofs.Tests.{clash}
use Rattle.utf8.specs.Lead.{is_utf8}
use Rattle.record.specs.Limits.{line_limit}
use Rattle.record.specs.Records.{message_alone}
use Rattle.record.specs.declared.Record.{Record}
use Rattle.record.specs.declared.Reading.TheVariants.{Read}
use Rattle.structured_data.specs.Data.{Rows}
use Rattle.draft.specs.Outcome.{Outcome}
use Rattle.draft.specs.Outcome.Outcome.{no_reading, is_reading}
use Rattle.suits.specs.Suits.{suits}
use Rattle.loose.specs.Loose.{outcome_of, settings_ok, judged, rows_of, Reads}
use Rattle.loose.proofs.Answers.{Passed, past, passes, read_done}
use Rattle.suited.proofs.Tests.{Suited, rows_none, suits_filled}

abbrev pub OutcomeSuits : List ℕ → Outcome → Type 0
OutcomeSuits line no_reading = Unit {0}
OutcomeSuits line (is_reading r at rows) = Suited line r rows.elements rows.params

-- a line that is the message whole
pub whole_suits : (line : List ℕ) (e₀ p₀ : List (List ℕ)) → suits line (message_alone (length line)) 0 0 e₀ p₀ ≡ true
whole_suits line e₀ p₀ =
    suits_filled line (message_alone (length line)) [] [] e₀ p₀
    (record {
      of_record = record {
        facility_in = refl;
        severity_in = refl;
        timestamp_in = refl;
        host_in = omega arith;
        app_in = omega arith;
        procid_in = omega arith;
        msgid_in = omega arith;
        message_in = omega arith;
      };
      of_tables = rows_none;
    })

-- the outcome of a reading that is done
pub record Judged (o : Outcome) (r : Record) (e p : ℕ) : Type 0 where
  pub at : ℕ
  pub rows : Rows
  pub outcome : o ≡ is_reading r at rows
  pub elements_many : e ≡ length rows.elements
  pub params_many : p ≡ length rows.params

module _ {r : Record} {e p : ℕ} where
  judged_is : (line : List ℕ) (o : Outcome) (m n : ℕ) → judged line o m n ≡ Ok (Read r e p) → Judged o r e p
  judged_is line no_reading m n h = let z : true ≡ false = cc in clash z
  judged_is line (is_reading x at rows) m n h =
      let u = past (Ok (Read r e p)) (read_done r e p) (ltb m (length rows.elements)) _ _ h in
      let v = past (Ok (Read r e p)) (read_done r e p) (ltb n (length rows.params)) _ _ u.1 in
      let w = v.1 in
      let er : r ≡ x = cc in
      record { at = at; rows = rows; outcome = rw er; elements_many = cc; params_many = cc }

  judged_suits : (line : List ℕ) (e₀ p₀ e₁ p₁ : List (List ℕ)) (o : Outcome) (at : ℕ) (rows : Rows)
      → o ≡ is_reading r at rows → e ≡ length rows.elements → p ≡ length rows.params → OutcomeSuits line o
      → e₁ ≡ filled (rows_of o).elements e₀ → p₁ ≡ filled (rows_of o).params p₀ → suits line r e p e₁ p₁ ≡ true
  judged_suits line e₀ p₀ e₁ p₁ o at rows q n m s a b =
      rw (a, b, q, n, m) (suits_filled line r rows.elements rows.params e₀ p₀ (rw q at s))

  module _ (line : List ℕ) (e₀ p₀ e₁ p₁ : List (List ℕ)) (variant year : ℕ) (offset : ℤ) (h : Reads line variant year offset e₀ p₀ (Ok (Read r e p)) e₁ p₁) where
    abbrev outcome : Outcome
    outcome = outcome_of line variant year offset

    reading_passes : Passed line variant year offset (judged line outcome (length e₀) (length p₀) ≡ Ok (Read r e p))
    reading_passes = passes (Ok (Read r e p)) (read_done r e p) line variant year offset (length e₀) (length p₀) h.answer

    pub reading_short : ltb line_limit (length line) ≡ false
    reading_short = reading_passes.short

    pub reading_utf8 : is_utf8 line ≡ true
    reading_utf8 = reading_passes.text

    pub reading_judged : Judged outcome r e p
    reading_judged = judged_is line outcome (length e₀) (length p₀) reading_passes.is

    pub reading_suits : (settings_ok variant year offset ≡ true → OutcomeSuits line outcome) → suits line r e p e₁ p₁ ≡ true
    reading_suits k =
        let j = reading_judged in
        judged_suits line e₀ p₀ e₁ p₁ outcome j.at j.rows j.outcome j.elements_many j.params_many (k reading_passes.settings) h.elements h.params
