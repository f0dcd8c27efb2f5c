-- What a reader leaves suits its line: the record, the counts and the tables of a reading that is done are not refused with 7.
use Rattle.std.specs.Prelude.{Ok}
use Prim.Native.Nat.{ℕ}
use mathlib.Core.Path.{◌≡◌}
use mathlib.Core.List.{List}
use mathlib.Core.Bool.{true}
use lib.IntN.{ℤ}
use Rattle.record.specs.declared.Record.{Record}
use Rattle.record.specs.declared.Reading.TheVariants as loose
use Rattle.record.specs.declared.StrictRecord.{StrictRecord}
use Rattle.loose.specs.Loose.{Reads}
use Rattle.grammar.specs.Reading.{StrictReads}
use Rattle.suits.specs.Suits.{suits}
use Rattle.loose.proofs.Answers.{whole_is}
use Rattle.suited.proofs.Frame.{whole_suits, reading_suits}
use Rattle.suited.proofs.Records.{outcome_suits}
use Rattle.suited.proofs.Strict as division

module _ {line : List ℕ} {e₀ p₀ e₁ p₁ : List (List ℕ)} where
  module _ {r : Record} {variant year : ℕ} {offset : ℤ} where
    pub loose_suits : {e p : ℕ} → Reads line variant year offset e₀ p₀ (Ok (loose.Read r e p)) e₁ p₁ → suits line r e p e₁ p₁ ≡ true
    loose_suits h = reading_suits line e₀ p₀ e₁ p₁ variant year offset h (outcome_suits line variant year offset)

    pub line_suits : Reads line variant year offset e₀ p₀ (Ok (loose.Whole r)) e₁ p₁ → suits line r 0 0 e₁ p₁ ≡ true
    line_suits h = rw (whole_is h).is.alone (whole_suits line e₁ p₁)

  pub strict_suits : {e p : ℕ} {s : StrictRecord} → StrictReads line e₀ p₀ (Ok (record { reading = s; elements = e; params = p })) e₁ p₁ → suits line s.common e p e₁ p₁ ≡ true
  strict_suits h = division.reading_suits h
