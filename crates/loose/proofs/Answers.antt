-- What an answer that is no refusal says of the line: 1, 2 and 3 do not apply; and where it is the whole line, there is no reading.
use Rattle.std.specs.Prelude.{if◌then◌else◌, Result, Ok, Err}
use Prim.Native.Nat.{ℕ}
use mathlib.Core.Path.{◌≡◌, refl, sym}
use mathlib.Core.Bool.{Bool, true, false, not}
use mathlib.Core.List.{List}
use lib.Dec.{ltb}
use lib.ListN.{length}
use lib.IntN.{ℤ}
use borrow.Author.Tests.{not-false}
use Rattle.base.proofs.Tests.{clash}
use Rattle.utf8.specs.Lead.{is_utf8}
use Rattle.record.specs.Limits.{line_limit}
use Rattle.record.specs.Records.{message_alone}
use Rattle.record.specs.declared.Record.{Record}
use Rattle.record.specs.declared.Reading.{Reading}
use Rattle.record.specs.declared.Reading.TheVariants.{Read, Whole}
use Rattle.record.specs.declared.Refusal.{Refusal}
use Rattle.draft.specs.Outcome.{Outcome}
use Rattle.draft.specs.Outcome.Outcome.{no_reading, is_reading}
use Rattle.loose.specs.Loose.{outcome_of, settings_ok, judged, answered, Reads}

-- what such an answer has passed, and what is left to say
pub record Passed (line : List ℕ) (variant year : ℕ) (offset : ℤ) (A : Type 0) : Type 0 where
  pub short : ltb line_limit (length line) ≡ false
  pub settings : settings_ok variant year offset ≡ true
  pub text : is_utf8 line ≡ true
  pub is : A

module _ (y : Result Reading Refusal) (done : (f : Refusal) → Err f ≡ y → ⊥) where
  -- after a test that refuses it is the answer, where the test fails
  pub past : (b : Bool) (f : Refusal) (x : Result Reading Refusal) → (if b then Err f else x) ≡ y → (b ≡ false) × (x ≡ y)
  past true f x h = absurd (done f h)
  past false f x h = (refl, h)

  pub passes : (line : List ℕ) (variant year : ℕ) (offset : ℤ) (e p : ℕ) → y ≡ answered line variant year offset e p
      → Passed line variant year offset (judged line (outcome_of line variant year offset) e p ≡ y)
  passes line variant year offset e p h =
      let long = past (ltb line_limit (length line)) _ _ (sym h) in
      let bad = past (not (settings_ok variant year offset)) _ _ long.1 in
      let text = past (not (is_utf8 line)) _ _ bad.1 in
      record { short = long.0; settings = not-false _ bad.0; text = not-false _ text.0; is = text.1 }

pub read_done : (r : Record) (e p : ℕ) (f : Refusal) → Err f ≡ Ok (Read r e p) → ⊥
read_done r e p f h = let z : true ≡ false = cc in clash z

whole_done : (r : Record) (f : Refusal) → Err f ≡ Ok (Whole r) → ⊥
whole_done r f h = let z : true ≡ false = cc in clash z

-- no reading, and the record has the message alone
pub record IsWhole (line : List ℕ) (o : Outcome) (r : Record) : Type 0 where
  pub none : o ≡ no_reading
  pub alone : r ≡ message_alone (length line)

judged_whole : (line : List ℕ) (o : Outcome) (e p : ℕ) (r : Record) → judged line o e p ≡ Ok (Whole r) → IsWhole line o r
judged_whole line no_reading e p r h = record { none = refl; alone = cc }
judged_whole line (is_reading x at rows) e p r h =
    let u = past (Ok (Whole r)) (whole_done r) (ltb e (length rows.elements)) _ _ h in
    let v = past (Ok (Whole r)) (whole_done r) (ltb p (length rows.params)) _ _ u.1 in
    let w = v.1 in
    let z : true ≡ false = cc in
    clash z

pub whole_is : {line : List ℕ} {variant year : ℕ} {offset : ℤ} {e₀ p₀ e₁ p₁ : List (List ℕ)} {r : Record} → Reads line variant year offset e₀ p₀ (Ok (Whole r)) e₁ p₁
    → Passed line variant year offset (IsWhole line (outcome_of line variant year offset) r)
whole_is {line} {variant} {year} {offset} {e₀} {p₀} {r} h =
    let t = passes (Ok (Whole r)) (whole_done r) line variant year offset (length e₀) (length p₀) h.answer in
    record { short = t.short; settings = t.settings; text = t.text; is = judged_whole line (outcome_of line variant year offset) (length e₀) (length p₀) r t.is }
