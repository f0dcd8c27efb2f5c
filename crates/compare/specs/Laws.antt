-- What a user would ask of a comparison: statements to be read without their proofs, which are in proofs/.
use Rattle.std.specs.Prelude.{ℕ, ◌<◌, ◌≡◌, List, true, length, ℤ, Result, Ok}
use Rattle.loose.specs.Loose.{outcome_of, settings_ok}
use Rattle.differ.specs.declared.Differences.{Differences}
use Rattle.compare.specs.declared.Refused.{Refused}
use Rattle.compare.specs.declared.CompareAnswer.{CompareAnswer}
use Rattle.differ.specs.Seen.{Pair, Seen}
use Rattle.differ.specs.Differences.{occurs, differences_of}
use Rattle.compare.specs.Compare.{nothing, seen_in, Compares}
use Rattle.compare.specs.Numbers.{Answers}

-- equal but for places, digit counts and escapes, which are no part of a reading as it is seen, and for the order of pairs: each occurs as often in both
pub record Alike (a b : Seen) : Type 0 where
  pub protocol : a.protocol ≡ b.protocol
  pub facility : a.facility ≡ b.facility
  pub severity : a.severity ≡ b.severity
  pub time : a.time ≡ b.time
  pub host : a.host ≡ b.host
  pub app : a.app ≡ b.app
  pub procid : a.procid ≡ b.procid
  pub msgid : a.msgid ≡ b.msgid
  pub ids : a.ids ≡ b.ids
  pub pairs : (p : Pair) → occurs p a.pairs ≡ occurs p b.pairs
  pub message : a.message ≡ b.message

-- each pair is of an element that is there
abbrev pub Formed : Seen → Type 0
Formed a = (p : Pair) → (occurs p a.pairs ≡ 0 → ⊥) → p.element < length a.ids

-- ---- of readings

-- a reading compared with itself
abbrev pub SameDiffersNowhere : Type 0
SameDiffersNowhere = (a : Seen) → differences_of a a ≡ nothing

-- the fields and the position are those of the readings exchanged
abbrev pub ExchangeKeeps : Type 0
ExchangeKeeps = (a b : Seen) → ((differences_of a b).fields ≡ (differences_of b a).fields) × ((differences_of a b).position ≡ (differences_of b a).position)

-- nothing differs exactly where the readings are alike
pub record NothingWhereAlike : Type 0 where
  pub alike : (a b : Seen) → Formed a → Formed b → (differences_of a b).fields ≡ 0 → Alike a b
  pub nothing_differs : (a b : Seen) → Alike a b → differences_of a b ≡ nothing
  -- and each line that is read is formed
  pub formed : (line : List ℕ) (variant year : ℕ) (offset : ℤ) → settings_ok variant year offset ≡ true → Formed (seen_in line (outcome_of line variant year offset))

-- ---- of calls

-- any two results that the contract allows are equal
pub record OneResult : Type 0 where
  pub one : {line₁ line₂ : List ℕ} {variant year : ℕ} {offset : ℤ} {e₁ p₁ e₂ p₂ : List (List ℕ)} {c d : Result Differences Refused} {e₁' p₁' e₂' p₂' e₁'' p₁'' e₂'' p₂'' : List (List ℕ)}
      → Compares line₁ line₂ variant year offset e₁ p₁ e₂ p₂ c e₁' p₁' e₂' p₂'
      → Compares line₁ line₂ variant year offset e₁ p₁ e₂ p₂ d e₁'' p₁'' e₂'' p₂''
      → (c ≡ d) × (e₁' ≡ e₁'') × (p₁' ≡ p₁'') × (e₂' ≡ e₂'') × (p₂' ≡ p₂'')

-- and so are any two of the C call
pub record OneAnswer : Type 0 where
  pub one : {line₁ line₂ : List ℕ} {variant year : ℕ} {offset : ℤ} {e₁ p₁ e₂ p₂ : List (List ℕ)} {a b : CompareAnswer} {e₁' p₁' e₂' p₂' e₁'' p₁'' e₂'' p₂'' : List (List ℕ)}
      → Answers line₁ line₂ variant year offset e₁ p₁ e₂ p₂ a e₁' p₁' e₂' p₂'
      → Answers line₁ line₂ variant year offset e₁ p₁ e₂ p₂ b e₁'' p₁'' e₂'' p₂''
      → (a ≡ b) × (e₁' ≡ e₁'') × (p₁' ≡ p₁'') × (e₂' ≡ e₂'') × (p₂' ≡ p₂'')

-- where no line is refused
pub record Calls : Type 0 where
  -- a line compared with itself differs in nothing,
  pub nowhere : {line : List ℕ} {variant year : ℕ} {offset : ℤ} {e₁ p₁ e₂ p₂ e₁' p₁' e₂' p₂' : List (List ℕ)} {d : Differences}
      → Compares line line variant year offset e₁ p₁ e₂ p₂ (Ok d) e₁' p₁' e₂' p₂' → d ≡ nothing
  -- two lines differ in nothing exactly where their readings are alike,
  pub alike : {line₁ line₂ : List ℕ} {variant year : ℕ} {offset : ℤ} {e₁ p₁ e₂ p₂ e₁' p₁' e₂' p₂' : List (List ℕ)} {d : Differences}
      → Compares line₁ line₂ variant year offset e₁ p₁ e₂ p₂ (Ok d) e₁' p₁' e₂' p₂'
      → d.fields ≡ 0 → Alike (seen_in line₁ (outcome_of line₁ variant year offset)) (seen_in line₂ (outcome_of line₂ variant year offset))
  pub nothing_differs : {line₁ line₂ : List ℕ} {variant year : ℕ} {offset : ℤ} {e₁ p₁ e₂ p₂ e₁' p₁' e₂' p₂' : List (List ℕ)} {d : Differences}
      → Compares line₁ line₂ variant year offset e₁ p₁ e₂ p₂ (Ok d) e₁' p₁' e₂' p₂'
      → Alike (seen_in line₁ (outcome_of line₁ variant year offset)) (seen_in line₂ (outcome_of line₂ variant year offset)) → d ≡ nothing
  -- and two lines exchanged differ in the same fields and at the same position
  pub exchanged : {line₁ line₂ : List ℕ} {variant year : ℕ} {offset : ℤ} {e₁ p₁ e₂ p₂ e₁' p₁' e₂' p₂' e₁'' p₁'' e₂'' p₂'' : List (List ℕ)} {c d : Differences}
      → Compares line₁ line₂ variant year offset e₁ p₁ e₂ p₂ (Ok c) e₁' p₁' e₂' p₂'
      → Compares line₂ line₁ variant year offset e₂ p₂ e₁ p₁ (Ok d) e₂'' p₂'' e₁'' p₁''
      → (c.fields ≡ d.fields) × (c.position ≡ d.position)
