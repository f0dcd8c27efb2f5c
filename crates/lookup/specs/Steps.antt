-- For private contracts alone: what the contracts of the functions below `lookup` say: one byte of a value, what is given.
use Rattle.std.specs.Prelude.{ℕ, ◌≡◌, List, [], ◌∷◌, Bool, true, false, eqb, length, if◌then◌else◌, Result}
use Rattle.output.specs.Output.{output_after}
use Rattle.lookup.specs.declared.Added.{Added}
use Rattle.lookup.specs.declared.Added.TheVariants.{Nothing, One, Pair}
use Rattle.lookup.specs.Unescape.{pair_of}
use Rattle.lookup.specs.Lookup.{Found, value_answer, value_text}
use Rattle.record.specs.declared.Refusal.{Refusal}

-- the bytes that a byte of a value adds, where a backslash before it takes it or not
abbrev pub adds : Bool → Bool → ℕ → List ℕ
adds loose true b = pair_of loose b []
adds loose false b = if eqb b 92 then [] else b ∷ []

-- the same as the code holds it
abbrev pub bytes_of : Added → List ℕ
bytes_of Nothing = []
bytes_of (One b) = b ∷ []
bytes_of (Pair b) = 92 ∷ b ∷ []

-- the answer and the output, from what is found
pub record Gives (loose : Bool) (f : Found) (before : List ℕ) (w : Result ℕ Refusal) (after : List ℕ) : Type 0 where
  pub answer : w ≡ value_answer loose f (length before)
  pub output : after ≡ output_after w (value_text loose f) before
