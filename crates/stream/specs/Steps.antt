-- For private contracts alone: several content bytes at once, and the digits of a count.
use Rattle.std.specs.Prelude.{ℕ, zero, suc, ◌≤◌, ◌<◌, eqb, leb, take, drop, get_or, length, ◌≡◌, Bool, false, not, List, [], ◌∷◌, if◌then◌else◌}
use Rattle.base.specs.Fills.{filled}
use Rattle.record.specs.Limits.{line_limit}
use Rattle.record.specs.declared.Refusal.TheVariants.{FrameTooLong}
use Rattle.stream.specs.declared.State.{State}
use Rattle.stream.specs.declared.State.TheVariants.{Count}
use Rattle.stream.specs.declared.Event.TheVariants.{Frame, Refused}
use Rattle.stream.specs.declared.Fed.{Fed}
use Rattle.stream.specs.declared.Digits.{Digits}
use Rattle.stream.specs.Machine.{more, keep, digit_on, later, up_to}
use Rattle.stream.specs.Feeds.{kept}

-- k content bytes more
unfoldable pub mores : ℕ → ℕ → ℕ
mores n zero = n
mores n (suc k) = mores (more n) k

unfoldable pub keeps : List ℕ → List ℕ → List ℕ
keeps c [] = c
keeps c (b ∷ xs) = keeps (keep c b) xs

-- how many bytes of a counted frame are to come
abbrev pub to_come : ℕ → ℕ
to_come left = if leb left 1 then 1 else left

-- any byte but LF
abbrev pub not_lf : ℕ → Bool
not_lf b = not (eqb b 10)

-- content bytes behind n of them: how many there are then, and the buffer
pub record Grew (n : ℕ) (content old : List ℕ) (r : ℕ) (new : List ℕ) : Type 0 where
  pub number : r ≡ mores n (length content)
  pub holds : new ≡ filled (keeps (take (kept n) old) content) old

-- the digits at the front of `bytes`, behind a count of v: how many they are, and the count with them
pub record Counted (v : ℕ) (bytes : List ℕ) (r : Digits) : Type 0 where
  pub inside : r.taken ≤ length bytes
  pub same : up_to (Count v) [] bytes ≡ later r.taken (up_to (Count r.value) [] (drop r.taken bytes))
  pub ends : r.taken < length bytes → digit_on r.value (get_or bytes r.taken 0) ≡ false

-- the end of a frame of n content bytes
abbrev pub end_fed : State → ℕ → ℕ → Fed
end_fed s taken n = record { state = s; taken = taken; event = (if leb n line_limit then Frame n else Refused FrameTooLong) }
