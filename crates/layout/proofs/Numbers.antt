-- The number of eight bytes, and what bytes that hold a record say.
use Prim.Native.Nat.{ℕ, ◌+◌, ◌*◌, ◌≤◌, ◌<◌}
use mathlib.Core.Path.{◌≡◌, ap}
use mathlib.Core.Bool.{true}
use mathlib.Core.List.{List, [], ◌∷◌}
use native.Mathlib.Omega.{arith}
use lib.Dec.{leb}
use lib.ListN.{length, get_or, drop, length-drop}
use lib.Seq.{length-take-le}
use mir.Syntax.{w64}
use Rattle.std.specs.Int.{from_le_bytes}
use borrow.Author.Tests.{leb-true}
use Rattle.base.specs.Texts.{text_at}
use Rattle.base.proofs.Parts.{step, ended}
use Rattle.base.proofs.Tests.{both}
use Rattle.layout.specs.Layout.{protocol_word, version_word, facility_word, severity_word, timestamp_word, seconds_word, nanos_word, digits_word, offset_word, word_count, record_size}
use Rattle.layout.specs.Incoming.{number, word_at, marked, stamped, front_held, marks_held, holds_record}

-- one byte and the bytes after it
number_on : (s : List ℕ) (i : ℕ) → i < length s → number (drop i s) ≡ get_or s i 0 + 256 * number (drop (i + 1) s)
unfolding number
number_on s i h = ap number (step s i h)

-- eight bytes, as the library reads them
number_of_eight : (s : List ℕ) → length s ≡ 8 → from_le_bytes w64 s ≡ number s
unfolding number
number_of_eight s h =
    let e : number (drop 8 s) ≡ 0 = ap number (ended s 8 (omega arith)) in
    let l : (i : ℕ) → i < 8 → number (drop i s) ≡ get_or s i 0 + 256 * number (drop (i + 1) s) = λ i k. number_on s i (omega arith) in
    omega (arith, l 0 (omega arith), l 1 (omega arith), l 2 (omega arith), l 3 (omega arith), l 4 (omega arith), l 5 (omega arith), l 6 (omega arith), l 7 (omega arith))

eight_of : (s : List ℕ) (a : ℕ) → ((k : ℕ) → k < 8 → drop (a + k) s ≡ get_or s (a + k) 0 ∷ drop (a + (k + 1)) s)
    → get_or s a 0 ∷ get_or s (a + 1) 0 ∷ get_or s (a + 2) 0 ∷ get_or s (a + 3) 0 ∷ get_or s (a + 4) 0 ∷ get_or s (a + 5) 0 ∷ get_or s (a + 6) 0 ∷ get_or s (a + 7) 0 ∷ [] ≡ text_at s a 8
eight_of s a n =
    let z : a + 0 ≡ a = omega arith in
    let f : drop a s ≡ get_or s a 0 ∷ drop (a + 1) s = rw z at (n 0 (omega arith)) in
    rw (f, n 1 (omega arith), n 2 (omega arith), n 3 (omega arith), n 4 (omega arith), n 5 (omega arith), n 6 (omega arith), n 7 (omega arith))

pub word_held : (s : List ℕ) (i : ℕ) (bytes : List ℕ) → record_size ≤ length s → i < word_count → bytes ≡ text_at s (i * 8) 8 → from_le_bytes w64 bytes ≡ word_at s i
unfolding word_at
word_held s i bytes l h e = rw e (number_of_eight (text_at s (i * 8) 8) (length-take-le 8 (drop (i * 8) s) (simp length-drop (omega arith))))

-- the eight bytes of a word, one by one
pub word_is : (s : List ℕ) (i : ℕ) → record_size ≤ length s → i < word_count → from_le_bytes w64
    (get_or s (i * 8) 0 ∷ get_or s (i * 8 + 1) 0 ∷ get_or s (i * 8 + 2) 0 ∷ get_or s (i * 8 + 3) 0 ∷ get_or s (i * 8 + 4) 0 ∷ get_or s (i * 8 + 5) 0 ∷ get_or s (i * 8 + 6) 0 ∷ get_or s (i * 8 + 7) 0 ∷ []) ≡ word_at s i
word_is s i l h =
    let n : (k : ℕ) → k < 8 → drop (i * 8 + k) s ≡ get_or s (i * 8 + k) 0 ∷ drop (i * 8 + k + 1) s = λ k m. step s (i * 8 + k) (omega arith) in
    let z : i * 8 + 0 ≡ i * 8 = omega arith in
    let a : (k : ℕ) → i * 8 + k + 1 ≡ i * 8 + (k + 1) = λ k. omega arith in
    word_held s i _ l h (eight_of s (i * 8) (λ k m. rw (← a k) (n k m)))

-- bytes that hold a record
pub record Held (s : List ℕ) : Type 0 where
  pub long : record_size ≤ length s
  pub protocol : marked 4294967296 (word_at s protocol_word) (word_at s version_word) ≡ true
  pub facility : marked 256 (word_at s facility_word) (word_at s (facility_word + 1)) ≡ true
  pub severity : marked 256 (word_at s severity_word) (word_at s (severity_word + 1)) ≡ true
  pub timestamp : stamped (word_at s timestamp_word) (word_at s seconds_word) (word_at s nanos_word) (word_at s digits_word) (word_at s offset_word) ≡ true

pub held : (s : List ℕ) → holds_record s ≡ true → Held s
unfolding holds_record front_held
held s h =
    let places = both _ (marks_held s) h in
    let front = both (leb record_size (length s)) _ places.0 in
    let stamp = both _ (stamped (word_at s timestamp_word) (word_at s seconds_word) (word_at s nanos_word) (word_at s digits_word) (word_at s offset_word)) front.1 in
    let severity = both _ (marked 256 (word_at s severity_word) (word_at s (severity_word + 1))) stamp.0 in
    let levels = both (marked 4294967296 (word_at s protocol_word) (word_at s version_word)) (marked 256 (word_at s facility_word) (word_at s (facility_word + 1))) severity.0 in
    record { long = leb-true record_size (length s) front.0; protocol = levels.0; facility = levels.1; severity = severity.1; timestamp = stamp.1 }
