-- Walks of the machine: content bytes in one go, the end of a frame, and the digits of a count.
use Rattle.std.specs.Prelude.{if◌then◌else◌, Option, Some, None}
use Rattle.std.proofs.lemmas.Option.{cond_some}
use Prim.Native.Nat.{ℕ, suc, ◌+◌, ◌-◌, ◌*◌, ◌≤◌, ◌<◌}
use mathlib.Core.Path.{◌≡◌, refl, sym, ap, ◌∙◌}
use mathlib.Core.List.{List, [], ◌∷◌, ◌++◌}
use mathlib.Core.Bool.{Bool, true, false, not}
use native.Mathlib.Omega.{arith}
use lib.Dec.{leb, eqb}
use lib.ListN.{length, get_or, drop}
use borrow.Author.Tests.{le-leb, lt-leb, not-true, not-false}
use Rattle.base.specs.Runs.{All}
use Rattle.base.proofs.Tests.{by_test, by_if}
use Rattle.base.proofs.Parts.{step}
use Rattle.record.specs.Limits.{line_limit}
use Rattle.record.specs.declared.Refusal.TheVariants.{FrameTooLong}
use Rattle.stream.specs.declared.State.TheVariants.{Count, Content, Line, Ended}
use Rattle.stream.specs.declared.Event.TheVariants.{Frame, Refused}
use Rattle.stream.specs.Machine as M
use Rattle.stream.specs.Machine.{silent, frame, long, bad, Step, goes, more, keep, ending, digit_on, space_on, Ran, later, stops, onward, up_to}
use Rattle.stream.specs.Feeds.{kept, event_of, shown}
use Rattle.stream.specs.Steps.{mores, keeps, not_lf, Counted}

pub later_later : (a b : ℕ) (r : Ran) → later a (later b r) ≡ later (a + b) r
later_later a b r = let e : a + (b + r.taken) ≡ a + b + r.taken = omega arith in ap (λ (k : ℕ). stops r.next r.content k r.says) e

pub later_suc : (k : ℕ) (r : Ran) → later 1 (later k r) ≡ later (suc k) r
later_suc k r = let e : 1 + (k + r.taken) ≡ suc k + r.taken = omega arith in ap (λ (k : ℕ). stops r.next r.content k r.says) e

pub later_none : (r : Ran) → r ≡ later 0 r
later_none r = let e : r.taken ≡ 0 + r.taken = omega arith in ap (λ (k : ℕ). stops r.next r.content k r.says) e

-- a frame that ends stops the machine
pub onward_ending : (n : ℕ) (c : List ℕ) (t : Step) (r : Ran) → onward (ending n c) t r ≡ stops t.next t.content 1 (ending n c)
unfolding ending
onward_ending n c t r = by_if (λ e. onward e t r ≡ stops t.next t.content 1 e) (leb n line_limit) (frame c) (long c) (λ e. refl) (λ e. refl)

pub shown_ending : (n : ℕ) (c d : List ℕ) → shown (ending n c) d ≡ c
unfolding ending
shown_ending n c d = by_if (λ e. shown e d ≡ c) (leb n line_limit) (frame c) (long c) (λ e. refl) (λ e. refl)

pub event_ending : (n : ℕ) (c : List ℕ) → length c ≡ kept n → event_of (ending n c) ≡ (if leb n line_limit then Frame n else Refused FrameTooLong)
unfolding ending
event_ending n c q = by_test (λ t. (leb n line_limit ≡ t) → event_of (if t then frame c else long c) ≡ (if t then Frame n else Refused FrameTooLong)) (leb n line_limit)
    (λ e p. ap Frame (q ∙ rw e)) (λ e p. refl) refl

-- lines
line_step : (n : ℕ) (c : List ℕ) (b : ℕ) → not_lf b ≡ true → M.step (Line n) c b ≡ goes (Line (more n)) (keep c b) silent
unfolding M.step
line_step n c b h = rw (not_true_eq b h)
  where
    not_true_eq : (b : ℕ) → not (eqb b 10) ≡ true → eqb b 10 ≡ false
    not_true_eq b h = not-true (eqb b 10) h

pub line_on : (n : ℕ) (c xs ys : List ℕ) → All not_lf xs → up_to (Line n) c (xs ++ ys) ≡ later (length xs) (up_to (Line (mores n (length xs))) (keeps c xs) ys)
unfolding up_to mores keeps
line_on n c [] ys h = later_none _
line_on n c (x ∷ xs) ys h =
    rw (line_step n c x h.0) (ap (later 1) (line_on (more n) (keep c x) xs ys h.1) ∙ later_suc (length xs) _)

pub line_end : (n : ℕ) (c : List ℕ) (b : ℕ) (ys : List ℕ) → not_lf b ≡ false → up_to (Line n) c (b ∷ ys) ≡ stops (Line 0) [] 1 (ending n c)
unfolding up_to M.step
line_end n c b ys h = rw (not-false (eqb b 10) h) (onward_ending n c _ _)

-- counted frames
content_step : (left n : ℕ) (c : List ℕ) (b : ℕ) → 1 < left → M.step (Content left n) c b ≡ goes (Content (left - 1) (more n)) (keep c b) silent
unfolding M.step
content_step left n c b h = rw (lt-leb left 1 h)

pub content_on : (left n : ℕ) (c xs ys : List ℕ) → length xs ≤ left - 1
    → up_to (Content left n) c (xs ++ ys) ≡ later (length xs) (up_to (Content (left - length xs) (mores n (length xs))) (keeps c xs) ys)
unfolding up_to mores keeps
content_on left n c [] ys h = let e : left - 0 ≡ left = omega arith in rw e (later_none _)
content_on left n c (x ∷ xs) ys h =
    let e : left - 1 - length xs ≡ left - suc (length xs) = omega arith in
    rw (content_step left n c x (omega arith), ← e) (ap (later 1) (content_on (left - 1) (more n) (keep c x) xs ys (omega arith)) ∙ later_suc (length xs) _)

content_last : (left n : ℕ) (c : List ℕ) (b : ℕ) (ys : List ℕ) → left ≤ 1 → up_to (Content left n) c (b ∷ ys) ≡ stops (Count 0) [] 1 (ending (more n) (keep c b))
unfolding up_to M.step
content_last left n c b ys h = rw (le-leb left 1 h) (onward_ending (more n) (keep c b) _ _)

content_one : (left n : ℕ) (c : List ℕ) (b : ℕ) (ys : List ℕ) → 1 < left → up_to (Content left n) c (b ∷ ys) ≡ later 1 (up_to (Content (left - 1) (more n)) (keep c b) ys)
unfolding up_to
content_one left n c b ys h = rw (content_step left n c b h)

pub content_done : (left n : ℕ) (c : List ℕ) (b : ℕ) (xs ys : List ℕ) → length xs ≡ left - 1
    → up_to (Content left n) c (b ∷ xs ++ ys) ≡ stops (Count 0) [] (suc (length xs)) (ending (mores n (suc (length xs))) (keeps c (b ∷ xs)))
unfolding mores keeps
content_done left n c b [] ys h = content_last left n c b ys (omega arith)
content_done left n c b (x ∷ xs) ys h =
    let e : 1 + suc (length xs) ≡ suc (suc (length xs)) = omega arith in
    content_one left n c b (x ∷ xs ++ ys) (omega arith) ∙ ap (later 1) (content_done (left - 1) (more n) (keep c b) x xs ys (omega arith)) ∙ rw e

-- counts
pub count_step : (v : ℕ) (c : List ℕ) (b : ℕ) (bs : List ℕ) → digit_on v b ≡ true → up_to (Count v) c (b ∷ bs) ≡ later 1 (up_to (Count (v * 10 + (b - 48))) [] bs)
unfolding up_to M.step
count_step v c b bs h = rw h

pub count_space : (v : ℕ) (c : List ℕ) (b : ℕ) (bs : List ℕ) → digit_on v b ≡ false → space_on v b ≡ true → up_to (Count v) c (b ∷ bs) ≡ later 1 (up_to (Content v 0) [] bs)
unfolding up_to M.step
count_space v c b bs h q = rw (h, q)

pub count_bad : (v : ℕ) (c : List ℕ) (b : ℕ) (bs : List ℕ) → digit_on v b ≡ false → space_on v b ≡ false → up_to (Count v) c (b ∷ bs) ≡ stops Ended [] 1 bad
unfolding up_to M.step
count_bad v c b bs h q = rw (h, q)

-- the walk of `count_front`
pub record Counting (v : ℕ) (bytes : List ℕ) (value i : ℕ) : Type 0 where
  pub inside : i ≤ length bytes
  pub same : up_to (Count v) [] bytes ≡ later i (up_to (Count value) [] (drop i bytes))

digit_none : (t : Bool) (n : ℕ) → (if t then Some n else None) ≡ None → t ≡ false
digit_none true n h = cc
digit_none false n h = refl

pub counting_start : (v : ℕ) (bytes : List ℕ) → Counting v bytes v 0
counting_start v bytes = record { inside = omega arith; same = later_none _ }

module _ (v : ℕ) (bytes : List ℕ) (value i : ℕ) (w : Counting v bytes value i) where
  pub counting_end : length bytes ≤ i → Counted v bytes (record { value = value; taken = i })
  counting_end h = record { inside = w.inside; same = w.same; ends = λ l. absurd (omega arith) }

  module _ (h : i < length bytes) (r : Option ℕ) (e : r ≡ (if digit_on value (get_or bytes i 0) then Some (value * 10 + (get_or bytes i 0 - 48)) else None)) where
    pub counting_off : r ≡ None → Counted v bytes (record { value = value; taken = i })
    counting_off q = record { inside = w.inside; same = w.same; ends = λ l. digit_none (digit_on value (get_or bytes i 0)) _ (sym e ∙ q) }

    pub counting_on : (u : ℕ) → r ≡ Some u → Counting v bytes u (i + 1)
    counting_on u q =
        let d = cond_some (digit_on value (get_or bytes i 0)) (value * 10 + (get_or bytes i 0 - 48)) u (sym e ∙ q) in
        record {
          inside = omega arith;
          same = w.same ∙ ap (later i) (ap (up_to (Count value) []) (step bytes i h) ∙ count_step value [] (get_or bytes i 0) (drop (i + 1) bytes) d.0 ∙ rw d.1) ∙ later_later i 1 _;
        }
