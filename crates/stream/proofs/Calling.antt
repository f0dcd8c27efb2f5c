-- What the functions answer, by the walks.
use Prim.Native.Nat.{ℕ, zero, suc, ◌+◌, ◌-◌, min, ◌≤◌, ◌<◌}
use mathlib.Core.Path.{◌≡◌, refl, sym, ap, ◌∙◌}
use mathlib.Core.List.{List, [], ◌∷◌}
use mathlib.Core.Bool.{Bool, true, false, not}
use native.Mathlib.Omega.{arith}
use lib.Dec.{leb}
use lib.ListN.{length, get_or, take, drop, take-append-drop, length-drop}
use lib.Seq.{length-take-le}
use borrow.Author.Tests.{leb-true, leb-false}
use Rattle.std.specs.List.{prefix_len, IsFirstAndRest}
use Rattle.std.proofs.lemmas.Grind.{common_steps}
use Rattle.base.specs.Runs.{run, eight}
use Rattle.base.specs.Fills.{filled}
use Rattle.base.proofs.Tests.{by_if}
use Rattle.base.proofs.Parts.{step, ended}
use Rattle.base.proofs.Runs.{run_le, run_all, run_after, Runs, runs_yes, eight_on}
use Rattle.record.specs.Limits.{line_limit}
use Rattle.record.specs.declared.Refusal.TheVariants.{OutputShort, BadCount}
use Rattle.stream.specs.declared.State.{State}
use Rattle.stream.specs.declared.State.TheVariants.{Count, Content, Line, Ended}
use Rattle.stream.specs.declared.Event.TheVariants.{More, Refused}
use Rattle.stream.specs.declared.Fed.{Fed}
use Rattle.stream.specs.declared.Digits.{Digits}
use Rattle.stream.specs.Machine as M
use Rattle.stream.specs.Machine.{Says, silent, frame, long, bad, start_of, Step, ending, digit_on, space_on, Ran, later, stops, onward, up_to}
use Rattle.stream.specs.Feeds.{kept, held, answer_of, shown_by, Feeds, Served, short, fed}
use Rattle.stream.specs.Steps.{mores, keeps, to_come, not_lf, Grew, Counted, end_fed}
use Rattle.stream.proofs.Amounts.{keeps_kept, held_length}
use Rattle.stream.proofs.Walks.{later_later, shown_ending, event_ending, line_on, line_end, content_on, content_done, count_space, count_bad}

-- the machine stopped at a frame's end, or at the end of the bytes
module _ (s t : State) (bytes old : List ℕ) (k : ℕ) (c new : List ℕ) (w : new ≡ filled c old) where
  feeds_end : (n : ℕ) (r : Fed) → up_to s (held s old) bytes ≡ stops t [] k (ending n c) → length c ≡ kept n → r ≡ end_fed t k n → Feeds s bytes old r new
  feeds_end n r u l e =
      record {
        answers = e ∙ rw (u, event_ending n c l);
        holds = w ∙ rw (u, shown_ending n c []);
      }

  feeds_more : up_to s (held s old) bytes ≡ stops t c k silent → Feeds s bytes old (record { state = t; taken = k; event = More }) new
  feeds_more u = record { answers = rw u; holds = w ∙ rw u }

-- lines
pub run_prefix : (p : ℕ → Bool) (s : List ℕ) → run p s ≡ prefix_len p s
unfolding run
run_prefix p [] = refl
run_prefix p (b ∷ s) = by_if (λ n. n ≡ prefix_len p (b ∷ s)) (p b) (suc (run p s)) 0 (λ e. rw e (omega (arith, run_prefix p s))) (λ e. rw e)

pub front_eight : (s : List ℕ) (i : ℕ) → Runs not_lf s (run not_lf s) i → i + 8 ≤ length s → (b : Bool) → b ≡ eight not_lf s i → not b ≡ false → Runs not_lf s (run not_lf s) (i + 8)
front_eight s i w l = eight_on not_lf s (Runs not_lf s (run not_lf s)) (λ j h v. runs_yes not_lf s (run not_lf s) j v h) i l w

module _ (n : ℕ) (bytes old : List ℕ) (room : line_limit ≤ length old) (k : ℕ) (ek : k ≡ run not_lf bytes) (m : ℕ) (new : List ℕ) (g : Grew n (take k bytes) old m new) where
  k_le : k ≤ length bytes
  k_le = rw ek (run_le not_lf bytes)

  k_len : length (take k bytes) ≡ k
  k_len = length-take-le k bytes k_le

  held_is : length (keeps (take (kept n) old) (take k bytes)) ≡ kept (mores n k)
  held_is = keeps_kept n (take (kept n) old) (take k bytes) (held_length n old room) ∙ ap (λ (i : ℕ). kept (mores n i)) k_len

  on : up_to (Line n) (take (kept n) old) bytes ≡ later k (up_to (Line (mores n k)) (keeps (take (kept n) old) (take k bytes)) (drop k bytes))
  on = ap (up_to (Line n) (take (kept n) old)) (sym (take-append-drop k bytes)) ∙ line_on n (take (kept n) old) (take k bytes) (drop k bytes) (rw ek (run_all not_lf bytes)) ∙ rw k_len

  pub line_ended : (r : Fed) → k < length bytes → r ≡ end_fed (Line 0) (k + 1) m → Feeds (Line n) bytes old r new
  line_ended r h e =
      feeds_end (Line n) (Line 0) bytes old (k + 1) (keeps (take (kept n) old) (take k bytes)) new g.holds (mores n k) r
      (on ∙ ap (λ (l : List ℕ). later k (up_to (Line (mores n k)) (keeps (take (kept n) old) (take k bytes)) l)) (step bytes k h)
      ∙ ap (later k) (line_end (mores n k) (keeps (take (kept n) old) (take k bytes)) (get_or bytes k 0) (drop (k + 1) bytes) (rw ek (run_after not_lf bytes (rw ek at h)))))
      held_is (e ∙ ap (end_fed (Line 0) (k + 1)) (g.number ∙ rw k_len))

  pub line_more : length bytes ≤ k → Feeds (Line n) bytes old (record { state = Line m; taken = k; event = More }) new
  unfolding up_to
  line_more h =
      let z : k + 0 ≡ k = omega arith in
      let m_is : m ≡ mores n k = g.number ∙ rw k_len in
      feeds_more (Line n) (Line m) bytes old k (keeps (take (kept n) old) (take k bytes)) new g.holds
      (on ∙ rw (ended bytes k h, z, m_is))

pub front_fits : (bytes : List ℕ) (k : ℕ) → k ≡ run not_lf bytes → k ≡ length (take k bytes)
front_fits bytes k e = sym (length-take-le k bytes (rw e (run_le not_lf bytes)))

pub ruleset line_laws = (line_ended, line_more)

-- counted frames
come_low : (left k : ℕ) → k < to_come left → k ≤ left - 1
come_low left k = by_if (λ a. k < a → k ≤ left - 1) (leb left 1) 1 left (λ e h. omega arith) (λ e h. omega (arith, leb-false left 1 e))

come_eq : (left j : ℕ) → suc j ≡ to_come left → j ≡ left - 1
come_eq left j = by_if (λ a. suc j ≡ a → j ≡ left - 1) (leb left 1) 1 left (λ e h. omega (arith, leb-true left 1 e)) (λ e h. omega arith)

come_least : (left : ℕ) → 1 ≤ to_come left
come_least left = by_if (λ a. 1 ≤ a) (leb left 1) 1 left (λ e. omega arith) (λ e. omega (arith, leb-false left 1 e))

content_whole : (left n : ℕ) (c : List ℕ) (k : ℕ) (bytes : List ℕ) → k ≡ to_come left → k ≤ length bytes
    → up_to (Content left n) c bytes ≡ stops (Count 0) [] k (ending (mores n k) (keeps c (take k bytes)))
content_whole left n c zero bytes e l = absurd (omega (arith, come_least left))
content_whole left n c (suc j) [] e l = absurd (omega arith)
content_whole left n c (suc j) (b ∷ bs) e l =
    let q : length (take j bs) ≡ j = length-take-le j bs (omega arith) in
    ap (λ (l : List ℕ). up_to (Content left n) c (b ∷ l)) (sym (take-append-drop j bs))
    ∙ content_done left n c b (take j bs) (drop j bs) (q ∙ come_eq left j e)
    ∙ rw q

module _ (left : ℕ) (bytes : List ℕ) (a k : ℕ) (ea : a ≡ to_come left) (ek : k ≡ min (length bytes) a) where
  inside : k ≤ length bytes
  inside = omega arith

  module _ (n : ℕ) (old : List ℕ) (room : line_limit ≤ length old) (m : ℕ) (new : List ℕ) (g : Grew n (take k bytes) old m new) where
    len : length (take k bytes) ≡ k
    len = length-take-le k bytes inside

    pub content_more : (u : ℕ) → k < a → u ≡ left - k → Feeds (Content left n) bytes old (record { state = Content u m; taken = k; event = More }) new
    unfolding up_to
    content_more u h eu =
        let z : k + 0 ≡ k = omega arith in
        let all_in : length bytes ≤ k = omega arith in
        let m_is : m ≡ mores n k = g.number ∙ rw len in
        let q : length (take k bytes) ≤ left - 1 = omega (arith, len, come_low left k (rw ea at h)) in
        feeds_more (Content left n) (Content u m) bytes old k (keeps (take (kept n) old) (take k bytes)) new g.holds
        (ap (up_to (Content left n) (take (kept n) old)) (sym (take-append-drop k bytes)) ∙ content_on left n (take (kept n) old) (take k bytes) (drop k bytes) q ∙ rw (len, ended bytes k all_in, z, m_is, eu))

    pub content_ended : (r : Fed) → a ≤ k → r ≡ end_fed (Count 0) k m → Feeds (Content left n) bytes old r new
    content_ended r h e =
        let q : k ≡ to_come left = omega arith in
        feeds_end (Content left n) (Count 0) bytes old k (keeps (take (kept n) old) (take k bytes)) new g.holds (mores n k) r
        (content_whole left n (take (kept n) old) k bytes q inside)
        (keeps_kept n (take (kept n) old) (take k bytes) (held_length n old room) ∙ ap (λ (i : ℕ). kept (mores n i)) len)
        (e ∙ ap (end_fed (Count 0) k) (g.number ∙ rw len))

pub ruleset content_laws = (content_more, content_ended)

-- no more bytes are taken than there are
onward_taken : (e : Says) (t : Step) (r : Ran) (n : ℕ) → r.taken ≤ n → (onward e t r).taken ≤ suc n
onward_taken silent t r n h = omega arith
onward_taken (frame f) t r n h = omega arith
onward_taken (long f) t r n h = omega arith
onward_taken bad t r n h = omega arith

pub taken_le : (s : State) (c bs : List ℕ) → (up_to s c bs).taken ≤ length bs
unfolding up_to
taken_le s c [] = omega arith
taken_le s c (b ∷ bs) = onward_taken (M.step s c b).says (M.step s c b) (up_to (M.step s c b).next (M.step s c b).content bs) (length bs) (taken_le (M.step s c b).next (M.step s c b).content bs)

pub feeds_taken : (s : State) (bytes old : List ℕ) (r : Fed) (new : List ℕ) → Feeds s bytes old r new → r.taken ≤ length bytes
feeds_taken s bytes old r new f = rw f.answers (taken_le s (held s old) bytes)

-- counts
module _ (v : ℕ) (bytes old : List ℕ) (d : Digits) (w : Counted v bytes d) (front : List ℕ) (ef : front ≡ drop d.taken bytes) where
  pub count_more : length front ≡ 0 → Feeds (Count v) bytes old (record { state = Count d.value; taken = d.taken; event = More }) old
  unfolding up_to
  count_more h =
      let z : d.taken + 0 ≡ d.taken = omega arith in
      let l : length bytes ≤ d.taken = omega (arith, length-drop d.taken bytes, ap length ef) in
      feeds_more (Count v) (Count d.value) bytes old d.taken [] old refl (w.same ∙ rw (ended bytes d.taken l, z))

  module _ (b : ℕ) (rest : List ℕ) (e : IsFirstAndRest front b rest) where
    split : d.taken + suc (length rest) ≡ length bytes
    split = omega (arith, length-drop d.taken bytes, ap length ef, e.1, w.inside)

    off : digit_on d.value b ≡ false
    off =
        let at : get_or bytes d.taken 0 ≡ b = grind (arith, common_steps) in
        rw at at (w.ends (omega (arith, split)))

    at_front : up_to (Count v) [] bytes ≡ later d.taken (up_to (Count d.value) [] (b ∷ rest))
    at_front = w.same ∙ ap (λ (l : List ℕ). later d.taken (up_to (Count d.value) [] l)) (sym ef ∙ e.0)

    pub count_refused : space_on d.value b ≡ false → Feeds (Count v) bytes old (record { state = Ended; taken = d.taken + 1; event = Refused BadCount }) old
    count_refused q =
        let u : up_to (Count v) [] bytes ≡ stops Ended [] (d.taken + 1) bad = at_front ∙ ap (later d.taken) (count_bad d.value [] b rest off q) in
        record { answers = rw u; holds = rw u }

    on_space : space_on d.value b ≡ true → up_to (Count v) [] bytes ≡ later (d.taken + 1) (up_to (Content d.value 0) [] rest)
    on_space q = at_front ∙ ap (later d.taken) (count_space d.value [] b rest off q) ∙ later_later d.taken 1 _

    module _ (r : Fed) (new : List ℕ) (f : Feeds (Content d.value 0) rest old r new) where
      pub count_fits : d.taken + 1 + r.taken ≤ length bytes
      count_fits = omega (arith, feeds_taken _ _ old r new f, split)

      pub count_content : space_on d.value b ≡ true → Feeds (Count v) bytes old (record { state = r.state; taken = d.taken + 1 + r.taken; event = r.event }) new
      count_content q =
          record {
            answers = rw (on_space q, f.answers);
            holds = rw (on_space q) f.holds;
          }

-- after a bad count
pub ended_none : (bytes : List ℕ) → length bytes ≡ 0 → record { state = Ended; taken = 0; event = More } ≡ answer_of (up_to Ended [] bytes)
unfolding up_to
ended_none [] h = refl
ended_none (b ∷ bs) h = absurd (omega arith)

pub ended_some : (bytes : List ℕ) → (length bytes ≡ 0 → ⊥) → record { state = Ended; taken = 1; event = Refused BadCount } ≡ answer_of (up_to Ended [] bytes)
unfolding up_to M.step
ended_some [] h = absurd (h refl)
ended_some (b ∷ bs) h = refl

ended_shown : (bytes : List ℕ) → shown_by (up_to Ended [] bytes) ≡ []
unfolding up_to M.step
ended_shown [] = refl
ended_shown (b ∷ bs) = refl

-- `feed`
pub feed_short : (s : State) (bytes old : List ℕ) → length old < line_limit → Served s bytes old (record { state = s; taken = 0; event = Refused OutputShort }) old
feed_short s bytes old h = short h refl refl

module _ (s : State) (bytes old : List ℕ) (room : line_limit ≤ length old) where
  pub feed_fed : (s' : State) (r : Fed) (new : List ℕ) → s ≡ s' → Feeds s' bytes old r new → Served s bytes old r new
  feed_fed s' r new e f = fed room (rw e f)

  pub feed_ended : (r : Fed) → s ≡ Ended → r ≡ answer_of (up_to Ended [] bytes) → Served s bytes old r old
  feed_ended r e q = fed room (rw e (record { answers = q; holds = rw (ended_shown bytes) }))

pub ruleset feed_laws = (feed_short, feed_fed, feed_ended)
