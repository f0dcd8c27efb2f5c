-- What every call keeps to: the proofs of `FeedCalled` and `StaysEnded`, and what a caller of `feed` needs.
use Prim.Native.Nat.{ℕ, ◌+◌, ◌-◌, ◌≤◌, ◌<◌}
use mathlib.Core.Path.{◌≡◌, refl, sym, ap, ◌∙◌}
use mathlib.Core.List.{List, [], ◌∷◌}
use native.Mathlib.Omega.{arith}
use lib.ListN.{length, drop}
use lib.Seq.{drop-append-add, drop-drop}
use Rattle.base.specs.Fills.{filled}
use Rattle.base.proofs.Tests.{clash}
use Rattle.record.specs.Limits.{line_limit}
use Rattle.record.specs.declared.Refusal.TheVariants.{BadSetting}
use Rattle.stream.specs.declared.State.{State}
use Rattle.stream.specs.declared.State.TheVariants.{Ended}
use Rattle.stream.specs.declared.Event.TheVariants.{Frame}
use Rattle.stream.specs.declared.Fed.{Fed}
use Rattle.stream.specs.declared.StreamState.{StreamState}
use Rattle.stream.specs.Machine.{Says, silent, frame, long, bad, step, up_to, unfinished}
use Rattle.stream.specs.Feeds.{held, event_of, shown, Feeds, Served, short, fed}
use Rattle.stream.specs.Numbers as N
use Rattle.stream.specs.Numbers.{numbers_of, state_of, feed_answer, feed_answer_of, no_state, splits, FeedCall, FeedCalled, StaysEnded}
use Rattle.stream.proofs.Amounts.{kept_le, held_length}
use Rattle.stream.proofs.Calling.{feeds_taken}
use Rattle.stream.proofs.Cutting.{Good, ran_good}
use Rattle.stream.proofs.Numbered.{same_state, never}

-- past 8,192 bytes nothing is filled in
past : (n : ℕ) (front old : List ℕ) → length front ≤ n → drop n (filled front old) ≡ drop n old
past n front old h =
    let e : n ≡ length front + (n - length front) = omega arith in
    ap (λ (k : ℕ). drop k (filled front old)) e ∙ drop-append-add front (drop (length front) old) (n - length front) ∙ drop-drop (n - length front) (length front) old
    ∙ ap (λ (k : ℕ). drop k old) (sym e)

module _ (x : StreamState) (bytes old : List ℕ) (k : ℕ) (l : k ≤ length bytes) (t : State) (c : List ℕ) where
  keeps : (e : Says) → Good e t c → FeedCall x bytes old (feed_answer k (numbers_of t) (event_of e)) (filled (shown e c) old)
  keeps silent g = record { number_is = refl; inside = l; fits = omega arith; rest = past line_limit c old (omega (arith, kept_le (unfinished t))); early = λ q. clash (sym q); bad_count = λ q. absurd (omega arith) }
  keeps (frame f) g = record { number_is = refl; inside = l; fits = g.2; rest = past line_limit f old g.2; early = λ q. clash (sym q); bad_count = λ q. absurd (omega arith) }
  keeps (long f) g = record { number_is = refl; inside = l; fits = omega arith; rest = past line_limit f old (omega (arith, g.2)); early = λ q. clash (sym q); bad_count = λ q. absurd (omega arith) }
  keeps bad g = record { number_is = refl; inside = l; fits = omega arith; rest = refl; early = λ q. clash (sym q); bad_count = λ q. (ap numbers_of g.0, refl) }

fed_keeps : (x : StreamState) (s : State) (bytes old : List ℕ) → line_limit ≤ length old → (r : Fed) (new : List ℕ) → Feeds s bytes old r new → FeedCall x bytes old (feed_answer_of r) new
fed_keeps x s bytes old h r new f =
    let u = up_to s (held s old) bytes in
    let l : u.taken ≤ length bytes = rw f.answers at (feeds_taken s bytes old r new f) in
    rw (f.answers, f.holds) (keeps x bytes old u.taken l u.next u.content u.says (ran_good s (held s old) bytes (held_length (unfinished s) old h)))

pub feed_called : FeedCalled
feed_called x bytes old a new (no_state h e q) =
    rw (e, q) (record { number_is = refl; inside = omega arith; fits = omega arith; rest = refl; early = λ q. (refl, refl, refl); bad_count = λ q. absurd (omega arith) })
feed_called x bytes old a new (N.short s h l e q) =
    rw (e, q) (record { number_is = refl; inside = omega arith; fits = omega arith; rest = refl; early = λ q. (refl, refl, refl); bad_count = λ q. absurd (omega arith) })
feed_called x bytes old a new (splits s h l r f e) = rw e (fed_keeps x s bytes old l r new f)

ended : (bytes : List ℕ) → 0 < length bytes → up_to Ended [] bytes ≡ record { next = Ended; content = []; taken = 1; says = bad }
unfolding up_to step
ended [] h = absurd (omega arith)
ended (b ∷ bs) h = refl

pub stays_ended : StaysEnded
stays_ended bytes old a new l h (no_state e q o) = never (state_of (numbers_of Ended)) Ended BadSetting refl e
stays_ended bytes old a new l h (N.short s e m q o) = absurd (omega arith)
stays_ended bytes old a new l h (splits s e m r f q) =
    let z : s ≡ Ended = same_state (state_of (numbers_of Ended)) s Ended e refl in
    let g : Feeds Ended bytes old r new = rw z at f in
    let u = ended bytes h in
    let w : r ≡ record { state = Ended; taken = 1; event = event_of bad } = g.answers ∙ rw u in
    (q ∙ ap feed_answer_of w, g.holds ∙ rw u)

-- ---- for callers of `feed`

event_fits : (e : Says) (t : State) (c : List ℕ) (n : ℕ) → Good e t c → event_of e ≡ Frame n → n ≤ line_limit
event_fits silent t c n g h = let z : ◌≡◌ {A = ℕ} 0 1 = cc in absurd (omega arith)
event_fits (frame f) t c n g h = let e : length f ≡ n = cc in omega (arith, g.2)
event_fits (long f) t c n g h = let z : ◌≡◌ {A = ℕ} 0 1 = cc in absurd (omega arith)
event_fits bad t c n g h = let z : ◌≡◌ {A = ℕ} 0 1 = cc in absurd (omega arith)

module _ (s : State) (bytes old : List ℕ) (r : Fed) (new : List ℕ) where
  pub served_inside : Served s bytes old r new → r.taken ≤ length bytes
  served_inside (short l e q) = rw e (omega arith)
  served_inside (fed l f) = feeds_taken s bytes old r new f

  pub served_frame : (n : ℕ) → Served s bytes old r new → r.event ≡ Frame n → n ≤ line_limit
  served_frame n (short l e q) h = let z : ◌≡◌ {A = ℕ} 0 1 = cc in absurd (omega arith)
  served_frame n (fed l f) h =
      let u = up_to s (held s old) bytes in
      event_fits u.says u.next u.content n (ran_good s (held s old) bytes (held_length (unfinished s) old l)) (ap (λ (r : Fed). r.event) (sym f.answers) ∙ h)
