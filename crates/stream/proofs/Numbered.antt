-- States and answers in numbers: what the functions for C answer, and that a state comes back from its numbers.
use Rattle.std.specs.Prelude.{Result, Ok, Err}
use Prim.Native.Nat.{ℕ, ◌≤◌, ◌<◌}
use mathlib.Core.Path.{◌≡◌, refl, sym, ap, subst, ◌∙◌}
use mathlib.Core.List.{List, ◌∷◌, ◌++◌}
use native.Mathlib.Omega.{arith}
use lib.Dec.{eqb}
use lib.ListN.{length, drop}
use Rattle.base.proofs.Tests.{by_if}
use Rattle.record.specs.Limits.{line_limit}
use Rattle.record.specs.declared.Refusal.{Refusal}
use Rattle.record.specs.declared.Refusal.TheVariants.{BadSetting, OutputShort}
use Rattle.stream.specs.declared.State.{State}
use Rattle.stream.specs.declared.State.TheVariants.{Count, Content, Line, Ended}
use Rattle.stream.specs.declared.Event.{Event}
use Rattle.stream.specs.declared.Event.TheVariants.{More, Frame, Refused}
use Rattle.stream.specs.declared.Fed.{Fed}
use Rattle.stream.specs.declared.StreamState.{StreamState}
use Rattle.stream.specs.declared.FeedAnswer.{FeedAnswer}
use Rattle.stream.specs.Machine.{Says}
use Rattle.stream.specs.Feeds.{Served, short, fed}
use Rattle.stream.specs.Numbers as N
use Rattle.stream.specs.Numbers.{numbers_of, state_of, start_answer_of, feed_answer, feed_answer_of, Splits, no_state, splits, OneAnswer, finish_answer_of}
use Rattle.stream.specs.Cuts.{seen, none, next, call, FeedCalls, numbers_seen, NumberCalls, CutInNumbers}
use Rattle.stream.proofs.Cutting.{cut_anyhow, one_result}

-- ---- one case of a start only

pub same_state : (t : Result State Refusal) (s s' : State) → t ≡ Ok s → t ≡ Ok s' → s ≡ s'
same_state t s s' p q = cc

pub never : {A : Type 0} (t : Result State Refusal) (s : State) (f : Refusal) → t ≡ Ok s → t ≡ Err f → A
never t s f p q = let z : ◌≡◌ {A = ℕ} 0 1 = cc in absurd (omega arith)

-- ---- a state

pub numbers_back : (s : State) → state_of (numbers_of s) ≡ Ok s
numbers_back (Count v) = refl
numbers_back (Content left n) = refl
numbers_back (Line n) = refl
numbers_back Ended = refl

-- numbers that are no state are refused with 2
pub no_other : (x : StreamState) (f : Refusal) → state_of x ≡ Err f → f ≡ BadSetting
no_other x f =
    let P : Result State Refusal → Type 0 = λ t. t ≡ Err f → f ≡ BadSetting in
    by_if P (eqb x.stage 1) _ _ (λ e h. never _ (Count x.left) f refl h)
    (λ e. by_if P (eqb x.stage 2) _ _ (λ e h. never _ (Content x.left x.came) f refl h)
    (λ e. by_if P (eqb x.stage 3) _ _ (λ e h. never _ (Line x.came) f refl h)
    (λ e. by_if P (eqb x.stage 4) _ _ (λ e h. never _ Ended f refl h) (λ e h. cc))))

-- ---- bytes

module _ (x : StreamState) (bytes old : List ℕ) (t : Result State Refusal) (e : t ≡ state_of x) (a : FeedAnswer) where
  pub splits_none : (f : Refusal) → t ≡ Err f → a ≡ feed_answer 0 x (Refused f) → Splits x bytes old a old
  splits_none f h q =
      let b = no_other x f (sym e ∙ h) in
      no_state (sym e ∙ h ∙ ap Err b) (q ∙ ap (λ (f : Refusal). feed_answer 0 x (Refused f)) b) refl

  module _ (s : State) (h : t ≡ Ok s) where
    pub splits_short : length old < line_limit → a ≡ feed_answer 0 x (Refused OutputShort) → Splits x bytes old a old
    splits_short l q = N.short s (sym e ∙ h) l q refl

    pub splits_fed : line_limit ≤ length old → (r : Fed) (new : List ℕ) (y : StreamState) → Served s bytes old r new → y ≡ numbers_of r.state → a ≡ feed_answer r.taken y r.event
        → Splits x bytes old a new
    splits_fed l r new y (short m u v) q o = absurd (omega arith)
    splits_fed l r new y (fed m f) q o = splits s (sym e ∙ h) l r f (o ∙ rw q)

pub ruleset splits_laws = (splits_none, splits_short, splits_fed)

pub one_answer : OneAnswer
one_answer x bytes old a a' new new' (no_state h e q) (no_state h' e' q') = (e ∙ sym e', q ∙ sym q')
one_answer x bytes old a a' new new' (no_state h e q) (N.short s h' l e' q') = never (state_of x) s BadSetting h' h
one_answer x bytes old a a' new new' (no_state h e q) (splits s h' l r k e') = never (state_of x) s BadSetting h' h
one_answer x bytes old a a' new new' (N.short s h l e q) (no_state h' e' q') = never (state_of x) s BadSetting h h'
one_answer x bytes old a a' new new' (N.short s h l e q) (N.short s' h' l' e' q') = (e ∙ sym e', q ∙ sym q')
one_answer x bytes old a a' new new' (N.short s h l e q) (splits s' h' l' r k e') = absurd (omega arith)
one_answer x bytes old a a' new new' (splits s h l r k e) (no_state h' e' q') = never (state_of x) s BadSetting h h'
one_answer x bytes old a a' new new' (splits s h l r k e) (N.short s' h' l' e' q') = absurd (omega arith)
one_answer x bytes old a a' new new' (splits s h l r k e) (splits s' h' l' r' k' e') =
    let u = one_result s bytes old r r' new new' (fed l k) (fed l (rw (same_state (state_of x) s s' h h') k')) in
    (e ∙ ap feed_answer_of u.0 ∙ sym e', u.1)

-- ---- however a stream is cut, in numbers

-- what is seen of an answer is seen of its numbers
seen_numbers : (taken : ℕ) (x : StreamState) (e : Event) (buffer : List ℕ) → numbers_seen (feed_answer taken x e) buffer ≡ seen e buffer
seen_numbers taken x More buffer = refl
seen_numbers taken x (Frame n) buffer = refl
seen_numbers taken x (Refused f) buffer = refl

taken_numbers : (taken : ℕ) (x : StreamState) (e : Event) → (feed_answer taken x e).taken ≡ taken
taken_numbers taken x More = refl
taken_numbers taken x (Frame n) = refl
taken_numbers taken x (Refused f) = refl

state_numbers : (taken : ℕ) (x : StreamState) (e : Event) → (feed_answer taken x e).state ≡ x
state_numbers taken x More = refl
state_numbers taken x (Frame n) = refl
state_numbers taken x (Refused f) = refl

-- a call in numbers is a call
record Told (s : State) (piece buffer : List ℕ) (a : FeedAnswer) (after : List ℕ) : Type 0 where
  answer : Fed
  served : Served s piece buffer answer after
  state_is : a.state ≡ numbers_of answer.state
  taken_is : a.taken ≡ answer.taken
  sees_is : numbers_seen a after ≡ seen answer.event after

module _ (s : State) (x : StreamState) (e : x ≡ numbers_of s) (piece buffer : List ℕ) (a : FeedAnswer) (after : List ℕ) where
  stands : state_of x ≡ Ok s
  stands = ap state_of e ∙ numbers_back s

  told_call : Splits x piece buffer a after → Told s piece buffer a after
  told_call (no_state h q o) = never (state_of x) s BadSetting stands h
  told_call (N.short t h l q o) =
      record {
        answer = record { state = s; taken = 0; event = Refused OutputShort };
        served = short l refl o;
        state_is = ap (λ (a : FeedAnswer). a.state) q ∙ e;
        taken_is = ap (λ (a : FeedAnswer). a.taken) q;
        sees_is = ap (λ (a : FeedAnswer). numbers_seen a after) q;
      }
  told_call (splits t h l r k q) =
      record {
        answer = r;
        served = fed l (rw (same_state (state_of x) s t stands h) k);
        state_is = ap (λ (a : FeedAnswer). a.state) q ∙ state_numbers r.taken (numbers_of r.state) r.event;
        taken_is = ap (λ (a : FeedAnswer). a.taken) q ∙ taken_numbers r.taken (numbers_of r.state) r.event;
        sees_is = ap (λ (a : FeedAnswer). numbers_seen a after) q ∙ seen_numbers r.taken (numbers_of r.state) r.event after;
      }

-- and so are calls
record Read (s : State) (buffer : List ℕ) (pieces : List (List ℕ)) (es : List Says) (y : StreamState) (last : List ℕ) : Type 0 where
  at : State
  numbers : y ≡ numbers_of at
  calls : FeedCalls s buffer pieces es at last

read : {x y : StreamState} {buffer last : List ℕ} {pieces : List (List ℕ)} {es : List Says} (s : State) → x ≡ numbers_of s → NumberCalls x buffer pieces es y last
    → Read s buffer pieces es y last
read s e none = record { at = s; numbers = e; calls = none }
read s e (next k) = let w = read s e k in record { at = w.at; numbers = w.numbers; calls = next w.calls }
read {x} {y} {buffer} {last} s e (call {after = after} {piece = piece} {pieces = pieces} {es = es} {r = a} c k) =
    let u = told_call s x e piece buffer a after c in
    let w = read u.answer.state u.state_is k in
    let on : FeedCalls u.answer.state after (drop u.answer.taken piece ∷ pieces) es w.at last =
    subst (λ (n : ℕ). FeedCalls u.answer.state after (drop n piece ∷ pieces) es w.at last) u.taken_is w.calls in
    record {
      at = w.at;
      numbers = w.numbers;
      calls = subst (λ (es' : List Says). FeedCalls s buffer (piece ∷ pieces) (es' ++ es) w.at last) (sym u.sees_is) (call u.served on);
    }

pub cut_in_numbers : CutInNumbers
cut_in_numbers kind s y buffer last pieces es e k =
    let w = read s refl k in
    record { at = w.at; numbers = w.numbers; same = cut_anyhow kind s w.at buffer last pieces es e w.calls }
