-- However a stream is cut: the proofs of specs/Cuts.antt.
use Rattle.std.specs.Prelude.{if◌then◌else◌, Result, Ok, Err}
use Prim.Native.Nat.{ℕ, zero, suc, ◌+◌, ◌-◌, ◌≤◌, ◌<◌}
use mathlib.Core.Path.{◌≡◌, refl, sym, ap, ◌∙◌}
use mathlib.Core.List.{List, [], ◌∷◌, ◌++◌}
use native.Mathlib.Omega.{arith}
use lib.Dec.{leb, eqb}
use lib.ListN.{length, drop, length-drop}
use lib.Seq.{take_at, take-append_seam}
use borrow.Author.Tests.{leb-false}
use Rattle.base.specs.Fills.{filled}
use Rattle.base.proofs.Tests.{by_if}
use Rattle.base.proofs.Fills.{filled_length}
use Rattle.record.specs.Limits.{line_limit}
use Rattle.record.specs.declared.Refusal.{Refusal}
use Rattle.record.specs.declared.Refusal.TheVariants.{BadSetting}
use Rattle.stream.specs.declared.State.{State}
use Rattle.stream.specs.declared.State.TheVariants.{Count, Content, Line, Ended}
use Rattle.stream.specs.declared.Fed.{Fed}
use Rattle.stream.specs.Machine.{Says, silent, frame, long, bad, Step, goes, more, keep, ending, digit_on, space_on, start_of, step, unfinished, told, hears, whole, Ran, onward, up_to}
use Rattle.stream.specs.Feeds.{kept, held, event_of, shown, answer_of, shown_by, Feeds, short, fed}
use Rattle.stream.specs.Cuts.{seen, FeedCalls, none, next, call, joined, ends, CutAnyhow, CutFromAnywhere, Called, CallsEnd, TakesSome, OneResult}
use Rattle.stream.proofs.Amounts.{kept_over, kept_le, keep_kept, held_length}

-- the machine on a piece and what follows: up to the first thing that it says, and from there on
said : (e : Says) (t : Step) (r : Ran) (x : ℕ) (xs ys : List ℕ)
    → whole t.next t.content (xs ++ ys) ≡ hears r.says (whole r.next r.content (drop r.taken xs ++ ys))
    → hears e (whole t.next t.content (xs ++ ys)) ≡ hears (onward e t r).says (whole (onward e t r).next (onward e t r).content (drop (onward e t r).taken (x ∷ xs) ++ ys))
said silent t r x xs ys h = let e : 1 + r.taken ≡ suc r.taken = omega arith in rw e h
said (frame f) t r x xs ys h = refl
said (long f) t r x xs ys h = refl
said bad t r x xs ys h = refl

whole_up : (s : State) (c xs ys : List ℕ) → whole s c (xs ++ ys) ≡ hears (up_to s c xs).says (whole (up_to s c xs).next (up_to s c xs).content (drop (up_to s c xs).taken xs ++ ys))
unfolding up_to whole
whole_up s c [] ys = refl
whole_up s c (x ∷ xs) ys =
    said (step s c x).says (step s c x) (up_to (step s c x).next (step s c x).content xs) x xs ys (whole_up (step s c x).next (step s c x).content xs ys)

-- what holds of the content when something was said
abbrev pub Good : Says → State → List ℕ → Type 0
Good silent s c = length c ≡ kept (unfinished s)
Good (frame f) s c = (unfinished s ≡ 0) × (c ≡ []) × (length f ≤ line_limit)
Good (long f) s c = (unfinished s ≡ 0) × (c ≡ []) × (length f ≡ line_limit)
Good bad s c = (s ≡ Ended) × (c ≡ [])

ending_good : (n : ℕ) (c : List ℕ) (s : State) → length c ≡ kept n → unfinished s ≡ 0 → Good (ending n c) s []
unfolding ending
ending_good n c s l u =
    by_if (λ e. Good e s []) (leb n line_limit) (frame c) (long c) (λ e. (u, refl, omega (arith, kept_le n))) (λ e. (u, refl, l ∙ kept_over n (leb-false n line_limit e)))

abbrev GoodStep : Step → Type 0
GoodStep t = Good t.says t.next t.content

step_good : (s : State) (c : List ℕ) (b : ℕ) → length c ≡ kept (unfinished s) → GoodStep (step s c b)
unfolding step
step_good (Count v) c b h =
    by_if GoodStep (digit_on v b) _ _ (λ e. refl) (λ e. by_if GoodStep (space_on v b) (goes (Content v 0) [] silent) (goes Ended [] bad) (λ f. refl) (λ f. (refl, refl)))
step_good (Content left n) c b h =
    by_if GoodStep (leb left 1) (goes (Count 0) [] (ending (more n) (keep c b))) (goes (Content (left - 1) (more n)) (keep c b) silent)
    (λ e. ending_good (more n) (keep c b) (Count 0) (keep_kept n c b h) refl) (λ e. keep_kept n c b h)
step_good (Line n) c b h =
    by_if GoodStep (eqb b 10) (goes (Line 0) [] (ending n c)) (goes (Line (more n)) (keep c b) silent)
    (λ e. ending_good n c (Line 0) h refl) (λ e. keep_kept n c b h)
step_good Ended c b h = (refl, refl)

abbrev pub GoodRan : Ran → Type 0
GoodRan r = Good r.says r.next r.content

onward_good : (e : Says) (t : Step) (r : Ran) → Good e t.next t.content → (length t.content ≡ kept (unfinished t.next) → GoodRan r) → GoodRan (onward e t r)
onward_good silent t r g h = h g
onward_good (frame f) t r g h = g
onward_good (long f) t r g h = g
onward_good bad t r g h = g

pub ran_good : (s : State) (c bs : List ℕ) → length c ≡ kept (unfinished s) → GoodRan (up_to s c bs)
unfolding up_to
ran_good s c [] h = h
ran_good s c (b ∷ bs) h =
    onward_good (step s c b).says (step s c b) (up_to (step s c b).next (step s c b).content bs) (step_good s c b h) (ran_good (step s c b).next (step s c b).content bs)

-- what a call leaves behind: the buffer is as long, its front is the machine's content, and a caller sees what the machine says
pub record Leaves (e : Says) (s : State) (c old : List ℕ) : Type 0 where
  pub room : line_limit ≤ length (filled (shown e c) old)
  pub front : held s (filled (shown e c) old) ≡ c
  pub sees : seen (event_of e) (filled (shown e c) old) ≡ told e

none_held : (s : State) (buffer : List ℕ) → unfinished s ≡ 0 → held s buffer ≡ []
none_held s buffer u = rw u

leaves : (e : Says) (s : State) (c old : List ℕ) → line_limit ≤ length old → Good e s c → Leaves e s c old
leaves silent s c old l g =
    record {
      room = omega (arith, filled_length c old (omega (arith, kept_le (unfinished s))));
      front = take_at c (drop (length c) old) (kept (unfinished s)) g;
      sees = refl;
    }
leaves (frame f) s c old l g =
    record {
      room = omega (arith, filled_length f old (omega (arith, g.2)));
      front = none_held s (filled f old) g.0 ∙ sym g.1;
      sees = ap (λ (x : List ℕ). frame x ∷ []) (take-append_seam f (drop (length f) old));
    }
leaves (long f) s c old l g =
    record {
      room = omega (arith, filled_length f old (omega (arith, g.2)));
      front = none_held s (filled f old) g.0 ∙ sym g.1;
      sees = ap (λ (x : List ℕ). long x ∷ []) (take_at f (drop (length f) old) line_limit g.2);
    }
leaves bad s c old l g =
    record {
      room = l;
      front = none_held s old (ap unfinished g.0) ∙ sym g.1;
      sees = refl;
    }

fed_leaves : (s : State) (bytes old : List ℕ) → line_limit ≤ length old
    → Leaves (up_to s (held s old) bytes).says (up_to s (held s old) bytes).next (up_to s (held s old) bytes).content old
fed_leaves s bytes old l =
    let r = up_to s (held s old) bytes in
    leaves r.says r.next r.content old l (ran_good s (held s old) bytes (held_length (unfinished s) old l))

-- one call, and the machine from there on
module _ (s : State) (piece old more : List ℕ) (r : Fed) (after : List ℕ) (l : line_limit ≤ length old) (f : Feeds s piece old r after) where
  ran : Ran
  ran = up_to s (held s old) piece

  call_on : whole s (held s old) (piece ++ more) ≡ hears ran.says (whole r.state (held r.state after) (drop r.taken piece ++ more))
  unfolding ran
  call_on =
      let q : held r.state after ≡ (up_to s (held s old) piece).content = rw (f.answers, f.holds) (fed_leaves s piece old l).front in
      rw (q, f.answers) (whole_up s (held s old) piece more)

  call_sees : seen r.event after ≡ told ran.says
  unfolding ran
  call_sees = rw (f.answers, f.holds) (fed_leaves s piece old l).sees

cut : {s t : State} {buffer last : List ℕ} {pieces : List (List ℕ)} {es : List Says}
    → FeedCalls s buffer pieces es t last → whole s (held s buffer) (joined pieces) ≡ ends es t last
unfolding whole
cut none = refl
cut (next k) = cut k
cut {s} {t} {buffer} {last} (call {after = after} {piece = piece} {pieces = pieces} {es = es} {r = r} (short h e q) k) =
    let g : whole r.state (held r.state after) (drop r.taken piece ++ joined pieces) ≡ ends es t last = cut k in
    rw e (rw (e, q) at g)
cut {s} {t} {buffer} {last} (call {after = after} {piece = piece} {pieces = pieces} {es = es} {r = r} (fed l f) k) =
    call_on s piece buffer (joined pieces) r after l f
    ∙ ap (hears (ran s piece buffer (joined pieces) r after l f).says) (cut k)
    ∙ rw (call_sees s piece buffer (joined pieces) r after l f)

pub cut_from_anywhere : CutFromAnywhere
cut_from_anywhere s t buffer last pieces es k = cut k

start_none : (kind : ℕ) (s : State) → start_of kind ≡ Ok s → unfinished s ≡ 0
unfolding start_of
start_none kind s =
    let P : Result State Refusal → Type 0 = λ r. r ≡ Ok s → unfinished s ≡ 0 in
    by_if P (eqb kind 0) (Ok (Count 0)) (if eqb kind 1 then Ok (Line 0) else Err BadSetting) (λ e h. one (Count 0) s refl h)
    (λ e. by_if P (eqb kind 1) (Ok (Line 0)) (Err BadSetting) (λ f h. one (Line 0) s refl h) (λ f h. let z : ◌≡◌ {A = ℕ} 0 1 = cc in absurd (omega arith)))
  where
    one : (t s : State) → unfinished t ≡ 0 → ◌≡◌ {A = Result State Refusal} (Ok t) (Ok s) → unfinished s ≡ 0
    one t s u h = let e : t ≡ s = cc in rw (← e) u

-- from the start of a stream nothing is held, whatever the buffer has
pub cut_anyhow : CutAnyhow
cut_anyhow kind s t buffer last pieces es e k = rw (none_held s buffer (start_none kind s e)) at (cut k)

pub one_result : OneResult
one_result s bytes old r r' new new' (short h e q) (short h' e' q') = (e ∙ sym e', q ∙ sym q')
one_result s bytes old r r' new new' (short h e q) (fed l f) = absurd (omega arith)
one_result s bytes old r r' new new' (fed l f) (short h e q) = absurd (omega arith)
one_result s bytes old r r' new new' (fed l f) (fed l' f') = (f.answers ∙ sym f'.answers, f.holds ∙ sym f'.holds)

-- a call on one byte or more takes one or more: calling until a piece is used up ends
onward_some : (e : Says) (t : Step) (r : Ran) → 1 ≤ (onward e t r).taken
onward_some silent t r = omega arith
onward_some (frame f) t r = omega arith
onward_some (long f) t r = omega arith
onward_some bad t r = omega arith

some : (s : State) (c bytes : List ℕ) → 0 < length bytes → 1 ≤ (up_to s c bytes).taken
unfolding up_to
some s c [] h = absurd (omega arith)
some s c (b ∷ bs) h = onward_some (step s c b).says (step s c b) (up_to (step s c b).next (step s c b).content bs)

pub takes_some : TakesSome
takes_some s bytes old r new l h (short m e q) = absurd (omega arith)
takes_some s bytes old r new l h (fed m f) = rw f.answers (some s (held s old) bytes h)

-- and so there are calls on every list of pieces
module _ (pieces : List (List ℕ)) (go : (t : State) (after : List ℕ) → line_limit ≤ length after → Called t after pieces) where
  one_call : (k : ℕ) (s : State) (buffer piece : List ℕ) → line_limit ≤ length buffer → length piece ≤ k
      → ((t : State) (after rest : List ℕ) → line_limit ≤ length after → length rest < k → Called t after (rest ∷ pieces)) → Called s buffer (piece ∷ pieces)
  one_call k s buffer [] l h on = let w = go s buffer l in record { sees = w.sees; at = w.at; last = w.last; calls = next w.calls }
  one_call k s buffer (b ∷ bs) l h on =
      let r = up_to s (held s buffer) (b ∷ bs) in
      let q : length (drop r.taken (b ∷ bs)) < k = omega (arith, length-drop r.taken (b ∷ bs), some s (held s buffer) (b ∷ bs) (omega arith)) in
      let w = on r.next (filled (shown_by r) buffer) (drop r.taken (b ∷ bs)) (fed_leaves s (b ∷ bs) buffer l).room q in
      record {
        sees = seen (event_of r.says) (filled (shown_by r) buffer) ++ w.sees;
        at = w.at;
        last = w.last;
        calls = call {r = answer_of r} (fed l (record { answers = refl; holds = refl })) w.calls;
      }

  calls_piece : (k : ℕ) (s : State) (buffer piece : List ℕ) → line_limit ≤ length buffer → length piece < k → Called s buffer (piece ∷ pieces)
  calls_piece zero s buffer piece l h = absurd (omega arith)
  calls_piece (suc k) s buffer piece l h = one_call k s buffer piece l (omega arith) (calls_piece k)

pub calls_end : CallsEnd
calls_end [] s buffer l = record { sees = []; at = s; last = buffer; calls = none }
calls_end (p ∷ ps) s buffer l = calls_piece ps (calls_end ps) (suc (length p)) s buffer p l (omega arith)
