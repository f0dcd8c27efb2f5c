-- The readers of bytes and what they read.
use Rattle.std.specs.Prelude.{if◌then◌else◌}
use Prim.Native.Nat.{ℕ, zero, suc, ◌+◌, ◌≤◌}
use mathlib.Core.Path.{◌≡◌, refl, sym, ap, ◌∙◌, subst}
use mathlib.Core.Bool.{Bool, true, false}
use mathlib.Core.List.{List, [], ◌∷◌, ◌++◌, append_assoc, append-nil}
use native.Mathlib.Omega.{arith}
use lib.ListN.{length, take, take-append-drop, length-append}
use lib.Seq.{length-take-le, take-append_seam, take_at, drop-length}
use lib.Dec.{leb, eqb}
use borrow.Author.Tests.{le-leb, leb-true, eqb-true, ne_eqb}
use Rattle.base.specs.Choose.{within, is_at}
use Rattle.base.specs.Runs.{run, All}
use Rattle.base.proofs.Tests.{clash, both, by_test}
use Rattle.base.proofs.Ranges.{inside}
use Rattle.base.proofs.Parts.{at_cons, at_seam}
use Rattle.base.proofs.Runs.{run_le, run_all, run_text}
use Rattle.grammar.specs.Abnf.{is_digit, Repeat}
use Rattle.grammar.specs.Line.{bare, Escaped}
use Rattle.grammar.specs.Line.Escaped.{nothing, plain, pair}
use Rattle.grammar.specs.Parse.{repeat, fixed, stop, until_quote, all_left}
use Rattle.grammar.proofs.Readers.{Front, Reads, Any, if_found, same_front, ToEnd}

-- ---- runs

module _ (p : ℕ → Bool) where
  -- a run goes over a text of the class
  run_over : (t r : List ℕ) → All p t → length t ≤ run p (t ++ r)
  unfolding run
  run_over [] r h = omega arith
  run_over (b ∷ t) r h = let l = run_over t r h.1 in rw h.0 (omega arith)

  -- and its front is of the class
  run_front : (k : ℕ) (s : List ℕ) → k ≤ run p s → All p (take k s)
  unfolding run
  run_front zero s h = tt
  run_front (suc k) [] h = absurd (omega arith)
  run_front (suc k) (b ∷ s) h =
      by_test (λ t. suc k ≤ (if t then suc (run p s) else 0) → All p (b ∷ take k s)) (p b)
      (λ e l. (e, run_front k s (omega arith)))
      (λ e l. absurd (omega arith))
      h

-- a text of a class does not begin with a byte that is not of it
pub begins : (c : ℕ → Bool) (t r : List ℕ) (b : ℕ) → 1 ≤ length t → All c t → c b ≡ false → is_at (t ++ r) 0 b ≡ false
begins c [] r b l h e = absurd (omega arith)
begins c (x ∷ t) r b l h e = ne_eqb x b (λ q. clash (sym h.0 ∙ ap c q ∙ e))

-- ---- the first n bytes

abbrev pub itself : List ℕ → List ℕ → List ℕ
itself t r = t ++ r

itself_plain : (t r : List ℕ) → t ++ r ≡ (t ++ []) ++ r
itself_plain t r = ap (λ (l : List ℕ). l ++ r) (sym (append-nil t))

taken : {Ok : List ℕ → Type 0} (n : ℕ) (s : List ℕ) → n ≤ length s → Ok (take n s) → Front itself Ok s (take n s) n
taken n s h k = record { ok = k; split = sym (take-append-drop n s); size = sym (ap length (append-nil (take n s)) ∙ length-take-le n s h) }

pub repeat_reads : (most : ℕ) (c : ℕ → Bool) → Reads itself (Repeat 1 most c) (λ r. run c r ≡ 0) (repeat most c)
unfolding repeat
repeat_reads most c =
    record {
      plain = λ t r h. itself_plain t r;
      complete = λ t r h k.
          rw (run_text c t r h.all k, inside 1 most (length t) h.at_least h.at_most, take-append_seam t r, append-nil t);
      sound = λ s t n e. let n₀ = run c s in
          let u = if_found (within 1 most n₀) e in
          let v = both (leb 1 n₀) (leb n₀ most) u.0 in
          let l = length-take-le n₀ s (run_le c s) in
          same_front u.1 (taken n₀ s (run_le c s) (record { at_least = rw l (leb-true 1 n₀ v.0); at_most = rw l (leb-true n₀ most v.1); all = run_all c s }));
    }

pub fixed_reads : (k : ℕ) → Reads itself (Repeat k k is_digit) Any (fixed k)
unfolding fixed
fixed_reads k =
    record {
      plain = λ t r h. itself_plain t r;
      complete = λ t r h _.
          let e : length t ≡ k = let a = h.at_least in let b = h.at_most in omega arith in
          rw (le-leb k (run is_digit (t ++ r)) (let l = run_over is_digit t r h.all in omega arith), take_at t r k e, append-nil t, e);
      sound = λ s t n e. let u = if_found (leb k (run is_digit s)) e in
          let l = leb-true k (run is_digit s) u.0 in
          let w : k ≤ length s = let z = run_le is_digit s in omega arith in
          let q = length-take-le k s w in
          same_front u.1 (taken k s w (record { at_least = rw q (omega arith); at_most = rw q (omega arith); all = run_front is_digit k s l }));
    }

-- ---- a value

pub stop_le : (paired : Bool) (s : List ℕ) → stop paired s ≤ length s
unfolding stop
stop_le paired [] = omega arith
stop_le true (b ∷ s) = let l = stop_le false s in omega arith
stop_le false (b ∷ s) =
    let l = stop_le (eqb b 92) s in
    by_test (λ t. (if t then 0 else suc (stop (eqb b 92) s)) ≤ suc (length s)) (bare b) (λ e. omega arith) (λ e. omega arith)

pub stop_text : {t : List ℕ} (r : List ℕ) → Escaped t → stop false (t ++ 34 ∷ r) ≡ length t
unfolding stop
stop_text r nothing = refl
stop_text r (plain b e h) = rw (b, e) (ap suc (stop_text r h))
stop_text r (pair h) = ap (λ (n : ℕ). suc (suc n)) (stop_text r h)

-- a value, or the rest of one after the backslash of a pair
abbrev Left : Bool → List ℕ → Type 0
Left false t = Escaped t
Left true t = Escaped (92 ∷ t)

stop_left : (paired : Bool) (s : List ℕ) → is_at s (stop paired s) 34 ≡ true → Left paired (take (stop paired s) s)
unfolding stop
stop_left paired [] h = clash (sym h)
stop_left true (b ∷ s) h = pair (stop_left false s h)
stop_left false (b ∷ s) h =
    by_test
    (λ t. is_at (b ∷ s) (if t then 0 else suc (stop (eqb b 92) s)) 34 ≡ true → Escaped (take (if t then 0 else suc (stop (eqb b 92) s)) (b ∷ s)))
    (bare b)
    (λ e _. nothing)
    (λ e.
    by_test (λ t. is_at s (stop t s) 34 ≡ true → Escaped (b ∷ take (stop t s) s)) (eqb b 92)
    (λ q g. subst (λ (k : ℕ). Escaped (k ∷ take (stop true s) s)) (sym (eqb-true b 92 q)) (stop_left true s g))
    (λ q g. plain e q (stop_left false s g)))
    h

pub quote_reads : Reads (λ t r. t ++ 34 ∷ r) Escaped Any until_quote
unfolding until_quote
quote_reads =
    record {
      plain = λ t r h. sym (append_assoc t (34 ∷ []) r);
      complete = λ t r h _. rw (stop_text r h, at_seam t r 34 (length t) refl, take-append_seam t (34 ∷ r), length-append t (34 ∷ []));
      sound = λ s t n e. let n₀ = stop false s in
          let u = if_found (is_at s n₀ 34) e in
          same_front u.1 (record {
            ok = stop_left false s u.0;
            split = sym (take-append-drop n₀ s) ∙ ap (λ (l : List ℕ). take n₀ s ++ l) (at_cons s n₀ 33 u.0);
            size = sym (length-append (take n₀ s) (34 ∷ []) ∙ ap (λ (k : ℕ). k + 1) (length-take-le n₀ s (stop_le false s)));
          });
    }

pub left_reads : Reads itself (λ t. Unit {0}) (λ r. r ≡ []) all_left
unfolding all_left
left_reads =
    record {
      plain = λ t r h. itself_plain t r;
      complete = λ t r h e. rw (e, append-nil t);
      sound = λ s t n e. same_front e (record { ok = tt; split = sym (ap (λ (l : List ℕ). s ++ l) (drop-length s) ∙ append-nil s); size = ap length (sym (append-nil s)) });
    }

pub left_to_end : ToEnd all_left
unfolding all_left
left_to_end s t n e = let z : length s ≡ n = cc in rw (← z) (drop-length s)
