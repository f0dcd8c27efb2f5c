-- A value's escapes by runs of plain bytes: the length and the writes.
use Rattle.std.specs.Prelude.{if◌then◌else◌}
use Prim.Native.Nat.{ℕ, zero, suc, ◌+◌, ◌-◌, ◌*◌, ◌≤◌, ◌<◌}
use mathlib.Core.Path.{◌≡◌, refl, sym, ap, ◌∙◌}
use mathlib.Core.Bool.{Bool, true, false, not, ◌&&◌}
use mathlib.Core.List.{List, [], ◌∷◌, ◌++◌}
use native.Mathlib.Omega.{arith}
use lib.ListN.{length, get_or, take, drop, length-append, length-take, length-drop}
use lib.Seq.{drop-drop, get_or-drop}
use borrow.Author.Tests.{not-true, not-false}
use mir.Syntax.{w64}
use mir.Val as val
use Rattle.std.specs.List.{fold, list_all, prefix_len}
use Rattle.std.proofs.lemmas.List.Folds.{length-prefix_len}
use Rattle.base.specs.Runs.{run}
use Rattle.base.specs.Texts.{text_at}
use Rattle.base.proofs.Tests.{by_test, both, told}
use Rattle.base.proofs.Parts.{step, ended}
use Rattle.base.proofs.Runs.{run_le, run_yes, run_no, run_none, run_after, run_split, Runs, runs_from}
use Rattle.record.specs.Limits.{line_limit}
use Rattle.output.specs.Fits.{Fits}
use Rattle.output.specs.Output.{Wrote}
use Rattle.output.proofs.Pieces.{Midway, midway_all, midway_fits, midway_on, midway_end, first_fits, next_fits, two_are, starts_named}
use Rattle.lookup.specs.Unescape.{is_escaped}
use Rattle.writes.specs.Written.{escape}
use Rattle.escaping.specs.Plain.{plain, sixteen}

-- ---- runs by sixteens

-- the fold that asks all
pub fold_all : (p : ℕ → Bool) (a : Bool) (xs : List ℕ) → fold (λ a b. a && p b) a xs ≡ (a && list_all p xs)
fold_all p true [] = refl
fold_all p false [] = refl
fold_all p true (x ∷ xs) = fold_all p (p x) xs
fold_all p false (x ∷ xs) = fold_all p false xs

-- what `take_while` takes is the run in front
prefix_run : (p : ℕ → Bool) (s : List ℕ) → prefix_len p s ≡ run p s
unfolding run
prefix_run p [] = refl
prefix_run p (b ∷ s) = grind (arith, prefix_run p s)

pub run_taken : (p : ℕ → Bool) (s : List ℕ) → length (take (prefix_len p s) s) ≡ run p s
run_taken p s = length-prefix_len p s ∙ prefix_run p s

all_run : (p : ℕ → Bool) (k : ℕ) (xs : List ℕ) → k ≤ length xs → list_all p (take k xs) ≡ true → k ≤ run p xs
all_run p zero xs h t = omega arith
all_run p (suc k) [] h t = absurd (omega arith)
all_run p (suc k) (x ∷ xs) h t = let e = both (p x) (list_all p (take k xs)) t in omega (arith, run_yes p x xs e.0, all_run p k xs (omega arith) e.1)

module _ (s : List ℕ) (from i : ℕ) (w : Runs plain s (from + run plain (drop from s)) i) where
  pub front_inside : i ≤ length s
  front_inside = w.within_s

  pub front_rest : from + run plain (drop from s) ≡ i + run plain (drop i s)
  front_rest = w.ends

  pub front_sixteen : i + 16 ≤ length s → (b : Bool) → b ≡ sixteen plain s i → not b ≡ false → Runs plain s (from + run plain (drop from s)) (i + 16)
  front_sixteen l b e q =
      let t = told b (sixteen plain s i) e q in
      let r = all_run plain 16 (drop i s) (omega (arith, length-drop i s)) t in
      record { within_s = l; ends = omega (arith, w.ends, run_split plain (drop i s) 16 r, ap (run plain) (drop-drop 16 i s)) }

pub ruleset front_laws = (runs_from, front_inside, front_rest)

-- ---- the escapes by runs

escape_plain : (b : ℕ) (t : List ℕ) → plain b ≡ true → escape (b ∷ t) ≡ b ∷ escape t
unfolding escape
escape_plain b t h = rw (not-true (is_escaped b) h)

escape_marked : (b : ℕ) (t : List ℕ) → plain b ≡ false → escape (b ∷ t) ≡ 92 ∷ b ∷ escape t
unfolding escape
escape_marked b t h = rw (not-false (is_escaped b) h)

escape_run : (s : List ℕ) → escape s ≡ take (run plain s) s ++ escape (drop (run plain s) s)
escape_run [] = rw (run_none plain)
escape_run (b ∷ s) =
    by_test (λ t. plain b ≡ t → escape (b ∷ s) ≡ take (run plain (b ∷ s)) (b ∷ s) ++ escape (drop (run plain (b ∷ s)) (b ∷ s))) (plain b)
    (λ _ q. rw (run_yes plain b s q) (escape_plain b s q ∙ ap (λ (t : List ℕ). b ∷ t) (escape_run s)))
    (λ _ q. rw (run_no plain b s q))
    refl

-- a run from `a` on ends at `n`
pub record Ends (v : List ℕ) (n : ℕ) : Type 0 where
  pub inside : n ≤ length v
  pub stops : n < length v → plain (get_or v n 0) ≡ false

module _ (v : List ℕ) (a : ℕ) (h : a ≤ length v) (n : ℕ) (e : n ≡ a + run plain (drop a v)) where
  short : run plain (drop a v) ≤ length v - a
  short = omega (arith, run_le plain (drop a v), length-drop a v)

  pub run_ends : Ends v n
  run_ends =
      record {
        inside = omega (arith, short);
        stops = λ l.
            let r = run plain (drop a v) in
            let m : r < length (drop a v) = omega (arith, length-drop a v) in
            rw (e) (sym (ap plain (get_or-drop a v r 0)) ∙ run_after plain (drop a v) m);
      }

  pub run_escapes : text_at v a (n - a) ++ escape (drop n v) ≡ escape (drop a v)
  run_escapes =
      let r = run plain (drop a v) in
      let m : n - a ≡ r = omega arith in
      rw (m, e) (sym (escape_run (drop a v) ∙ ap (λ (l : List ℕ). take r (drop a v) ++ escape l) (drop-drop r a v)))

-- a backslash, the byte at `i` and the run behind it
module _ (v : List ℕ) (i : ℕ) (w : Ends v i) (l : i < length v) (j : ℕ) (e : j ≡ i + 1 + run plain (drop (i + 1) v)) where
  pub next_ends : Ends v j
  next_ends = run_ends v (i + 1) (omega arith) j e

  pub marked_to : j ≤ length v
  marked_to = next_ends.inside

  pub marked_less : length v - j < length v - i
  marked_less = omega (arith, marked_to)

  marked_text : text_at v i (j - i) ≡ get_or v i 0 ∷ text_at v (i + 1) (j - (i + 1))
  marked_text =
      let m : j - i ≡ suc (j - (i + 1)) = omega arith in
      rw (m, step v i l)

  pub marked_is : (92 ∷ text_at v i (j - i)) ++ escape (drop j v) ≡ escape (drop i v)
  marked_is =
      ap (λ (t : List ℕ). (92 ∷ t) ++ escape (drop j v)) marked_text
      ∙ ap (λ (t : List ℕ). 92 ∷ get_or v i 0 ∷ t) (run_escapes v (i + 1) (omega arith) j e)
      ∙ sym (ap escape (step v i l) ∙ escape_marked (get_or v i 0) (drop (i + 1) v) (w.stops l))

escape_end : (v : List ℕ) (i : ℕ) → length v ≤ i → escape (drop i v) ≡ []
unfolding escape
escape_end v i h = ap escape (ended v i h)

-- ---- the length: n counts all bytes and the backslashes so far

pub record Counted (v : List ℕ) (n i : ℕ) : Type 0 where
  pub ends : Ends v i
  pub some : n ≤ length v + i
  pub sum : n + length (escape (drop i v)) ≡ length (escape v) + (length v - i)

module _ (v : List ℕ) where
  pub count_start : (i : ℕ) → i ≡ 0 + run plain (drop 0 v) → Counted v (length v) i
  count_start i e =
      let w = run_ends v 0 (omega arith) i e in
      let l : length (text_at v 0 (i - 0)) ≡ i = omega (arith, length-take (i - 0) v, w.inside) in
      record {
        ends = w;
        some = omega arith;
        sum = omega (arith, l, w.inside, length-append (text_at v 0 (i - 0)) (escape (drop i v)), ap length (run_escapes v 0 (omega arith) i e));
      }

  module _ (n i : ℕ) (w : Counted v n i) where
    pub count_fits : length v ≤ line_limit → val.Fits w64 (n + 1)
    count_fits l = record { fits = omega (arith, w.some, w.ends.inside) }

    pub count_ends : length v ≤ i → n ≡ length (escape v)
    count_ends h = omega (arith, w.sum, ap length (escape_end v i h))

    module _ (l : i < length v) where
      pub count_from : i + 1 ≤ length v
      count_from = omega arith

      module _ (j : ℕ) (e : j ≡ i + 1 + run plain (drop (i + 1) v)) where
        pub count_on : Counted v (n + 1) j
        count_on =
            let o = marked_to v i w.ends l j e in
            let m : length (text_at v i (j - i)) ≡ j - i = omega (arith, length-take (j - i) (drop i v), length-drop i v) in
            record {
              ends = next_ends v i w.ends l j e;
              some = omega (arith, w.some);
              sum = omega (arith, w.sum, m, length-append (92 ∷ text_at v i (j - i)) (escape (drop j v)), ap length (marked_is v i w.ends l j e));
            }

        pub count_less : length v - j < length v - i
        count_less = marked_less v i w.ends l j e

pub ruleset count_laws = (count_start, count_fits, count_ends, count_from, count_on, count_less)

-- a value has no more bytes than it has with its escapes
pub escape_longer : (v : List ℕ) → length v ≤ length (escape v)
unfolding escape
escape_longer [] = omega arith
escape_longer (b ∷ v) =
    by_test (λ t. suc (length v) ≤ length (if t then 92 ∷ b ∷ escape v else b ∷ escape v)) (is_escaped b)
    (λ _. omega (arith, escape_longer v)) (λ _. omega (arith, escape_longer v))

-- and at most twice as many
pub escape_twice : (v : List ℕ) → length (escape v) ≤ 2 * length v
unfolding escape
escape_twice [] = omega arith
escape_twice (b ∷ v) =
    by_test (λ t. length (if t then 92 ∷ b ∷ escape v else b ∷ escape v) ≤ 2 * suc (length v)) (is_escaped b)
    (λ _. omega (arith, escape_twice v)) (λ _. omega (arith, escape_twice v))

-- ---- the writes: begun at `s` of the value and at `at` of the output, up to `i` and `a`

pub record Puts (v : List ℕ) (s : ℕ) (o : List ℕ) (at : ℕ) (p : List ℕ) (a i : ℕ) : Type 0 where
  pub ends : Ends v i
  pub room : Fits o at (escape (drop s v))
  pub midway : Midway o at (escape (drop s v)) p a (escape (drop i v))

module _ (v : List ℕ) (s : ℕ) (o : List ℕ) (at : ℕ) (p : List ℕ) (a i : ℕ) (w : Puts v s o at p a i) where
  pub puts_same : length p ≡ length o
  puts_same = w.midway.same

  module _ (l : i < length v) where
    pub puts_from : i + 1 ≤ length v
    puts_from = omega arith

    module _ (j : ℕ) (e : j ≡ i + 1 + run plain (drop (i + 1) v)) where
      pub puts_forward : i ≤ j
      puts_forward = omega arith

      pub puts_to : j ≤ length v
      puts_to = marked_to v i w.ends l j e

      pub puts_less : length v - j < length v - i
      puts_less = marked_less v i w.ends l j e

      pub puts_fits : Fits p a (92 ∷ text_at v i (j - i))
      puts_fits = midway_fits w.room w.midway (record { others = escape (drop j v); is = marked_is v i w.ends l j e })

      pub puts_on : (n : ℕ) (q : List ℕ) → Wrote p a (92 ∷ text_at v i (j - i)) n q → Puts v s o at q n j
      puts_on n q u = record { ends = next_ends v i w.ends l j e; room = w.room; midway = midway_on w.room w.midway u (marked_is v i w.ends l j e) }

-- the run in front, and then all of the rest
module _ (v o : List ℕ) (at : ℕ) (f : Fits o at (escape v)) (i : ℕ) (e : i ≡ 0 + run plain (drop 0 v)) where
  front_is : take (i - 0) (drop 0 v) ++ escape (drop i v) ≡ escape v
  front_is = run_escapes v 0 (omega arith) i e

  pub puts_inside : i ≤ length v
  puts_inside = (run_ends v 0 (omega arith) i e).inside

  pub puts_first : Fits o at (take (i - 0) (drop 0 v))
  puts_first = first_fits f (record { others = escape (drop i v); is = front_is })

  module _ (n : ℕ) (p : List ℕ) (w : Wrote o at (take (i - 0) (drop 0 v)) n p) where
    pub puts_start : Puts v i p n p n i
    puts_start = record { ends = run_ends v 0 (omega arith) i e; room = next_fits f w (starts_named _ _ front_is); midway = midway_all p n _ }

    pub puts_end : (q : List ℕ) (a j : ℕ) → Puts v i p n q a j → length v ≤ j → Wrote o at (escape v) a q
    puts_end q a j u h = two_are f w (midway_end p n _ q a _ u.midway (escape_end v j h)) front_is

pub ruleset put_laws = (puts_same, puts_from, puts_forward, puts_to, puts_less, puts_fits, puts_on, puts_inside, puts_first, puts_start, puts_end)
