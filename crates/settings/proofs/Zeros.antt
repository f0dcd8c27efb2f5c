-- Texts of one range of bytes, and of zeros.
use Rattle.std.specs.Prelude.{if◌then◌else◌}
use Prim.Native.Nat.{ℕ, zero, suc, ◌+◌, ◌≤◌}
use mathlib.Core.Path.{◌≡◌, refl, sym, ap, subst, ◌∙◌}
use mathlib.Core.Bool.{Bool, true, ◌&&◌}
use mathlib.Core.List.{List, [], ◌∷◌, ◌++◌, append-nil}
use native.Mathlib.Omega.{arith}
use lib.ListN.{length, drop, replicate, length-drop, take-append-drop}
use lib.Seq.{take_all, length-take-le, drop-drop}
use borrow.Author.Tests.{eq-eqb, eqb-true}
use lib.Dec.{eqb}
use Rattle.std.proofs.Math.Dec.{eqb-suc-suc, eqb-zero-suc}
use Rattle.std.specs.List.{list_all}
use Rattle.base.proofs.Tests.{by_test}
use Rattle.base.specs.Choose.{within}
use Rattle.base.specs.Runs.{run, All}
use Rattle.base.specs.Texts.{text_at}
use Rattle.base.proofs.Ranges.{orders}
use Rattle.base.proofs.Runs.{run_all, run_text, run_none}
use Rattle.settings.specs.Record.{all_within}

pub within_all : (lo hi : ℕ) (t : List ℕ) → all_within lo hi t ≡ true → All (within lo hi) t
unfolding all_within
within_all lo hi t h =
    let e : run (within lo hi) t ≡ length t = eqb-true _ _ h in
    subst (All (within lo hi)) (take_all (run (within lo hi) t) t (omega arith)) (run_all (within lo hi) t)

pub all_within_lem : (lo hi : ℕ) (t : List ℕ) → All (within lo hi) t → all_within lo hi t ≡ true
unfolding all_within
all_within_lem lo hi t a = eq-eqb _ _ (ap (run (within lo hi)) (sym (append-nil t)) ∙ run_text (within lo hi) t [] a (run_none (within lo hi)))

-- what a chain asks of each byte
run_all_listed : (p : ℕ → Bool) (s : List ℕ) → list_all p s ≡ eqb (run p s) (length s)
unfolding run
run_all_listed p [] = refl
run_all_listed p (b ∷ s) = let m = run_all_listed p s in by_test (λ t. (t && list_all p s) ≡ eqb (if t then suc (run p s) else 0) (suc (length s))) (p b) (λ _. m ∙ sym (eqb-suc-suc (run p s) (length s))) (λ _. sym (eqb-zero-suc (length s)))

pub all_listed : (lo hi : ℕ) (s : List ℕ) → list_all (within lo hi) s ≡ all_within lo hi s
unfolding all_within
all_listed lo hi s = run_all_listed (within lo hi) s

all_zeros : (t : List ℕ) → All (within 0 0) t → t ≡ replicate (length t) 0
all_zeros [] a = refl
all_zeros (x ∷ t) a =
    let e : x ≡ 0 = omega (arith, orders 0 0 x a.0) in
    let f = all_zeros t a.1 in
    cc

zeros_all : (n : ℕ) → All (within 0 0) (replicate n 0)
zeros_all zero = tt
zeros_all (suc n) = (refl, zeros_all n)

pub are_zeros : (t : List ℕ) (n : ℕ) → all_within 0 0 t ≡ true → length t ≡ n → t ≡ replicate n 0
are_zeros t n h e = all_zeros t (within_all 0 0 t h) ∙ ap (λ (k : ℕ). replicate k 0) e

pub zeros_are : (t : List ℕ) (n : ℕ) → t ≡ replicate n 0 → all_within 0 0 t ≡ true
zeros_are t n e = rw e (all_within_lem 0 0 (replicate n 0) (zeros_all n))

-- ---- parts

pub part_length : (s : List ℕ) (at n : ℕ) → at + n ≤ length s → length (text_at s at n) ≡ n
part_length s at n h = length-take-le n (drop at s) (omega (arith, length-drop at s))

pub cut : (s : List ℕ) (at n : ℕ) → drop at s ≡ text_at s at n ++ drop (at + n) s
cut s at n = sym (take-append-drop n (drop at s)) ∙ ap (λ (x : List ℕ). text_at s at n ++ x) (drop-drop n at s)
