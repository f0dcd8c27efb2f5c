-- In which span a day falls: the one that starts at the day or before it and ends after it.
use Rattle.std.specs.Prelude.{if◌then◌else◌}
use Prim.Native.Nat.{ℕ, zero, suc, ◌+◌, ◌-◌, ◌≤◌, ◌<◌}
use mathlib.Core.Path.{◌≡◌, ap}
use native.Mathlib.Decide.{dec_le}
use native.Mathlib.Nat.{add-zero, zero-add}
use native.Mathlib.Omega.{arith}
use lib.Dec.{ltb}
use borrow.Author.Tests.{lt-ltb, le-ltb}
use Rattle.calendar.specs.Instant.{span_from}

-- Day `n` falls in span `k`, one of the first `f`, where `sum` counts the days of the spans before one
pub record Falls (sum : ℕ → ℕ) (f n k : ℕ) : Type 0 where
  pub one_of : k < f
  pub from : sum k ≤ n
  pub to : n < sum (suc k)

module _ (len sum : ℕ → ℕ) (none : sum 0 ≡ 0) (more : (k : ℕ) → sum (suc k) ≡ sum k + len k) where
  pub sum_mono : (a b : ℕ) → a ≤ b → sum a ≤ sum b
  sum_mono a zero h = let e : a ≡ 0 = omega arith in rw e (omega arith)
  sum_mono a (suc b) h = go (dec_le a b) (sum_mono a b)
    where
      go : Dec (a ≤ b) → (a ≤ b → sum a ≤ sum b) → sum a ≤ sum (suc b)
      go (yes p) m = omega (arith, m p, more b)
      go (no p) m = let e : a ≡ suc b = omega arith in rw e (omega arith)

  falls_only : (f n j k : ℕ) → Falls sum f n j → Falls sum f n k → j ≤ k
  falls_only f n j k a b = go (dec_le j k)
    where
      go : Dec (j ≤ k) → j ≤ k
      go (yes p) = p
      go (no p) = omega (arith, sum_mono (suc k) j (omega arith), a.from, b.to)

  falls_from : (f k n d : ℕ) → d + sum k ≡ n → n < sum (k + f) → Falls sum (k + f) n (span_from len f k d)
  unfolding span_from
  falls_from zero k n d e h = absurd (let z : sum (k + 0) ≡ sum k = ap sum (add-zero k) in omega arith)
  falls_from (suc f) k n d e h = go (dec_le (len k) d) (falls_from f (suc k) n (d - len k))
    where
      go : Dec (len k ≤ d) → (d - len k + sum (suc k) ≡ n → n < sum (suc k + f) → Falls sum (suc k + f) n (span_from len f (suc k) (d - len k)))
          → Falls sum (k + suc f) n (if ltb d (len k) then k else span_from len f (suc k) (d - len k))
      go (yes u) m =
          let o : k + suc f ≡ suc k + f = omega arith in
          rw (le-ltb d (len k) u, o) (m (omega (arith, more k)) (rw o at h))
      go (no u) m =
          let l : d < len k = omega arith in
          rw (lt-ltb d (len k) l) (record { one_of = omega arith; from = omega arith; to = omega (arith, more k) })

  -- the search finds the span
  pub falls : (f n : ℕ) → n < sum f → Falls sum f n (span_from len f 0 n)
  falls f n h = rw (zero-add f) at (falls_from f 0 n n (omega arith) (rw (zero-add f) h))

  -- and there is no other
  pub found : (f n k : ℕ) → Falls sum f n k → span_from len f 0 n ≡ k
  found f n k b =
      let a = falls f n (omega (arith, sum_mono (suc k) f b.one_of, b.to)) in
      omega (arith, falls_only f n _ k a b, falls_only f n k _ b a)
