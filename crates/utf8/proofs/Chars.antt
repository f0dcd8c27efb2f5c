-- The character at the front of a text: how long it is, what it is, and where none begins.
use Rattle.std.specs.Prelude.{if◌then◌else◌}
use Prim.Native.Nat.{ℕ, zero, suc, ◌-◌, ◌≤◌, ◌<◌}
use mathlib.Core.Path.{◌≡◌, refl, ap}
use mathlib.Core.List.{List, [], ◌∷◌, ◌++◌}
use mathlib.Core.Bool.{Bool, true, ◌&&◌, ◌||◌}
use native.Mathlib.Omega.{arith}
use lib.Dec.{leb, ltb, leb-zero}
use lib.ListN.{length, get_or, take}
use borrow.Author.Tests.{leb-true, le-leb, le-ltb}
use Rattle.base.specs.Choose.{within}
use Rattle.base.specs.Runs.{All}
use Rattle.base.proofs.Tests.{both, by_test}
use Rattle.base.proofs.Ranges.{inside, orders}
use Rattle.base.proofs.Runs.{all_at}
use Rattle.utf8.specs.Rfc3629.{is_tail, Utf8Char}
use Rattle.utf8.specs.Lead.{lead_of, well_formed, char_len}
use Rattle.utf8.specs.declared.Lead.{Lead}
use Rattle.utf8.proofs.Leads.{lead_tail}
use Rattle.utf8.proofs.Asked.{Tails, done, more, Asked, asked, asked_for, char_of, asks_some, lead_bounds}

-- either the character is there that the lead byte asks for, or none
by_front : (P : ℕ → Type 0) (s : List ℕ)
    → ((lead_of (get_or s 0 0)).len ≤ length s → well_formed (lead_of (get_or s 0 0)) s ≡ true → P (lead_of (get_or s 0 0)).len)
    → P 0 → P (char_len s)
unfolding char_len
by_front P s f g =
    let l = lead_of (get_or s 0 0) in
    by_test (λ t. P (if t then l.len else 0)) (leb l.len (length s) && well_formed l s)
    (λ e. let (p, q) = both (leb l.len (length s)) (well_formed l s) e in f (leb-true l.len (length s) p) q)
    (λ e. g)

pub char_fits : (s : List ℕ) → char_len s ≤ length s
char_fits s = by_front (λ n. n ≤ length s) s (λ p q. p) (omega arith)

-- what stands at the front is a character

-- at most three bytes that passed their tests
tested : (k lo hi : ℕ) (s : List ℕ) → k < 4 → k ≤ length s
    → (0 < k → within lo hi (get_or s 0 0) ≡ true) → (1 < k → is_tail (get_or s 1 0) ≡ true) → (2 < k → is_tail (get_or s 2 0) ≡ true)
    → Tails k lo hi (take k s)
tested zero lo hi s m n p q r = done
tested (suc k) lo hi [] m n p q r = absurd (omega arith)
tested (suc k) lo hi (b ∷ s) m n p q r =
    more (p (omega arith)) (tested k 0x80 0xBF s (omega arith) (omega arith) (λ z. q (omega arith)) (λ z. r (omega arith)) (λ z. absurd (omega arith)))

asked_test : (n m : ℕ) (t : Bool) → (ltb n m || t) ≡ true → m ≤ n → t ≡ true
asked_test n m t h o = rw (le-ltb n m o) at h

last_three : (a b c d : Bool) → (a && b && c && d) ≡ true → (b ≡ true) × (c ≡ true) × (d ≡ true)
last_three a b c d h =
    let (f, r) = both (a && b && c) d h in
    let (g, q) = both (a && b) c f in
    ((both a b g).1, q, r)

formed : (l : Lead) (a : ℕ) (s : List ℕ) → l.len ≤ 4 → 1 ≤ l.len → l.len ≤ suc (length s) → well_formed l (a ∷ s) ≡ true
    → Tails (l.len - 1) l.low l.high (take (l.len - 1) s)
unfolding well_formed
formed l a s m o w h =
    let n = l.len in
    let (p, q, r) = last_three (leb 1 n) (ltb n 2 || within l.low l.high (get_or s 0 0)) (ltb n 3 || is_tail (get_or s 1 0)) (ltb n 4 || is_tail (get_or s 2 0)) h in
    tested (n - 1) l.low l.high s (omega arith) (omega arith)
    (λ z. asked_test n 2 _ p (omega arith)) (λ z. asked_test n 3 _ q (omega arith)) (λ z. asked_test n 4 _ r (omega arith))

front : (s : List ℕ) → (lead_of (get_or s 0 0)).len ≤ length s → well_formed (lead_of (get_or s 0 0)) s ≡ true → 1 ≤ (lead_of (get_or s 0 0)).len
    → Utf8Char (take (lead_of (get_or s 0 0)).len s)
front [] n h o = absurd (omega arith)
front (a ∷ s) n h o =
    let p : (lead_of a).len ≡ suc ((lead_of a).len - 1) = omega arith in
    rw p (char_of (asked (asks_some (lead_of a) o) (formed (lead_of a) a s (lead_bounds a).most o n h)))

pub char_found : (s : List ℕ) → (char_len s ≡ 0 → ⊥) → Utf8Char (take (char_len s) s)
char_found s = by_front (λ n. (n ≡ 0 → ⊥) → Utf8Char (take n s)) s (λ p q z. front s p q (omega arith)) (λ z. absurd (z refl))

-- a character at the front is what stands there

asked_is : {c : List ℕ} → Asked c → (t : List ℕ) → char_len (c ++ t) ≡ length c
unfolding char_len well_formed
asked_is (asked e done) t = rw (e, le-leb 1 (suc (length t)) (omega arith))
asked_is (asked e (more p done)) t = rw (e, le-leb 2 (suc (suc (length t))) (omega arith), p)
asked_is (asked e (more p (more q done))) t = rw (e, le-leb 3 (suc (suc (suc (length t)))) (omega arith), p, q)
asked_is (asked e (more p (more q (more r done)))) t = rw (e, le-leb 4 (suc (suc (suc (suc (length t))))) (omega arith), p, q, r)
asked_is (asked {a} e (more p (more q (more r (more u v))))) t = absurd (omega (arith, (lead_bounds a).most, ap (λ (l : Lead). l.len) e))

pub char_is : {c : List ℕ} → Utf8Char c → (t : List ℕ) → char_len (c ++ t) ≡ length c
char_is h = asked_is (asked_for h)

asked_some : {c : List ℕ} → Asked c → 1 ≤ length c
asked_some (asked e t) = omega arith

pub char_some : {c : List ℕ} → Utf8Char c → 1 ≤ length c
char_some h = asked_some (asked_for h)

-- a character's bytes after its first are tails, and a tail begins no character

tails_all : {k lo hi : ℕ} {s : List ℕ} → (0 < k → (0x80 ≤ lo) × (hi ≤ 0xBF)) → Tails k lo hi s → All is_tail s
tails_all o done = tt
tails_all o (more {k} {lo} {hi} {b} p t) =
    let (g, h) = o (omega arith) in
    let (u, v) = orders lo hi b p in
    (inside 0x80 0xBF b (omega arith) (omega arith), tails_all (λ z. omega arith) t)

asked_tails : {c : List ℕ} → Asked c → (k : ℕ) → 1 ≤ k → k < length c → is_tail (get_or c k 0) ≡ true
asked_tails (asked e t) zero n h = absurd (omega arith)
asked_tails (asked {a} {s = s} e t) (suc k) n h = all_at is_tail s k (tails_all (λ z. (rw e at (lead_bounds a)).tails (omega arith)) t) (omega arith)

pub later_tails : {c : List ℕ} → Utf8Char c → (k : ℕ) → 1 ≤ k → k < length c → is_tail (get_or c k 0) ≡ true
later_tails h = asked_tails (asked_for h)

pub tail_begins_none : (b : ℕ) (s : List ℕ) → is_tail b ≡ true → char_len (b ∷ s) ≡ 0
unfolding char_len well_formed
tail_begins_none b s h =
    let (p, q) = orders 0x80 0xBF b h in
    rw (lead_tail b p (omega arith), leb-zero)
