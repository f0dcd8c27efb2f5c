-- A character as its lead byte asks for it: what joins RFC 3629's productions and the readings by lead byte.
use Rattle.std.specs.Prelude.{if◌then◌else◌}
use Prim.Native.Nat.{ℕ, suc, ◌-◌, ◌≤◌, ◌<◌}
use mathlib.Core.Path.{◌≡◌, refl, ap}
use mathlib.Core.List.{List, [], ◌∷◌}
use mathlib.Core.Bool.{Bool, true, false}
use native.Mathlib.Omega.{arith}
use lib.Dec.{eqb}
use borrow.Author.Tests.{eqb-true}
use Rattle.base.specs.Choose.{within}
use Rattle.utf8.specs.Rfc3629.{Utf8Char, utf8_1, utf8_2, utf8_3_E0, utf8_3_E1, utf8_3_ED, utf8_3_EE, utf8_4_F0, utf8_4_F1, utf8_4_F4}
use Rattle.utf8.specs.Lead.{asks, lead_of}
use Rattle.utf8.specs.declared.Lead.{Lead}
use Rattle.base.proofs.Ranges.{orders}
use Rattle.utf8.proofs.Leads.{lead_1, lead_2, lead_E1, lead_EE, lead_F1}

-- `k` bytes, the first of them from `lo` to `hi` and the others tails
pub data Tails : ℕ → ℕ → ℕ → List ℕ → Type 0 where
  done : {lo hi : ℕ} → Tails 0 lo hi []
  more : {k lo hi b : ℕ} {s : List ℕ} → within lo hi b ≡ true → Tails k 0x80 0xBF s → Tails (suc k) lo hi (b ∷ s)

pub data Asked : List ℕ → Type 0 where
  asked : {a k lo hi : ℕ} {s : List ℕ} → lead_of a ≡ asks (suc k) lo hi → Tails k lo hi s → Asked (a ∷ s)

in_orders : {P : Type 0} (lo hi x : ℕ) → (lo ≤ x → x ≤ hi → P) → within lo hi x ≡ true → P
in_orders lo hi x f h = f (orders lo hi x h).0 (orders lo hi x h).1

pub asked_for : {c : List ℕ} → Utf8Char c → Asked c
unfolding lead_of
asked_for (utf8_1 {a} h) = asked (lead_1 a (orders 0x00 0x7F a h).1) done
asked_for (utf8_2 {a} h p) = asked (in_orders 0xC2 0xDF a (lead_2 a) h) (more p done)
asked_for (utf8_3_E0 p q) = asked refl (more p (more q done))
asked_for (utf8_3_E1 {a} h p q) = asked (in_orders 0xE1 0xEC a (lead_E1 a) h) (more p (more q done))
asked_for (utf8_3_ED p q) = asked refl (more p (more q done))
asked_for (utf8_3_EE {a} h p q) = asked (in_orders 0xEE 0xEF a (lead_EE a) h) (more p (more q done))
asked_for (utf8_4_F0 p q r) = asked refl (more p (more q (more r done)))
asked_for (utf8_4_F1 {a} h p q r) = asked (in_orders 0xF1 0xF3 a (lead_F1 a) h) (more p (more q (more r done)))
asked_for (utf8_4_F4 p q r) = asked refl (more p (more q (more r done)))

-- the rows of `leadOf`, each with the test that it passed
data Row : ℕ → Lead → Type 0 where
  row_1 : {a : ℕ} → within 0x00 0x7F a ≡ true → Row a (asks 1 0 0)
  row_2 : {a : ℕ} → within 0xC2 0xDF a ≡ true → Row a (asks 2 0x80 0xBF)
  row_E0 : Row 0xE0 (lead_of 0xE0)
  row_E1 : {a : ℕ} → within 0xE1 0xEC a ≡ true → Row a (asks 3 0x80 0xBF)
  row_ED : Row 0xED (lead_of 0xED)
  row_EE : {a : ℕ} → within 0xEE 0xEF a ≡ true → Row a (asks 3 0x80 0xBF)
  row_F0 : Row 0xF0 (lead_of 0xF0)
  row_F1 : {a : ℕ} → within 0xF1 0xF3 a ≡ true → Row a (asks 4 0x80 0xBF)
  row_F4 : Row 0xF4 (lead_of 0xF4)
  row_none : {a : ℕ} → Row a (asks 0 0 0)

first : {a : ℕ} {x y : Lead} (t : Bool) → (t ≡ true → Row a x) → Row a y → Row a (if t then x else y)
first true f q = f refl
first false f q = q

at_byte : (n : ℕ) {l : Lead} → Row n l → (a : ℕ) → eqb a n ≡ true → Row a l
at_byte n r a e = rw (eqb-true a n e) r

row : (a : ℕ) → Row a (lead_of a)
unfolding lead_of
row a =
    first (within 0x00 0x7F a) row_1
    (first (within 0xC2 0xDF a) row_2
    (first (eqb a 0xE0) (at_byte 0xE0 row_E0 a)
    (first (within 0xE1 0xEC a) row_E1
    (first (eqb a 0xED) (at_byte 0xED row_ED a)
    (first (within 0xEE 0xEF a) row_EE
    (first (eqb a 0xF0) (at_byte 0xF0 row_F0 a)
    (first (within 0xF1 0xF3 a) row_F1
    (first (eqb a 0xF4) (at_byte 0xF4 row_F4 a) row_none))))))))

row_char : {a : ℕ} {l : Lead} {s : List ℕ} → Row a l → 1 ≤ l.len → Tails (l.len - 1) l.low l.high s → Utf8Char (a ∷ s)
unfolding lead_of
row_char (row_1 h) n done = utf8_1 h
row_char (row_2 h) n (more p done) = utf8_2 h p
row_char row_E0 n (more p (more q done)) = utf8_3_E0 p q
row_char (row_E1 h) n (more p (more q done)) = utf8_3_E1 h p q
row_char row_ED n (more p (more q done)) = utf8_3_ED p q
row_char (row_EE h) n (more p (more q done)) = utf8_3_EE h p q
row_char row_F0 n (more p (more q (more r done))) = utf8_4_F0 p q r
row_char (row_F1 h) n (more p (more q (more r done))) = utf8_4_F1 h p q r
row_char row_F4 n (more p (more q (more r done))) = utf8_4_F4 p q r
row_char row_none n t = absurd (omega arith)

pub char_of : {c : List ℕ} → Asked c → Utf8Char c
char_of (asked {a} {k} e t) =
    let p : suc k - 1 ≡ k = omega arith in
    row_char (rw e at (row a)) (omega arith) (rw p t)

-- what begins a character, in the form of `asked`
pub asks_some : (l : Lead) → 1 ≤ l.len → l ≡ asks (suc (l.len - 1)) l.low l.high
asks_some l h =
    let p : l.len ≡ suc (l.len - 1) = omega arith in
    ap (λ (n : ℕ). asks n l.low l.high) p

-- no row asks for more than four bytes, nor for a byte that is no tail
pub record Bounds (l : Lead) : Type 0 where
  pub most : l.len ≤ 4
  pub tails : 1 < l.len → (0x80 ≤ l.low) × (l.high ≤ 0xBF)

row_bounds : {a : ℕ} {l : Lead} → Row a l → Bounds l
unfolding lead_of
row_bounds (row_1 h) = omega arith
row_bounds (row_2 h) = omega arith
row_bounds row_E0 = omega arith
row_bounds (row_E1 h) = omega arith
row_bounds row_ED = omega arith
row_bounds (row_EE h) = omega arith
row_bounds row_F0 = omega arith
row_bounds (row_F1 h) = omega arith
row_bounds row_F4 = omega arith
row_bounds row_none = omega arith

pub lead_bounds : (a : ℕ) → Bounds (lead_of a)
lead_bounds a = row_bounds (row a)
