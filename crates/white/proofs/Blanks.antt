-- White characters alone: the places between two of them, and the white character that ends at a place.
use Prim.Native.Nat.{ℕ, zero, suc, ◌+◌, ◌-◌, ◌≤◌, ◌<◌}
use mathlib.Core.Path.{◌≡◌, refl, sym, ap, ◌∙◌}
use mathlib.Core.Bool.{true}
use mathlib.Core.List.{List, ◌++◌}
use native.Mathlib.Decide.{ℕ_discrete, dec_le}
use native.Mathlib.Omega.{arith}
use lib.ListN.{length, take, drop, length-append, length-drop, take-append-drop}
use lib.Seq.{drop-drop, length-take-le}
use borrow.Author.Tests.{eq-eqb, eqb-true, le-leb, leb-true}
use Rattle.base.proofs.Tests.{both}
use Rattle.utf8.specs.Rfc3629.{Utf8Char}
use Rattle.white.specs.White.{white_len}
use Rattle.white.specs.Trim.{white_run}
use Rattle.white.specs.Before.{ends_white}
use Rattle.white.proofs.Whites.{begun, alone, white_fits, white_most, white_inside}
use Rattle.white.proofs.Walks.{run_more, run_stops}

-- nothing but white characters
abbrev pub Blank : List ℕ → Type 0
Blank s = white_run s ≡ length s

-- A white character that ends at a place
pub ends : (s : List ℕ) (e n : ℕ) → ends_white s e n ≡ true → (n ≤ e) × (white_len (take n (drop (e - n) s)) ≡ n)
unfolding ends_white
ends s e n h = let b = both _ _ h in (leb-true n e b.0, eqb-true _ n b.1)

ending : (s : List ℕ) (e n : ℕ) → n ≤ e → white_len (take n (drop (e - n) s)) ≡ n → ends_white s e n ≡ true
unfolding ends_white
ending s e n l h = rw (le-leb n e l, h) (eq-eqb n n refl)

-- no place within a character has white characters alone after it
pub not_inside : {c : List ℕ} → Utf8Char c → (t : List ℕ) (m : ℕ) → 1 ≤ m → m < length c → Blank (drop m (c ++ t)) → ⊥
not_inside {c} u t m z l b =
    omega (arith, b, run_stops (drop m (c ++ t)) (white_inside u t m z l), length-drop m (c ++ t), length-append c t)

-- The white character that ends at place `m`
pub record Last (s : List ℕ) (m : ℕ) : Type 0 where
  pub size : ℕ
  pub some : 1 ≤ size
  pub most : size ≤ 3
  pub there : ends_white s m size ≡ true

-- the same, of what stands after place `a`
pub last_behind : (s : List ℕ) (a m e : ℕ) → a + m ≡ e → Last (drop a s) m → Last s e
last_behind s a m e p last =
    let n = last.size in
    let (l, w) = ends (drop a s) m n last.there in
    let q : a + (m - n) ≡ e - n = omega arith in
    let d : drop (e - n) s ≡ drop (m - n) (drop a s) = sym (drop-drop (m - n) a s ∙ ap (λ (k : ℕ). drop k s) q) in
    record {
      size = n;
      some = last.some;
      most = last.most;
      there = ending s e n (omega arith) (ap (λ (r : List ℕ). white_len (take n r)) d ∙ w);
    }

-- A place of the white characters at the front, with white characters alone after it, lies between two of them
pub record Met (s : List ℕ) (m : ℕ) : Type 0 where
  pub blank : Blank s
  pub last : 0 < m → Last s m

module _ (s : List ℕ) (m : ℕ) (h : m ≤ white_run s) (b : Blank (drop m s)) (p : 0 < m) where
  first : white_len s ≡ 0 → ⊥
  first e = omega (arith, run_stops s e)

  first_le : white_len s ≤ m
  first_le = go (dec_le (white_len s) m)
    where
      go : Dec (white_len s ≤ m) → white_len s ≤ m
      go (yes l) = l
      go (no l) =
          let w = white_len s in
          let l : m < length (take w s) = omega (arith, length-take-le w s (white_fits s)) in
          absurd (not_inside (begun s w refl first).is (drop w s) m p l (rw (take-append-drop w s) b))

  behind : Blank (drop (m - white_len s) (drop (white_len s) s))
  behind = let e : white_len s + (m - white_len s) ≡ m = omega (arith, first_le) in rw (drop-drop (m - white_len s) (white_len s) s, e) b

  met_more : Met (drop (white_len s) s) (m - white_len s) → Met s m
  met_more r = record { blank = whole; last = λ q. lasts (ℕ_discrete m (white_len s)) }
    where
      whole : Blank s
      whole = omega (arith, run_more s (white_len s) refl first, simp length-drop at r.blank, white_fits s)

      lasts : Dec (m ≡ white_len s) → Last s m
      lasts (yes e) =
          let o : m - m ≡ 0 = omega arith in
          let w = alone s m (omega (arith, white_fits s)) (omega arith) e in
          record { size = m; some = p; most = omega (arith, white_most s); there = ending s m m (omega arith) (rw o w) }
      lasts (no e) =
          last_behind s (white_len s) (m - white_len s) m (omega (arith, first_le)) (r.last (omega (arith, first_le)))

met_none : (s : List ℕ) (m : ℕ) → m ≡ 0 → Blank (drop m s) → Met s m
met_none s m z b = record { blank = rw z at b; last = λ p. absurd (omega arith) }

walk : (fuel : ℕ) (s : List ℕ) (m : ℕ) → m ≤ fuel → m ≤ white_run s → Blank (drop m s) → Met s m
walk zero s m f h b = met_none s m (omega arith) b
walk (suc fuel) s m f h b =
    go (ℕ_discrete m 0) (λ p.
    let w = white_len s in
    let z = first s m h b p in
    walk fuel (drop w s) (m - w) (omega (arith, z)) (omega (arith, run_more s w refl z)) (behind s m h b p))
  where
    go : Dec (m ≡ 0) → (0 < m → Met (drop (white_len s) s) (m - white_len s)) → Met s m
    go (yes z) r = met_none s m z b
    go (no z) r = met_more s m h b (omega arith) (r (omega arith))

pub meets : (s : List ℕ) (m : ℕ) → m ≤ white_run s → Blank (drop m s) → Met s m
meets s m = walk m s m (omega arith)
