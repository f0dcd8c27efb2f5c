-- The fields: what each comparison answers, and their marks.
use Prim.Native.Nat.{ℕ, ◌+◌, ◌-◌, ◌*◌}
use mathlib.Core.Path.{◌≡◌, refl, ap₂, ◌∙◌}
use mathlib.Core.Bool.{Bool, true, false, not, ◌&&◌, ◌||◌}
use mathlib.Core.List.{List}
use native.Mathlib.Omega.{arith}
use lib.ListN.{take, drop}
use Rattle.base.specs.Texts.{text_at, same_text}
use Rattle.base.proofs.Tests.{clash, both}
use Rattle.base.proofs.Texts.{part_text_lem}
use Rattle.record.specs.declared.Place.{Place}
use Rattle.record.specs.declared.Record.{Record}
use Rattle.differ.specs.Seen.{text_of, time_of}
use Rattle.differ.specs.Differences.{same_protocol, same_level, same_time, same_given}
use Rattle.differ.specs.Steps.{mark_of, Marks, level_marks, head_marks}

-- ---- texts

pub mark_of_lem : (s same : Bool) → s ≡ same → (r : ℕ) → Marks (mark_of s) 1 r → Marks (mark_of same) 1 r
mark_of_lem s same e r m = rw e at m

pub part_lent : (line : List ℕ) (start len : ℕ) (s : List ℕ) → s ≡ take (start + len - start) (drop start line) → s ≡ text_at line start len
part_lent line start len s e = e ∙ part_text_lem line start len

module _ (x y x' y' : List ℕ) (ex : x ≡ x') (ey : y ≡ y') (r : Bool) (e : r ≡ same_text x y) where
  pub part_is : r ≡ same_text x' y'
  part_is = e ∙ ap₂ same_text ex ey

  pub message_is : (m : ℕ) → Marks (mark_of r) 1 m → Marks (mark_of (same_text x' y')) 1 m
  message_is m w = mark_of_lem r (same_text x' y') part_is m w

module _ (line₁ : List ℕ) (p : Place) (line₂ : List ℕ) (q : Place) where
  pub place_both : (p.present && q.present) ≡ true → (r : Bool) → r ≡ same_text (text_at line₁ p.start p.len) (text_at line₂ q.start q.len) → r ≡ same_given (text_of line₁ p) (text_of line₂ q)
  place_both h r e = let (a, b) = both p.present q.present h in rw (a, b) e

  pub place_none : (p.present && q.present) ≡ false → not (p.present || q.present) ≡ same_given (text_of line₁ p) (text_of line₂ q)
  place_none h = go p.present q.present refl refl h
    where
      go : (x y : Bool) → p.present ≡ x → q.present ≡ y → (x && y) ≡ false → not (p.present || q.present) ≡ same_given (text_of line₁ p) (text_of line₂ q)
      go true true ex ey z = clash z
      go true false ex ey z = rw (ex, ey) refl
      go false true ex ey z = rw (ex, ey) refl
      go false false ex ey z = rw (ex, ey) refl

pub ruleset place_laws = (place_both, place_none)

-- ---- marks

pub mark_same : (same : Bool) → same ≡ true → Marks (mark_of same) 1 0
mark_same same e = rw e (record { is = refl; small = omega arith })

pub mark_other : (same : Bool) → same ≡ false → Marks (mark_of same) 1 1
mark_other same e = rw e (record { is = refl; small = omega arith })

pub ruleset mark_laws = (mark_same, mark_other)

module _ (a b : Record) (s : Bool) (es : s ≡ same_level a.facility b.facility) (p : ℕ) (mp : Marks (mark_of s) 1 p) (t : Bool) (et : t ≡ same_level a.severity b.severity) (q : ℕ) (mq : Marks (mark_of t) 1 q) where
  pub levels_marked : Marks (level_marks a b) 3 (p + 2 * q)
  levels_marked = rw (← es, ← et) (record { is = omega (arith, mp.is, mq.is); small = omega (arith, mp.small, mq.small) })

module _ (a b : Record) (l : ℕ) (ml : Marks (level_marks a b) 3 l) (s : Bool) (es : s ≡ same_protocol a.protocol b.protocol) (p : ℕ) (mp : Marks (mark_of s) 1 p)
    (t : Bool) (et : t ≡ same_time (time_of a.timestamp) (time_of b.timestamp)) (q : ℕ) (mq : Marks (mark_of t) 1 q) where
  pub head_marked : Marks (head_marks a b) 15 (p + 2 * l + 8 * q)
  head_marked = rw (← es, ← et) (record { is = omega (arith, ml.is, mp.is, mq.is); small = omega (arith, ml.small, mp.small, mq.small) })

-- four marks of one bit
module _ (a b c d p q r s : ℕ) (mp : Marks a 1 p) (mq : Marks b 1 q) (mr : Marks c 1 r) (ms : Marks d 1 s) where
  pub four_marks : Marks (a + 2 * b + 4 * c + 8 * d) 15 (p + 2 * q + 4 * r + 8 * s)
  four_marks = record { is = omega (arith, mp.is, mq.is, mr.is, ms.is); small = omega (arith, mp.small, mq.small, mr.small, ms.small) }
