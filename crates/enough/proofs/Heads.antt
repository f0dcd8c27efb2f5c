-- What stands before the structured data: the priority, the timestamp and the names, in print and in the line.
use Rattle.std.specs.Prelude.{if◌then◌else◌, Option, Some, None}
use Prim.Native.Nat.{ℕ, zero, suc, ◌+◌, ◌*◌, ◌/◌, ◌%◌, ◌^◌, ◌≤◌, ◌<◌}
use mathlib.Core.Path.{◌≡◌, refl}
use mathlib.Core.List.{List, [], ◌∷◌}
use mathlib.Core.Bool.{Bool, true, false}
use native.Mathlib.Nat.{pow-suc}
use native.Mathlib.Omega.{arith}
use lib.Dec.{leb, ltb}
use lib.ListN.{length, drop, length-append, length-take}
use borrow.Author.Tests.{leb-true, ltb-false}
use Rattle.base.specs.Choose.{is_at}
use Rattle.base.specs.Texts.{text_at}
use Rattle.base.proofs.Tests.{by_if}
use Rattle.digits.specs.Digits.{number_at}
use Rattle.record.specs.declared.Place.{Place}
use Rattle.record.specs.declared.Record.{Record}
use Rattle.output.specs.Numerals.{width_from, width}
use Rattle.output.proofs.Numerals.{length_fixed}
use Rattle.pri.specs.Pri.{no_pri, pri_after, pri_at}
use Rattle.pri.specs.declared.Pri.{Pri}
use Rattle.suits.specs.Suits.{stamp_suits}
use Rattle.message_stamp.specs.Stamps.{stamp_text, fraction_text}
use Rattle.message_stamp.proofs.Texts.{stamp_sized}
use Rattle.message.specs.Message.{level_or, pri_text, place_text, field_text}
use Rattle.enough.proofs.Stamps.{StampFrom}
use Rattle.record.specs.declared.Timestamp.{Timestamp}

-- ---- numbers

-- a number of `k + 1` digits or fewer
pub width_small : (f k n : ℕ) → n < 10 ^ suc k → width_from f n ≤ suc k
unfolding width_from
width_small zero k n h = omega arith
width_small (suc f) zero n h = by_if (λ w. w ≤ 1) (ltb n 10) _ _ (λ q. omega arith) (λ q. absurd (omega (arith, ltb-false n 10 q)))
width_small (suc f) (suc k) n h =
    let l : n / 10 < 10 ^ suc k = omega (arith, pow-suc 10 (suc k)) in
    let w = width_small f k (n / 10) l in
    by_if (λ w. w ≤ suc (suc k)) (ltb n 10) _ _ (λ q. omega arith) (λ q. omega arith)

-- ---- the priority: `<47>` where none was read

abbrev pub pri_number : Option ℕ → Option ℕ → ℕ
pri_number facility severity = level_or 5 facility * 8 + level_or 7 severity

abbrev PriGrows : Pri → Type 0
PriGrows p = width (pri_number p.facility p.severity) ≤ p.next + 2

pub pri_grows : (s : List ℕ) → PriGrows (pri_at s)
unfolding pri_at
pri_grows s = by_if PriGrows (is_at s 0 60) _ _ (λ h. after (number_at 255 (drop 1 s))) (λ h. none)
  where
    none : PriGrows no_pri
    none = width_small 9 1 47 (omega arith)

    after : (r : Option (ℕ × ℕ)) → PriGrows (pri_after s r)
    after None = none
    after (Some x) =
        by_if PriGrows (is_at s (x.1 + 1) 62) _ _
        (λ h.
        by_if (λ (l : Option ℕ). width (level_or 5 l * 8 + x.0 % 8) ≤ x.1 + 2 + 2) (leb (x.0 / 8) 23) _ _
        (λ q. let l = leb-true (x.0 / 8) 23 q in let w = width_small 9 2 (x.0 / 8 * 8 + x.0 % 8) (omega arith) in omega arith)
        (λ q. let w = width_small 9 2 (5 * 8 + x.0 % 8) (omega arith) in omega arith))
        (λ h. none)

pub pri_size : (r : Record) → length (pri_text r) ≡ width (pri_number r.facility r.severity) + 2
unfolding pri_text
pri_size r = simp (length-append, length_fixed) (omega arith)

-- ---- the timestamp: 25 bytes and the fraction, where it took `least` bytes and the fraction

pub stamp_size : (least at n : ℕ) (t : Option Timestamp) → least ≤ 20 → stamp_suits t ≡ true → StampFrom least at (Some (t, n)) → 8 * at + 8 * least + 7 * length (stamp_text t) ≤ 8 * n + 175
stamp_size least at n None l h f = omega arith
stamp_size least at n (Some t) l h f = omega (arith, (stamp_sized (Some t) h t refl (length (fraction_text t.digits t.nanos)) refl).is)

-- ---- the names

-- bytes of a text, or of `-`
abbrev pub place_size : Place → ℕ
place_size p = if p.present then p.len else 1

pub text_le : (line : List ℕ) (start len : ℕ) → length (text_at line start len) ≤ len
text_le line start len = simp length-take (omega arith)

module _ (line : List ℕ) (p : Place) where
  pub place_size_lem : length (place_text line p) ≤ place_size p
  place_size_lem = go p.present
    where
      go : (b : Bool) → length (if b then text_at line p.start p.len else 45 ∷ []) ≤ (if b then p.len else 1)
      go true = text_le line p.start p.len
      go false = omega arith

  pub field_size : length (field_text line p) ≤ place_size p + 1
  unfolding field_text
  field_size = simp length-append (omega (arith, place_size_lem))

  -- no more than a byte over its place
  pub size_le : place_size p ≤ p.len + 1
  size_le = by_if (λ n. n ≤ p.len + 1) p.present _ _ (λ q. omega arith) (λ q. omega arith)
