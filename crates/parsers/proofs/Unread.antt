-- Where no host is read, no tag is read from the same bytes.
use Rattle.std.specs.Prelude.{if◌then◌else◌}
use Prim.Native.Nat.{ℕ, suc, ◌-◌}
use mathlib.Core.Path.{◌≡◌, refl, sym, ◌∙◌}
use mathlib.Core.List.{List, [], ◌∷◌}
use mathlib.Core.Bool.{Bool, true, false, ◌&&◌, ◌||◌, not}
use native.Mathlib.Omega.{arith}
use lib.Dec.{eqb}
use borrow.Author.Tests.{ne_eqb}
use Rattle.base.specs.Choose.{is_at}
use Rattle.base.proofs.Tests.{clash, by_test, by_if}
use Rattle.white.specs.White.{white_len}
use Rattle.white.specs.Trim.{field_len}
use Rattle.parsers.specs.Parsers.{alone, host_at, tag_len, tag_at}
use Rattle.parsers.specs.Unread.{is_unread, NoHostNoTag}
use Rattle.parsers.specs.declared.Text.{Text}
use Rattle.parsers.specs.declared.Text.TheVariants.{Fails, Absent, Given}

-- at a byte that is white or `:`, a tag stops; a field that is none, or `:` alone, begins with such a byte
stops : (field colon : Bool) (m n : ℕ) → (let k = if field then suc m else 0 in eqb k 0 || (eqb k 1 && colon)) ≡ true
    → (if field && not colon then suc n else 0) ≡ 0
stops true true m n h = refl
stops true false m n h = clash (sym h ∙ rw (ne_eqb (suc m) 0 (λ q. omega arith)) (by_test (λ t. (t && false) ≡ false) (eqb (suc m) 1) (λ q. refl) (λ q. refl)))
stops false colon m n h = refl

tag_ends : (s : List ℕ) → is_unread s ≡ true → tag_len s ≡ 0
unfolding field_len tag_len
tag_ends [] h = refl
tag_ends (b ∷ s) h = stops (eqb (white_len (b ∷ s)) 0) (eqb b 58) (field_len s) (tag_len s) h

module _ (s : List ℕ) where
  abbrev Told : Text → Type 0
  Told t = t ≡ Fails → is_unread s ≡ true

  told_absent : (n : ℕ) → Told (Absent n)
  told_absent n h = let z : ◌≡◌ {A = ℕ} 0 1 = cc in absurd (omega arith)

  told_given : (k n : ℕ) → Told (Given k n)
  told_given k n h = let z : ◌≡◌ {A = ℕ} 0 1 = cc in absurd (omega arith)

  host_told : Told (host_at s)
  unfolding host_at
  host_told =
      let n = field_len s in
      by_if Told (eqb n 0) _ _ (λ z h. rw z) λ z.
      by_if Told (alone s n 58) _ _ (λ t h. rw (z, t)) λ t.
      by_if Told (is_at s (n - 1) 58) _ _ (λ l. told_given (n - 1) (n - 1)) λ l.
      by_if Told (alone s n 45) _ _ (λ d. told_absent n) (λ d. told_given n n)

pub no_host_no_tag : NoHostNoTag
unfolding tag_at
no_host_no_tag s h = let u = host_told s h in (u, rw (tag_ends s u))
