-- Calls in numbers: on 25 rows they are additions, and they leave one result.
use Rattle.std.specs.Prelude.{if◌then◌else◌, Option, Some, None, Result, Ok, Err}
use Prim.Native.Nat.{ℕ, suc, ◌≤◌, ◌<◌}
use mathlib.Core.Path.{◌≡◌, refl, sym, ap, subst, ◌∙◌}
use mathlib.Core.Bool.{◌&&◌}
use native.Mathlib.Omega.{arith}
use lib.Dec.{eqb}
use lib.ListN.{length}
use borrow.Author.Tests.{eqb-true, leb-true}
use Rattle.base.proofs.Tests.{by_test, both}
use Rattle.record.specs.declared.Refusal.TheVariants.{Unsuitable, OutputShort, CellFull}
use Rattle.tally.specs.Tally.{Tally, no_facility, no_severity, row_count, full, cell, is_row, is_column, is_cell, place_of, row_of, column_of, addition, after, Adds}
use Rattle.tally.specs.Numbers.{place_in, addition_in, added_number}
use Rattle.tally.specs.Counts.{level_in, CallsAdd, OwnCell, OneAnswer}
use Rattle.tally.proofs.Calls.{or_enough}
use Rattle.tally.proofs.Sums.{done_at}
use Rattle.record.specs.declared.Refusal.{Refusal}

pub own_cell : OwnCell
own_cell last n = (refl, refl)

pub one_answer : OneAnswer
one_answer old new new' fm f sm s n n' h k = (h.adds.told ∙ sym k.adds.told, h.adds.leaves ∙ sym k.adds.leaves)

-- a place of the tally is that of a level
level_place : (last mark n : ℕ) → place_in last mark n ≤ last → place_in last mark n ≡ place_of last (level_in mark n)
level_place last mark n =
    by_test (λ b. (if b && eqb n 0 then last else if eqb mark 1 then place_of last (Some n) else suc last) ≤ last
    → (if b && eqb n 0 then last else if eqb mark 1 then place_of last (Some n) else suc last) ≡ place_of last (if b then None else Some n))
    (eqb mark 0)
    (λ z. by_test (λ c. (if c then last else if eqb mark 1 then place_of last (Some n) else suc last) ≤ last
    → (if c then last else if eqb mark 1 then place_of last (Some n) else suc last) ≡ last) (eqb n 0)
    (λ e h. refl)
    (λ e h. let m : mark ≡ 0 = eqb-true mark 0 z in let g : suc last ≤ last = rw m at h in absurd (omega arith)))
    (λ z. by_test (λ c. (if c then place_of last (Some n) else suc last) ≤ last → (if c then place_of last (Some n) else suc last) ≡ place_of last (Some n)) (eqb mark 1)
    (λ e h. refl)
    (λ e h. absurd (omega arith)))

-- 0 is told of an accepted addition alone
told_0 : (t : Tally) (i j : ℕ) → added_number (addition t i j) ≡ 0 → (Ok tt) ≡ addition t i j
unfolding addition
told_0 t i j =
    by_test (λ b. added_number (if b then (if eqb (cell t i j) full then Err CellFull else (Ok tt)) else Err Unsuitable) ≡ 0
    → (Ok tt) ≡ (if b then (if eqb (cell t i j) full then Err CellFull else (Ok tt)) else Err Unsuitable)) (is_cell i j)
    (λ e. by_test (λ c. added_number (if c then Err CellFull else (Ok tt)) ≡ 0 → (Ok tt) ≡ (if c then Err CellFull else (Ok tt))) (eqb (cell t i j) full)
    (λ f h. absurd (omega arith)) (λ f h. refl))
    (λ e h. absurd (omega arith))

done_place : (t : Tally) (i j : ℕ) → (Ok tt) ≡ addition t i j → (i ≤ no_facility) × (j ≤ no_severity)
unfolding addition
done_place t i j e =
    let (x, y) = both (is_row i) (is_column j) (done_at (is_cell i j) (eqb (cell t i j) full) e).0 in
    (leb-true i no_facility x, leb-true j no_severity y)

-- any other number leaves all
left : (a : Result (Unit {0}) Refusal) (t : Tally) (i j : ℕ) → (added_number a ≡ 0 → ⊥) → after a t i j ≡ t
left (Ok tt) t i j h = absurd (h refl)
left (Err f) t i j h = refl

added : (old new : Tally) (facility severity : Option ℕ) (i j : ℕ) → i ≡ row_of facility → j ≡ column_of severity → (Ok tt) ≡ addition old i j → new ≡ after (Ok tt) old i j
    → Adds old facility severity (Ok tt) new
added old new f s i j p q e h = record { answers = e ∙ rw (p, q); leaves = h ∙ rw (p, q) }

module _ (old new : Tally) (fm f sm s : ℕ) where
  accept : (i j : ℕ) → i ≡ place_in no_facility fm f → j ≡ place_in no_severity sm s → (a : Result (Unit {0}) Refusal) → a ≡ addition old i j → added_number a ≡ 0 → new ≡ after a old i j
      → Adds old (level_in fm f) (level_in sm s) (Ok tt) new
  accept i j p q a e z h =
      let d : (Ok tt) ≡ addition old i j = told_0 old i j (sym (ap added_number e) ∙ z) in
      let (x, y) = done_place old i j d in
      added old new (level_in fm f) (level_in sm s) i j
      (p ∙ level_place no_facility fm f (subst (λ (k : ℕ). k ≤ no_facility) p x)) (q ∙ level_place no_severity sm s (subst (λ (k : ℕ). k ≤ no_severity) q y))
      d (h ∙ ap (λ (b : Result (Unit {0}) Refusal). after b old i j) (e ∙ sym d))

whole : (t : Tally) (i j : ℕ) → length t ≡ row_count → addition_in t i j ≡ addition t i j
unfolding addition_in
whole t i j l = let m : no_facility < length t = omega arith in or_enough (is_cell i j) t (Err OutputShort) (addition t i j) m

pub calls_add : CallsAdd
calls_add old new fm f sm s n l h =
    let i = place_in no_facility fm f in
    let j = place_in no_severity sm s in
    record {
      accepts = λ z. accept old new fm f sm s i j refl refl (addition_in old i j) (whole old i j l) (sym h.adds.told ∙ z) h.adds.leaves;
      leaves = λ z. h.adds.leaves ∙ left (addition_in old i j) old i j (λ e. z (h.adds.told ∙ e));
    }
