-- The position behind the structured data lies in the line.
use Rattle.std.specs.Prelude.{Option, Some}
use Prim.Native.Nat.{ℕ, zero, suc, ◌+◌, ◌-◌, ◌≤◌}
use mathlib.Core.Path.{◌≡◌, sym, ◌∙◌}
use mathlib.Core.List.{List, [], ◌∷◌}
use native.Mathlib.Omega.{arith}
use lib.Dec.{eqb}
use lib.ListN.{length, drop, length-drop}
use Rattle.base.proofs.Parts.{at_below}
use Rattle.base.proofs.Tests.{by_if}
use Rattle.structured_data.specs.Data.{Rows, Item, item_and, item_from, elements_from, Data, hyphen_at, data_from}
use Rattle.structured_data.specs.Data.Item.{taken, skipped, ended}
use Rattle.structured_data.specs.Data.Data.{no_data, is_data}
use Rattle.structured_data.specs.Tables.{counts_of}
use Rattle.structured_data.specs.declared.Rules.{Rules}
use Rattle.structured_data.specs.declared.Counts.{Counts}
use Rattle.structured_data.proofs.Hyphen.{hyphen_there}

item_within : (e at n : ℕ) (i : Item) (more : ℕ → ℕ → Rows) → at ≤ n → ((f next : ℕ) → (more f next).next ≤ n) → (item_and e at i more).next ≤ n
item_within e at n (taken row params next) more h m = m (e + 1) next
item_within e at n (skipped next) more h m = m e next
item_within e at n ended more h m = h

elements_within : (rules : Rules) (e k at : ℕ) (t : List ℕ) → (elements_from rules e k at t).next ≤ at + length t
unfolding elements_from
elements_within rules e k at [] = omega arith
elements_within rules e (suc k) at (b ∷ t) = omega (arith, elements_within rules e k (at + 1) t)
elements_within rules e zero at (b ∷ t) =
    item_within e at (at + length (b ∷ t)) (item_from rules e at (b ∷ t)) _ (omega arith)
    (λ f next. omega (arith, elements_within rules f (next - at - 1) (at + 1) t))

abbrev pub DataIn : ℕ → Data → Type 0
DataIn n no_data = Unit {0}
DataIn n (is_data rows) = rows.next ≤ n

pub data_in : (rules : Rules) (s : List ℕ) (at : ℕ) → at ≤ length s → DataIn (length s) (data_from rules s at)
unfolding data_from
data_in rules s at h =
    by_if (DataIn (length s)) (hyphen_at rules s at) _ _ (λ d. omega (arith, at_below s at 44 (hyphen_there rules s at d)))
    (λ d. by_if (DataIn (length s)) (eqb (elements_from rules 0 0 at (drop at s)).next at) _ _ (λ q. tt)
    (λ q. omega (arith, elements_within rules 0 0 at (drop at s), length-drop at s)))

pub data_within : (rules : Rules) (s : List ℕ) (at : ℕ) → at ≤ length s → (g : Option Counts) → g ≡ counts_of (data_from rules s at)
    → (c : Counts) → g ≡ Some c → c.next ≤ length s
data_within rules s at h g eg c z = go (data_from rules s at) (data_in rules s at h) (sym eg ∙ z)
  where
    go : (d : Data) → DataIn (length s) d → counts_of d ≡ Some c → c.next ≤ length s
    go no_data i q = let m : ◌≡◌ {A = ℕ} 0 1 = cc in absurd (omega arith)
    go (is_data rows) i q = let m : rows.next ≡ c.next = cc in omega arith

pub rows_within : (rules : Rules) (s : List ℕ) (at : ℕ) (rows : Rows) → data_from rules s at ≡ is_data rows → at ≤ length s → rows.next ≤ length s
rows_within rules s at rows e h = rw e at (data_in rules s at h)
