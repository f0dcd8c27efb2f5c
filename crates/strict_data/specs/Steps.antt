-- For private contracts alone: a step of the second pass, where `k` elements are open: what it is given, what it answers, and the element table after it.
use Rattle.std.specs.Prelude.{ℕ, ◌+◌, ◌-◌, ◌≤◌, ◌<◌, ◌≡◌, true, false, List, [], ◌∷◌, length, set, if◌then◌else◌}
use Rattle.record.specs.declared.Param.{Param}
use Rattle.record.specs.Params.{blank}
use Rattle.strict_data.specs.declared.Entry.{Entry}
use Rattle.strict_data.specs.declared.Step.{Step}
use Rattle.strict_data.specs.Entries.{entry_at, Lies}

-- the entry of a parameter of element k - 1
abbrev pub param_of : ℕ → ℕ → Entry → Param
param_of at k x = record { element = k - 1; name_start = at + 1; name_len = x.name; value_start = at + x.name + 3; value_len = x.value }

unfoldable pub step_of : ℕ → ℕ → Entry → Step
step_of at k x =
    if x.opens then record { row = blank; holds = false; opened = k + 1; next = x.next }
    else if x.holds then record { row = param_of at k x; holds = true; opened = k; next = x.next }
    else record { row = blank; holds = false; opened = k; next = x.next }

unfoldable pub ids_of : ℕ → ℕ → Entry → List (List ℕ) → List (List ℕ)
ids_of at k x e = if x.opens then set e k ((at + 1) ∷ x.name ∷ []) else e

-- an id has an entry of the table, and a parameter has an element
pub record Stepping (line : List ℕ) (at k : ℕ) (elements : List (List ℕ)) : Type 0 where
  pub lies : Lies line at
  pub id_room : (entry_at line at).opens ≡ true → k < length elements
  pub some_open : (entry_at line at).holds ≡ true → 1 ≤ k
  pub name_inside : (entry_at line at).holds ≡ true → at + (entry_at line at).name + 3 ≤ length line
