-- What a step of the second pass answers.
use Prim.Native.Nat.{ℕ, ◌+◌, ◌^◌, ◌≤◌, ◌<◌}
use mathlib.Core.Path.{◌≡◌}
use mathlib.Core.Bool.{true, false}
use mathlib.Core.List.{List, [], ◌∷◌}
use native.Mathlib.Omega.{arith}
use lib.ListN.{length, set}
use mir.Syntax.{w64}
use mir.Val.{Fits}
use Rattle.record.specs.declared.Param.{Param}
use Rattle.record.specs.Params.{blank}
use Rattle.strict_data.specs.declared.Entry.{Entry}
use Rattle.strict_data.specs.Entries.{entry_at}
use Rattle.strict_data.specs.Steps.{param_of, step_of, ids_of, Stepping}

module _ (line : List ℕ) (at k : ℕ) (e : List (List ℕ)) (w : Stepping line at k e) (x : Entry) (ex : x ≡ entry_at line at) where
  module _ (h : x.opens ≡ true) where
    pub id_fits_lem : k < length e
    id_fits_lem = w.id_room (rw (← ex) h)

    pub id_next_fits : length e < 2 ^ 64 → Fits w64 (k + 1)
    id_next_fits z = let q = id_fits_lem in record { fits = omega arith }

    pub id_step : (b : Param) → b ≡ blank → record { row = b; holds = false; opened = k + 1; next = x.next } ≡ step_of at k (entry_at line at)
    unfolding step_of
    id_step b eb = rw (← ex, h, eb)

    pub id_stored : set e k ((at + 1) ∷ x.name ∷ []) ≡ ids_of at k (entry_at line at) e
    unfolding ids_of
    id_stored = rw (← ex, h)

  module _ (h : x.opens ≡ false) where
    pub ids_kept : e ≡ ids_of at k (entry_at line at) e
    unfolding ids_of
    ids_kept = rw (← ex, h)

    pub passed_step : x.holds ≡ false → (b : Param) → b ≡ blank → record { row = b; holds = false; opened = k; next = x.next } ≡ step_of at k (entry_at line at)
    unfolding step_of
    passed_step j b eb = rw (← ex, h, j, eb)

    module _ (j : x.holds ≡ true) where
      pub param_open : 1 ≤ k
      param_open = w.some_open (rw (← ex) j)

      param_inside : at + x.name + 3 ≤ length line
      param_inside = rw (ex) (w.name_inside (rw (← ex) j))

      pub param_name_fits : length line < 2 ^ 64 → Fits w64 (at + x.name)
      param_name_fits z = let q = param_inside in record { fits = omega arith }

      pub param_value_fits : length line < 2 ^ 64 → Fits w64 (at + x.name + 3)
      param_value_fits z = let q = param_inside in record { fits = omega arith }

      pub param_step : record { row = param_of at k x; holds = true; opened = k; next = x.next } ≡ step_of at k (entry_at line at)
      unfolding step_of
      param_step = rw (← ex, h, j)

pub ruleset step_laws = (id_fits_lem, id_next_fits, id_step, id_stored, ids_kept, passed_step, param_open, param_name_fits, param_value_fits, param_step)
