-- structured_data.rs, an element: `[`, id (one or more characters up to white space, `]` or `=`), blanks, parameters separated by one space, `]`.
use Rattle.std.specs.Prelude.{ℕ, zero, suc, ◌+◌, ◌-◌, List, [], ◌∷◌, not, ◌&&◌, ◌||◌, leb, eqb, drop, if◌then◌else◌, Option, Some, None}
use Rattle.base.specs.Choose.{is_at}
use Rattle.base.specs.Runs.{run}
use Rattle.white.specs.White.{white_len}
use Rattle.parsers.specs.Steps.{is_blank}
use Rattle.structured_data.specs.Param.{param_at}
use Rattle.structured_data.specs.declared.Param.{Param}

-- how many bytes come before the first white character, `]` or `=`
unfoldable pub id_len : List ℕ → ℕ
id_len [] = 0
id_len (b ∷ t) = if eqb (white_len (b ∷ t)) 0 && not (eqb b 93 || eqb b 61) then suc (id_len t) else 0

-- the parameters' rows (element, name's place, value's place), and the position after them
pub record Params : Type 0 where
  pub rows : List (List ℕ)
  pub next : ℕ

abbrev pub none_at : ℕ → Params
none_at at = record { rows = []; next = at }

-- a parameter of element `e` at `at`, and those of `more` after it; or none, at `before`
abbrev pub param_and : ℕ → ℕ → ℕ → Option Param → (ℕ → Params) → Params
param_and e at before None more = none_at before
param_and e at before (Some x) more =
    let ps = more x.len in
    record { rows = (e ∷ at ∷ x.name ∷ (at + x.value) ∷ x.value_len ∷ []) ∷ ps.rows; next = ps.next }

-- after a parameter: one space and a parameter, again and again. `k` bytes of the text still belong to the parameter before.
unfoldable pub more_params : ℕ → ℕ → ℕ → List ℕ → Params
more_params e k at [] = none_at at
more_params e (suc k) at (b ∷ t) = more_params e k (at + 1) t
more_params e zero at (b ∷ t) = if eqb b 32 then param_and e (at + 1) at (param_at t) (λ len. more_params e len (at + 1) t) else none_at at

-- none, or one and those after it
unfoldable pub params_from : ℕ → ℕ → List ℕ → Params
params_from e at t = param_and e at at (param_at t) (λ len. more_params e len at t)

-- an element's row (the id's place), its parameters' rows, and the position after it
pub data Element : Type 0 where
  no_element : Element
  is_element : (row : List ℕ) (params : List (List ℕ)) (next : ℕ) → Element

-- element `e`, from position `at` of the line, where `t` stands
unfoldable pub element_from : ℕ → ℕ → List ℕ → Element
element_from e at t =
    let n = id_len (drop 1 t) in
    let a = n + 1 + run is_blank (drop (n + 1) t) in
    let ps = params_from e (at + a) (drop a t) in
    if is_at t 0 91 && leb 1 n && is_at t (ps.next - at) 93 then is_element ((at + 1) ∷ n ∷ []) ps.rows (ps.next + 1)
    else no_element
