-- structured_data.rs, a parameter: a name (one or more characters up to `]` or `=`, so spaces count), `=`, blanks, and a quoted value.
use Rattle.std.specs.Prelude.{ℕ, suc, ◌+◌, List, [], ◌∷◌, Bool, true, false, not, ◌&&◌, ◌||◌, leb, eqb, drop, if◌then◌else◌, Option, Some, None}
use Rattle.base.specs.Choose.{is_at}
use Rattle.base.specs.Runs.{run}
use Rattle.parsers.specs.Steps.{is_blank}
use Rattle.structured_data.specs.declared.Param.{Param}

abbrev pub is_named : ℕ → Bool
is_named b = not (eqb b 93 || eqb b 61)

-- How many bytes of a value come before the quote that ends it. Backslash takes the next character with it (by bytes: the later bytes of a
-- character are neither), and a bare `]` is allowed. The test: the byte before is a backslash that takes this one.
unfoldable pub quoted_len : Bool → List ℕ → ℕ
quoted_len taken [] = 0
quoted_len true (b ∷ t) = suc (quoted_len false t)
quoted_len false (b ∷ t) = if eqb b 34 then 0 else suc (quoted_len (eqb b 92) t)

-- the parameter at the front of `t`: the length of its name, the start and the length of its value, and the length of all
unfoldable pub param_at : List ℕ → Option Param
param_at t =
    let n = run is_named t in
    let quote = n + 1 + run is_blank (drop (n + 1) t) in
    let m = quoted_len false (drop (quote + 1) t) in
    if leb 1 n && is_at t n 61 && is_at t quote 34 && is_at t (quote + 1 + m) 34 then Some (record { name = n; value = quote + 1; value_len = m; len = quote + m + 2 })
    else None
