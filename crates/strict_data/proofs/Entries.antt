-- What `next` answers.
use Prim.Native.Nat.{ℕ, ◌+◌, ◌^◌, ◌≤◌, ◌<◌}
use mathlib.Core.Path.{◌≡◌, sym, ap, ap₂, ◌∙◌}
use mathlib.Core.Bool.{Bool, true, false}
use mathlib.Core.List.{List}
use native.Mathlib.Omega.{arith}
use lib.ListN.{length, drop, length-drop}
use mir.Syntax.{w64}
use mir.Val.{Fits}
use Rattle.base.specs.Choose.{is_at}
use Rattle.base.specs.Runs.{run}
use Rattle.base.proofs.Runs.{run_le}
use Rattle.grammar.specs.Abnf.{sd_name_byte}
use Rattle.grammar.specs.Parse.{stop}
use Rattle.strict_data.specs.declared.Entry.{Entry}
use Rattle.strict_data.specs.Entries.{opening, holding, passing, name_at, value_at, entry_at, Lies}

name_inside : (line : List ℕ) (at : ℕ) → at < length line → at + name_at line at + 1 ≤ length line
name_inside line at h =
    let d = length-drop (at + 1) line in
    let r = run_le sd_name_byte (drop (at + 1) line) in
    omega arith

pub name_at_is : (line : List ℕ) (at n : ℕ) (u : List ℕ) → u ≡ drop (at + 1) line → n ≡ run sd_name_byte u → n ≡ name_at line at
name_at_is line at n u eu en = en ∙ ap (run sd_name_byte) eu

-- a parameter
module _ (line : List ℕ) (at : ℕ) (w : at + name_at line at + value_at line at + 4 ≤ length line) (n : ℕ) (en : n ≡ name_at line at) where
  pub held_past : at + n + 3 ≤ length line
  held_past = omega arith

  pub held_name_fits : length line < 2 ^ 64 → Fits w64 (at + n)
  held_name_fits z = record { fits = omega arith }

  pub held_past_fits : length line < 2 ^ 64 → Fits w64 (at + n + 3)
  held_past_fits z = record { fits = omega arith }

  module _ (u : List ℕ) (eu : u ≡ drop (at + n + 3) line) (m : ℕ) (em : m ≡ stop false u) where
    value_is : m ≡ value_at line at
    value_is = em ∙ ap (stop false) (eu ∙ ap (λ (x : ℕ). drop (at + x + 3) line) en)

    pub held_value_fits : length line < 2 ^ 64 → Fits w64 (at + n + m)
    held_value_fits z = let q = value_is in record { fits = omega arith }

    pub held_fits : length line < 2 ^ 64 → Fits w64 (at + n + m + 4)
    held_fits z = let q = value_is in record { fits = omega arith }

    pub held_is : holding at n m ≡ holding at (name_at line at) (value_at line at)
    held_is = ap₂ (holding at) en value_is

pub ruleset held_laws = (held_past, held_name_fits, held_past_fits, held_value_fits, held_fits, held_is)

-- what stands at a place
module _ (line : List ℕ) (at : ℕ) (w : Lies line at) (t : Bool) (et : t ≡ is_at line at 91) where
  module _ (h : t ≡ true) (n : ℕ) (en : n ≡ name_at line at) where
    pub opening_name_fits : length line < 2 ^ 64 → Fits w64 (at + n)
    opening_name_fits z = let q = name_inside line at w.inside in record { fits = omega arith }

    pub opening_fits : length line < 2 ^ 64 → Fits w64 (at + n + 1)
    opening_fits z = let q = name_inside line at w.inside in record { fits = omega arith }

    pub opening_is : opening at n ≡ entry_at line at
    unfolding entry_at
    opening_is = rw (← et, h, en)

  module _ (h : t ≡ false) (q : Bool) (eq : q ≡ is_at line at 32) where
    pub passing_is : q ≡ false → passing at ≡ entry_at line at
    unfolding entry_at
    passing_is k = rw (← et, h, ← eq, k)

    pub holding_is : q ≡ true → (r : Entry) → r ≡ holding at (name_at line at) (value_at line at) → r ≡ entry_at line at
    unfolding entry_at
    holding_is k r e = e ∙ rw (← et, h, ← eq, k)

pub holding_inside : (line : List ℕ) (at : ℕ) → Lies line at → (q : Bool) → q ≡ is_at line at 32 → q ≡ true → at + name_at line at + value_at line at + 4 ≤ length line
holding_inside line at w q e k = w.param_inside (sym e ∙ k)

pub ruleset entry_laws = (opening_name_fits, opening_fits, opening_is, passing_is, holding_inside, holding_is)
