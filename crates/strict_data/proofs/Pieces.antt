-- Names, values and parameters: what their readers answer.
use Rattle.std.specs.Prelude.{Option, Some, None}
use Prim.Native.Nat.{ℕ, ◌+◌, ◌-◌, ◌^◌, ◌≤◌, ◌<◌}
use mathlib.Core.Path.{◌≡◌, sym, ap, ◌∙◌}
use mathlib.Core.Bool.{Bool, true, false, not, ◌&&◌}
use mathlib.Core.List.{List}
use native.Mathlib.Omega.{arith}
use lib.Dec.{leb}
use lib.ListN.{length, drop, length-drop}
use mir.Syntax.{w64}
use mir.Val.{Fits}
use borrow.Author.Tests.{not-true, not-false}
use Rattle.base.specs.Choose.{is_at}
use Rattle.base.specs.Runs.{run}
use Rattle.base.proofs.Parts.{at_below}
use Rattle.grammar.specs.Abnf.{sd_name_byte}
use Rattle.grammar.specs.Parse.{choose, behind, closed, ◌next◌, into, repeat, value, sd_name, param}
use Rattle.grammar.proofs.Readers.{found_within, behind_reads}
use Rattle.grammar.proofs.Bytes.{repeat_reads}
use Rattle.grammar.proofs.Data.{value_reads}
use Rattle.strict_data.specs.Sizes.{size_of}
use Rattle.strict_data.proofs.Answers.{finds, misses}

-- ---- a name

module _ (s : List ℕ) (n : ℕ) (e : n ≡ run sd_name_byte s) where
  pub name_is : (leb 1 n && leb n 32) ≡ true → Some n ≡ size_of (sd_name s)
  unfolding repeat
  name_is t = rw (← e, t)

  pub name_not : (leb 1 n && leb n 32) ≡ false → None ≡ size_of (sd_name s)
  unfolding repeat
  name_not t = rw (← e, t)

pub name_within : (s : List ℕ) (g : Option ℕ) (n : ℕ) → g ≡ size_of (sd_name s) → g ≡ Some n → n ≤ length s
name_within s g n e h = let f = finds (sd_name s) g e h in found_within (repeat_reads 32 sd_name_byte) s f.value n f.is

-- ---- a value

pub value_within : (s : List ℕ) (g : Option ℕ) (n : ℕ) → g ≡ size_of (value s) → g ≡ Some n → n ≤ length s
value_within s g n e h = let f = finds (value s) g e h in found_within value_reads s f.value n f.is

-- ---- a value with its quotes

module _ (s : List ℕ) (t : Bool) (et : t ≡ is_at s 0 34) where
  pub quoted_no : not t ≡ true → None ≡ size_of (behind 34 value s)
  unfolding choose
  quoted_no h = rw (← et, not-true t h)

  module _ (h : not t ≡ false) where
    pub quoted_past : 1 ≤ length s
    quoted_past = at_below s 0 33 (sym et ∙ not-false t h)

    module _ (u : List ℕ) (eu : u ≡ drop 1 s) (g : Option ℕ) (eg : g ≡ size_of (value u)) where
      pub quoted_bad : g ≡ None → None ≡ size_of (behind 34 value s)
      unfolding choose
      quoted_bad k = rw (← et, not-false t h, ← eu, misses (value u) g eg k)

      module _ (n : ℕ) (k : g ≡ Some n) where
        pub quoted_fits : length s < 2 ^ 64 → Fits w64 (n + 1)
        quoted_fits l =
            let w = value_within u g n eg k in
            let d : length u ≡ length s - 1 = ap length eu ∙ length-drop 1 s in
            let p = quoted_past in
            record { fits = omega arith }

        pub quoted_is : Some (n + 1) ≡ size_of (behind 34 value s)
        unfolding choose
        quoted_is = rw (← et, not-false t h, ← eu, (finds (value u) g eg k).is)

pub ruleset quoted_laws = (quoted_no, quoted_past, quoted_bad, quoted_fits, quoted_is)

-- ---- a parameter

pub quoted_within : (s : List ℕ) (g : Option ℕ) (n : ℕ) → g ≡ size_of (behind 34 value s) → g ≡ Some n → n ≤ length s
quoted_within s g n e h = let f = finds (behind 34 value s) g e h in found_within (behind_reads 33 value_reads) s f.value n f.is

module _ (s : List ℕ) (g : Option ℕ) (eg : g ≡ size_of (sd_name s)) where
  pub param_no_name : g ≡ None → None ≡ size_of (param s)
  unfolding param into ◌next◌ closed
  param_no_name h = rw (misses (sd_name s) g eg h)

  module _ (n : ℕ) (h : g ≡ Some n) (t : Bool) (et : t ≡ is_at s n 61) where
    pub param_open : not t ≡ true → None ≡ size_of (param s)
    unfolding param into ◌next◌ closed
    param_open k = rw ((finds (sd_name s) g eg h).is, ← et, not-true t k)

    module _ (k : not t ≡ false) where
      pub param_equals : n + 1 ≤ length s
      param_equals = let w = at_below s n 60 (sym et ∙ not-false t k) in omega arith

      pub param_fits_lem : length s < 2 ^ 64 → Fits w64 (n + 1)
      param_fits_lem l = let w = param_equals in record { fits = omega arith }

      module _ (u : List ℕ) (eu : u ≡ drop (n + 1) s) (q : Option ℕ) (eq : q ≡ size_of (behind 34 value u)) where
        pub param_bad : q ≡ None → None ≡ size_of (param s)
        unfolding param into ◌next◌ closed
        param_bad b = rw ((finds (sd_name s) g eg h).is, ← et, not-false t k, ← eu, misses (behind 34 value u) q eq b)

        module _ (m : ℕ) (b : q ≡ Some m) where
          pub param_more : length s < 2 ^ 64 → Fits w64 (n + 1 + m)
          param_more l =
              let w = quoted_within u q m eq b in
              let d : length u ≡ length s - (n + 1) = ap length eu ∙ length-drop (n + 1) s in
              let p = param_equals in
              record { fits = omega arith }

          pub param_is : Some (n + 1 + m) ≡ size_of (param s)
          unfolding param into ◌next◌ closed
          param_is = rw ((finds (sd_name s) g eg h).is, ← et, not-false t k, ← eu, (finds (behind 34 value u) q eq b).is)

pub ruleset param_laws = (param_no_name, param_open, param_equals, param_fits_lem, param_bad, param_more, param_is)
