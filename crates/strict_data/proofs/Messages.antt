-- The message: what its readers answer.
use Prim.Native.Nat.{ℕ, ◌≤◌}
use mathlib.Core.Path.{◌≡◌, refl, sym, ap, ◌∙◌}
use mathlib.Core.Bool.{Bool, true, false, not}
use mathlib.Core.List.{List, [], ◌∷◌}
use native.Mathlib.Omega.{arith}
use lib.ListN.{length, drop}
use borrow.Author.Tests.{not-true, not-false, ne_eqb}
use Rattle.base.specs.Choose.{is_at}
use Rattle.base.proofs.Parts.{at_below}
use Rattle.utf8.specs.Lead.{is_utf8}
use Rattle.grammar.specs.Parse.{choose, into, only, all_left, at_end, is_message, message}
use Rattle.strict_data.specs.Counts.{tail_of}
use Rattle.strict_data.specs.declared.Tail.TheVariants.{NoTail, NoMessage, IsMessage}

module _ (m : List ℕ) (a : Bool) (ea : a ≡ is_at m 0 0xEF) where
  pub no_mark_1 : not a ≡ true → true ≡ is_message m
  no_mark_1 h = rw (← ea, not-true a h)

  module _ (ha : not a ≡ false) (b : Bool) (eb : b ≡ is_at m 1 0xBB) where
    pub no_mark_2 : not b ≡ true → true ≡ is_message m
    no_mark_2 h = rw (← ea, not-false a ha, ← eb, not-true b h)

    module _ (hb : not b ≡ false) (c : Bool) (ec : c ≡ is_at m 2 0xBF) where
      pub no_mark_3 : not c ≡ true → true ≡ is_message m
      no_mark_3 h = rw (← ea, not-false a ha, ← eb, not-false b hb, ← ec, not-true c h)

      pub mark_then : not c ≡ false → (u : List ℕ) (r : Bool) → u ≡ drop 3 m → r ≡ is_utf8 u → r ≡ is_message m
      mark_then hc u r eu er = er ∙ ap is_utf8 eu ∙ rw (← ea, not-false a ha, ← eb, not-false b hb, ← ec, not-false c hc)

pub mark_within : (m : List ℕ) (c : Bool) → c ≡ is_at m 2 0xBF → not c ≡ false → 3 ≤ length m
mark_within m c e h = at_below m 2 0xBE (sym e ∙ not-false c h)

pub ruleset mark_laws = (no_mark_1, no_mark_2, no_mark_3, mark_then, mark_within)

pub tail_none : (s : List ℕ) → length s ≡ 0 → NoMessage ≡ tail_of (message s)
unfolding message choose at_end
tail_none [] h = refl
tail_none (x ∷ s) h = absurd (omega arith)

module _ (s : List ℕ) where
  module _ (z : length s ≡ 0 → ⊥) (t : Bool) (et : t ≡ is_at s 0 32) where
    pub tail_other : not t ≡ true → NoTail ≡ tail_of (message s)
    unfolding message choose at_end
    tail_other h = rw (← et, not-true t h, ne_eqb (length s) 0 z)

    module _ (h : not t ≡ false) (m : List ℕ) (em : m ≡ drop 1 s) (u : Bool) (eu : u ≡ is_message m) where
      pub tail_no : not u ≡ true → NoTail ≡ tail_of (message s)
      unfolding message choose into only all_left
      tail_no k = rw (← et, not-false t h, ← em, ← eu, not-true u k)

      pub tail_is : not u ≡ false → IsMessage (length m) ≡ tail_of (message s)
      unfolding message choose into only all_left
      tail_is k = rw (← et, not-false t h, ← em, ← eu, not-false u k)

pub ruleset tail_laws = (tail_none, tail_other, tail_no, tail_is)
