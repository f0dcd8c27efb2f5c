-- The character at the front of a text, by the tests that decide it one after the other.
use Prim.Native.Nat.{ℕ, ◌≤◌, ◌<◌}
use mathlib.Core.Path.{◌≡◌, refl}
use mathlib.Core.List.{List, [], ◌∷◌}
use mathlib.Core.Bool.{Bool, true, false, not}
use native.Mathlib.Omega.{arith}
use lib.Dec.{leb, ltb, leb-zero}
use lib.ListN.{length, get_or}
use borrow.Author.Tests.{le-leb, lt-leb, le-ltb, not-true, not-false}
use Rattle.base.specs.Choose.{within}
use Rattle.utf8.specs.Rfc3629.{is_tail}
use Rattle.utf8.specs.Lead.{lead_of, well_formed, char_len}
use Rattle.utf8.specs.declared.Lead.{Lead}

pub char_empty : (s : List ℕ) → length s ≡ 0 → 0 ≡ char_len s
unfolding char_len well_formed lead_of
char_empty [] h = refl
char_empty (b ∷ s) h = omega arith

module _ (s : List ℕ) (l : Lead) (e : l ≡ lead_of (get_or s 0 0)) where
  pub char_none : l.len ≡ 0 → 0 ≡ char_len s
  unfolding char_len well_formed
  char_none h = rw (← e, h, leb-zero)

  pub char_short : length s < l.len → 0 ≡ char_len s
  unfolding char_len well_formed
  char_short h = rw (← e, lt-leb l.len (length s) h)

  module _ (h1 : l.len ≤ length s) where
    fits : leb l.len (length s) ≡ true
    fits = le-leb l.len (length s) h1

    pub char_one : l.len ≡ 1 → 1 ≡ char_len s
    unfolding char_len well_formed
    char_one h = rw (← e, fits, h)

    -- `a`, `b` and `d` are what the tests of the second, the third and the fourth byte answered
    module _ (h2 : l.len ≡ 0 → ⊥) (h3 : l.len ≡ 1 → ⊥) (a : Bool) (ea : a ≡ within l.low l.high (get_or s 1 0)) where
      some : leb 1 l.len ≡ true
      some = le-leb 1 l.len (omega arith)

      past_one : ltb l.len 2 ≡ false
      past_one = le-ltb l.len 2 (omega arith)

      pub char_next_bad : not a ≡ true → 0 ≡ char_len s
      unfolding char_len well_formed
      char_next_bad h = rw (← e, some, fits, past_one, ← ea, not-true a h)

      module _ (ha : not a ≡ false) where
        pub char_two : l.len ≡ 2 → 2 ≡ char_len s
        unfolding char_len well_formed
        char_two h = rw (← e, fits, ← ea, not-false a ha, h)

        module _ (h4 : l.len ≡ 2 → ⊥) (b : Bool) (eb : b ≡ is_tail (get_or s 2 0)) where
          past_two : ltb l.len 3 ≡ false
          past_two = le-ltb l.len 3 (omega arith)

          pub char_third_bad : not b ≡ true → 0 ≡ char_len s
          unfolding char_len well_formed
          char_third_bad h = rw (← e, some, fits, past_one, ← ea, not-false a ha, past_two, ← eb, not-true b h)

          module _ (hb : not b ≡ false) where
            pub char_three : l.len ≡ 3 → 3 ≡ char_len s
            unfolding char_len well_formed
            char_three h = rw (← e, fits, ← ea, not-false a ha, ← eb, not-false b hb, h)

            module _ (h5 : l.len ≡ 3 → ⊥) (d : Bool) (ed : d ≡ is_tail (get_or s 3 0)) where
              past_three : ltb l.len 4 ≡ false
              past_three = le-ltb l.len 4 (omega arith)

              pub char_fourth_bad : not d ≡ true → 0 ≡ char_len s
              unfolding char_len well_formed
              char_fourth_bad h = rw (← e, some, fits, past_one, ← ea, not-false a ha, past_two, ← eb, not-false b hb, past_three, ← ed, not-true d h)

              pub char_four : not d ≡ false → l.len ≡ char_len s
              unfolding char_len well_formed
              char_four h = rw (← e, some, fits, past_one, ← ea, not-false a ha, past_two, ← eb, not-false b hb, past_three, ← ed, not-false d h)

-- what every need of `char_len` is answered by
pub ruleset front_laws = (char_empty, char_none, char_short, char_one, char_next_bad, char_two, char_third_bad, char_three, char_fourth_bad, char_four)
