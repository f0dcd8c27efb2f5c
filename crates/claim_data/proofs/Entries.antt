-- An entry of a table where it is claimed to stand, test by test.
use Rattle.std.specs.Prelude.{Some, None}
use Prim.Native.Nat.{ℕ, ◌+◌, ◌^◌, ◌≤◌, ◌<◌}
use mathlib.Core.Path.{◌≡◌, refl}
use mathlib.Core.Bool.{Bool, true, false, not, ◌&&◌}
use mathlib.Core.List.{List}
use native.Mathlib.Omega.{arith}
use lib.ListN.{length, get_or}
use borrow.Author.Tests.{eq-eqb, ne_eqb, not-true, not-false}
use Rattle.base.specs.Choose.{is_at}
use Rattle.base.proofs.Tests.{told}
use Rattle.record.specs.Limits.{line_limit}
use Rattle.record.specs.declared.Param.{Param}
use Rattle.record.specs.Params.{row_of}
use Rattle.grammar.specs.Abnf.{sd_name_byte}
use Rattle.claims.specs.Claims.{pair_of}
use Rattle.claims.specs.Holds.{next_if, class_at, name_holds, value_holds, param_next, id_next}
use Rattle.claims.proofs.Bytes.{byte_inside}

module _ (line : List ℕ) (at : ℕ) where
  -- ---- a parameter

  module _ (p : Param) (s : Bool) (es : s ≡ is_at line at 32) where
    pub param_space : not s ≡ true → None ≡ param_next line p.element at (row_of p)
    unfolding param_next
    param_space q = rw (← es, not-true s q)

    module _ (qs : not s ≡ false) where
      inside : at < length line
      inside = byte_inside line at 32 (omega arith) (told s _ es qs)

      module _ (short : length line ≤ line_limit) where
        pub param_next_fits : at + 1 < 2 ^ 64
        param_next_fits = omega (arith, inside)

        module _ (name_in : p.name_start + p.name_len ≤ length line) where
          pub param_name_fits : at + p.name_len < 2 ^ 64
          param_name_fits = omega (arith, inside)

          pub param_quote_fits : at + p.name_len + 3 < 2 ^ 64
          param_quote_fits = omega (arith, inside)

          pub param_room : p.name_start ≡ at + 1 → at + 1 + p.name_len ≤ length line
          param_room e = omega arith

          module _ (value_in : p.value_start + p.value_len ≤ length line) where
            pub param_value_fits : at + p.name_len + p.value_len < 2 ^ 64
            param_value_fits = omega (arith, inside)

            pub param_end_fits : at + p.name_len + p.value_len + 4 < 2 ^ 64
            param_end_fits = omega (arith, inside)

      pub param_start : (p.name_start ≡ at + 1 → ⊥) → None ≡ param_next line p.element at (row_of p)
      unfolding param_next
      param_start n = rw (← es, not-false s qs, eq-eqb p.element p.element refl, ne_eqb p.name_start (at + 1) n)

      module _ (ns : p.name_start ≡ at + 1) where
        pub param_value_start : (p.value_start ≡ at + p.name_len + 3 → ⊥) → None ≡ param_next line p.element at (row_of p)
        unfolding param_next
        param_value_start n =
            rw (
              ← es,
              not-false s qs,
              eq-eqb p.element p.element refl,
              eq-eqb p.name_start (at + 1) ns,
              eq-eqb p.name_len p.name_len refl,
              ne_eqb p.value_start (at + p.name_len + 3) n,
            )

        module _ (vs : p.value_start ≡ at + p.name_len + 3) where
          pub param_value_room : p.value_start + p.value_len ≤ length line → at + p.name_len + 3 + p.value_len ≤ length line
          param_value_room l = omega arith

          left : param_next line p.element at (row_of p)
              ≡ next_if (name_holds line (at + 1) p.name_len && value_holds line (at + p.name_len + 3) p.value_len) (at + p.name_len + p.value_len + 4)
          unfolding param_next
          left =
              rw (
                ← es,
                not-false s qs,
                eq-eqb p.element p.element refl,
                eq-eqb p.name_start (at + 1) ns,
                eq-eqb p.name_len p.name_len refl,
                eq-eqb p.value_start (at + p.name_len + 3) vs,
                eq-eqb p.value_len p.value_len refl,
              )

          module _ (x : Bool) (ex : x ≡ name_holds line (at + 1) p.name_len) where
            pub param_name : not x ≡ true → None ≡ param_next line p.element at (row_of p)
            param_name q = rw (left, ← ex, not-true x q)

            module _ (qx : not x ≡ false) (y : Bool) (ey : y ≡ value_holds line (at + p.name_len + 3) p.value_len) where
              pub param_value : not y ≡ true → None ≡ param_next line p.element at (row_of p)
              param_value q = rw (left, ← ex, not-false x qx, ← ey, not-true y q)

              pub param_all : not y ≡ false → Some (at + p.name_len + p.value_len + 4) ≡ param_next line p.element at (row_of p)
              param_all q = rw (left, ← ex, not-false x qx, ← ey, not-false y q)

  -- ---- an element

  module _ (row : List ℕ) (b : Bool) (eb : b ≡ is_at line at 91) where
    pub id_bracket : not b ≡ true → None ≡ id_next line at (pair_of row)
    unfolding id_next
    id_bracket q = rw (← eb, not-true b q)

    module _ (qb : not b ≡ false) where
      id_inside : at < length line
      id_inside = byte_inside line at 91 (omega arith) (told b _ eb qb)

      module _ (short : length line ≤ line_limit) where
        pub id_next_fits : at + 1 < 2 ^ 64
        id_next_fits = omega (arith, id_inside)

        module _ (room : get_or row 0 0 + get_or row 1 0 ≤ length line) where
          pub id_name_fits : at + get_or row 1 0 < 2 ^ 64
          id_name_fits = omega (arith, id_inside)

          pub id_end_fits : at + get_or row 1 0 + 1 < 2 ^ 64
          id_end_fits = omega (arith, id_inside)

          pub id_room : get_or row 0 0 ≡ at + 1 → at + 1 + get_or row 1 0 ≤ length line
          id_room e = omega arith

      pub id_start : (get_or row 0 0 ≡ at + 1 → ⊥) → None ≡ id_next line at (pair_of row)
      unfolding id_next
      id_start n = rw (← eb, not-false b qb, ne_eqb (get_or row 0 0) (at + 1) n)

      module _ (s : get_or row 0 0 ≡ at + 1) (x : Bool) (ex : x ≡ class_at line 32 sd_name_byte (at + 1) (get_or row 1 0)) where
        pub id_other : not x ≡ true → None ≡ id_next line at (pair_of row)
        unfolding id_next
        id_other q = rw (← eb, not-false b qb, eq-eqb (get_or row 0 0) (at + 1) s, eq-eqb (get_or row 1 0) (get_or row 1 0) refl, ← ex, not-true x q)

        pub id_all : not x ≡ false → Some (at + get_or row 1 0 + 1) ≡ id_next line at (pair_of row)
        unfolding id_next
        id_all q = rw (← eb, not-false b qb, eq-eqb (get_or row 0 0) (at + 1) s, eq-eqb (get_or row 1 0) (get_or row 1 0) refl, ← ex, not-false x q)

pub ruleset param_fits_lem = (param_next_fits, param_name_fits, param_quote_fits, param_value_fits, param_end_fits)

pub ruleset param_rooms = (param_room, param_value_room)

pub ruleset param_laws = (param_space, param_start, param_value_start, param_name, param_value, param_all)

pub ruleset id_laws = (id_bracket, id_next_fits, id_name_fits, id_end_fits, id_room, id_start, id_other, id_all)
