-- Printing: what is measured, what is answered, and what the output holds.
use Rattle.std.specs.Prelude.{is_some, Option, Some, None, Ok, Err}
use Prim.Native.Nat.{ℕ, ◌+◌, ◌*◌, ◌≤◌, ◌<◌}
use mathlib.Core.Path.{◌≡◌, refl, sym, ap, ◌∙◌}
use mathlib.Core.Bool.{Bool, true, false, ◌&&◌}
use mathlib.Core.List.{List, [], ◌∷◌, ◌++◌}
use native.Mathlib.Omega.{arith}
use lib.Dec.{leb}
use lib.ListN.{length, get_or, take}
use Rattle.std.proofs.Common.{get_or-take}
use lib.Seq.{length-take-le}
use borrow.Author.Tests.{le-leb, lt-leb, lt-ltb, le-ltb, leb-true, leb-false, eq-eqb, ne_eqb}
use mir.Syntax.{w64}
use mir.Val
use Rattle.base.proofs.Tests.{both}
use Rattle.record.specs.Limits.{line_limit}
use Rattle.record.specs.Params.{row_of, rows, blank}
use Rattle.record.proofs.Params.{rows_length, rows_get}
use Rattle.record.specs.declared.Param.{Param}
use Rattle.record.specs.declared.Protocol.{Protocol}
use Rattle.record.specs.declared.Protocol.TheVariants.{Rfc3164, Rfc5424}
use Rattle.record.specs.declared.Record.{Record}
use Rattle.record.specs.declared.Refusal.TheVariants.{LineTooLong, Unsuitable, OutputShort}
use Rattle.suits.specs.Suits.{record_suits, elements_suit, params_suit, tables_suit, suits}
use Rattle.suits.proofs.Suited.{ParamIn, least, tables_suited, elements_fit_lem, params_fit_lem, param_suited}
use Rattle.output.specs.Fits.{Fits, Sized}
use Rattle.output.specs.Output.{Wrote}
use Rattle.output.proofs.Writes.{written_front}
use Rattle.message.specs.Message.{head_text, names_text, printed}
use Rattle.message.specs.Opens.{end_text}
use Rattle.message.specs.Prints.{Prints}
use Rattle.message.specs.Rooms.{room_for, fits_in, element_size, param_size, total, other_size}
use Rattle.message.proofs.Texts.{message_in}
use Rattle.message.proofs.Rooms.{room_over, room_rest, fits_both}
use Rattle.message.proofs.Lengths.{printed_size}

-- the first `n` entries of a table, as a slice lends them
module _ (table : List Param) (n : ℕ) (fits : n ≤ length (rows table)) where
  pub front_length : n ≡ length (take n table)
  front_length = sym (length-take-le n table (omega (arith, rows_length table)))

  pub front_row : (i : ℕ) → i < length (take n table) → row_of (get_or (take n table) i blank) ≡ get_or (rows table) i []
  front_row i h =
      let l : i < n = omega (arith, front_length) in
      ap row_of (get_or-take n table i blank l) ∙ rows_get table i (omega (arith, rows_length table))

-- after the elements
module _ (p : Protocol) (n : ℕ) where
  pub end_some : (n ≡ 0 → ⊥) → 32 ∷ [] ≡ end_text p n
  unfolding end_text
  end_some h = rw (ne_eqb n 0 h)

  pub end_some_sized : (n ≡ 0 → ⊥) → Sized (end_text p n) 2 1
  end_some_sized h = record { is = ap length (end_some h); to = omega arith }

  module _ (z : n ≡ 0) where
    pub end_none : p ≡ Rfc3164 → [] ≡ end_text p n
    unfolding end_text
    end_none e = rw (eq-eqb n 0 z, e)

    pub end_none_sized : p ≡ Rfc3164 → Sized (end_text p n) 2 0
    end_none_sized e = record { is = ap length (end_none e); to = omega arith }

    pub end_dash : (v : ℕ) → p ≡ Rfc5424 v → 45 ∷ 32 ∷ [] ≡ end_text p n
    unfolding end_text
    end_dash v e = rw (eq-eqb n 0 z, e)

    pub end_dash_sized : (v : ℕ) → p ≡ Rfc5424 v → Sized (end_text p n) 2 2
    end_dash_sized v e = record { is = ap length (end_dash v e); to = omega arith }

pub ruleset end_laws = (end_some, end_none, end_dash)

pub ruleset end_sizes = (end_some_sized, end_none_sized, end_dash_sized)

-- all but the parameters
module _ (line : List ℕ) (r : Record) (ids : List (List ℕ)) (a b : ℕ)
    (sa : Sized (head_text line r ++ names_text line r r.protocol) (4 * line_limit + 63) a) (sb : Sized (end_text r.protocol (length ids)) 2 b) where
  pub others_sum : length line ≤ line_limit → record_suits line r ≡ true → mir.Val.Fits w64 (a + b + r.message.len)
  others_sum l s = record { fits = omega (arith, sa.to, sb.to, message_in line r s) }

  sum : other_size line r ids ≡ a + b + r.message.len + total element_size ids
  unfolding other_size
  sum = omega (arith, sa.is, sb.is)

  module _ (left : ℕ) (q : Option ℕ) (eq : q ≡ room_for left (a + b + r.message.len)) where
    pub others_out : q ≡ None → false ≡ leb (other_size line r ids) left
    others_out h = sym (lt-leb _ left (omega (arith, sum, room_over left _ (sym eq ∙ h))))

    module _ (x : ℕ) (h : q ≡ Some x) (s : Option ℕ) (es : s ≡ room_for x (total element_size ids)) where
      ids_out : s ≡ None → false ≡ leb (other_size line r ids) left
      ids_out k = sym (lt-leb _ left (omega (arith, sum, room_rest left _ x (sym eq ∙ h), room_over x _ (sym es ∙ k))))

      ids_in_lem : (y : ℕ) → s ≡ Some y → true ≡ leb (other_size line r ids) left
      ids_in_lem y k = sym (le-leb _ left (omega (arith, sum, room_rest left _ x (sym eq ∙ h), room_rest x _ y (sym es ∙ k))))

      pub ids_told : is_some s ≡ leb (other_size line r ids) left
      ids_told = go s refl
        where
          go : (q : Option ℕ) → s ≡ q → is_some q ≡ leb (other_size line r ids) left
          go None k = ids_out k
          go (Some y) k = ids_in_lem y k

pub ruleset others_laws = (others_sum, others_out, ids_told)

-- by what the parameters leave
module _ (room : Option ℕ) (n : ℕ) where
  pub rest_none : room ≡ None → false ≡ fits_in room n
  rest_none e = rw e

  pub rest_some : (left : ℕ) → room ≡ Some left → (b : Bool) → b ≡ leb n left → b ≡ fits_in room n
  rest_some left e b h = rw e h

-- a record and tables that suit
module _ (line : List ℕ) (r : Record) (e p : ℕ) (elements params : List (List ℕ)) (suited : suits line r e p elements params ≡ true) where
  tables : tables_suit line e p elements params ≡ true
  tables = tables_suited line r e p elements params suited

  pub record_suits_lem : record_suits line r ≡ true
  unfolding suits
  record_suits_lem = (both _ _ suited).0

  pub elements_counted : e ≤ length elements
  elements_counted = elements_fit_lem line e p elements params tables

  pub params_counted : p ≤ length params
  params_counted = params_fit_lem line e p elements params tables

  pub ids_suit : elements_suit line (take e elements) ≡ true
  unfolding tables_suit
  ids_suit = (both (leb e (length elements) && leb p (length params)) _ (both _ _ tables).0).1

  pub params_suit_lem : params_suit line e 0 (take p params) ≡ true
  unfolding tables_suit
  params_suit_lem = (both (leb e (length elements) && leb p (length params) && elements_suit line (take e elements)) _ tables).1

  pub ids_length : length (take e elements) ≡ e
  ids_length = length-take-le e elements elements_counted

  size : length (printed line r (take e elements) (take p params)) ≡ other_size line r (take e elements) + total param_size (take p params)
  size = printed_size line r (take e elements) (take p params) (message_in line r record_suits_lem) ids_suit (rw ids_length params_suit_lem)

  -- a parameter's texts are short
  pub param_short : length line ≤ line_limit → (i : ℕ) → i < p → (x : Param) → row_of x ≡ get_or params i [] → x.name_len + x.value_len ≤ 2 * line_limit
  param_short l i h x ex = let q : ParamIn line e (least 0 params i) (row_of x) = rw ex (param_suited line e p elements params tables i h) in omega (arith, q.name_in, q.value_in)

  -- what is measured
  pub fits_is : (room : ℕ) (m : Option ℕ) → m ≡ room_for room (total param_size (take p params)) → (b : Bool) → b ≡ fits_in m (other_size line r (take e elements))
      → b ≡ leb (length (printed line r (take e elements) (take p params))) room
  fits_is room m em b eb = eb ∙ ap (λ (q : Option ℕ). fits_in q (other_size line r (take e elements))) em ∙ fits_both room _ _ ∙ ap (λ (n : ℕ). leb n room) (sym size)

-- the refusals, in the order in which they are checked, and the answer
module _ (line : List ℕ) (r : Record) (e p : ℕ) (elements params : List (List ℕ)) (out : List ℕ) where
  pub print_long : line_limit < length line → Prints line r e p elements params out (Err LineTooLong) out
  print_long h = record { answer = rw (lt-ltb line_limit (length line) h); output = refl }

  module _ (l : length line ≤ line_limit) where
    pub print_unsuited : suits line r e p elements params ≡ false → Prints line r e p elements params out (Err Unsuitable) out
    print_unsuited s = record { answer = rw (le-ltb line_limit (length line) l, s); output = refl }

    module _ (s : suits line r e p elements params ≡ true) where
      pub print_short : leb (length (printed line r (take e elements) (take p params))) (length out) ≡ false → Prints line r e p elements params out (Err OutputShort) out
      print_short h = record { answer = rw (le-ltb line_limit (length line) l, s, lt-ltb (length out) _ (leb-false _ (length out) h)); output = refl }

      module _ (h : leb (length (printed line r (take e elements) (take p params))) (length out) ≡ true) where
        enough : length (printed line r (take e elements) (take p params)) ≤ length out
        enough = leb-true _ (length out) h

        pub print_fits : Fits out 0 (printed line r (take e elements) (take p params))
        print_fits = record { fits = omega (arith, enough) }

        pub print_done : (n : ℕ) (after : List ℕ) → Wrote out 0 (printed line r (take e elements) (take p params)) n after → Prints line r e p elements params out (Ok n) after
        print_done n after w =
            let len : n ≡ length (printed line r (take e elements) (take p params)) = omega (arith, w.behind) in
            record {
              answer = rw (le-ltb line_limit (length line) l, s, le-ltb (length out) _ enough) (ap Ok len);
              output = w.holds ∙ written_front out _;
            }
