-- The record written in one walk over the parameters.
use Prim.Native.Nat.{ℕ, ◌+◌, ◌-◌, ◌≤◌, ◌<◌}
use mathlib.Core.Path.{◌≡◌, sym, ap, ◌∙◌}
use mathlib.Core.Bool.{true, ◌&&◌}
use mathlib.Core.List.{List, [], ◌∷◌, ◌++◌, append_assoc}
use native.Mathlib.Omega.{arith}
use lib.ListN.{length, get_or, take, drop}
use Rattle.base.proofs.Tests.{both}
use Rattle.record.specs.declared.Param.{Param}
use Rattle.record.specs.declared.Record.{Record}
use Rattle.record.specs.Params.{row_of}
use Rattle.suits.specs.Suits.{param_suits, params_suit, suits}
use Rattle.suits.proofs.Rows.{row_step, rows_ended}
use Rattle.output.specs.Fits.{Fits}
use Rattle.output.specs.Output.{Wrote}
use Rattle.output.proofs.Pieces.{starts_front, starts_named, first_fits, next_fits, two_are, Midway, midway_all, midway_fits, midway_on, midway_last}
use Rattle.message.specs.Message.{param_text, head_text, names_text, printed}
use Rattle.message.specs.Opens.{first_text, opens_text, close_text, back_text}
use Rattle.message.proofs.Walks.{left_text, first_left, turn_left, close_left, number_below}
use Rattle.message.proofs.Lengths.{printed_is}
use Rattle.message.proofs.Answers.{params_counted, params_suit_lem, ids_length}

-- The walk, begun at `at` of `o`: `i` parameters are written, element `k` is open.
pub record Walk (line : List ℕ) (r : Record) (e p : ℕ) (elements params : List (List ℕ)) (o : List ℕ) (at : ℕ) (out : List ℕ) (pos k i : ℕ) : Type 0 where
  pub opened : k ≤ e - 1
  pub suited : params_suit line e k (drop i (take p params)) ≡ true
  pub room : Fits o at (left_text line (take e elements) 0 (take p params) ++ back_text line r e)
  pub midway : Midway o at (left_text line (take e elements) 0 (take p params) ++ back_text line r e) out pos (left_text line (take e elements) k (drop i (take p params)) ++ back_text line r e)

module _ (line : List ℕ) (r : Record) (e p : ℕ) (elements params : List (List ℕ)) (s : suits line r e p elements params ≡ true) where
  long : length (take e elements) ≡ e
  long = ids_length line r e p elements params s

  module _ (first : List ℕ) (f : Fits first 0 (printed line r (take e elements) (take p params))) where
    pieces : (head_text line r ++ names_text line r r.protocol ++ first_text line (take e elements)) ++ (left_text line (take e elements) 0 (take p params) ++ back_text line r e)
        ≡ printed line r (take e elements) (take p params)
    pieces =
        let front = head_text line r ++ names_text line r r.protocol in
        let opening = first_text line (take e elements) in
        let left = left_text line (take e elements) 0 (take p params) in
        append_assoc front opening (left ++ back_text line r e)
        ∙ ap (λ (t : List ℕ). front ++ t) (sym (append_assoc opening left (back_text line r e)))
        ∙ sym (append_assoc front (opening ++ left) (back_text line r e))
        ∙ ap (λ (t : List ℕ). front ++ t ++ back_text line r e) (first_left line (take e elements) (take p params))
        ∙ (rw long at (printed_is line r (take e elements) (take p params)))

    pub before_fits : Fits first 0 (head_text line r ++ names_text line r r.protocol ++ first_text line (take e elements))
    before_fits = first_fits f (rw (← pieces) (starts_front _ _))

    module _ (at : ℕ) (o : List ℕ) (w : Wrote first 0 (head_text line r ++ names_text line r r.protocol ++ first_text line (take e elements)) at o) where
      pub walk_start : Walk line r e p elements params o at o at 0 0
      walk_start =
          record {
            opened = omega arith;
            suited = params_suit_lem line r e p elements params s;
            room = next_fits f w (starts_named _ _ pieces);
            midway = midway_all o at _;
          }

      pub walk_whole : (n : ℕ) (q : List ℕ) → Wrote o at (left_text line (take e elements) 0 (take p params) ++ back_text line r e) n q → Wrote first 0 (printed line r (take e elements) (take p params)) n q
      walk_whole n q v = two_are f w v pieces

  module _ (o : List ℕ) (at : ℕ) (out : List ℕ) (pos k i : ℕ) (m : Walk line r e p elements params o at out pos k i) where
    module _ (h : i < p) (x : Param) (ex : row_of x ≡ get_or params i []) where
      step : drop i (take p params) ≡ row_of x ∷ drop (i + 1) (take p params)
      step = row_step params p (params_counted line r e p elements params s) i [] h ∙ ap (λ (row : List ℕ). row ∷ drop (i + 1) (take p params)) (sym ex)

      suits_on : (param_suits line e k (row_of x) && params_suit line e x.element (drop (i + 1) (take p params))) ≡ true
      unfolding params_suit
      suits_on = rw step at m.suited

      pub turn_suits : param_suits line e k (row_of x) ≡ true
      turn_suits = (both _ _ suits_on).0

      turn_text : (opens_text line (take (x.element - k) (drop (k + 1) (take e elements))) ++ param_text line (row_of x)) ++ (left_text line (take e elements) x.element (drop (i + 1) (take p params)) ++ back_text line r e)
          ≡ left_text line (take e elements) k (drop i (take p params)) ++ back_text line r e
      turn_text =
          let turn = opens_text line (take (x.element - k) (drop (k + 1) (take e elements))) ++ param_text line (row_of x) in
          let left = left_text line (take e elements) x.element (drop (i + 1) (take p params)) in
          rw step
          (sym (append_assoc turn left (back_text line r e))
          ∙ ap (λ (t : List ℕ). t ++ back_text line r e) (turn_left line (take e elements) k (row_of x) (drop (i + 1) (take p params)) (rw long turn_suits)))

      pub turn_fits : Fits out pos (opens_text line (take (x.element - k) (drop (k + 1) (take e elements))) ++ param_text line (row_of x))
      turn_fits = midway_fits m.room m.midway (record { others = _; is = turn_text })

      pub walk_on : (n : ℕ) (q : List ℕ) → Wrote out pos (opens_text line (take (x.element - k) (drop (k + 1) (take e elements))) ++ param_text line (row_of x)) n q
          → Walk line r e p elements params o at q n x.element (i + 1)
      walk_on n q w =
          record {
            opened = omega (arith, number_below line e k (row_of x) turn_suits);
            suited = (both (param_suits line e k (row_of x)) _ suits_on).1;
            room = m.room;
            midway = midway_on m.room m.midway w turn_text;
          }

    module _ (h : p ≤ i) where
      close_text_lem : close_text line (take e elements) k ++ back_text line r e ≡ left_text line (take e elements) k (drop i (take p params)) ++ back_text line r e
      close_text_lem =
          rw (rows_ended params p (params_counted line r e p elements params s) i h)
          (ap (λ (t : List ℕ). t ++ back_text line r e) (close_left line (take e elements) k (rw long m.opened)))

      pub behind_fits : Fits out pos (close_text line (take e elements) k ++ back_text line r e)
      behind_fits = midway_fits m.room m.midway (starts_named _ _ close_text_lem)

      pub walk_end : (n : ℕ) (q : List ℕ) → Wrote out pos (close_text line (take e elements) k ++ back_text line r e) n q
          → Wrote o at (left_text line (take e elements) 0 (take p params) ++ back_text line r e) n q
      walk_end n q w = midway_last m.room m.midway (rw close_text_lem at w)
