-- What is left of a room, piece by piece and row by row.
use Rattle.std.specs.Prelude.{Option, Some, None}
use Prim.Native.Nat.{ℕ, ◌+◌, ◌-◌, ◌≤◌, ◌<◌}
use mathlib.Core.Path.{◌≡◌, refl, sym, ap, ◌∙◌}
use mathlib.Core.List.{List, [], ◌∷◌}
use native.Mathlib.Decide.{dec_le}
use native.Mathlib.Omega.{arith}
use native.Mathlib.Numerals.{add-one}
use lib.Dec.{leb}
use lib.ListN.{length, get_or, take, drop, drop_of_length-le}
use lib.Seq.{drop-cons}
use borrow.Author.Tests.{lt-ltb, le-ltb, lt-leb, le-leb, leb-true, leb-false}
use Rattle.base.proofs.Tests.{by_test}
use Rattle.suits.proofs.Rows.{row_step, rows_ended}
use Rattle.message.specs.Rooms.{room_for, room_after, fits_in, param_size, total}

module _ (left n : ℕ) where
  pub room_short : left < n → None ≡ room_for left n
  unfolding room_for
  room_short h = rw (lt-ltb left n h)

  pub room_left : n ≤ left → Some (left - n) ≡ room_for left n
  unfolding room_for
  room_left h = rw (le-ltb left n h)

-- what an answer says of the length
pub room_over : (left a : ℕ) → room_for left a ≡ None → left < a
room_over left a e = go (dec_le a left)
  where
    go : Dec (a ≤ left) → left < a
    go (yes p) = let z : ◌≡◌ {A = ℕ} 0 1 = cc (room_left left a p) in absurd (omega arith)
    go (no p) = omega arith

pub room_rest : (left a x : ℕ) → room_for left a ≡ Some x → x + a ≡ left
room_rest left a x e = go (dec_le a left)
  where
    go : Dec (a ≤ left) → x + a ≡ left
    go (yes p) = let z : left - a ≡ x = cc (room_left left a p) in omega arith
    go (no p) = let z : ◌≡◌ {A = ℕ} 0 1 = cc (room_short left a (omega arith)) in absurd (omega arith)

-- two lengths, one after the other
module _ (left a b : ℕ) (r : Option ℕ) (e : r ≡ room_for left a) where
  pub room_out : r ≡ None → None ≡ room_for left (a + b)
  room_out h = let l = room_over left a (sym e ∙ h) in room_short left (a + b) (omega arith)

  module _ (x : ℕ) (h : r ≡ Some x) where
    room_on : room_for left (a + b) ≡ room_for x b
    room_on = go (dec_le b x)
      where
        l : x + a ≡ left
        l = room_rest left a x (sym e ∙ h)

        go : Dec (b ≤ x) → room_for left (a + b) ≡ room_for x b
        go (yes p) =
            let q : left - (a + b) ≡ x - b = omega (arith, l) in
            sym (room_left left (a + b) (omega (arith, l))) ∙ ap Some q ∙ room_left x b p
        go (no p) = sym (room_short left (a + b) (omega (arith, l))) ∙ room_short x b (omega arith)

    pub room_then : (s : Option ℕ) → s ≡ room_for x b → s ≡ room_for left (a + b)
    room_then s es = es ∙ sym room_on

pub ruleset room_laws = (room_out, room_then)

-- the rows: `i` of them passed
module _ (size : List ℕ → ℕ) (rows : List (List ℕ)) (room left i : ℕ) (inv : room_for room (total size rows) ≡ room_for left (total size (drop i rows))) where
  pub rows_end : drop i rows ≡ [] → Some left ≡ room_for room (total size rows)
  unfolding total
  rows_end e = sym (inv ∙ ap (λ (l : List (List ℕ)). room_for left (total size l)) e ∙ sym (room_left left 0 (omega arith)) ∙ ap Some zero)
    where
      zero : left - 0 ≡ left
      zero = omega arith

  module _ (row : List ℕ) (step : drop i rows ≡ row ∷ drop (i + 1) rows) (r : Option ℕ) (e : r ≡ room_for left (size row)) where
    more : room_for room (total size rows) ≡ room_for left (size row + total size (drop (i + 1) rows))
    unfolding total
    more = inv ∙ ap (λ (l : List (List ℕ)). room_for left (total size l)) step

    pub rows_short : r ≡ None → None ≡ room_for room (total size rows)
    rows_short h = room_out left (size row) (total size (drop (i + 1) rows)) r e h ∙ sym more

    pub rows_on : (x : ℕ) → r ≡ Some x → room_for room (total size rows) ≡ room_for x (total size (drop (i + 1) rows))
    rows_on x h = more ∙ sym (room_then left (size row) (total size (drop (i + 1) rows)) r e x h _ refl)

-- one step over all rows
pub ids_step : (rows : List (List ℕ)) (i : ℕ) → i < length rows → drop i rows ≡ get_or rows i [] ∷ drop (i + 1) rows
ids_step rows i h = rw (add-one, drop-cons rows i [])

pub ids_ended : (rows : List (List ℕ)) (i : ℕ) → length rows ≤ i → drop i rows ≡ []
ids_ended rows i h = drop_of_length-le rows h

-- what parameters leave, one after the other
after_then : (r : Option ℕ) (a b : ℕ) → room_after (room_after r a) b ≡ room_after r (a + b)
after_then None a b = refl
after_then (Some left) a b = go (room_for left a) refl
  where
    go : (q : Option ℕ) → q ≡ room_for left a → room_after q b ≡ room_for left (a + b)
    go None e = room_out left a b None e refl
    go (Some x) e = room_then left a b (Some x) e x refl (room_for x b) refl

pub after_left : (room : Option ℕ) (left n : ℕ) → room ≡ Some left → (s : Option ℕ) → s ≡ room_for left n → s ≡ room_after room n
after_left room left n e s f = rw e f

after_none : (r : Option ℕ) → room_after r 0 ≡ r
after_none None = refl
after_none (Some left) = let z : left - 0 ≡ left = omega arith in sym (room_left left 0 (omega arith)) ∙ ap Some z

-- `m` is left of the room after `i` of the first `p` parameters
pub record Measured (room p : ℕ) (params : List (List ℕ)) (m : Option ℕ) (i : ℕ) : Type 0 where
  pub left : room_after m (total param_size (drop i (take p params))) ≡ room_for room (total param_size (take p params))

module _ (room p : ℕ) (params : List (List ℕ)) (m : Option ℕ) where
  pub measured_none : m ≡ Some room → Measured room p params m 0
  measured_none e = record { left = rw e }

  module _ (fits : p ≤ length params) (i : ℕ) (w : Measured room p params m i) where
    pub measured_on : i < p → (row : List ℕ) → row ≡ get_or params i [] → (n : Option ℕ) → n ≡ room_after m (param_size row) → Measured room p params n (i + 1)
    unfolding total
    measured_on h row er n en =
        let rest = total param_size (drop (i + 1) (take p params)) in
        let step = ap (total param_size) (row_step params p fits i [] h) ∙ ap (λ (l : List ℕ). param_size l + rest) (sym er) in
        record {
          left = ap (λ (r : Option ℕ). room_after r rest) en ∙ after_then m (param_size row) rest ∙ ap (room_after m) (sym step) ∙ w.left;
        }

    pub measured_all : p ≤ i → m ≡ room_for room (total param_size (take p params))
    unfolding total
    measured_all h = sym (after_none m) ∙ ap (λ (l : List (List ℕ)). room_after m (total param_size l)) (sym (rows_ended params p fits i h)) ∙ w.left

-- and whether others fit after them
pub fits_both : (room a n : ℕ) → fits_in (room_for room a) n ≡ leb (n + a) room
fits_both room a n = go (room_for room a) refl
  where
    go : (q : Option ℕ) → room_for room a ≡ q → fits_in q n ≡ leb (n + a) room
    go None e = sym (lt-leb (n + a) room (omega (arith, room_over room a e)))
    go (Some x) e =
        let l : x + a ≡ room = room_rest room a x e in
        by_test (λ b. b ≡ leb (n + a) room) (leb n x)
        (λ h. sym (le-leb (n + a) room (omega (arith, leb-true n x h))))
        (λ h. sym (lt-leb (n + a) room (omega (arith, leb-false n x h))))
