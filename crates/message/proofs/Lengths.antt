-- The length of a printed record, where it suits the line.
use Prim.Native.Nat.{ℕ, suc, ◌+◌, ◌≤◌, ◌<◌}
use mathlib.Core.Path.{◌≡◌, refl}
use mathlib.Core.Bool.{true}
use mathlib.Core.List.{List, [], ◌∷◌, ◌++◌, append_assoc}
use native.Mathlib.Decide.{dec_le}
use native.Mathlib.Omega.{arith}
use lib.ListN.{length, get_or, length-append, length-take, length-drop}
use borrow.Author.Tests.{le-leb, leb-true, eq-eqb, ne_eqb}
use Rattle.base.specs.Texts.{text_at}
use Rattle.base.proofs.Tests.{both}
use Rattle.record.specs.declared.Protocol.{Protocol}
use Rattle.record.specs.declared.Protocol.TheVariants.{Rfc3164, Rfc5424}
use Rattle.record.specs.declared.Record.{Record}
use Rattle.suits.specs.Suits.{place_suits, elements_suit, param_suits, params_suit}
use Rattle.message.specs.Message.{open_text, param_text, params_text, other_params, elements_text, data_text, head_text, names_text, printed}
use Rattle.message.specs.Opens.{end_text}
use Rattle.message.specs.Rooms.{element_size, param_size, total, other_size}
use Rattle.message.proofs.Walks.{number_from_lem, number_below, name_in, value_in}

text_size : (line : List ℕ) (start len : ℕ) → start + len ≤ length line → length (text_at line start len) ≡ len
text_size line start len h = simp (length-take, length-drop) (omega arith)

param_size_lem : (line : List ℕ) (e k : ℕ) (row : List ℕ) → param_suits line e k row ≡ true → length (param_text line row) ≡ param_size row
unfolding param_text param_size
param_size_lem line e k row h =
    simp length-append
    (omega (arith, text_size line (get_or row 1 0) (get_or row 2 0) (name_in line e k row h), text_size line (get_or row 3 0) (get_or row 4 0) (value_in line e k row h)))

-- the parameters of element `k` and those after them are all of them
record Split (line : List ℕ) (e k : ℕ) (ps : List (List ℕ)) : Type 0 where
  sizes : length (params_text line k ps) + total param_size (other_params k ps) ≡ total param_size ps
  suited : params_suit line e (k + 1) (other_params k ps) ≡ true

module _ (line : List ℕ) (e k : ℕ) (row : List ℕ) (rows : List (List ℕ)) where
  split_same : param_suits line e k row ≡ true → get_or row 0 0 ≡ k → Split line e k rows → Split line e k (row ∷ rows)
  unfolding params_text other_params total
  split_same h q s =
      let b = eq-eqb (get_or row 0 0) k q in
      record {
        sizes = rw b (simp length-append (omega (arith, param_size_lem line e k row h, s.sizes)));
        suited = rw b s.suited;
      }

  split_later : params_suit line e k (row ∷ rows) ≡ true → k < get_or row 0 0 → Split line e k (row ∷ rows)
  unfolding params_text other_params total params_suit
  split_later h q =
      let b = ne_eqb (get_or row 0 0) k (λ i. omega arith) in
      record {
        sizes = rw b (omega arith);
        suited = rw (b, le-leb (k + 1) (get_or row 0 0) (omega arith)) (rw (le-leb k (get_or row 0 0) (omega arith)) at h);
      }

split : (line : List ℕ) (e k : ℕ) (ps : List (List ℕ)) → params_suit line e k ps ≡ true → Split line e k ps
unfolding params_text other_params total params_suit
split line e k [] h = record { sizes = refl; suited = refl }
split line e k (row ∷ rows) h = go (dec_le (get_or row 0 0) k) (split line e k rows)
  where
    first : param_suits line e k row ≡ true
    first = (both _ _ h).0

    go : Dec (get_or row 0 0 ≤ k) → (params_suit line e k rows ≡ true → Split line e k rows) → Split line e k (row ∷ rows)
    go (yes p) next =
        let q : get_or row 0 0 ≡ k = omega (arith, number_from_lem line e k row first) in
        split_same line e k row rows first q (next (rw q at (both (param_suits line e k row) _ h).1))
    go (no p) next = split_later line e k row rows h (omega arith)

open_size : (line row : List ℕ) → place_suits line (get_or row 0 0) (get_or row 1 0) ≡ true → length (open_text line row) + 1 ≡ element_size row
unfolding open_text element_size
open_size line row h = omega (arith, text_size line (get_or row 0 0) (get_or row 1 0) (leb-true _ _ h))

-- with no elements there are no parameters
no_params : (line : List ℕ) (k : ℕ) (ps : List (List ℕ)) → params_suit line (k + 0) k ps ≡ true → total param_size ps ≡ 0
unfolding total params_suit
no_params line k [] s = refl
no_params line k (row ∷ rows) s =
    let h : param_suits line (k + 0) k row ≡ true = (both _ _ s).0 in
    absurd (omega (arith, number_from_lem line (k + 0) k row h, number_below line (k + 0) k row h))

elements_size : (line : List ℕ) (k : ℕ) (es ps : List (List ℕ)) → elements_suit line es ≡ true → params_suit line (k + length es) k ps ≡ true
    → length (elements_text line k es ps) ≡ total element_size es + total param_size ps
unfolding elements_text elements_suit total
elements_size line k [] ps h s = omega (arith, no_params line k ps s)
elements_size line k (row ∷ es) ps h s =
    let p = split line (k + suc (length es)) k ps s in
    let n : k + suc (length es) ≡ k + 1 + length es = omega arith in
    let here : place_suits line (get_or row 0 0) (get_or row 1 0) ≡ true = (both _ _ h).0 in
    let next : elements_suit line es ≡ true = (both (place_suits line (get_or row 0 0) (get_or row 1 0)) _ h).1 in
    simp length-append (omega (arith, open_size line row here, p.sizes, elements_size line (k + 1) es (other_params k ps) next (rw n at p.suited)))

-- the elements and what stands after them
pub data_is : (line : List ℕ) (protocol : Protocol) (es ps : List (List ℕ)) → elements_text line 0 es ps ++ end_text protocol (length es) ≡ data_text line protocol es ps
unfolding elements_text end_text
data_is line Rfc3164 [] ps = refl
data_is line (Rfc5424 v) [] ps = refl
data_is line Rfc3164 (row ∷ es) ps = rw (ne_eqb (suc (length es)) 0 (λ e. omega arith))
data_is line (Rfc5424 v) (row ∷ es) ps = rw (ne_eqb (suc (length es)) 0 (λ e. omega arith))

module _ (line : List ℕ) (r : Record) (es ps : List (List ℕ)) where
  -- the pieces in which it is written
  pub printed_is : (head_text line r ++ names_text line r r.protocol) ++ elements_text line 0 es ps ++ (end_text r.protocol (length es) ++ text_at line r.message.start r.message.len)
      ≡ printed line r es ps
  unfolding printed
  printed_is = rw (← data_is line r.protocol es ps) (simp append_assoc)

  pub printed_size : r.message.start + r.message.len ≤ length line → elements_suit line es ≡ true → params_suit line (length es) 0 ps ≡ true
      → length (printed line r es ps) ≡ other_size line r es + total param_size ps
  unfolding other_size
  printed_size h e p =
      let n : length es ≡ 0 + length es = omega arith in
      rw (← printed_is)
      (simp length-append (omega (arith, length-append (head_text line r) (names_text line r r.protocol), text_size line r.message.start r.message.len h, elements_size line 0 es ps e (rw n at p))))
