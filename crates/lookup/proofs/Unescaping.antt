-- Unescaping, a byte at a time: what a byte adds, the length, and the writes.
use Rattle.std.specs.Prelude.{if◌then◌else◌}
use Prim.Native.Nat.{ℕ, ◌+◌, ◌^◌, ◌≤◌, ◌<◌}
use mathlib.Core.Path.{◌≡◌, refl, sym, ap, ◌∙◌}
use mathlib.Core.Bool.{Bool, true, false, not, ◌&&◌}
use mathlib.Core.List.{List, [], ◌∷◌, ◌++◌, append-nil}
use native.Mathlib.Omega.{arith}
use lib.Dec.{eqb}
use lib.ListN.{length, get_or, drop, length-append}
use mir.Syntax.{w64}
use mir.Val as val
use Rattle.base.proofs.Tests.{by_test}
use Rattle.base.proofs.Parts.{step, ended}
use Rattle.output.specs.Fits.{Fits}
use Rattle.output.specs.Output.{Wrote}
use Rattle.output.proofs.Writes.{Owes, owes_all, written_none, written_more, wrote_none, wrote_length}
use Rattle.lookup.proofs.Pairs.{Two, first_fits, second_fits, two_laws}
use Rattle.lookup.specs.declared.Added.{Added}
use Rattle.lookup.specs.declared.Added.TheVariants.{Nothing, One, Pair}
use Rattle.lookup.specs.Unescape.{is_escaped, unescaped_from, unescaped}
use Rattle.lookup.specs.Steps.{adds, bytes_of}

-- the rest after what a byte adds
pair_front : (e n : Bool) (b : ℕ) (t : List ℕ)
    → (if e then b ∷ t else if n then 10 ∷ t else 92 ∷ b ∷ t) ≡ (if e then b ∷ [] else if n then 10 ∷ [] else 92 ∷ b ∷ []) ++ t
pair_front true n b t = refl
pair_front false true b t = refl
pair_front false false b t = refl

plain_front : (e : Bool) (b : ℕ) (loose : Bool) (t : List ℕ)
    → (if e then unescaped_from loose true t else b ∷ unescaped_from loose false t) ≡ (if e then [] else b ∷ []) ++ unescaped_from loose e t
plain_front true b loose t = refl
plain_front false b loose t = refl

byte_adds : (loose taken : Bool) (b : ℕ) (t : List ℕ)
    → unescaped_from loose taken (b ∷ t) ≡ adds loose taken b ++ unescaped_from loose (not taken && eqb b 92) t
unfolding unescaped_from
byte_adds loose true b t = pair_front (is_escaped b) (loose && eqb b 110) b (unescaped_from loose false t)
byte_adds loose false b t = plain_front (eqb b 92) b loose t

-- the writes of what `turn` answered
module _ (added : Added) where
  pub added_none : added ≡ Nothing → (o : List ℕ) (at : ℕ) → Wrote o at (bytes_of added) at o
  added_none e o at = rw e (wrote_none o at)

  module _ (b : ℕ) where
    pub added_fits : added ≡ One b → (o : List ℕ) (at : ℕ) → Fits o at (bytes_of added) → Fits o at (b ∷ [])
    added_fits e o at f = rw e at f

    pub added_one : added ≡ One b → (o : List ℕ) (at n : ℕ) (q : List ℕ) → Wrote o at (b ∷ []) n q → Wrote o at (bytes_of added) n q
    added_one e o at n q w = rw e w

    pub added_pair : added ≡ Pair b → Two (92 ∷ []) (b ∷ []) (bytes_of added)
    added_pair e = record { is = rw e }

pub ruleset added_laws = (added_none, added_fits, added_one, added_pair, two_laws)

-- a byte that adds nothing is a backslash, and takes the next
taken_next : (loose taken : Bool) (x : ℕ) → eqb (length (adds loose taken x)) 0 ≡ (not taken && eqb x 92)
taken_next loose true x = pair (is_escaped x) (loose && eqb x 110)
  where
    pair : (e n : Bool) → eqb (length (if e then x ∷ [] else if n then 10 ∷ [] else 92 ∷ x ∷ [])) 0 ≡ false
    pair true n = refl
    pair false true = refl
    pair false false = refl
taken_next loose false x = plain (eqb x 92)
  where
    plain : (e : Bool) → eqb (length (if e then [] else x ∷ [])) 0 ≡ e
    plain true = refl
    plain false = refl

pub takes_next : (loose taken : Bool) (x : ℕ) (b : Added) → bytes_of b ≡ adds loose taken x → (next : Bool) → next ≡ eqb (length (bytes_of b)) 0
    → next ≡ (not taken && eqb x 92)
takes_next loose taken x b eb next e = e ∙ ap (λ (l : List ℕ). eqb (length l) 0) eb ∙ taken_next loose taken x

-- a byte adds at most itself, and a backslash that was kept back for it
abbrev kept : Bool → ℕ
kept taken = if taken then 1 else 0

adds_le : (loose taken : Bool) (b : ℕ) → length (adds loose taken b) + kept (not taken && eqb b 92) ≤ 1 + kept taken
adds_le loose true b = pair (is_escaped b) (loose && eqb b 110)
  where
    pair : (e n : Bool) → length (if e then b ∷ [] else if n then 10 ∷ [] else 92 ∷ b ∷ []) + 0 ≤ 1 + 1
    pair true n = omega arith
    pair false true = omega arith
    pair false false = omega arith
adds_le loose false b = by_test (λ e. length (if e then [] else b ∷ []) + kept e ≤ 1 + 0) (eqb b 92) (λ e. omega arith) (λ e. omega arith)

from_le : (loose taken : Bool) (v : List ℕ) → length (unescaped_from loose taken v) ≤ length v + kept taken
unfolding unescaped_from
from_le loose false [] = omega arith
from_le loose true [] = by_test (λ b. length (if b then [] else 92 ∷ []) ≤ 0 + 1) loose (λ e. omega arith) (λ e. omega arith)
from_le loose taken (b ∷ v) =
    omega (
      arith,
      ap length (byte_adds loose taken b v),
      length-append (adds loose taken b) (unescaped_from loose (not taken && eqb b 92) v),
      adds_le loose taken b,
      from_le loose (not taken && eqb b 92) v,
    )

-- what lookup gives is never longer than the value
pub unescaped_le : (loose : Bool) (v : List ℕ) → length (unescaped loose v) ≤ length v
unescaped_le loose v = omega (arith, from_le loose false v)

-- the walk: what comes next, and the rest after it
module _ (v : List ℕ) (loose taken : Bool) (i : ℕ) (b : Added) where
  next_two : i < length v → bytes_of b ≡ adds loose taken (get_or v i 0)
      → Two (bytes_of b) (unescaped_from loose (not taken && eqb (get_or v i 0) 92) (drop (i + 1) v)) (unescaped_from loose taken (drop i v))
  next_two h e = record { is = rw e (sym (ap (unescaped_from loose taken) (step v i h) ∙ byte_adds loose taken (get_or v i 0) (drop (i + 1) v))) }

  tail_two : length v ≤ i → bytes_of b ≡ unescaped_from loose taken [] → Two (bytes_of b) [] (unescaped_from loose taken (drop i v))
  tail_two h e = record { is = append-nil (bytes_of b) ∙ e ∙ sym (ap (unescaped_from loose taken) (ended v i h)) }

-- the length: `n` so far, and `m` for what comes next
module _ (v : List ℕ) (loose taken : Bool) (n i : ℕ) (inv : n + length (unescaped_from loose taken (drop i v)) ≡ length (unescaped loose v))
    (b : Added) (m : ℕ) (em : m ≡ length (bytes_of b)) where
  count : (y : List ℕ) → Two (bytes_of b) y (unescaped_from loose taken (drop i v)) → n + m + length y ≡ length (unescaped loose v)
  count y d = omega (arith, ap length d.is, length-append (bytes_of b) y)

  module _ (h : i < length v) (eb : bytes_of b ≡ adds loose taken (get_or v i 0)) where
    pub len_more : (next : Bool) → next ≡ (not taken && eqb (get_or v i 0) 92) → n + m + length (unescaped_from loose next (drop (i + 1) v)) ≡ length (unescaped loose v)
    len_more next en = rw en (count _ (next_two v loose taken i b h eb))

    pub len_fits : length v < 2 ^ 64 → val.Fits w64 (n + m)
    len_fits l = record { fits = omega (arith, len_more _ refl, unescaped_le loose v) }

  module _ (h : length v ≤ i) (eb : bytes_of b ≡ unescaped_from loose taken []) where
    pub len_all : n + m ≡ length (unescaped loose v)
    len_all = omega (arith, count [] (tail_two v loose taken i b h eb))

    pub len_all_fits : length v < 2 ^ 64 → val.Fits w64 (n + m)
    len_all_fits l = record { fits = omega (arith, len_all, unescaped_le loose v) }

pub ruleset len_laws = (takes_next, len_more, len_fits, len_all, len_all_fits)

-- a text that is due from `at` on in `o`: with `t` from `a` on, where it fits, `p` holds it
pub record Due (o : List ℕ) (at : ℕ) (text p : List ℕ) (a : ℕ) (t : List ℕ) : Type 0 where
  pub owes : Owes o at text p a t
  pub room : Fits p a t
  pub ends : a + length t ≡ at + length text

pub due_all : (o : List ℕ) (at : ℕ) (text : List ℕ) → Fits o at text → Due o at text o at text
due_all o at text f = record { owes = owes_all o at text; room = f; ends = refl }

module _ (o : List ℕ) (at : ℕ) (text p : List ℕ) (a : ℕ) where
  due_none : Due o at text p a [] → Wrote o at text a p
  due_none w = record { behind = omega (arith, w.ends); holds = sym (written_none p a) ∙ w.owes.owed }

  module _ (x y t : List ℕ) (w : Due o at text p a t) (d : Two x y t) where
    due_fits : Fits p a x
    due_fits = first_fits x y t p a w.room d

    due_rest : (n : ℕ) (q : List ℕ) → Wrote p a x n q → Due o at text q n y
    due_rest n q v =
        record {
          owes =
              record {
                same = wrote_length v due_fits.fits ∙ w.owes.same;
                owed = rw (v.holds, v.behind, written_more p a x y due_fits.fits, d.is) w.owes.owed;
              };
          room = second_fits x y t p a w.room d n q v;
          ends = omega (arith, w.ends, v.behind, ap length d.is, length-append x y);
        }

-- the writes: up to `a` so far
module _ (v : List ℕ) (loose taken : Bool) (i : ℕ) (o : List ℕ) (at : ℕ) (p : List ℕ) (a : ℕ) (w : Due o at (unescaped loose v) p a (unescaped_from loose taken (drop i v))) (b : Added) where
  module _ (h : i < length v) (eb : bytes_of b ≡ adds loose taken (get_or v i 0)) where
    pub put_fits : Fits p a (bytes_of b)
    put_fits = due_fits o at _ p a _ _ _ w (next_two v loose taken i b h eb)

    pub put_more : (n : ℕ) (q : List ℕ) → Wrote p a (bytes_of b) n q → (next : Bool) → next ≡ (not taken && eqb (get_or v i 0) 92)
        → Due o at (unescaped loose v) q n (unescaped_from loose next (drop (i + 1) v))
    put_more n q e next en = rw en (due_rest o at _ p a _ _ _ w (next_two v loose taken i b h eb) n q e)

  module _ (h : length v ≤ i) (eb : bytes_of b ≡ unescaped_from loose taken []) where
    pub put_all_fits : Fits p a (bytes_of b)
    put_all_fits = due_fits o at _ p a _ _ _ w (tail_two v loose taken i b h eb)

    pub put_all : (n : ℕ) (q : List ℕ) → Wrote p a (bytes_of b) n q → Wrote o at (unescaped loose v) n q
    put_all n q e = due_none o at _ q n (due_rest o at _ p a _ _ _ w (tail_two v loose taken i b h eb) n q e)

pub ruleset put_laws = (due_all, takes_next, put_fits, put_more, put_all_fits, put_all)
