-- The places of ids, as they are noted, and what they tell.
use Prim.Native.Nat.{ℕ, zero, suc, ◌+◌, ◌*◌, ◌^◌, ◌≤◌, ◌<◌}
use mathlib.Core.Path.{◌≡◌, refl, sym, ap, ap₂, ◌∙◌}
use mathlib.Core.Bool.{Bool, true, false, not, ◌||◌}
use mathlib.Core.List.{List, [], ◌∷◌, ◌++◌}
use native.Mathlib.Decide.{dec_le}
use native.Mathlib.Omega.{arith}
use lib.Dec.{eqb}
use lib.ListN.{length, get_or, set, take, drop, replicate, length-set, length-replicate}
use lib.Seq.{get_or-set_same, get_or-set_other, get_or-take, length-take-le}
use borrow.Author.Tests.{not-true}
use Rattle.base.specs.Texts.{text_at, same_text, is_in, all_different}
use Rattle.base.proofs.Tests.{clash, both, by_test}
use Rattle.distinct.specs.Distinct.{id_of, Rows, FirstRepeat}
use Rattle.distinct.specs.Tree.{Asked}
use Rattle.distinct.proofs.Repeats.{first_tells}
use Rattle.claims.specs.Holds.{ids_at}
use Rattle.claim_data.specs.Ids.{Ids, Notable, Noted, Spacious}

pub note_start : (ids : List (List ℕ)) (starts lens : List ℕ) → Noted ids 0 starts lens starts lens
note_start ids starts lens = record { starts_kept = refl; lens_kept = refl; starts_are = λ k l. absurd (omega arith); lens_are = λ k l. absurd (omega arith) }

module _ (ids : List (List ℕ)) (i : ℕ) (starts₀ lens₀ starts lens : List ℕ) (n : Notable ids starts₀ lens₀) (w : Noted ids i starts₀ lens₀ starts lens) (h : i < length ids) where
  pub note_step : Noted ids (i + 1) starts₀ lens₀ (set starts i (get_or (get_or ids i []) 0 0)) (set lens i (get_or (get_or ids i []) 1 0))
  note_step =
      record {
        starts_kept = length-set starts i (get_or (get_or ids i []) 0 0) ∙ w.starts_kept;
        lens_kept = length-set lens i (get_or (get_or ids i []) 1 0) ∙ w.lens_kept;
        starts_are = λ k l. at_place starts 0 (omega (arith, n.starts_room, w.starts_kept)) w.starts_are k l;
        lens_are = λ k l. at_place lens 1 (omega (arith, n.lens_room, w.lens_kept)) w.lens_are k l;
      }
    where
      at_place : (table : List ℕ) (c : ℕ) → i < length table → ((k : ℕ) → k < i → get_or table k 0 ≡ get_or (get_or ids k []) c 0)
          → (k : ℕ) → k < i + 1 → get_or (set table i (get_or (get_or ids i []) c 0)) k 0 ≡ get_or (get_or ids k []) c 0
      at_place table c room same k l = go (dec_le i k)
        where
          go : Dec (i ≤ k) → get_or (set table i (get_or (get_or ids i []) c 0)) k 0 ≡ get_or (get_or ids k []) c 0
          go (yes p) = let e : k ≡ i = omega arith in rw e (get_or-set_same table i (get_or (get_or ids i []) c 0) 0 room)
          go (no p) = get_or-set_other table i k (get_or (get_or ids i []) c 0) 0 (λ e. p (omega arith)) ∙ same k (omega arith)

  pub note_start_fits : get_or (get_or ids i []) 0 0 < 2 ^ 16
  note_start_fits = omega (arith, n.starts_fit i h)

  pub note_len_fits : get_or (get_or ids i []) 1 0 < 2 ^ 8
  note_len_fits = omega (arith, n.lens_fit i h)

  pub note_start_inside : i < length starts
  note_start_inside = omega (arith, n.starts_room, w.starts_kept)

  pub note_len_inside : i < length lens
  note_len_inside = omega (arith, n.lens_room, w.lens_kept)

pub note_end : (ids : List (List ℕ)) (i : ℕ) (starts₀ lens₀ starts lens : List ℕ) → Noted ids i starts₀ lens₀ starts lens → i ≤ length ids → length ids ≤ i
    → Noted ids (length ids) starts₀ lens₀ starts lens
note_end ids i starts₀ lens₀ starts lens w p q = let e : length ids ≡ i = omega arith in rw e w

pub ruleset note_laws = (note_start, note_step, note_start_fits, note_len_fits, note_start_inside, note_len_inside, note_end)

-- ---- what they tell

module _ (line : List ℕ) where
  ids_length : (rows : List (List ℕ)) → length (ids_at line rows) ≡ length rows
  ids_length [] = refl
  ids_length (row ∷ rows) = ap suc (ids_length rows)

  ids_get : (rows : List (List ℕ)) (k : ℕ) → k < length rows → get_or (ids_at line rows) k [] ≡ text_at line (get_or (get_or rows k []) 0 0) (get_or (get_or rows k []) 1 0)
  ids_get [] k l = absurd (omega arith)
  ids_get (row ∷ rows) zero l = refl
  ids_get (row ∷ rows) (suc k) l = ids_get rows k (omega arith)

  ids_take : (rows : List (List ℕ)) (n : ℕ) → ids_at line rows ≡ ids_at line (take n rows) ++ ids_at line (drop n rows)
  ids_take rows zero = refl
  ids_take [] (suc n) = refl
  ids_take (row ∷ rows) (suc n) = ap (λ (l : List (List ℕ)). text_at line (get_or row 0 0) (get_or row 1 0) ∷ l) (ids_take rows n)

  module _ (ids : List (List ℕ)) (i : Ids line ids) (starts₀ lens₀ starts lens : List ℕ) where
    module _ (m : Notable ids starts₀ lens₀) (w : Noted ids (length ids) starts₀ lens₀ starts lens) where
      pub noted_rows : Rows line starts lens (length ids)
      noted_rows =
          record {
            starts_given = omega (arith, m.starts_room, w.starts_kept);
            lens_given = omega (arith, m.lens_room, w.lens_kept);
            inside = λ k l. omega (arith, i.inside k l, w.starts_are k l, w.lens_are k l);
          }

      pub noted_tell : (r : ℕ) → FirstRepeat (id_of line starts lens) (length ids) r → eqb r (length ids) ≡ all_different (ids_at line ids)
      noted_tell r f =
          first_tells (id_of line starts lens) (length ids) r f (ids_at line ids) (ids_length ids)
          (λ k l. ap₂ (λ (a b : ℕ). text_at line a b) (w.starts_are k l) (w.lens_are k l) ∙ sym (ids_get ids k l))

    module _ (depths kids : List ℕ) (m : Spacious ids starts₀ lens₀ depths kids) (w : Noted ids (length ids) starts₀ lens₀ starts lens) where
      pub tree_asked : Asked line starts lens (length ids) depths kids
      tree_asked = record { rows = noted_rows m.notable w; room = m.room; clear = m.clear }

      pub tree_tell : (r : ℕ) → FirstRepeat (id_of line starts lens) (length ids) r → eqb r (length ids) ≡ all_different (ids_at line ids)
      tree_tell r f = noted_tell m.notable w r f

  module _ (ids : List (List ℕ)) (i : Ids line ids) where
    -- tables of n entries that were just made
    pub made_notable : (n : ℕ) → length ids ≤ n → Notable ids (replicate n 0) (replicate n 0)
    made_notable n h =
        record {
          starts_room = simp length-replicate h;
          lens_room = simp length-replicate h;
          starts_fit = λ k l. omega (arith, i.inside k l, i.short);
          lens_fit = λ k l. omega (arith, i.names k l);
        }

    pub made_spacious : (n slots : ℕ) → length ids ≤ n → n < 65536 → 128 + 3 * n ≤ slots → Spacious ids (replicate n 0) (replicate n 0) (replicate n 0) (replicate slots 0)
    made_spacious n slots h f l =
        record {
          notable = made_notable n h;
          room = record { few = omega arith; depths_room = simp length-replicate h; slots_room = simp length-replicate (omega arith) };
          clear = zeros slots;
        }
      where
        zeros : (n q : ℕ) → ◌≡◌ {A = ℕ} (get_or (replicate n 0) q 0) 0
        zeros zero q = refl
        zeros (suc n) zero = refl
        zeros (suc n) (suc q) = zeros n q

    pub ids_most : length ids ≤ 2730
    ids_most = omega (arith, i.few, i.short)

    -- the first of them
    pub ids_front : (n : ℕ) → n < length ids → Ids line (take n ids)
    ids_front n h =
        let e : length (take n ids) ≡ n = length-take-le n ids (omega arith) in
        record {
          short = i.short;
          few = omega (arith, i.few);
          inside = λ k l. (let lk : k < n = omega arith in rw (get_or-take n ids k [] lk) (i.inside k (omega arith)));
          names = λ k l. (let lk : k < n = omega arith in rw (get_or-take n ids k [] lk) (i.names k (omega arith)));
        }

  in_front : (t : List ℕ) (a b : List (List ℕ)) → is_in t (a ++ b) ≡ false → is_in t a ≡ false
  in_front t [] b h = refl
  in_front t (u ∷ a) b h =
      by_test (λ x. (x || is_in t (a ++ b)) ≡ false → (x || is_in t a) ≡ false) (same_text t u) (λ _ q. clash q) (λ _ q. in_front t a b q) h

  differ_front : (a b : List (List ℕ)) → all_different (a ++ b) ≡ true → all_different a ≡ true
  differ_front [] b h = refl
  differ_front (t ∷ a) b h =
      let u = both (not (is_in t (a ++ b))) (all_different (a ++ b)) h in
      rw (in_front t a b (not-true (is_in t (a ++ b)) u.0), differ_front a b u.1)

  -- the first of them repeat already
  pub front_repeats : (ids : List (List ℕ)) (n : ℕ) (r : Bool) → r ≡ all_different (ids_at line (take n ids)) → not r ≡ true → false ≡ all_different (ids_at line ids)
  front_repeats ids n r e q =
      by_test (λ b. all_different (ids_at line ids) ≡ b → false ≡ b) (all_different (ids_at line ids))
      (λ _ h. clash (sym (differ_front (ids_at line (take n ids)) (ids_at line (drop n ids)) (ap all_different (sym (ids_take ids n)) ∙ h)) ∙ sym e ∙ not-true r q))
      (λ _ h. refl) refl

pub ruleset differ_laws = (noted_rows, noted_tell, tree_asked, tree_tell, ids_most, ids_front, front_repeats)
