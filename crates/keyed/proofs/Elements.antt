-- The parameters of all elements, one element after the other.
use Prim.Native.Nat.{ℕ, ◌+◌, ◌≤◌, ◌<◌}
use mathlib.Core.Path.{◌≡◌, refl, sym, ap, ◌∙◌, subst}
use mathlib.Core.List.{List, [], ◌∷◌, ◌++◌, append_assoc, append-nil}
use native.Mathlib.Omega.{arith}
use native.Mathlib.Numerals.{add-one}
use lib.ListN.{length, get_or, drop, length-append, drop_of_length-le}
use lib.Seq.{drop-cons}
use Rattle.parsers.specs.Steps.{blanks_from}
use Rattle.parsers.proofs.Steps.{blanks_within}
use Rattle.message.specs.Rooms.{param_size}
use Rattle.bounds.proofs.Data.{total_append}
use Rattle.keyed.specs.Notes.{Roomed, Notes, rows_at, rows_from, Listed}
use Rattle.keyed.specs.declared.Texts.{Texts}
use Rattle.keyed.proofs.Notes.{notes_none, notes_then, room_left}

rows_step : (ids : List (List ℕ)) (i : ℕ) → i < length ids → drop i ids ≡ get_or ids i [] ∷ drop (i + 1) ids
rows_step ids i h = rw (add-one, drop-cons ids i [])

-- room for the first of some
room_front : (a b : List (List ℕ)) (t : Texts) → Roomed (a ++ b) t → Roomed a t
room_front a b t r = record { fits = omega (arith, total_append param_size a b, r.fits); small = r.small; many = omega (arith, length-append a b, r.many) }

-- the parameters of the first i elements are noted
pub record Walking (s : List ℕ) (ids : List (List ℕ)) (t t' : Texts) (i : ℕ) : Type 0 where
  pub passed : List (List ℕ)
  pub left : rows_from s 0 ids ≡ passed ++ rows_from s i (drop i ids)
  pub notes : Notes s passed t t'

module _ (s : List ℕ) (ids : List (List ℕ)) (t : Texts) where
  pub walking_none : Walking s ids t t 0
  walking_none = record { passed = []; left = refl; notes = notes_none s t }

  module _ (t' : Texts) (i : ℕ) (c : Walking s ids t t' i) where
    pub walking_all : length ids ≤ i → Notes s (rows_from s 0 ids) t t'
    unfolding rows_from
    walking_all h =
        let z : rows_from s 0 ids ≡ c.passed = c.left ∙ ap (λ (l : List (List ℕ)). c.passed ++ rows_from s i l) (drop_of_length-le ids {i = i} h) ∙ append-nil c.passed in
        rw z c.notes

    module _ (h : i < length ids) (from : ℕ) (ef : from ≡ blanks_from s (get_or (get_or ids i []) 0 0 + get_or (get_or ids i []) 1 0)) where
      pub walking_from : Listed s ids (length ids) → from ≤ length s
      walking_from a = blanks_within s _ from ef (a.inside i h)

      next_left : rows_from s 0 ids ≡ (c.passed ++ rows_at s i from) ++ rows_from s (i + 1) (drop (i + 1) ids)
      unfolding rows_from
      next_left =
          c.left
          ∙ ap (λ (l : List (List ℕ)). c.passed ++ rows_from s i l) (rows_step ids i h)
          ∙ ap (λ (f : ℕ). c.passed ++ (rows_at s i f ++ rows_from s (i + 1) (drop (i + 1) ids))) (sym ef)
          ∙ sym (append_assoc c.passed (rows_at s i from) (rows_from s (i + 1) (drop (i + 1) ids)))

      pub walking_room : Roomed (rows_from s 0 ids) t → Roomed (rows_at s i from) t'
      walking_room r =
          room_front (rows_at s i from) (rows_from s (i + 1) (drop (i + 1) ids)) t'
          (room_left s c.passed _ t t' c.notes
          (subst (λ (l : List (List ℕ)). Roomed l t) (next_left ∙ append_assoc c.passed (rows_at s i from) (rows_from s (i + 1) (drop (i + 1) ids))) r))

      pub walking_on : (t'' : Texts) → Notes s (rows_at s i from) t' t'' → Walking s ids t t'' (i + 1)
      walking_on t'' w = record { passed = c.passed ++ rows_at s i from; left = next_left; notes = notes_then s c.passed (rows_at s i from) t t' c.notes t'' w }
