-- The names of the header.
use Rattle.std.specs.Prelude.{Some, None}
use Rattle.std.specs.Prelude as std
use Prim.Native.Nat.{ℕ, zero, suc, ◌+◌, ◌-◌, ◌^◌, ◌≤◌, ◌<◌}
use mathlib.Core.Path.{◌≡◌, refl, sym, ap, ◌∙◌}
use mathlib.Core.Bool.{Bool, true, false, not, ◌&&◌}
use mathlib.Core.List.{List, [], ◌∷◌}
use native.Mathlib.Omega.{arith}
use lib.Dec.{leb, eqb}
use lib.ListN.{length, take, drop, length-append, length-drop}
use lib.Seq.{length-take-le, get_or-take}
use mir.Syntax.{w64}
use mir.Val.{Fits}
use borrow.Author.Tests.{not-true, not-false}
use Rattle.base.specs.Choose.{is_at}
use Rattle.base.specs.Runs.{run}
use Rattle.base.proofs.Runs.{run_le}
use Rattle.base.proofs.Tests.{told}
use Rattle.grammar.specs.Abnf.{print_us_ascii}
use Rattle.grammar.specs.Parse.{◌next◌, repeat, printable, names}
use Rattle.grammar.specs.Reading.{place_of}
use Rattle.grammar.proofs.Header.{printable_reads}
use Rattle.record.specs.Places.{absent, place}
use Rattle.record.specs.declared.Place.{Place}
use Rattle.strict_header.specs.Pieces.{value_of, plain_to, minutes_of, pair, triple, ending, ids_at, names_at, text_at}
use Rattle.strict_header.proofs.Steps.{untold, past_there, sum_fits, Finds, finds_so, finds_within, finds_ok, next_within, closed_failed, closed_open, closed_found, next_failed, next_not, next_found}
use Rattle.strict_header.proofs.Answers.{value_found, value_none, value_some, failed_answer, ids_found, ids_some, names_found}

-- ---- the place of a text

-- "-" from the bytes themselves
dash : (s : List ℕ) (n : ℕ) → n ≤ length s → (eqb (length (take n s)) 1 && is_at (take n s) 0 45) ≡ (eqb n 1 && is_at s 0 45)
dash s zero h = refl
dash s (suc n) h = rw (length-take-le (suc n) s h, get_or-take (suc n) s 0 0 (omega arith))

module _ (s : List ℕ) (at n : ℕ) (h : n ≤ length s) (t : Bool) (et : t ≡ is_at s 0 45) (x : Place) where
  pub place_absent : (eqb n 1 && t) ≡ true → x ≡ absent → x ≡ place_of at (take n s)
  place_absent k e = rw (dash s n h, ← et, k) e

  pub place_is : (eqb n 1 && t) ≡ false → x ≡ place at n → x ≡ place_of at (take n s)
  place_is k e = rw (dash s n h, ← et, k, length-take-le n s h) e

pub ruleset place_laws = (place_absent, place_is)

-- ---- a field and its space

module _ (s : List ℕ) (at most n : ℕ) (en : n ≡ run print_us_ascii s) where
  pub field_in : n ≤ length s
  field_in = rw en (run_le print_us_ascii s)

  pub field_size : not (leb 1 n && leb n most) ≡ true → None ≡ value_of (place_of at) (printable most s)
  unfolding repeat
  field_size h = failed_answer (value_of (place_of at)) (closed_failed {p = repeat most print_us_ascii} (record { is = rw (← en, not-true (leb 1 n && leb n most) h) }) 32)

  module _ (h : not (leb 1 n && leb n most) ≡ false) (t : Bool) (et : t ≡ is_at s n 32) where
    bytes : Finds (λ u. take n s ≡ u) n (repeat most print_us_ascii) s
    unfolding repeat
    bytes = record { value = take n s; is = rw (← en, not-false (leb 1 n && leb n most) h); has = refl }

    pub field_open : not t ≡ true → None ≡ value_of (place_of at) (printable most s)
    field_open k = failed_answer (value_of (place_of at)) (closed_open bytes 32 (untold t _ et k))

    pub field_is : not t ≡ false → (x : Place) → x ≡ place_of at (take n s) → Some (x, (n + 1)) ≡ value_of (place_of at) (printable most s)
    field_is k x e = value_found (place_of at) (finds_so (closed_found bytes 32 (told t _ et k)) (λ u q. sym (e ∙ ap (place_of at) q)))

pub field_fits : (s : List ℕ) (n : ℕ) → n ≡ run print_us_ascii s → (t : Bool) → t ≡ is_at s n 32 → not t ≡ false → length s < 2 ^ 64 → Fits w64 (n + 1)
field_fits s n en t et k l = past_there s n 32 t et k (omega arith) l

pub ruleset field_laws = (field_in, field_fits, field_size, field_open, field_is)

-- ---- fields one after the other

-- a field, and how many bytes its text has
module _ (s : List ℕ) (at most : ℕ) (f : std.Option (Place × ℕ)) (ef : f ≡ value_of (place_of at) (printable most s)) (x : Place) (n : ℕ) (hf : f ≡ Some (x, n)) where
  pub field_text_lem : Finds (λ t. (place_of at t ≡ x) × (n ≡ length t + 1)) n (printable most) s
  field_text_lem = finds_so (finds_ok (value_some (place_of at) ef hf) (printable_reads most)) (λ t w. (w.0, w.2 ∙ length-append t (32 ∷ [])))

  pub field_within : n ≤ length s
  field_within = finds_within (value_some (place_of at) ef hf) (printable_reads most)

  pub field_after : at + length s < 2 ^ 64 → Fits w64 (at + n)
  field_after h = record { fits = omega (arith, field_within) }

-- a place after a field lies within the line
pub place_after : (s r : List ℕ) (at n : ℕ) → n ≤ length s → r ≡ drop n s → at + length s < 2 ^ 64 → at + n + length r < 2 ^ 64
place_after s r at n h e k = let l : length r ≡ length s - n = ap length e ∙ length-drop n s in omega arith

module _ (s : List ℕ) (at : ℕ) (f : std.Option (Place × ℕ)) (ef : f ≡ value_of (place_of at) (printable 128 s)) where
  pub ids_no_first : f ≡ None → None ≡ value_of (ids_at at) ((printable 128 next printable 32) s)
  ids_no_first e = failed_answer (value_of (ids_at at)) (next_failed (value_none (place_of at) ef e) (printable 32))

  module _ (x : Place) (m : ℕ) (hf : f ≡ Some (x, m)) (r : List ℕ) (er : r ≡ drop m s) (g : std.Option (Place × ℕ)) (eg : g ≡ value_of (place_of (at + m)) (printable 32 r)) where
    pub ids_no_second : g ≡ None → None ≡ value_of (ids_at at) ((printable 128 next printable 32) s)
    ids_no_second e = failed_answer (value_of (ids_at at)) (next_not (value_some (place_of at) ef hf) er (value_none (place_of (at + m)) eg e))

    pub ids_are : (y : Place) (n : ℕ) → g ≡ Some (y, n) → Some ((x, y), (m + n)) ≡ value_of (ids_at at) ((printable 128 next printable 32) s)
    ids_are y n e =
        ids_found at
        (finds_so (next_found (field_text_lem s at 128 f ef x m hf) er (value_some (place_of (at + m)) eg e))
        (λ t w. (w.0.0, (let q : at + length t.0 + 1 ≡ at + m = omega (arith, w.0.1) in rw q w.1))))

pub ruleset ids_laws = (field_within, field_after, sum_fits, ids_no_first, ids_no_second, ids_are)

module _ (s : List ℕ) (at : ℕ) (f : std.Option ((Place × Place) × ℕ)) (ef : f ≡ value_of (ids_at at) ((printable 128 next printable 32) s)) (x y : Place) (n : ℕ) (hf : f ≡ Some ((x, y), n)) where
  pub ids_within : n ≤ length s
  ids_within = next_within (printable_reads 128) (printable_reads 32) (ids_some at ef hf)

module _ (s : List ℕ) (at : ℕ) (f : std.Option (Place × ℕ)) (ef : f ≡ value_of (place_of at) (printable 255 s)) where
  pub names_no_host : f ≡ None → None ≡ value_of (names_at at) (names s)
  unfolding names
  names_no_host e = failed_answer (value_of (names_at at)) (next_failed (value_none (place_of at) ef e) _)

  module _ (x : Place) (a : ℕ) (hf : f ≡ Some (x, a)) (r₁ : List ℕ) (e₁ : r₁ ≡ drop a s) (g : std.Option (Place × ℕ)) (eg : g ≡ value_of (place_of (at + a)) (printable 48 r₁)) where
    pub names_no_app : g ≡ None → None ≡ value_of (names_at at) (names s)
    unfolding names
    names_no_app e = failed_answer (value_of (names_at at)) (next_not (value_some (place_of at) ef hf) e₁ (next_failed (value_none (place_of (at + a)) eg e) _))

    module _ (y : Place) (b : ℕ) (hg : g ≡ Some (y, b)) (r₂ : List ℕ) (e₂ : r₂ ≡ drop b r₁) where
      pub app_after : at + length s < 2 ^ 64 → Fits w64 (at + a + b)
      app_after h =
          field_after r₁ (at + a) 48 g eg y b hg (place_after s r₁ at a (field_within s at 255 f ef x a hf) e₁ h)

      pub ids_place : at + length s < 2 ^ 64 → at + a + b + length r₂ < 2 ^ 64
      ids_place h =
          place_after r₁ r₂ (at + a) b (field_within r₁ (at + a) 48 g eg y b hg) e₂ (place_after s r₁ at a (field_within s at 255 f ef x a hf) e₁ h)

      module _ (k : std.Option ((Place × Place) × ℕ)) (ek : k ≡ value_of (ids_at (at + a + b)) ((printable 128 next printable 32) r₂)) where
        pub names_no_ids : k ≡ None → None ≡ value_of (names_at at) (names s)
        unfolding names
        names_no_ids e = failed_answer (value_of (names_at at)) (next_not (value_some (place_of at) ef hf) e₁ (next_not (value_some (place_of (at + a)) eg hg) e₂ (value_none (ids_at (at + a + b)) ek e)))

        pub names_are : (z v : Place) (c : ℕ) → k ≡ Some ((z, v), c) → Some ((x, y, z, v), (a + (b + c))) ≡ value_of (names_at at) (names s)
        unfolding names
        names_are z v c e =
            names_found at
            (finds_so (next_found (field_text_lem s at 255 f ef x a hf) e₁ (next_found (field_text_lem r₁ (at + a) 48 g eg y b hg) e₂ (ids_some (at + a + b) ek e)))
            (λ t w.
            let p : at + length t.0 + 1 ≡ at + a = omega (arith, w.0.1) in
            let q : at + a + length t.1.0 + 1 ≡ at + a + b = omega (arith, w.1.0.1) in
            (w.0.0, rw (p, q) (w.1.0.0, w.1.1))))

pub ruleset names_laws = (field_within, field_after, app_after, ids_place, names_no_host, names_no_app, names_no_ids, names_are)
