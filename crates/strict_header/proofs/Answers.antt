-- The answers of the code and what was found.
use Rattle.std.specs.Prelude as std
use Rattle.std.specs.Prelude.{Some, None}
use Prim.Native.Nat.{ℕ, ◌+◌}
use mathlib.Core.Path.{◌≡◌, refl, sym, ap, ◌∙◌}
use mathlib.Core.Bool.{true, false}
use mathlib.Core.List.{List}
use mathlib.Core.Option.{Option}
use lib.IntN.{ℤ}
use lib.ListN.{length}
use Rattle.base.proofs.Tests.{clash}
use Rattle.base.proofs.Pairs.{pair_first, pair_second, some_first, some_second}
use Rattle.digits.specs.Digits.{decimal}
use Rattle.grammar.specs.Parse.{Parsed, Reader, Three, Names}
use Rattle.grammar.specs.Parse.Parsed.{failed, found}
use Rattle.grammar.specs.Line.{Offset, Timestamp}
use Rattle.grammar.specs.Reading.{place_of, offset_of, nanos_of, digits_of, stamp_of}
use Rattle.record.specs.declared.Place.{Place}
use Rattle.strict_header.specs.Pieces.{value_of, pair, triple, ending, ids_at, names_at}
use Rattle.strict_header.proofs.Steps.{Fails, Finds, finds_so}

-- What an answer m of the code is where nothing is found, and what was found, from the answer.
module _ {A R : Type 0} (m : Parsed A → R) {p : Reader A} {s : List ℕ} where
  pub failed_answer : Fails p s → m failed ≡ m (p s)
  failed_answer w = ap m (sym w.is)

  pub found_answer : {P : A → Type 0} {n : ℕ} {x : R} → Finds P n p s → ((a : A) → P a → x ≡ m (found a n)) → x ≡ m (p s)
  found_answer w h = h w.value w.has ∙ ap m (sym w.is)

  module _ {r : R} (e : r ≡ m (p s)) where
    pub none_found : ((a : A) (n : ℕ) → r ≡ m (found a n) → ⊥) → Fails p s
    none_found h = go (p s) refl e
      where
        go : (x : Parsed A) → p s ≡ x → r ≡ m x → Fails p s
        go failed q g = record { is = q }
        go (found a n) q g = absurd (h a n g)

    pub some_found : {P : A → Type 0} {n : ℕ} → (r ≡ m failed → ⊥) → ((a : A) (k : ℕ) → r ≡ m (found a k) → (k ≡ n) × P a) → Finds P n p s
    some_found {P} {n} h k = go (p s) refl e
      where
        go : (x : Parsed A) → p s ≡ x → r ≡ m x → Finds P n p s
        go failed q g = absurd (h g)
        go (found a l) q g = let f = k a l g in record { value = a; is = q ∙ ap (found a) f.0; has = f.1 }

module _ {A B : Type 0} (f : A → B) {p : Reader A} {s : List ℕ} where
  pub value_found : {v : B} {n : ℕ} → Finds (λ a. f a ≡ v) n p s → Some (v, n) ≡ value_of f (p s)
  value_found w = found_answer (value_of f) w (λ a h. rw h)

  module _ {r : std.Option (B × ℕ)} (e : r ≡ value_of f (p s)) where
    pub value_none : r ≡ None → Fails p s
    value_none h = none_found (value_of f) e (λ a n q. let z : true ≡ false = cc in clash z)

    pub value_some : {v : B} {n : ℕ} → r ≡ Some (v, n) → Finds (λ a. f a ≡ v) n p s
    value_some h = some_found (value_of f) e (λ q. let z : true ≡ false = cc in clash z) (λ a k q. (some_second (sym q ∙ h), some_first (sym q ∙ h)))

abbrev pub Pair : ℕ → ℕ → List ℕ × List ℕ → Type 0
Pair a b t = (decimal t.0 ≡ a) × (decimal t.1 ≡ b)

module _ {p : Reader (List ℕ × List ℕ)} {s : List ℕ} where
  pub pair_found : {x y n : ℕ} → Finds (Pair x y) n p s → Some ((x, y), n) ≡ value_of pair (p s)
  pair_found w = value_found pair (finds_so w (λ t h. rw (h.0, h.1)))

  module _ {r : std.Option ((ℕ × ℕ) × ℕ)} (e : r ≡ value_of pair (p s)) where
    pub pair_some : {x y n : ℕ} → r ≡ Some ((x, y), n) → Finds (Pair x y) n p s
    pair_some h = finds_so (value_some pair e h) (λ t q. (pair_first q, pair_second q))

abbrev pub Triple : ℕ → ℕ → ℕ → Three → Type 0
Triple a b c t = (decimal t.0 ≡ a) × Pair b c t.1

module _ {p : Reader Three} {s : List ℕ} where
  pub triple_found : {x y z n : ℕ} → Finds (Triple x y z) n p s → Some ((x, y, z), n) ≡ value_of triple (p s)
  triple_found w = value_found triple (finds_so w (λ t h. rw (h.0, h.1.0, h.1.1)))

  module _ {r : std.Option ((ℕ × ℕ × ℕ) × ℕ)} (e : r ≡ value_of triple (p s)) where
    pub triple_some : {x y z n : ℕ} → r ≡ Some ((x, y, z), n) → Finds (Triple x y z) n p s
    triple_some h = finds_so (value_some triple e h) (λ t q. (ap (λ (k : ℕ × ℕ × ℕ). k.0) q, (ap (λ (k : ℕ × ℕ × ℕ). k.1) q, ap (λ (k : ℕ × ℕ × ℕ). k.2) q)))

abbrev pub Ending : ℕ → ℕ → ℤ → Option (List ℕ) × Offset → Type 0
Ending v d z t = ((nanos_of t.0 ≡ v) × (digits_of t.0 ≡ d)) × (offset_of t.1 ≡ z)

module _ {p : Reader (Option (List ℕ) × Offset)} {s : List ℕ} where
  pub ending_found : {v d n : ℕ} {z : ℤ} → Finds (Ending v d z) n p s → Some ((v, d, z), n) ≡ value_of ending (p s)
  ending_found w = value_found ending (finds_so w (λ t h. rw (h.0.0, h.0.1, h.1)))

  module _ {r : std.Option ((ℕ × ℕ × ℤ) × ℕ)} (e : r ≡ value_of ending (p s)) where
    pub ending_some : {v d n : ℕ} {z : ℤ} → r ≡ Some ((v, d, z), n) → Finds (Ending v d z) n p s
    ending_some h = finds_so (value_some ending e h) (λ t q. ((ap (λ (k : ℕ × ℕ × ℤ). k.0) q, ap (λ (k : ℕ × ℕ × ℤ). k.1) q), ap (λ (k : ℕ × ℕ × ℤ). k.2) q))

abbrev pub Ids : ℕ → Place → Place → List ℕ × List ℕ → Type 0
Ids at x y t = (place_of at t.0 ≡ x) × (place_of (at + length t.0 + 1) t.1 ≡ y)

module _ (at : ℕ) {p : Reader (List ℕ × List ℕ)} {s : List ℕ} where
  pub ids_found : {x y : Place} {n : ℕ} → Finds (Ids at x y) n p s → Some ((x, y), n) ≡ value_of (ids_at at) (p s)
  ids_found w = value_found (ids_at at) (finds_so w (λ t h. rw (h.0, h.1)))

  module _ {r : std.Option ((Place × Place) × ℕ)} (e : r ≡ value_of (ids_at at) (p s)) where
    pub ids_some : {x y : Place} {n : ℕ} → r ≡ Some ((x, y), n) → Finds (Ids at x y) n p s
    ids_some h = finds_so (value_some (ids_at at) e h) (λ t q. (pair_first q, pair_second q))

abbrev pub Four : ℕ → Place → Place → Place → Place → Names → Type 0
Four at x y z w t =
    let app = at + length t.0 + 1 in
    (place_of at t.0 ≡ x) × ((place_of app t.1.0 ≡ y) × Ids (app + length t.1.0 + 1) z w t.1.1)

abbrev Places : Type 0
Places = Place × Place × Place × Place

module _ (at : ℕ) {p : Reader Names} {s : List ℕ} where
  pub names_found : {x y z w : Place} {n : ℕ} → Finds (Four at x y z w) n p s → Some ((x, y, z, w), n) ≡ value_of (names_at at) (p s)
  names_found f = value_found (names_at at) (finds_so f (λ t h. rw (h.0, h.1.0, h.1.1.0, h.1.1.1)))

  module _ {r : std.Option (Places × ℕ)} (e : r ≡ value_of (names_at at) (p s)) where
    pub names_some : {x y z w : Place} {n : ℕ} → r ≡ Some ((x, y, z, w), n) → Finds (Four at x y z w) n p s
    names_some h =
        finds_so (value_some (names_at at) e h) (λ t q. (ap (λ (k : Places). k.0) q, (ap (λ (k : Places). k.1) q, (ap (λ (k : Places). k.2) q, ap (λ (k : Places). k.3) q))))
