-- The structured data, stored.
use Rattle.std.specs.Prelude.{if◌then◌else◌}
use Prim.Native.Nat.{ℕ, ◌+◌, ◌-◌, ◌^◌, ◌≤◌, ◌<◌}
use mathlib.Core.Path.{◌≡◌, refl, sym, ap, ◌∙◌}
use mathlib.Core.Bool.{true, false, ◌&&◌}
use mathlib.Core.List.{List, [], ◌∷◌}
use native.Mathlib.Decide.{dec_le}
use native.Mathlib.Omega.{arith}
use native.Mathlib.Numerals.{add-one}
use lib.Dec.{eqb}
use lib.ListN.{length, get_or, set, take, drop, length-set, length-append, length-take}
use lib.Seq.{sets, length-sets, take_all}
use mir.Syntax.{w64}
use mir.Val.{Fits}
use borrow.Author.Tests.{eqb-true, ne_eqb}
use Rattle.base.specs.Choose.{is_at}
use Rattle.base.proofs.Tests.{by_test}
use Rattle.structured_data.specs.Element.{params_from}
use Rattle.structured_data.specs.Data.{Rows, end_at, hyphen_at, data_from, rows_or}
use Rattle.structured_data.specs.Data.Data.{no_data, is_data}
use Rattle.structured_data.specs.Tables.{Room, Fills}
use Rattle.structured_data.specs.Steps.{walk_from, open_from, ends_list, Ends, Dead, Stop, Turns, Holds, Stores}
use Rattle.structured_data.specs.declared.Rules.{Rules}
use Rattle.structured_data.specs.declared.Open.{Open}
use Rattle.structured_data.specs.declared.Walk.{Walk}
use Rattle.structured_data.specs.declared.Turn.{Turn}
use Rattle.structured_data.proofs.Tables.{sets_append, sets_over, sets_filled}
use Rattle.structured_data.proofs.Elements.{opens}
use Rattle.structured_data.proofs.Walks.{params_reach}
use Rattle.structured_data.proofs.Items.{and_false}
use Rattle.structured_data.proofs.Hyphen.{hyphen_there}
use Rattle.structured_data.proofs.Lists.{left, param_rows, over, Follows, follows, ordered, unopened}
use Rattle.structured_data.proofs.Turning.{dead_none, stops_there, turn_taken, taken_closes}
use Rattle.structured_data.proofs.Counting.{closes}

-- The rows are those of the list of elements
nil : {A : Type 0} (l : List A) → length l ≡ 0 → l ≡ []
nil [] h = refl
nil (x ∷ l) h = absurd (omega arith)

pub record Listed (rules : Rules) (s : List ℕ) (at : ℕ) (rows : Rows) : Type 0 where
  pub elements : rows.elements ≡ (left rules s 0 at).elements
  pub params : rows.params ≡ (left rules s 0 at).params

pub listed : (rules : Rules) (s : List ℕ) (at : ℕ) → Listed rules s at (rows_or at (data_from rules s at))
unfolding data_from
listed rules s at =
    by_test (λ b. Listed rules s at (rows_or at (if b then is_data (end_at (at + 1)) else if eqb all.next at then no_data else is_data all))) (hyphen_at rules s at)
    (λ h.
    let u = unopened rules s 0 at (rw (eqb-true (get_or s at 0) 45 (hyphen_there rules s at h))) in
    record { elements = sym (ap (λ (x : Rows). x.elements) u); params = sym (ap (λ (x : Rows). x.params) u) })
    (λ h. by_test (λ b. Listed rules s at (rows_or at (if b then no_data else is_data all))) (eqb all.next at)
    (λ q.
    let o = ordered rules s 0 at in
    let z : length all.elements ≡ 0 = omega (arith, o.few, eqb-true all.next at q) in
    record { elements = sym (nil all.elements z); params = sym (nil all.params (o.bare z)) })
    (λ q. record { elements = refl; params = refl }))
  where
    all : Rows
    all = left rules s 0 at

take_few : (n : ℕ) (l : List (List ℕ)) → length (take n l) ≤ n
take_few n l = simp length-take (omega arith)

-- Stored so far, up to position `start`: the rows of `i` elements and `j` parameters
pub record Filling (rules : Rules) (s : List ℕ) (at e p : ℕ) (e₀ p₀ e₁ p₁ : List (List ℕ)) (i j start : ℕ) : Type 0 where
  pub line_fits : length s < 2 ^ 64
  pub elements_few : i ≤ start
  pub params_few : j ≤ start
  pub elements_are : e ≡ i + length (left rules s i start).elements
  pub params_are : p ≡ j + length (left rules s i start).params
  pub elements_same : length e₁ ≡ length e₀
  pub params_same : length p₁ ≡ length p₀
  pub elements_left : sets e₁ i (left rules s i start).elements ≡ sets e₀ 0 (left rules s 0 at).elements
  pub params_left : sets p₁ j (left rules s i start).params ≡ sets p₀ 0 (left rules s 0 at).params

module _ (rules : Rules) (s : List ℕ) (at e p : ℕ) (e₀ p₀ : List (List ℕ)) (room : Room rules s at e p e₀ p₀) where
  pub filling_none : length s < 2 ^ 64 → Filling rules s at e p e₀ p₀ e₀ p₀ 0 0 at
  filling_none g =
      let l = listed rules s at in
      record {
        line_fits = g;
        elements_few = omega arith;
        params_few = omega arith;
        elements_are = omega (arith, room.elements_are, ap length l.elements);
        params_are = omega (arith, room.params_are, ap length l.params);
        elements_same = refl;
        params_same = refl;
        elements_left = refl;
        params_left = refl;
      }

  module _ (e₁ p₁ : List (List ℕ)) (i j start : ℕ) (c : Filling rules s at e p e₀ p₀ e₁ p₁ i j start) where
    pub filled_all : e ≤ i → Fills rules s at e₀ p₀ e₁ p₁
    filled_all h =
        let l = listed rules s at in
        let z : length (left rules s i start).elements ≡ 0 = omega (arith, c.elements_are) in
        let n = nil (left rules s i start).elements z in
        let m = nil (left rules s i start).params ((ordered rules s i start).bare z) in
        record {
          elements =
              sym (ap (sets e₁ i) n)
              ∙ c.elements_left
              ∙ ap (sets e₀ 0) (sym l.elements)
              ∙ sets_filled (rows_or at (data_from rules s at)).elements e₀ (omega (arith, room.elements_are, room.elements_fit_lem));
          params =
              sym (ap (sets p₁ j) m)
              ∙ c.params_left
              ∙ ap (sets p₀ 0) (sym l.params)
              ∙ sets_filled (rows_or at (data_from rules s at)).params p₀ (omega (arith, room.params_are, room.params_fit_lem));
        }

    module _ (h : i < e) where
      pub index_within : i < length e₁
      index_within = omega (arith, c.elements_same, room.elements_fit_lem)

      some_left : 1 ≤ length (left rules s i start).elements
      some_left = omega (arith, c.elements_are)

      -- an element is left, so that its front is in the line
      pub start_below : start < length s
      start_below = go (dec_le (length s) start)
        where
          go : Dec (length s ≤ start) → start < length s
          go (yes q) = absurd (omega (arith, some_left, ap (λ (x : Rows). length x.elements) (over rules s start i q)))
          go (no q) = omega arith

      pub start_fits : Fits w64 (start + 1)
      start_fits = record { fits = omega (arith, c.line_fits, start_below) }

      module _ (o : Open) (eo : o ≡ open_from s start) where
        start_within : o.start ≤ length s
        start_within = rw eo (opens s start).start_within

        rows_are : (params_from i o.start (drop o.start s)).rows ≡ param_rows s i start
        rows_are = ap (λ (o : Open). (params_from i o.start (drop o.start s)).rows) eo

        -- an element with more parameters than are left fails
        too_many : p - j < (walk_from s o.start).count → is_at s (walk_from s o.start).next 93 ≡ true → ⊥
        too_many m q = go (follows rules s i start 0 turn (turns.is i))
          where
            w : Walk
            w = walk_from s o.start

            reach : o.start + w.count ≤ length s
            reach = let r = params_reach 0 o.start s start_within in omega (arith, r.few, r.end_within)

            named : o.id ≡ 0 → ⊥
            named z = omega (arith, reach, (opens s start).start_none (ap (λ (o : Open). o.id) (sym eo) ∙ z), ap (λ (o : Open). o.start) eo)

            counted : (ends_list rules && eqb w.count 0) ≡ false
            counted = rw (ne_eqb w.count 0 (λ z. omega arith)) (and_false (ends_list rules))

            turn : Turn
            turn = record { elements = 1; params = (walk_from s o.start).count; next = (walk_from s o.start).next + 1; dead = 0 }

            turns : Turns rules s start turn
            turns =
                turn_taken rules s start o.id w 0 (closes s start 0 o eo w (Ends.whole refl) (dead_none s start)) named true (sym q) refl (ends_list rules) refl counted

            go : Follows rules s i start 0 turn → ⊥
            go (Follows.ends x f) = omega (arith, ap (λ (r : Turn). r.elements) x)
            go (Follows.skips next x a b f) = omega (arith, ap (λ (r : Turn). r.elements) x)
            go (Follows.takes next x a b f) =
                omega (
                  arith,
                  c.params_are,
                  ap (λ (r : Turn). r.params) x,
                  ap (λ (x : Rows). length x.params) f,
                  length-append (param_rows s i start) (left rules s (i + 1) next).params,
                )

        pub holds : (dead stop : ℕ) → Dead s start dead → Stop s start dead stop → Holds s o.start stop p₁ j p
        holds dead stop a t =
            record {
              stops = stops_there s start dead stop a t o eo;
              in_order = omega (arith, c.params_are);
              end_within = omega (arith, c.params_same, room.params_fit_lem);
              past_end = λ m. by_test (λ b. is_at s (walk_from s o.start).next 93 ≡ b → b ≡ false) (is_at s (walk_from s o.start).next 93)
                  (λ _ q. absurd (too_many m q))
                  (λ _ q. refl)
                  refl;
            }

        module _ (w : Walk) (p₂ : List (List ℕ)) (t : Stores s i o.start p₁ j p w p₂) where
          module _ (r : Turn) (u : Turns rules s start r) where
            -- the step goes on
            moved : (start < r.next) × (r.next ≤ length s)
            moved = go (follows rules s i start r.dead r (u.is i))
              where
                go : Follows rules s i start r.dead r → (start < r.next) × (r.next ≤ length s)
                go (Follows.ends x f) = absurd (omega (arith, some_left, ap (λ (x : Rows). length x.elements) f))
                go (Follows.skips next x a b f) = rw x (a, b)
                go (Follows.takes next x a b f) = rw x (omega arith, b)

            pub fill_less : length s - r.next < length s - start
            fill_less = omega (arith, moved)

            pub filling_on : Filling rules s at e p e₀ p₀ (set e₁ i ((start + 1) ∷ o.id ∷ [])) p₂ (i + r.elements) (j + r.params) r.next
            filling_on = go (follows rules s i start r.dead r (u.is i))
              where
                row : List ℕ
                row = (start + 1) ∷ o.id ∷ []

                rows : ℕ → List (List ℕ)
                rows e = (params_from e o.start (drop o.start s)).rows

                same : length p₂ ≡ length p₀
                same = ap length t.stored ∙ length-sets p₁ j (take t.kept (params_from i o.start (drop o.start s)).rows) ∙ c.params_same

                go : Follows rules s i start r.dead r → Filling rules s at e p e₀ p₀ (set e₁ i row) p₂ (i + r.elements) (j + r.params) r.next
                go (Follows.ends x f) = absurd (omega (arith, some_left, ap (λ (x : Rows). length x.elements) f))
                go (Follows.skips next x a b f) =
                    let i₀ : i + 0 ≡ i = omega arith in
                    let j₀ : j + 0 ≡ j = omega arith in
                    rw (x, i₀, j₀)
                    (record {
                      line_fits = c.line_fits;
                      elements_few = omega (arith, c.elements_few);
                      params_few = omega (arith, c.params_few);
                      elements_are = omega (arith, c.elements_are, ap (λ (x : Rows). length x.elements) f);
                      params_are = omega (arith, c.params_are, ap (λ (x : Rows). length x.params) f);
                      elements_same = length-set e₁ i row ∙ c.elements_same;
                      params_same = same;
                      elements_left =
                          sets_over e₁ i (row ∷ []) (left rules s i next).elements (omega (arith, some_left, ap (λ (x : Rows). length x.elements) f))
                          ∙ ap (λ (x : Rows). sets e₁ i x.elements) (sym f)
                          ∙ c.elements_left;
                      params_left =
                          ap (λ (l : List (List ℕ)). sets l j (left rules s i next).params) t.stored
                          ∙ sets_over p₁ j (take t.kept (rows i)) (left rules s i next).params
                          (omega (arith, take_few t.kept (rows i), t.few, c.params_are, ap (λ (x : Rows). length x.params) f))
                          ∙ ap (λ (x : Rows). sets p₁ j x.params) (sym f)
                          ∙ c.params_left;
                    })
                go (Follows.takes next x a b f) =
                    let closed = taken_closes rules s start r u (ap (λ (r : Turn). r.elements) x) w (rw eo at t.ends) in
                    let left-are : length (left rules s i start).params ≡ length (param_rows s i start) + length (left rules s (i + 1) next).params =
                    ap (λ (x : Rows). length x.params) f ∙ length-append (param_rows s i start) (left rules s (i + 1) next).params in
                    rw x
                    (record {
                      line_fits = c.line_fits;
                      elements_few = omega (arith, c.elements_few);
                      params_few = omega (arith, c.params_few);
                      elements_are = omega (arith, c.elements_are, ap (λ (x : Rows). length x.elements) f);
                      params_are = omega (arith, c.params_are, left-are);
                      elements_same = length-set e₁ i row ∙ c.elements_same;
                      params_same = same;
                      elements_left =
                          ap (λ (k : ℕ). sets (set e₁ i row) k (left rules s (i + 1) next).elements) (add-one i)
                          ∙ ap (λ (o : Open). sets e₁ i (((start + 1) ∷ o.id ∷ []) ∷ (left rules s (i + 1) next).elements)) eo
                          ∙ ap (λ (x : Rows). sets e₁ i x.elements) (sym f)
                          ∙ c.elements_left;
                      params_left =
                          ap (λ (l : List (List ℕ)). sets l (j + length (param_rows s i start)) (left rules s (i + 1) next).params)
                          (t.stored ∙ ap (sets p₁ j) (take_all t.kept (rows i) (t.all closed) ∙ rows_are))
                          ∙ sym (sets_append p₁ j (param_rows s i start) (left rules s (i + 1) next).params)
                          ∙ ap (λ (x : Rows). sets p₁ j x.params) (sym f)
                          ∙ c.params_left;
                    })

            pub elements_fit_lem : Fits w64 (i + r.elements)
            elements_fit_lem = record { fits = omega (arith, c.line_fits, filling_on.elements_few, moved) }

            pub params_fit_lem : Fits w64 (j + r.params)
            params_fit_lem = record { fits = omega (arith, c.line_fits, filling_on.params_few, moved) }
