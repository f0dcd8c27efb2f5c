-- A step of the walk: its texts, their lengths, and what its tests say at their returns.
use Rattle.std.specs.Prelude.{if◌then◌else◌}
use Prim.Native.Nat.{ℕ, ◌+◌, ◌-◌, ◌^◌, ◌≤◌, ◌<◌}
use mathlib.Core.Path.{◌≡◌, refl, sym, ap, ◌∙◌}
use mathlib.Core.Bool.{Bool, true, false, not}
use mathlib.Core.List.{List, [], ◌∷◌, ◌++◌, append_assoc}
use native.Mathlib.Decide.{dec_le}
use native.Mathlib.Omega.{arith}
use lib.Dec.{ltb, eqb}
use lib.ListN.{length, get_or, take, drop, length-append}
use borrow.Author.Tests.{not-true, not-false, lt-ltb, le-ltb, ltb-true, eq-eqb, ne_eqb}
use mir.Syntax.{w64}
use mir.Val as val
use Rattle.base.specs.Texts.{text_at}
use Rattle.base.proofs.Tests.{both, by_test}
use Rattle.record.specs.Limits.{line_limit}
use Rattle.record.specs.Params.{row_of}
use Rattle.record.specs.declared.Param.{Param}
use Rattle.output.specs.Fits.{Fits, Sized}
use Rattle.output.specs.Output.{Wrote}
use Rattle.output.proofs.Pieces.{Starts, starts_front, starts_all}
use Rattle.grammar.specs.Abnf.{sd_name_byte}
use Rattle.utf8.specs.Lead.{is_utf8}
use Rattle.writes.specs.Written.{escape}
use Rattle.writes.specs.Fits.{class_fits}
use Rattle.writes.proofs.Fits.{class_sound}
use Rattle.fitting.specs.Heads.{byte_of, row_fits}
use Rattle.ids.specs.Ids.{id_in}
use Rattle.writer_data.specs.declared.Walk.{Walk}
use Rattle.writer_data.specs.Sizes.{Capped}
use Rattle.writer_data.specs.Sizes.Capped.{exact, over}
use Rattle.writer_data.specs.Walks.{open_text, name_text, param_text, next_text, first_text, id_fits, is_own, step_text, stopped_at, Puts, Measures}
use Rattle.writer_data.specs.Walks.Measures.{fitting, stopped}
use Rattle.writer_data.proofs.Sizes.{capped_to, capped_sum, cap_exact}

-- ---- a parameter

param_length : (s v : List ℕ) → length ((32 ∷ []) ++ s ++ (61 ∷ 34 ∷ []) ++ v ++ (34 ∷ [])) ≡ (length s + 4) + length v
param_length s v =
    omega (arith, length-append ((32 ∷ []) ++ s ++ (61 ∷ 34 ∷ []) ++ v) (34 ∷ []), length-append ((32 ∷ []) ++ s ++ (61 ∷ 34 ∷ [])) v, length-append ((32 ∷ []) ++ s) (61 ∷ 34 ∷ []))

module _ (text : List ℕ) (p : Param) (f : row_fits text (row_of p) ≡ true) (s : List ℕ) (e : s ≡ text_at text p.name_start p.name_len) where
  short : length s ≤ 32
  short = rw e (class_sound 32 sd_name_byte (text_at text p.name_start p.name_len) (both (class_fits 32 sd_name_byte (text_at text p.name_start p.name_len)) (is_utf8 (text_at text p.value_start p.value_len)) f).0).at_most

  module _ (v : List ℕ) (ev : v ≡ text_at text p.value_start p.value_len) (n : ℕ) (c : Capped (length (escape v)) n) where
    pub param_sum : val.Fits w64 (length s + n)
    param_sum = record { fits = omega (arith, short, capped_to _ n c) }

    pub param_all : val.Fits w64 (length s + n + 4)
    param_all = record { fits = omega (arith, short, capped_to _ n c) }

    pub param_sized : (r : ℕ) → Capped (length s + n + 4) r → Capped (length (param_text text (row_of p))) r
    param_sized r k =
        let m : length (param_text text (row_of p)) ≡ (length s + 4) + length (escape v) = rw (← e, ← ev) (param_length s (escape v)) in
        let z : length s + n + 4 ≡ (length s + 4) + n = omega arith in
        rw m (capped_sum (length s + 4) (length s + 4) (length (escape v)) n r (cap_exact (length s + 4) (omega (arith, short))) c (rw z at k))

pub ruleset param_sizes = (param_sum, param_all, param_sized)

-- ` name="` and the value, whose texts were cut out before
module _ (text : List ℕ) (p : Param) where
  module _ (s : List ℕ) (e : s ≡ text_at text p.name_start p.name_len) where
    pub name_is : (32 ∷ []) ++ s ++ (61 ∷ 34 ∷ []) ≡ name_text text (row_of p)
    name_is = rw e

    pub name_starts : Starts ((32 ∷ []) ++ s) (name_text text (row_of p))
    name_starts = record { others = 61 ∷ 34 ∷ []; is = name_is }

  module _ (v : List ℕ) (e : v ≡ text_at text p.value_start p.value_len) where
    pub value_is : name_text text (row_of p) ++ escape v ++ (34 ∷ []) ≡ param_text text (row_of p)
    value_is = rw e

    pub value_starts : Starts (name_text text (row_of p) ++ escape v) (param_text text (row_of p))
    value_starts = record { others = 34 ∷ []; is = value_is }

  pub param_starts : Starts (name_text text (row_of p)) (param_text text (row_of p))
  param_starts = value_first (text_at text p.value_start p.value_len) refl
    where
      value_first : (v : List ℕ) → v ≡ text_at text p.value_start p.value_len → Starts (name_text text (row_of p)) (param_text text (row_of p))
      value_first v e = record { others = escape v ++ (34 ∷ []); is = sym (append_assoc (name_text text (row_of p)) (escape v) (34 ∷ [])) ∙ value_is v e }

-- ---- an element

pub counted_is : (n : ℕ) (rows : List (List ℕ)) → take (n - 0) (drop 0 rows) ≡ take n rows
counted_is n rows = let z : n - 0 ≡ n = omega arith in ap (λ (k : ℕ). take k rows) z

module _ (text : List ℕ) (rows : List (List ℕ)) (k : ℕ) where
  pub id_none : length rows ≤ k → true ≡ id_fits text rows k
  id_none h = rw (le-ltb k (length rows) h)

  module _ (h : k < length rows) (id : List ℕ) (e : id ≡ id_in text (get_or rows k [])) where
    pub id_some : (r : Bool) → r ≡ class_fits 32 (byte_of true) id → r ≡ id_fits text rows k
    id_some r q = rw (lt-ltb k (length rows) h, ← e) q

    id_short : id_fits text rows k ≡ true → length id ≤ 32
    id_short f =
        let g : class_fits 32 sd_name_byte (id_in text (get_or rows k [])) ≡ true = rw (lt-ltb k (length rows) h) at f in
        rw e (class_sound 32 sd_name_byte (id_in text (get_or rows k [])) g).at_most

    pub open_is : (91 ∷ []) ++ id ≡ open_text text (get_or rows k [])
    open_is = rw e

    pub open_sum : id_fits text rows k ≡ true → val.Fits w64 (length id + 1)
    open_sum f = record { fits = omega (arith, id_short f) }

    pub open_sum_2 : id_fits text rows k ≡ true → val.Fits w64 (length id + 2)
    open_sum_2 f = record { fits = omega (arith, id_short f) }

pub ruleset id_laws = (id_none, id_some)

-- the end of an element and the opening of the next
module _ (text : List ℕ) (rows : List (List ℕ)) (k : ℕ) where
  pub next_starts : Starts (93 ∷ []) (next_text text rows k)
  next_starts =
      by_test (λ b. Starts (93 ∷ []) (if b then (93 ∷ []) ++ open_text text (get_or rows (k + 1) []) else 93 ∷ [])) (ltb (k + 1) (length rows))
      (λ _. starts_front (93 ∷ []) (open_text text (get_or rows (k + 1) []))) (λ _. starts_all (93 ∷ []))

  module _ (h : length rows ≤ k + 1) where
    pub next_last : 93 ∷ [] ≡ next_text text rows k
    next_last = rw (le-ltb (k + 1) (length rows) h)

    pub next_last_sized : Sized (next_text text rows k) 34 1
    next_last_sized = record { is = ap length next_last; to = omega arith }

  module _ (h : k + 1 < length rows) where
    pub next_more : (93 ∷ []) ++ open_text text (get_or rows (k + 1) []) ≡ next_text text rows k
    next_more = rw (lt-ltb (k + 1) (length rows) h)

    pub next_more_sized : (id : List ℕ) → id ≡ id_in text (get_or rows (k + 1) []) → id_fits text rows (k + 1) ≡ true → Sized (next_text text rows k) 34 (length id + 2)
    next_more_sized id e f =
        let m : length (next_text text rows k) ≡ length id + 2 = sym (ap length next_more) ∙ rw (← e) (omega arith) in
        record { is = sym m; to = omega (arith, id_short text rows (k + 1) h id e f) }

pub ruleset next_laws = (next_starts, next_last, next_more)

pub ruleset next_sizes = (next_last_sized, next_more_sized, open_sum_2)

-- the first one, or none
module _ (text : List ℕ) (rows : List (List ℕ)) where
  module _ (h : length rows ≡ 0) where
    pub first_none : 45 ∷ [] ≡ first_text text rows
    first_none = rw (eq-eqb (length rows) 0 h)

    pub first_none_sized : Sized (first_text text rows) 33 1
    first_none_sized = record { is = ap length first_none; to = omega arith }

  module _ (h : length rows ≡ 0 → ⊥) where
    pub first_some : open_text text (get_or rows 0 []) ≡ first_text text rows
    first_some = rw (ne_eqb (length rows) 0 h)

    pub first_inside : 0 < length rows
    first_inside = omega (arith, h)

    module _ (id : List ℕ) (e : id ≡ id_in text (get_or rows 0 [])) (f : id_fits text rows 0 ≡ true) where
      pub first_sum : val.Fits w64 (length id + 1)
      first_sum = open_sum text rows 0 first_inside id e f

      pub first_some_sized : Sized (first_text text rows) 33 (length id + 1)
      first_some_sized =
          let m : length (first_text text rows) ≡ length id + 1 = sym (ap length first_some) ∙ rw (← e) (omega arith) in
          record { is = sym m; to = omega (arith, id_short text rows 0 first_inside id e f) }

pub ruleset first_laws = (first_none, first_some, first_inside)

pub ruleset first_sizes = (first_none_sized, first_inside, first_sum, first_some_sized)

-- ---- a step

capped_self : (x : ℕ) → x ≤ line_limit + 1 → Capped x x
capped_self x h = go (dec_le x line_limit)
  where
    go : Dec (x ≤ line_limit) → Capped x x
    go (yes p) = exact p refl
    go (no p) = over (omega arith) (omega arith)

module _ (text : List ℕ) (rows : List (List ℕ)) (count : ℕ) (w : Walk) (p : Param) where
  module _ (own : is_own w count p ≡ true) where
    pub own_next : count < 2 ^ 64 → val.Fits w64 (w.next + 1)
    own_next l = record { fits = omega (arith, ltb-true w.next count (both (ltb w.next count) (eqb p.element w.element) own).0) }

    own_text : step_text text rows count w p ≡ param_text text (row_of p)
    own_text = rw own

    module _ (f : Bool) (e : f ≡ row_fits text (row_of p)) where
      pub param_stop : not f ≡ true → (r : Walk) → r ≡ stopped_at (length rows) → Measures text rows count w p r
      param_stop q r z = stopped z (rw (own, ← e, not-true f q))

      module _ (q : not f ≡ false) where
        pub param_fitting : row_fits text (row_of p) ≡ true
        param_fitting = sym e ∙ not-false f q

        module _ (a : w.at ≤ line_limit + 1) (n : ℕ) (c : Capped (length (param_text text (row_of p))) n) where
          pub param_to : n ≤ line_limit + 1
          param_to = capped_to _ n c

          pub param_on : (m : ℕ) → Capped (w.at + n) m → Measures text rows count w p (record { element = w.element; next = w.next + 1; at = m; fits = true })
          param_on m d =
              fitting refl (rw own param_fitting) (record { element_is = rw own; next_is = rw own })
              (rw own_text (capped_sum w.at w.at _ n m (capped_self w.at a) c d))

  module _ (own : is_own w count p ≡ false) where
    next_text_lem : step_text text rows count w p ≡ next_text text rows w.element
    next_text_lem = rw own

    module _ (f : Bool) (e : f ≡ id_fits text rows (w.element + 1)) where
      pub next_stop : not f ≡ true → (r : Walk) → r ≡ stopped_at (length rows) → Measures text rows count w p r
      next_stop q r z = stopped z (rw (own, ← e, not-true f q))

      module _ (q : not f ≡ false) where
        pub next_fitting : id_fits text rows (w.element + 1) ≡ true
        next_fitting = sym e ∙ not-false f q

        module _ (a : w.at ≤ line_limit + 1) (n : ℕ) (s : Sized (next_text text rows w.element) 34 n) where
          pub next_on : (m : ℕ) → Capped (w.at + n) m → Measures text rows count w p (record { element = w.element + 1; next = w.next; at = m; fits = true })
          next_on m d =
              fitting refl (rw own next_fitting) (record { element_is = rw own; next_is = rw own })
              (rw (next_text_lem, ← s.is) (capped_sum w.at w.at n n m (capped_self w.at a) (cap_exact n (omega (arith, s.to))) d))

  -- by the test
  module _ (b : Bool) (eb : b ≡ is_own w count p) where
    pub step_own : b ≡ true → is_own w count p ≡ true
    step_own q = sym eb ∙ q

    pub step_other : b ≡ false → is_own w count p ≡ false
    step_other q = sym eb ∙ q

    module _ (o : List ℕ) (f : Fits o w.at (step_text text rows count w p)) where
      module _ (q : b ≡ true) where
        pub step_param_fits : Fits o w.at (param_text text (row_of p))
        step_param_fits = rw (own_text (step_own q)) at f

        pub step_param_sum : count < 2 ^ 64 → val.Fits w64 (w.next + 1)
        step_param_sum l = own_next (step_own q) l

        pub step_param : (n : ℕ) (x : List ℕ) → Wrote o w.at (param_text text (row_of p)) n x
            → Puts text rows count w p o (record { element = w.element; next = w.next + 1; at = n; fits = true }) x
        step_param n x u =
            record { leads = record { element_is = rw (step_own q); next_is = rw (step_own q) }; wrote = rw (own_text (step_own q)) u }

      module _ (q : b ≡ false) where
        pub step_next_fits : Fits o w.at (next_text text rows w.element)
        step_next_fits = rw (next_text_lem (step_other q)) at f

        pub step_next : (n : ℕ) (x : List ℕ) → Wrote o w.at (next_text text rows w.element) n x
            → Puts text rows count w p o (record { element = w.element + 1; next = w.next; at = n; fits = true }) x
        step_next n x u =
            record { leads = record { element_is = rw (step_other q); next_is = rw (step_other q) }; wrote = rw (next_text_lem (step_other q)) u }

pub ruleset measure_param_laws = (own_next, param_stop, param_fitting, param_to, param_on)

pub ruleset measure_next_laws = (next_stop, next_fitting, next_on)

pub ruleset put_step_laws = (step_param_fits, step_param_sum, step_param, step_next_fits, step_next)
