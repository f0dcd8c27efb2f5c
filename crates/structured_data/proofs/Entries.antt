-- The parameters of an element, an entry at a time: the loop that counts them, and the loop that stores them.
use Rattle.std.specs.Prelude.{Option, Some, None}
use Prim.Native.Nat.{ℕ, suc, ◌+◌, ◌-◌, ◌^◌, ◌≤◌, ◌<◌}
use mathlib.Core.Path.{◌≡◌, refl, sym, ap, ◌∙◌}
use mathlib.Core.Bool.{Bool, true, false, not, ◌||◌}
use mathlib.Core.List.{List, [], ◌∷◌, ◌++◌}
use native.Mathlib.Omega.{arith}
use lib.Dec.{eqb, ltb}
use lib.ListN.{length, set, take, drop, length-set, length-drop}
use lib.Seq.{sets, take-add, drop-drop, length-take-le}
use mir.Syntax.{w64}
use mir.Val.{Fits}
use borrow.Author.Tests.{not-true, not-false, eqb-true, eqb-false, ltb-true}
use Rattle.base.specs.Choose.{is_at}
use Rattle.base.proofs.Tests.{clash}
use Rattle.base.proofs.Parts.{at_below}
use Rattle.structured_data.specs.Param.{param_at}
use Rattle.structured_data.specs.Element.{Params, none_at, params_from}
use Rattle.structured_data.specs.Steps.{walk_of, walk_from, entry_of, Stops, Ends, Holds, Stores}
use Rattle.structured_data.specs.declared.Param.{Param}
use Rattle.record.specs.declared.Param.{Param as Row}
use Rattle.record.specs.Params.{row_of, blank}
use Rattle.structured_data.specs.declared.Entry.{Entry}
use Rattle.structured_data.specs.declared.Walk.{Walk}
use Rattle.structured_data.proofs.Params.{param_lies}
use Rattle.structured_data.proofs.Walks.{ahead, first as first_of, ahead_none, len_within, ahead_on, ahead_last, ahead_reaches, params_any, some_unclosed}
use Rattle.structured_data.proofs.Tables.{sets_append}

-- An entry
module _ (s : List ℕ) (e start : ℕ) (u : List ℕ) (eu : u ≡ drop start s) (g : Option Param) (eg : g ≡ param_at u) where
  there : (p : Option Param) → g ≡ p → entry_of e start p ≡ entry_of e start (param_at (drop start s))
  there p q = ap (entry_of e start) (sym (ap param_at (sym eu) ∙ sym eg ∙ q))

  pub entry_none : g ≡ None → (b : Row) → b ≡ blank → record { row = b; next = start } ≡ entry_of e start (param_at (drop start s))
  entry_none q b eb = ap (λ (r : Row). record { row = r; next = start }) eb ∙ there None q

  module _ (y : Param) (q : g ≡ Some y) where
    pub entry_found : record { row = record { element = e; name_start = start; name_len = y.name; value_start = start + y.value; value_len = y.value_len }; next = start + y.len } ≡ entry_of e start (param_at (drop start s))
    entry_found = there (Some y) q

    module _ (h : start ≤ length s) (l : length s < 2 ^ 64) where
      within : (y.value ≤ y.len) × (start + y.len ≤ length s)
      within =
          let i = param_lies (drop start s) y.name y.value y.value_len y.len (sym (ap param_at (sym eu) ∙ sym eg ∙ q)) in
          (omega (arith, i.value_inside), omega (arith, i.within_t, length-drop start s))

      pub value_fits : Fits w64 (start + y.value)
      value_fits = record { fits = omega (arith, within) }

      pub behind_fits : Fits w64 (start + y.len)
      behind_fits = record { fits = omega (arith, within) }

pub ruleset entry_laws = (entry_none, entry_found, value_fits, behind_fits)

-- What an entry says of the walk: it ends, or a row is passed
record Passed (s : List ℕ) (e start before : ℕ) (x : Entry) : Type 0 where
  further : start < x.next
  within_s : x.next ≤ length s
  on : is_at s x.next 32 ≡ true → ahead e start before (drop start s) ≡ first_of (row_of x.row) (ahead e (x.next + 1) x.next (drop (x.next + 1) s))
  last : is_at s x.next 32 ≡ false → ahead e start before (drop start s) ≡ first_of (row_of x.row) (none_at x.next)

module _ (s : List ℕ) (e start before : ℕ) (x : Entry) (ex : x ≡ entry_of e start (param_at (drop start s))) (h : start ≤ length s) where
  none : x.next ≡ start → ahead e start before (drop start s) ≡ none_at before
  none z = go (param_at (drop start s)) refl
    where
      go : (p : Option Param) → param_at (drop start s) ≡ p → ahead e start before (drop start s) ≡ none_at before
      go None q = ahead_none e s start before q
      go (Some y) q =
          let l = len_within e s start before h y.name y.value y.value_len y.len q in
          let k : x.next ≡ start + y.len = ap (λ (x : Entry). x.next) (ex ∙ ap (entry_of e start) q) in
          absurd (omega arith)

  passed : (x.next ≡ start → ⊥) → Passed s e start before x
  passed z = go (param_at (drop start s)) refl
    where
      go : (p : Option Param) → param_at (drop start s) ≡ p → Passed s e start before x
      go None q = absurd (z (ap (λ (x : Entry). x.next) (ex ∙ ap (entry_of e start) q)))
      go (Some x) q =
          let l = len_within e s start before h x.name x.value x.value_len x.len q in
          rw (ex ∙ ap (entry_of e start) q)
          (record {
            further = omega arith;
            within_s = omega arith;
            on = ahead_on e s start before h x.name x.value x.value_len x.len q;
            last = ahead_last e s start before h x.name x.value x.value_len x.len q;
          })

-- Counted so far: behind `n` parameters the position is `next`, and another would start at `start`
abbrev plus : ℕ → Params → Walk
plus n ps = record { count = n + length ps.rows; next = ps.next }

plus_zero : (ps : Params) → walk_of ps ≡ plus 0 ps
plus_zero ps = let p : length ps.rows ≡ 0 + length ps.rows = omega arith in ap (λ (k : ℕ). record { count = k; next = ps.next }) p

plus_none : (n at : ℕ) → plus n (none_at at) ≡ record { count = n; next = at }
plus_none n at = let p : n + 0 ≡ n = omega arith in ap (λ (k : ℕ). record { count = k; next = at }) p

plus_first : (n : ℕ) (row : List ℕ) (ps : Params) → plus n (first_of row ps) ≡ plus (n + 1) ps
plus_first n row ps =
    let p : n + suc (length ps.rows) ≡ n + 1 + length ps.rows = omega arith in
    ap (λ (k : ℕ). record { count = k; next = ps.next }) p

pub record Walked (s : List ℕ) (e at n next start : ℕ) : Type 0 where
  pub start_within : start ≤ length s
  pub next_before : next ≤ start
  pub few : n ≤ start
  pub whole : walk_from s at ≡ record { count = n + length (ahead e start next (drop start s)).rows; next = (ahead e start next (drop start s)).next }

walked_none : (s : List ℕ) (e at : ℕ) → at ≤ length s → Walked s e at 0 at at
unfolding params_from
walked_none s e at h =
    record { start_within = h; next_before = omega arith; few = omega arith; whole = sym (params_any e at (drop at s)) ∙ plus_zero (params_from e at (drop at s)) }

module _ (s : List ℕ) (e at n next start : ℕ) (c : Walked s e at n next start) (x : Entry) (ex : x ≡ entry_of e start (param_at (drop start s))) where
  walked_all : x.next ≡ start → walk_from s at ≡ record { count = n; next = next }
  walked_all z = c.whole ∙ ap (plus n) (none s e start next x ex c.start_within z) ∙ plus_none n next

  module _ (z : x.next ≡ start → ⊥) where
    step : Passed s e start next x
    step = passed s e start next x ex c.start_within z

    walked_last : is_at s x.next 32 ≡ false → walk_from s at ≡ record { count = n + 1; next = x.next }
    walked_last h = c.whole ∙ ap (plus n) (step.last h) ∙ plus_first n (row_of x.row) (none_at x.next) ∙ plus_none (n + 1) x.next

    walked_on : is_at s x.next 32 ≡ true → Walked s e at (n + 1) x.next (x.next + 1)
    walked_on h =
        record {
          start_within = omega (arith, at_below s x.next 31 h);
          next_before = omega arith;
          few = omega (arith, c.few, step.further);
          whole = c.whole ∙ ap (plus n) (step.on h) ∙ plus_first n (row_of x.row) (ahead e (x.next + 1) x.next (drop (x.next + 1) s));
        }

    -- the whole walk goes at least so far
    reached : (n + 1 ≤ (walk_from s at).count) × (x.next ≤ (walk_from s at).next)
    reached = go (is_at s x.next 32) refl
      where
        go : (b : Bool) → is_at s x.next 32 ≡ b → (n + 1 ≤ (walk_from s at).count) × (x.next ≤ (walk_from s at).next)
        go false h =
            let w = walked_last h in
            (omega (arith, ap (λ (w : Walk). w.count) w), omega (arith, ap (λ (w : Walk). w.next) w))
        go true h =
            let d = walked_on h in
            let r = ahead_reaches e (x.next + 1) x.next s d.next_before d.start_within in
            (omega (arith, ap (λ (w : Walk). w.count) d.whole), omega (arith, ap (λ (w : Walk). w.next) d.whole, r.few))

-- What both loops need
module _ (s : List ℕ) (e at n next start : ℕ) (c : Walked s e at n next start) (x : Entry) (ex : x ≡ entry_of e start (param_at (drop start s)))
    (z : x.next ≡ start → ⊥) where
  pub count_fits : length s < 2 ^ 64 → Fits w64 (n + 1)
  count_fits l = let p = step s e at n next start c x ex z in record { fits = omega (arith, c.few, p.further, p.within_s) }

  module _ (d : Bool) (ed : d ≡ is_at s x.next 32) (h : not d ≡ false) where
    spaced : is_at s x.next 32 ≡ true
    spaced = sym ed ∙ not-false d h

    pub next_fits : length s < 2 ^ 64 → Fits w64 (x.next + 1)
    next_fits l = record { fits = omega (arith, at_below s x.next 31 spaced) }

    pub walk_less : length s - (x.next + 1) < length s - start
    walk_less = omega (arith, at_below s x.next 31 spaced, (step s e at n next start c x ex z).further)

    pub walk_on : Walked s e at (n + 1) x.next (x.next + 1)
    walk_on = walked_on s e at n next start c x ex z spaced

-- The loop that counts
module _ (s : List ℕ) (at stop : ℕ) (t : Stops s at stop) where
  pub walk_none : Walked s 0 at 0 at at
  walk_none = walked_none s 0 at t.at_within

  module _ (n next start : ℕ) (c : Walked s 0 at n next start) (x : Entry) (ex : x ≡ entry_of 0 start (param_at (drop start s))) where
    pub walk_all : x.next ≡ start → Ends s at (record { count = n; next = next })
    walk_all z = Ends.whole (sym (walked_all s 0 at n next start c x ex z))

    module _ (z : x.next ≡ start → ⊥) where
      pub walk_given_up : stop < x.next → Ends s at (record { count = 0; next = at })
      walk_given_up h =
          let (k, l) = reached s 0 at n next start c x ex z in
          Ends.given_up refl (some_unclosed s at (omega arith)) (t.past_stop (omega arith))

      pub walk_last : (d : Bool) → d ≡ is_at s x.next 32 → not d ≡ true → Ends s at (record { count = n + 1; next = x.next })
      walk_last d ed h = Ends.whole (sym (walked_last s 0 at n next start c x ex z (sym ed ∙ not-true d h)))

pub ruleset walk_laws = (walk_none, walk_all, walk_given_up, count_fits, walk_last, next_fits, walk_less, walk_on)

-- The loop that stores: the rows that are passed stand in the table from index `first` on
pub record Storing (s : List ℕ) (e at : ℕ) (old : List (List ℕ)) (first end : ℕ) (table : List (List ℕ)) (n next start : ℕ) : Type 0 where
  pub walk : Walked s e at n next start
  pub high : first + n ≤ end
  pub same : length table ≡ length old
  pub stored : table ≡ sets old first (take n (params_from e at (drop at s)).rows)
  pub left : drop n (params_from e at (drop at s)).rows ≡ (ahead e start next (drop start s)).rows

-- one row more
module _ (old table : List (List ℕ)) (first n : ℕ) (rows rest : List (List ℕ)) (row : List ℕ) (h : n ≤ length rows)
    (a : table ≡ sets old first (take n rows)) (b : drop n rows ≡ row ∷ rest) where
  store_one : set table (first + n) row ≡ sets old first (take (n + 1) rows)
  store_one =
      let l : first + length (take n rows) ≡ first + n = ap (λ (k : ℕ). first + k) (length-take-le n rows h) in
      ap (λ (t : List (List ℕ)). set t (first + n) row) a
      ∙ ap (λ (k : ℕ). set (sets old first (take n rows)) k row) (sym l)
      ∙ sym (sets_append old first (take n rows) (row ∷ []))
      ∙ ap (λ (l : List (List ℕ)). sets old first (take n rows ++ take 1 l)) (sym b)
      ∙ ap (sets old first) (sym (take-add n 1 rows))

  rest_left : drop (n + 1) rows ≡ rest
  rest_left = sym (drop-drop 1 n rows) ∙ ap (drop 1) b

either : (a b : Bool) → (a || b) ≡ false → (a ≡ false) × (b ≡ false)
either false false h = (refl, refl)
either false true h = clash h
either true b h = clash h

module _ (s : List ℕ) (e at stop : ℕ) (old : List (List ℕ)) (first end : ℕ) (t : Holds s at stop old first end) where
  pub storing_none : Storing s e at old first end old 0 at at
  unfolding params_from
  storing_none =
      record { walk = walked_none s e at t.stops.at_within; high = omega (arith, t.in_order); same = refl; stored = refl; left = refl }

  rows_counted : length (params_from e at (drop at s)).rows ≡ (walk_from s at).count
  rows_counted = ap (λ (w : Walk). w.count) (params_any e at (drop at s))

  module _ (table : List (List ℕ)) (n next start : ℕ) (c : Storing s e at old first end table n next start)
      (x : Entry) (ex : x ≡ entry_of e start (param_at (drop start s))) where
    pub stored_all : x.next ≡ start → Stores s e at old first end (record { count = n; next = next }) table
    stored_all z =
        let w = walked_all s e at n next start c.walk x ex z in
        record {
          ends = Ends.whole (sym w);
          kept = n;
          few = omega (arith, c.high);
          stored = c.stored;
          all = λ b. omega (arith, rows_counted, ap (λ (w : Walk). w.count) w);
        }

    module _ (z : x.next ≡ start → ⊥) where
      unclosed : is_at s at 93 ≡ false
      unclosed = let (k, l) = reached s e at n next start c.walk x ex z in some_unclosed s at (omega arith)

      pub index_fits : length old < 2 ^ 64 → Fits w64 (first + n)
      index_fits l = record { fits = omega (arith, c.high, t.end_within) }

      pub stored_given_up : (eqb (first + n) end || ltb stop x.next) ≡ true → Stores s e at old first end (record { count = 0; next = at }) table
      stored_given_up h =
          record {
            ends = Ends.given_up refl unclosed (fails (eqb (first + n) end) refl h);
            kept = n;
            few = omega (arith, c.high);
            stored = c.stored;
            all = λ b. clash (sym b ∙ unclosed);
          }
        where
          fails : (a : Bool) → eqb (first + n) end ≡ a → (a || ltb stop x.next) ≡ true → is_at s (walk_from s at).next 93 ≡ false
          fails true q h =
              let (k, l) = reached s e at n next start c.walk x ex z in
              t.past_end (omega (arith, eqb-true (first + n) end q))
          fails false q h =
              let (k, l) = reached s e at n next start c.walk x ex z in
              t.stops.past_stop (omega (arith, ltb-true stop x.next h))

      module _ (q : (eqb (first + n) end || ltb stop x.next) ≡ false) where
        below : first + n < end
        below = let d : first + n ≡ end → ⊥ = eqb-false (first + n) end (either (eqb (first + n) end) (ltb stop x.next) q).0 in omega (arith, c.high)

        pub index_within : first + n < length table
        index_within = omega (arith, below, c.same, t.end_within)

        step_is : (rest : Params) → ahead e start next (drop start s) ≡ first_of (row_of x.row) rest → drop n (params_from e at (drop at s)).rows ≡ row_of x.row ∷ rest.rows
        step_is rest a = c.left ∙ ap (λ (ps : Params). ps.rows) a

        enough : n ≤ length (params_from e at (drop at s)).rows
        enough = let (k, l) = reached s e at n next start c.walk x ex z in omega (arith, rows_counted)

        step_here : Passed s e start next x
        step_here = step s e at n next start c.walk x ex z

        module _ (d : Bool) (ed : d ≡ is_at s x.next 32) where
          pub stored_last : not d ≡ true → Stores s e at old first end (record { count = n + 1; next = x.next }) (set table (first + n) (row_of x.row))
          stored_last h =
              let b : is_at s x.next 32 ≡ false = sym ed ∙ not-true d h in
              let w = walked_last s e at n next start c.walk x ex z b in
              record {
                ends = Ends.whole (sym w);
                kept = n + 1;
                few = omega (arith, below);
                stored = store_one old table first n _ _ (row_of x.row) enough c.stored (step_is (none_at x.next) (step_here.last b));
                all = λ b. omega (arith, rows_counted, ap (λ (w : Walk). w.count) w);
              }

          pub storing_on : not d ≡ false → Storing s e at old first end (set table (first + n) (row_of x.row)) (n + 1) x.next (x.next + 1)
          storing_on h =
              let b : is_at s x.next 32 ≡ true = sym ed ∙ not-false d h in
              let i = step_is (ahead e (x.next + 1) x.next (drop (x.next + 1) s)) (step_here.on b) in
              record {
                walk = walked_on s e at n next start c.walk x ex z b;
                high = omega (arith, below);
                same = length-set table (first + n) (row_of x.row) ∙ c.same;
                stored = store_one old table first n _ _ (row_of x.row) enough c.stored i;
                left = rest_left old table first n _ _ (row_of x.row) enough c.stored i;
              }
