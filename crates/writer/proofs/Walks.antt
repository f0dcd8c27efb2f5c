-- The two walks: what is measured, and what is written.
use Rattle.std.specs.Prelude.{if◌then◌else◌}
use Prim.Native.Nat.{ℕ, ◌+◌, ◌-◌, ◌≤◌, ◌<◌}
use mathlib.Core.Path.{◌≡◌, refl, sym, ap, ◌∙◌, subst}
use mathlib.Core.Bool.{Bool, true, false, not, ◌&&◌, and-false}
use mathlib.Core.List.{List, [], ◌∷◌, ◌++◌}
use native.Mathlib.Decide.{dec_le}
use native.Mathlib.Omega.{arith}
use lib.Dec.{leb}
use lib.ListN.{length, get_or, take, drop, length-append}
use lib.Seq.{length-take-le}
use borrow.Author.Tests.{lt-ltb, le-ltb}
use Rattle.base.specs.Texts.{all_different}
use Rattle.base.proofs.Tests.{clash, both, by_test}
use Rattle.record.specs.Limits.{line_limit}
use Rattle.record.specs.Params.{blank, row_of, rows}
use Rattle.record.specs.declared.Param.{Param}
use Rattle.record.proofs.Params.{rows_length, rows_get}
use Rattle.suits.specs.Suits.{record_suits, elements_suit, params_suit, tables_suit, suits}
use Rattle.suits.proofs.Suited.{tables_suited, elements_fit_lem, params_fit_lem, param_suited}
use Rattle.grammar.specs.Line.{message_text, ids_of}
use Rattle.writes.specs.declared.Handed.{Handed}
use Rattle.writes.specs.Written.{written}
use Rattle.writes.specs.Told.{front, rest, told_params, told_elements}
use Rattle.writes.specs.Fits.{text_fits, message_fits, class_fits, params_fit, elements_fit, fields_fit}
use Rattle.writes.specs.Writes.{part_in, record_in, fields_in}
use Rattle.grammar.specs.Abnf.{sd_name_byte}
use Rattle.fitting.specs.Heads.{numbers_fit, names_fit, head_fits}
use Rattle.ids.specs.Ids.{id_in, ids_in, ids_fit}
use Rattle.writer_header.specs.Fronts.{front_text}
use Rattle.writer_data.specs.declared.Walk.{Walk}
use Rattle.writer_data.specs.Sizes.{Capped}
use Rattle.writer_data.specs.Walks.{first_text, step_text, stopped_at, Measures}
use Rattle.writer_data.proofs.Sizes.{capped_to, capped_more}
use Rattle.writer.specs.Steps.{Rows, Entry, Begins, Named, settled, entry_or, Measured}
use Rattle.writer.proofs.Lefts.{left_then, left_fit, led, led_leads, Entered, step_text_lem, step_fit, step_less, step_to, distance, nearer, first_fit, left_none, fit_none, and_assoc}
use Rattle.writer.proofs.Lines.{line_is}

-- ---- what suits

module _ (text : List ℕ) (h : Handed) (elements params : List (List ℕ)) (s : suits text (record_in h) h.element_count h.param_count elements params ≡ true) where
  pub record_suited : record_suits text (record_in h) ≡ true
  unfolding suits
  record_suited = (both (record_suits text (record_in h)) (tables_suit text h.element_count h.param_count elements params) s).0

  tables : tables_suit text h.element_count h.param_count elements params ≡ true
  tables = tables_suited text (record_in h) h.element_count h.param_count elements params s

  pub params_counted : h.param_count ≤ length params
  params_counted = params_fit_lem text h.element_count h.param_count elements params tables

  pub rows_suited : Rows text h.element_count elements
  unfolding tables_suit
  rows_suited =
      record {
        counted = elements_fit_lem text h.element_count h.param_count elements params tables;
        inside = (both (leb h.element_count (length elements) && leb h.param_count (length params)) (elements_suit text (take h.element_count elements))
            (both (leb h.element_count (length elements) && leb h.param_count (length params) && elements_suit text (take h.element_count elements)) (params_suit text h.element_count 0 (take h.param_count params)) tables).0).1;
      }

  pub ids_long : length (take h.element_count elements) ≡ h.element_count
  ids_long = length-take-le h.element_count elements rows_suited.counted

-- the entry that a turn is given
module _ (table : List Param) (i count : ℕ) (p : Param) where
  pub entry_is : i < count → p ≡ get_or table i blank → p ≡ entry_or table i count
  entry_is l e = rw (lt-ltb i count l) e

  pub entry_none : count ≤ i → p ≡ blank → p ≡ entry_or table i count
  entry_none l e = rw (le-ltb i count l) e

pub table_counted : (text : List ℕ) (h : Handed) (elements : List (List ℕ)) (table : List Param)
    → suits text (record_in h) h.element_count h.param_count elements (rows table) ≡ true → h.param_count ≤ length table
table_counted text h elements table s = omega (arith, params_counted text h elements (rows table) s, rows_length table)

module _ (text : List ℕ) (h : Handed) (elements : List (List ℕ)) (table : List Param)
    (s : suits text (record_in h) h.element_count h.param_count elements (rows table) ≡ true) (i : ℕ) (p : Param) (e : p ≡ entry_or table i h.param_count) where
  fetched : i < h.param_count → row_of p ≡ get_or (rows table) i []
  fetched l = ap row_of (e ∙ rw (lt-ltb i h.param_count l)) ∙ rows_get table i (omega (arith, table_counted text h elements table s))

  pub entered : Entered (rows table) h.param_count i p
  entered = record { counted = params_counted text h elements (rows table) s; row = fetched }

  pub entry_in : Entry text p
  entry_in = go (dec_le h.param_count i)
    where
      go : Dec (h.param_count ≤ i) → Entry text p
      go (yes l) =
          let b : p ≡ blank = e ∙ ap (λ (t : Bool). if t then get_or table i blank else blank) (le-ltb i h.param_count l) in
          rw b (record { name_in = omega arith; value_in = omega arith })
      go (no l) =
          let m : i < h.param_count = omega arith in
          let q = param_suited text h.element_count h.param_count elements (rows table) (tables text h elements (rows table) s) i m in
          let r = fetched m in
          record { name_in = row_name r q.name_in; value_in = row_value r q.value_in }
        where
          row_name : {row : List ℕ} → row_of p ≡ row → get_or row 1 0 + get_or row 2 0 ≤ length text → p.name_start + p.name_len ≤ length text
          row_name r l = subst (λ (row : List ℕ). get_or row 1 0 + get_or row 2 0 ≤ length text) (sym r) l

          row_value : {row : List ℕ} → row_of p ≡ row → get_or row 3 0 + get_or row 4 0 ≤ length text → p.value_start + p.value_len ≤ length text
          row_value r l = subst (λ (row : List ℕ). get_or row 3 0 + get_or row 4 0 ≤ length text) (sym r) l

-- ---- measuring

module _ (text : List ℕ) (h : Handed) (elements params : List (List ℕ)) where
  abbrev pub count : ℕ
  count = h.element_count

  abbrev pub ids : List (List ℕ)
  ids = take count elements

  abbrev pub all : List (List ℕ)
  all = take h.param_count params

  abbrev pub tail : List ℕ
  tail = message_text (part_in text h.message)

  abbrev pub total : ℕ
  total = length (written (fields_in text h elements params))

  fields_fit_lem : fields_fit (fields_in text h elements params) ≡ ((head_fits text h && elements_fit (told_elements text 0 ids all)) && all_different (ids_of (told_elements text 0 ids all)))
  unfolding fields_fit fields_in head_fits
  fields_fit_lem = ap (λ (b : Bool). ((b && message_fits (part_in text h.message)) && elements_fit (told_elements text 0 ids all)) && all_different (ids_of (told_elements text 0 ids all))) heads
    where
      heads : (numbers_fit h && text_fits 255 (part_in text h.host) && text_fits 48 (part_in text h.app) && text_fits 128 (part_in text h.procid) && text_fits 32 (part_in text h.msgid))
          ≡ (numbers_fit h && names_fit text h)
      heads =
          let n = numbers_fit h in
          let a = text_fits 255 (part_in text h.host) in
          let b = text_fits 48 (part_in text h.app) in
          let c = text_fits 128 (part_in text h.procid) in
          let d = text_fits 32 (part_in text h.msgid) in
          rw (and_assoc n a b, and_assoc n (a && b) c, and_assoc n (a && b && c) d)

  ids_told : (k : ℕ) (rows ps : List (List ℕ)) → ids_of (told_elements text k rows ps) ≡ ids_in text rows
  unfolding ids_in
  ids_told k [] ps = refl
  ids_told k (row ∷ rows) ps = ap (λ (l : List (List ℕ)). id_in text row ∷ l) (ids_told (k + 1) rows (rest k ps))

  ids_fit_lem : (k : ℕ) (rows ps : List (List ℕ)) → elements_fit (told_elements text k rows ps) ≡ true → ids_fit text rows ≡ true
  unfolding ids_fit
  ids_fit_lem k [] ps f = refl
  ids_fit_lem k (row ∷ rows) ps f =
      let id = class_fits 32 sd_name_byte (id_in text row) in
      let own = params_fit (told_params text (front k ps)) in
      let more = elements_fit (told_elements text (k + 1) rows (rest k ps)) in
      let u = both (id && own) more f in
      rw ((both id own u.0).0, ids_fit_lem (k + 1) rows (rest k ps) u.1)

-- Measured so far: d bytes, the message among them; what is left makes up the line. Or something does not fit, and the walk is over.
pub data Walking (text : List ℕ) (h : Handed) (elements params : List (List ℕ)) (w : Walk) : Type 0 where
  going : (d : ℕ) → w.fits ≡ true → head_fits text h ≡ true → w.element ≤ h.element_count → Capped d w.at
      → d + length (left_then text (take h.element_count elements) w.element (drop w.next (take h.param_count params)) (message_text (part_in text h.message)))
      ≡ length (written (fields_in text h elements params)) + length (message_text (part_in text h.message))
      → elements_fit (told_elements text 0 (take h.element_count elements) (take h.param_count params))
      ≡ left_fit text (take h.element_count elements) w.element (drop w.next (take h.param_count params))
      → Walking text h elements params w
  over : w ≡ stopped_at h.element_count → fields_fit (fields_in text h elements params) ≡ false → Walking text h elements params w

module _ (text : List ℕ) (h : Handed) (elements params : List (List ℕ)) (s : suits text (record_in h) h.element_count h.param_count elements params ≡ true) where
  unfit : (b : Bool) → (head_fits text h && elements_fit (told_elements text 0 (ids text h elements params) (all text h elements params))) ≡ b → b ≡ false → fields_fit (fields_in text h elements params) ≡ false
  unfit b e q = fields_fit_lem text h elements params ∙ rw (e ∙ q)

  pub walk_start : (w : Walk) → Begins text h (ids text h elements params) w → Walking text h elements params w
  walk_start w (Begins.begun n e f g c) =
      let first = first_text text (ids text h elements params) in
      let left = left_then text (ids text h elements params) 0 (all text h elements params) (tail text h elements params) in
      let l = ap length (line_is text h (record_suited text h elements params s) elements params) in
      rw e (going (length (front_text text h) + length first + length (tail text h elements params)) refl f (omega arith) c
      (omega (arith, l, length-append (front_text text h ++ first) left, length-append (front_text text h) first))
      (first_fit text (ids text h elements params) (all text h elements params) ∙ rw g))
  walk_start w (Begins.stopped e f) =
      over (e ∙ ap stopped_at (ids_long text h elements params s))
      (unfit _ (ap (λ (b : Bool). head_fits text h && b) (first_fit text (ids text h elements params) (all text h elements params))) (none (head_fits text h) _ _ f))
    where
      none : (a b c : Bool) → (a && b) ≡ false → (a && (b && c)) ≡ false
      none true true c q = clash q
      none true false c q = refl
      none false b c q = refl

  module _ (w : Walk) (i : Walking text h elements params w) where
    -- while it goes on
    pub walk_at_lem : w.element < h.element_count → w.at ≤ line_limit + 1
    walk_at_lem l = go i
      where
        go : Walking text h elements params w → w.at ≤ line_limit + 1
        go (going d a b c e f g) = capped_to d w.at e
        go (over e f) = absurd (omega (arith, ap (λ (x : Walk). x.element) e))

    module _ (l : w.element < h.element_count) (p : Param) (x : Entered params h.param_count w.next p) (v : Walk) (m : Measures text (ids text h elements params) h.param_count w p v) where
      inside : w.element < length (ids text h elements params)
      inside = omega (arith, ids_long text h elements params s)

      pub walk_on : Walking text h elements params v
      walk_on = go i m
        where
          go : Walking text h elements params w → Measures text (ids text h elements params) h.param_count w p v → Walking text h elements params v
          go (over e f) m = absurd (omega (arith, ap (λ (x : Walk). x.element) e))
          go (going d a b c e f g) (Measures.fitting q y z k) =
              let t = step_text text (ids text h elements params) h.param_count w p in
              let more = left_then text (ids text h elements params) v.element (drop v.next (all text h elements params)) (tail text h elements params) in
              let u = ap length (step_text_lem params h.param_count w p x text (ids text h elements params) inside v z (tail text h elements params)) in
              going (d + length t) q b (omega (arith, step_to params h.param_count w p x text (ids text h elements params) inside v z, ids_long text h elements params s))
              (capped_more d w.at (length t) v.at e k)
              (omega (arith, f, u, length-append t more))
              (g ∙ step_fit params h.param_count w p x text (ids text h elements params) inside v z ∙ rw y)
          go (going d a b c e f g) (Measures.stopped q y) =
              over (q ∙ ap stopped_at (ids_long text h elements params s))
              (unfit _ (ap (λ (t : Bool). head_fits text h && t) (g ∙ first_false)) (and-false (head_fits text h)))
            where
              first_false : left_fit text (ids text h elements params) w.element (drop w.next (all text h elements params)) ≡ false
              first_false = step_fit params h.param_count w p x text (ids text h elements params) inside (led h.param_count w p) (led_leads h.param_count w p) ∙ rw y

      pub walk_less : distance h.element_count h.param_count v < distance h.element_count h.param_count w
      walk_less = go m
        where
          go : Measures text (ids text h elements params) h.param_count w p v → distance h.element_count h.param_count v < distance h.element_count h.param_count w
          go (Measures.fitting q y z k) = rw (ids_long text h elements params s) at (step_less params h.param_count w p x text (ids text h elements params) inside v z)
          go (Measures.stopped q y) =
              rw (q, ids_long text h elements params s)
              (nearer (h.element_count - h.element_count) (h.element_count - w.element) (h.param_count - 0) (h.param_count - w.next) h.param_count (omega arith) (omega arith))

    -- where it is over
    module _ (l : h.element_count ≤ w.element) where
      done : length (ids text h elements params) ≤ w.element
      done = omega (arith, ids_long text h elements params s)

      pub walk_named : Named text (ids text h elements params) w
      walk_named = record { named = λ q. go q i }
        where
          go : w.fits ≡ true → Walking text h elements params w → ids_fit text (ids text h elements params) ≡ true
          go q (over e f) = clash (sym q ∙ ap (λ (x : Walk). x.fits) e)
          go q (going d a b c e f g) =
              ids_fit_lem text h elements params 0 (ids text h elements params) (all text h elements params)
              (g ∙ fit_none text (ids text h elements params) (drop w.next (all text h elements params)) w.element done)

      pub walk_end : (v : Walk) → v ≡ settled text (ids text h elements params) w → Measured text h elements params v
      walk_end v z = go i
        where
          fit_is : (b : Bool) → head_fits text h ≡ true → elements_fit (told_elements text 0 (ids text h elements params) (all text h elements params)) ≡ true
              → all_different (ids_in text (ids text h elements params)) ≡ b → fields_fit (fields_in text h elements params) ≡ b
          fit_is b f g q = fields_fit_lem text h elements params ∙ rw (f, g, ids_told text h elements params 0 (ids text h elements params) (all text h elements params), q)

          go : Walking text h elements params w → Measured text h elements params v
          go (over e f) =
              let u : v ≡ stopped_at h.element_count = z ∙ ap (settled text (ids text h elements params)) e in
              Measured.bad (ap (λ (x : Walk). x.fits) u) f
          go (going d a b c e f g) =
              let fit = g ∙ fit_none text (ids text h elements params) (drop w.next (all text h elements params)) w.element done in
              let n = ap length (left_none text (ids text h elements params) (drop w.next (all text h elements params)) w.element done (tail text h elements params)) in
              by_test (λ t. all_different (ids_in text (ids text h elements params)) ≡ t → Measured text h elements params v) (all_different (ids_in text (ids text h elements params)))
              (λ _ q.
              let u : v ≡ w = z ∙ rw (a, q) in
              let k : d ≡ total text h elements params = omega (arith, f, n) in
              rw u (Measured.good a (fit_is true b fit q) (rw k at e)))
              (λ _ q.
              let u : v ≡ stopped_at (length (ids text h elements params)) = z ∙ rw (a, q) in
              Measured.bad (ap (λ (x : Walk). x.fits) u) (fit_is false b fit q))
              refl
