-- What the functions that do not name the parameter table say at their returns.
use Rattle.std.specs.Prelude.{Option, None, Ok, Err}
use Prim.Native.Nat.{ℕ, ◌≤◌, ◌<◌}
use mathlib.Core.Path.{◌≡◌, refl, ap}
use mathlib.Core.Bool.{Bool, true, false, not}
use mathlib.Core.List.{List, ◌++◌}
use native.Mathlib.Omega.{arith}
use lib.ListN.{length, take}
use lib.Seq.{length-take-le}
use borrow.Author.Tests.{not-true, not-false, le-ltb, lt-ltb}
use Rattle.base.specs.Texts.{all_different}
use Rattle.record.specs.Limits.{line_limit}
use Rattle.record.specs.declared.Param.{Param}
use Rattle.record.specs.declared.Place.{Place}
use Rattle.record.specs.declared.Protocol.TheVariants.{Rfc5424}
use Rattle.record.specs.declared.Refusal.TheVariants.{Unwritable, LineTooLong, OutputShort}
use Rattle.suits.specs.Suits.{elements_suit}
use Rattle.output.specs.Fits.{Fits}
use Rattle.output.specs.Output.{Wrote}
use Rattle.output.proofs.Pieces.{starts_front, starts_all, first_fits, next_fits, two_are}
use Rattle.writes.specs.declared.Handed.{Handed}
use Rattle.writes.specs.Writes.{place_in, stamp_in, record_in}
use Rattle.ids.specs.Ids.{ids_in, ids_fit}
use Rattle.writer_data.specs.declared.Walk.{Walk}
use Rattle.writer_data.specs.Walks.{first_text, step_text, stopped_at, Puts, Measures}
use Rattle.writer.specs.Steps.{Rows, Begins, Named, settled, Opens, answer_of}
use Rattle.record.specs.declared.Timestamp.{Timestamp}

pub record_is : (h : Handed) (t : Option Timestamp) (a b c d : Place) → t ≡ stamp_in h → a ≡ place_in h.host → b ≡ place_in h.app → c ≡ place_in h.procid → d ≡ place_in h.msgid
    → record {
      protocol = Rfc5424 h.version;
      facility = None;
      severity = None;
      timestamp = t;
      host = a;
      app = b;
      procid = c;
      msgid = d;
      message = record { start = h.message.start; len = h.message.len };
    } ≡ record_in h
record_is h t a b c d e p q r s = rw (e, p, q, r, s)

-- ---- the answer

module _ (w : Walk) (room : ℕ) where
  pub answer_unfit : not w.fits ≡ true → Err Unwritable ≡ answer_of w room
  answer_unfit q = rw q

  module _ (q : not w.fits ≡ false) where
    pub answer_long : line_limit < w.at → Err LineTooLong ≡ answer_of w room
    answer_long h = rw (q, lt-ltb line_limit w.at h)

    module _ (h : w.at ≤ line_limit) where
      pub answer_short : room < w.at → Err OutputShort ≡ answer_of w room
      answer_short k = rw (q, le-ltb line_limit w.at h, lt-ltb room w.at k)

      pub answer_done : w.at ≤ room → Ok w.at ≡ answer_of w room
      answer_done k = rw (q, le-ltb line_limit w.at h, le-ltb room w.at k)

pub ruleset answer_laws = (answer_unfit, answer_long, answer_short, answer_done)

-- ---- the ids

module _ (text : List ℕ) (ids : List (List ℕ)) (w : Walk) where
  pub settle_unfit : not w.fits ≡ true → w ≡ settled text ids w
  settle_unfit q = rw (not-true w.fits q)

  module _ (q : not w.fits ≡ false) where
    pub settle_named : Named text ids w → ids_fit text ids ≡ true
    settle_named n = n.named (not-false w.fits q)

    module _ (b : Bool) (e : b ≡ all_different (ids_in text ids)) where
      pub settle_differ : b ≡ true → w ≡ settled text ids w
      settle_differ p = rw (not-false w.fits q, ← e, p)

      pub settle_same : b ≡ false → (r : Walk) → r ≡ stopped_at (length ids) → r ≡ settled text ids w
      settle_same p r z = rw (not-false w.fits q, ← e, p) z

pub ruleset settle_laws = (settle_unfit, settle_named, settle_differ, settle_same)

-- ---- the rows that count

module _ (text : List ℕ) (count : ℕ) (elements : List (List ℕ)) (r : Rows text count elements) where
  pub rows_counted : count ≤ length elements
  rows_counted = r.counted

  module _ (ids : List (List ℕ)) (e : ids ≡ take count elements) where
    pub rows_suit : elements_suit text ids ≡ true
    rows_suit = rw e r.inside

    pub rows_below : (k : ℕ) → k < count → k < length ids
    rows_below k h = omega (arith, ap length e, length-take-le count elements r.counted)

    pub rows_begin : (h : Handed) (w : Walk) → Begins text h ids w → Begins text h (take count elements) w
    rows_begin h w b = rw (← e) b

    pub rows_measure : (n : ℕ) (w : Walk) (p : Param) (v : Walk) → Measures text ids n w p v → Measures text (take count elements) n w p v
    rows_measure n w p v m = rw (← e) m

    pub rows_named : (w : Walk) → Named text (take count elements) w → Named text ids w
    rows_named w n = rw e n

    pub rows_settle : (w v : Walk) → v ≡ settled text ids w → v ≡ settled text (take count elements) w
    rows_settle w v s = rw (← e) s

    pub rows_fit : (n : ℕ) (w : Walk) (p : Param) (o : List ℕ) → Fits o w.at (step_text text (take count elements) n w p) → Fits o w.at (step_text text ids n w p)
    rows_fit n w p o f = rw e f

    pub rows_put : (n : ℕ) (w : Walk) (p : Param) (o : List ℕ) (v : Walk) (x : List ℕ) → Puts text ids n w p o v x → Puts text (take count elements) n w p o v x
    rows_put n w p o v x u = rw (← e) u

    module _ (t o : List ℕ) (f : Fits o 0 (t ++ first_text text (take count elements))) where
      pub rows_front : Fits o 0 t
      rows_front = first_fits f (starts_front t (first_text text (take count elements)))

      module _ (n : ℕ) (x : List ℕ) (u : Wrote o 0 t n x) where
        pub rows_first : Fits x n (first_text text ids)
        rows_first = rw e (next_fits f u (starts_all (t ++ first_text text (take count elements))))

        pub rows_open : (m : ℕ) (y : List ℕ) → Wrote x n (first_text text ids) m y → Opens (t ++ first_text text (take count elements)) o (record { element = 0; next = 0; at = m; fits = true }) y
        rows_open m y v = record { starts = refl; wrote = two_are f u (rw e at v) refl }

pub ruleset begin_laws = (rows_counted, rows_suit, rows_begin)

pub ruleset measure_laws = (rows_counted, rows_suit, rows_below, rows_measure)

pub ruleset end_laws = (rows_counted, rows_suit, rows_named, rows_settle)

pub ruleset put_laws = (rows_counted, rows_suit, rows_below, rows_fit, rows_put)

pub ruleset open_laws = (rows_counted, rows_suit, rows_front, rows_first, rows_open)
