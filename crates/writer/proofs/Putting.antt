-- The line written in one walk over both tables, and the answers.
use Rattle.std.specs.Prelude.{Result, Ok, Err}
use Prim.Native.Nat.{ℕ, ◌≤◌, ◌<◌}
use mathlib.Core.Path.{◌≡◌, refl, sym, ap, ◌∙◌}
use mathlib.Core.Bool.{Bool, true, false, ◌&&◌}
use mathlib.Core.List.{List, ◌++◌}
use native.Mathlib.Decide.{dec_le}
use native.Mathlib.Omega.{arith}
use lib.Dec.{leb}
use lib.ListN.{length, take, drop}
use borrow.Author.Tests.{leb-true, le-leb, lt-ltb, le-ltb}
use Rattle.base.proofs.Tests.{clash, both}
use Rattle.record.specs.Limits.{line_limit}
use Rattle.record.specs.Answers.{output_answer_of}
use Rattle.record.specs.declared.Param.{Param}
use Rattle.record.specs.declared.Record.{Record}
use Rattle.record.specs.declared.OutputAnswer.{OutputAnswer}
use Rattle.record.specs.declared.Refusal.TheVariants.{Unsuitable}
use Rattle.suits.specs.Suits.{suits}
use Rattle.output.specs.Fits.{Fits}
use Rattle.output.specs.Output.{Wrote, output_after}
use Rattle.output.proofs.Writes.{written_front}
use Rattle.output.proofs.Pieces.{starts_named, first_fits, next_fits, two_are, Midway, midway_all, midway_fits, midway_on, midway_last}
use Rattle.grammar.specs.Line.{message_text}
use Rattle.writes.specs.declared.Handed.{Handed}
use Rattle.writes.specs.Written.{written}
use Rattle.writes.specs.Writes.{part_in, record_in, fields_in, answered, Writes}
use Rattle.writer_header.specs.Fronts.{front_text}
use Rattle.writer_data.specs.declared.Walk.{Walk}
use Rattle.writer_data.specs.Sizes.{Capped}
use Rattle.writer_data.specs.Walks.{first_text, step_text, Puts}
use Rattle.writer.specs.Serves.{ServesWrite, OneAnswer}
use Rattle.writer.specs.Steps.{Opens, is_written, answer_of, Measured}
use Rattle.writer.proofs.Lefts.{left_then, led, led_leads, Entered, step_text_lem, step_less, step_to, distance, left_none}
use Rattle.writer.proofs.Lines.{line_is}
use Rattle.writer.proofs.Walks.{record_suited, ids_long, ids, all, tail}
use Rattle.record.specs.declared.Refusal.{Refusal}

-- The walk, begun at `at` of `o`.
pub record Putting (text : List ℕ) (h : Handed) (elements params : List (List ℕ)) (o : List ℕ) (at : ℕ) (out : List ℕ) (w : Walk) : Type 0 where
  pub inside : w.element ≤ h.element_count
  pub room : Fits o at (left_then text (take h.element_count elements) 0 (take h.param_count params) (message_text (part_in text h.message)))
  pub midway : Midway o at (left_then text (take h.element_count elements) 0 (take h.param_count params) (message_text (part_in text h.message))) out w.at
      (left_then text (take h.element_count elements) w.element (drop w.next (take h.param_count params)) (message_text (part_in text h.message)))

module _ (text : List ℕ) (h : Handed) (elements params : List (List ℕ)) (s : suits text (record_in h) h.element_count h.param_count elements params ≡ true) where
  abbrev rows : List (List ℕ)
  rows = ids text h elements params

  abbrev line : List ℕ
  line = written (fields_in text h elements params)

  abbrev first : List ℕ
  first = front_text text h ++ first_text text rows

  abbrev left : ℕ → ℕ → List ℕ
  left k i = left_then text rows k (drop i (all text h elements params)) (tail text h elements params)

  pieces : first ++ left 0 0 ≡ line
  pieces = line_is text h (record_suited text h elements params s) elements params

  module _ (before : List ℕ) (f : Fits before 0 line) where
    pub put_before : Fits before 0 first
    put_before = first_fits f (record { others = left 0 0; is = pieces })

    module _ (w : Walk) (o : List ℕ) (q : Opens first before w o) where
      pub put_start : Putting text h elements params o w.at o w
      put_start = rw q.starts (record { inside = omega arith; room = next_fits f q.wrote (starts_named (first ++ left 0 0) line pieces); midway = midway_all o w.at (left 0 0) })

      pub put_whole : (n : ℕ) (x : List ℕ) → Wrote o w.at (left 0 0) n x → Wrote before 0 line n x
      put_whole n x u = two_are f q.wrote u pieces

  module _ (o : List ℕ) (at : ℕ) (out : List ℕ) (w : Walk) (i : Putting text h elements params o at out w) where
    pub put_same : length out ≡ length o
    put_same = i.midway.same

    module _ (l : w.element < h.element_count) (p : Param) (x : Entered params h.param_count w.next p) where
      inside : w.element < length rows
      inside = omega (arith, ids_long text h elements params s)

      pub put_fits : Fits out w.at (step_text text rows h.param_count w p)
      put_fits =
          midway_fits i.room i.midway
          (record { others = left (led h.param_count w p).element (led h.param_count w p).next; is = step_text_lem params h.param_count w p x text rows inside (led h.param_count w p) (led_leads h.param_count w p) (tail text h elements params) })

      module _ (v : Walk) (y : List ℕ) (u : Puts text rows h.param_count w p out v y) where
        pub put_on : Putting text h elements params o at y v
        put_on =
            record {
              inside = omega (arith, step_to params h.param_count w p x text rows inside v u.leads, ids_long text h elements params s);
              room = i.room;
              midway = midway_on i.room i.midway u.wrote (step_text_lem params h.param_count w p x text rows inside v u.leads (tail text h elements params));
            }

        pub put_less : distance h.element_count h.param_count v < distance h.element_count h.param_count w
        put_less = rw (ids_long text h elements params s) at (step_less params h.param_count w p x text rows inside v u.leads)

    module _ (l : h.element_count ≤ w.element) where
      none : left w.element w.next ≡ tail text h elements params
      none = left_none text rows (drop w.next (all text h elements params)) w.element (omega (arith, ids_long text h elements params s)) (tail text h elements params)

      pub put_last : Fits out w.at (tail text h elements params)
      put_last = midway_fits i.room i.midway (starts_named (tail text h elements params) (left w.element w.next) (sym none))

      pub put_end : (n : ℕ) (y : List ℕ) → Wrote out w.at (tail text h elements params) n y → Wrote o at (left 0 0) n y
      put_end n y u = midway_last i.room i.midway (rw none u)

-- ---- the answers

pub suits_as : (text : List ℕ) (h : Handed) (elements params : List (List ℕ)) (r : Record) → r ≡ record_in h → (b : Bool)
    → b ≡ suits text r h.element_count h.param_count elements params → (c : Bool) → b ≡ c → suits text (record_in h) h.element_count h.param_count elements params ≡ c
suits_as text h elements params r e b q c t = rw (← e) (sym q ∙ t)

module _ (text : List ℕ) (h : Handed) (elements params : List (List ℕ)) (o : List ℕ) where
  pub write_unsuited : suits text (record_in h) h.element_count h.param_count elements params ≡ false → Writes text h elements params o (Err Unsuitable) o
  unfolding answered
  write_unsuited s = record { answer = rw s; output = refl }

  module _ (s : suits text (record_in h) h.element_count h.param_count elements params ≡ true) (w : Walk) (m : Measured text h elements params w) where
    abbrev total : ℕ
    total = length (written (fields_in text h elements params))

    answer_is : answer_of w (length o) ≡ answered text h elements params (length o)
    unfolding answered
    answer_is = go m
      where
        go : Measured text h elements params w → answer_of w (length o) ≡ answered text h elements params (length o)
        go (Measured.bad a b) = rw (s, a, b)
        go (Measured.good a b (Capped.exact l e)) = rw (s, a, b, e)
        go (Measured.good a b (Capped.over l e)) = rw (s, a, b, e, lt-ltb line_limit total l)

    module _ (b : Bool) (e : b ≡ is_written w (length o)) where
      module _ (q : b ≡ true) where
        tests : ((w.fits && leb w.at line_limit) ≡ true) × (leb w.at (length o) ≡ true)
        tests = both (w.fits && leb w.at line_limit) (leb w.at (length o)) (sym e ∙ q)

        fit : (w.fits ≡ true) × (leb w.at line_limit ≡ true)
        fit = both w.fits (leb w.at line_limit) tests.0

        size : w.at ≡ total
        size = go m
          where
            go : Measured text h elements params w → w.at ≡ total
            go (Measured.bad a c) = clash (sym fit.0 ∙ a)
            go (Measured.good a c (Capped.exact l z)) = z
            go (Measured.good a c (Capped.over l z)) = absurd (omega (arith, leb-true w.at line_limit fit.1))

        pub write_fits : Fits o 0 (written (fields_in text h elements params))
        write_fits = record { fits = omega (arith, size, leb-true w.at (length o) tests.1) }

        done : answer_of w (length o) ≡ Ok w.at
        done = rw (fit.0, le-ltb line_limit w.at (leb-true w.at line_limit fit.1), le-ltb (length o) w.at (leb-true w.at (length o) tests.1))

        pub write_done : (n : ℕ) (x : List ℕ) → Wrote o 0 (written (fields_in text h elements params)) n x → (r : Result ℕ Refusal) → r ≡ answer_of w (length o) → Writes text h elements params o r x
        write_done n x u r z =
            record {
              answer = z ∙ answer_is;
              output = u.holds ∙ written_front o (written (fields_in text h elements params)) ∙ sym (ap (λ (a : Result ℕ Refusal). output_after a (written (fields_in text h elements params)) o) (z ∙ done));
            }

      pub write_refused : b ≡ false → (r : Result ℕ Refusal) → r ≡ answer_of w (length o) → Writes text h elements params o r o
      write_refused q r z = record { answer = z ∙ answer_is; output = kept w.fits (dec_le w.at line_limit) (dec_le w.at (length o)) refl }
        where
          kept : (f : Bool) → Dec (w.at ≤ line_limit) → Dec (w.at ≤ length o) → w.fits ≡ f → o ≡ output_after r (written (fields_in text h elements params)) o
          kept false x y g = rw (z, g)
          kept true (no x) y g = rw (z, g, lt-ltb line_limit w.at (omega arith))
          kept true (yes x) (no y) g = rw (z, g, le-ltb line_limit w.at x, lt-ltb (length o) w.at (omega arith))
          kept true (yes x) (yes y) g = clash (sym (e ∙ rw (g, le-leb w.at line_limit x, le-leb w.at (length o) y)) ∙ q)

-- over the C boundary
pub serves : (text : List ℕ) (h : Handed) (elements params : List (List ℕ)) (o : List ℕ) (r : Result ℕ Refusal) (x : List ℕ) → Writes text h elements params o r x → (a : OutputAnswer) → a ≡ output_answer_of r
    → ServesWrite text h elements params o a x
serves text h elements params o r x w a e =
    record {
      answer = e ∙ ap output_answer_of w.answer;
      output = w.output ∙ ap (λ (v : Result ℕ Refusal). output_after v (written (fields_in text h elements params)) o) w.answer;
    }

pub one_answer : OneAnswer
one_answer text h elements params before a b x y u v = (u.answer ∙ sym v.answer, u.output ∙ sym v.output)
