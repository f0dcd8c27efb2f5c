-- What measuring begins with.
use Prim.Native.Nat.{ℕ, ◌+◌, ◌≤◌, ◌<◌}
use mathlib.Core.Path.{◌≡◌, refl, sym, ◌∙◌}
use mathlib.Core.Bool.{Bool, true, false, not, and-false}
use mathlib.Core.List.{List}
use native.Mathlib.Omega.{arith}
use lib.ListN.{length}
use borrow.Author.Tests.{not-true, not-false, ne_eqb}
use mir.Syntax.{w64}
use mir.Val as val
use Rattle.base.specs.Texts.{text_at}
use Rattle.record.specs.Limits.{line_limit}
use Rattle.output.specs.Fits.{Sized}
use Rattle.grammar.specs.Line.{message_text}
use Rattle.writes.specs.declared.Part.{Part}
use Rattle.writes.specs.declared.Handed.{Handed}
use Rattle.writes.specs.Writes.{part_in}
use Rattle.fitting.specs.Heads.{head_fits}
use Rattle.writer_header.specs.Fronts.{front_text}
use Rattle.writer_data.specs.declared.Walk.{Walk}
use Rattle.writer_data.specs.Sizes.{Capped}
use Rattle.writer_data.specs.Sizes.Capped.{exact, over}
use Rattle.writer_data.specs.Walks.{first_text, id_fits, stopped_at}
use Rattle.writer.specs.Steps.{Begins}
use Rattle.writer.specs.Steps.Begins.{begun, stopped}

-- the message
module _ (text : List ℕ) (n : ℕ) (l : n ≤ line_limit) (p : Part) where
  pub message_none : p.present ≡ 0 → Capped (n + length (message_text (part_in text p))) n
  message_none e = rw e (exact (omega arith) (omega arith))

  module _ (h : p.present ≡ 0 → ⊥) (t : List ℕ) (e : t ≡ text_at text p.start p.len) where
    size : length (message_text (part_in text p)) ≡ 1 + length t
    size = rw (ne_eqb p.present 0 h, e) (omega arith)

    pub message_long : line_limit < length t → Capped (n + length (message_text (part_in text p))) (line_limit + 1)
    message_long g = over (omega (arith, size)) refl

    pub message_sum : val.Fits w64 (n + 1)
    message_sum = record { fits = omega arith }

    pub message_given : (r : ℕ) → Capped (n + 1 + length t) r → Capped (n + length (message_text (part_in text p))) r
    message_given r c = let m : n + length (message_text (part_in text p)) ≡ n + 1 + length t = omega (arith, size) in rw m c

pub ruleset message_laws = (message_none, message_long, message_sum, message_given)

-- all but the elements
pub head_told : (text : List ℕ) (h : Handed) (f : Bool) → f ≡ head_fits text h → not f ≡ false → head_fits text h ≡ true
head_told text h f e q = sym e ∙ not-false f q

module _ (text : List ℕ) (h : Handed) (ids : List (List ℕ)) (f : Bool) (ef : f ≡ head_fits text h) where
  pub head_stops : not f ≡ true → (w : Walk) → w ≡ stopped_at (length ids) → Begins text h ids w
  head_stops q w e = stopped e (rw (← ef, not-true f q))

  module _ (q : not f ≡ false) (g : Bool) (eg : g ≡ id_fits text ids 0) where
    pub id_stops : not g ≡ true → (w : Walk) → w ≡ stopped_at (length ids) → Begins text h ids w
    id_stops p w e = stopped e (rw (← eg, not-true g p) (and-false (head_fits text h)))

    module _ (p : not g ≡ false) where
      pub id_fits_lem : id_fits text ids 0 ≡ true
      id_fits_lem = sym eg ∙ not-false g p

      module _ (a b : ℕ) (s : Sized (front_text text h) 526 a) (t : Sized (first_text text ids) 33 b) where
        pub start_sum : val.Fits w64 (a + b)
        start_sum = record { fits = omega (arith, s.to, t.to) }

        pub start_short : a + b ≤ line_limit
        start_short = omega (arith, s.to, t.to)

        pub start_all : (n : ℕ) → Capped (a + b + length (message_text (part_in text h.message))) n → Begins text h ids (record { element = 0; next = 0; at = n; fits = true })
        start_all n c = begun n refl (head_told text h f ef q) id_fits_lem (rw (← s.is, ← t.is) c)

pub ruleset start_laws = (head_stops, id_stops, id_fits_lem, start_sum, start_short, start_all)
