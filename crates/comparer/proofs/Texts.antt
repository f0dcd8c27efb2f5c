-- The text of an answer, written piece by piece: each piece fits, and how far it goes.
use Rattle.std.specs.Prelude.{Result, Ok, Err}
use Prim.Native.Nat.{ℕ, ◌+◌, ◌/◌, ◌≤◌}
use mathlib.Core.Path.{◌≡◌, ◌∙◌}
use mathlib.Core.Bool.{Bool, true, false}
use mathlib.Core.List.{List, [], ◌∷◌, ◌++◌}
use native.Mathlib.Omega.{arith}
use lib.ListN.{length}
use borrow.Author.Tests.{ne_eqb}
use Rattle.base.specs.Bytes.{bytes}
use Rattle.record.specs.Refusals.{refusal_number}
use Rattle.record.specs.declared.Refusal.{Refusal}
use Rattle.output.specs.Output.{Wrote}
use Rattle.output.specs.Fits.{Fits}
use Rattle.output.specs.Numerals.{numeral, width}
use Rattle.output.proofs.Numerals.{length_fixed, width_le}
use Rattle.output.proofs.Writes.{wrote_then, wrote_length}
use Rattle.output.proofs.Pieces.{unwritten}
use Rattle.differ.specs.declared.Differences.{Differences}
use Rattle.compare.specs.declared.Refused.{Refused}
use Rattle.comparer.specs.Text.{is_odd, shown_of, name_text, spaced, levels_text, places_text, ids_text, names_text, named_text, quoted_text, pair_text, elements_text, fields_text, refused_text, done_text, answer_text, line_text}

-- ---- two pieces, and three, of which the first ones end in the output

module _ {o : List ℕ} {at : ℕ} {x : List ℕ} {a : ℕ} {p : List ℕ} (u : Wrote o at x a p) (ua : a ≤ length o) where
  in_front : at + length x ≤ length o
  in_front = omega (arith, u.behind)

  pub two : {y : List ℕ} {b : ℕ} {q : List ℕ} → Wrote p a y b q → Wrote o at (x ++ y) b q
  two v = wrote_then u in_front v

  module _ {y : List ℕ} {b : ℕ} {q : List ℕ} (v : Wrote p a y b q) (vb : b ≤ length p) where
    pub three : {z : List ℕ} {c : ℕ} {r : List ℕ} → Wrote q b z c r → Wrote o at (x ++ (y ++ z)) c r
    three w = wrote_then u in_front (wrote_then v (omega (arith, v.behind)) w)

-- ---- a word

module _ (o : List ℕ) (at : ℕ) (d : Bool) (name : List ℕ) where
  pub name_none : d ≡ false → Wrote o at (name_text d name) at o
  unfolding name_text
  name_none e = unwritten (name_text d name) o at (rw e)

  module _ (room : at + 10 ≤ length o) (small : length name ≤ 9) where
    pub name_blank : Fits o at (32 ∷ [])
    name_blank = record { fits = omega arith }

    module _ (a : ℕ) (p : List ℕ) (u : Wrote o at (32 ∷ []) a p) where
      name_same : length p ≡ length o
      name_same = wrote_length u (omega arith)

      pub name_fits : Fits p a name
      name_fits = record { fits = omega (arith, u.behind, name_same) }

      module _ (b : ℕ) (q : List ℕ) (v : Wrote p a name b q) where
        pub name_wrote : d ≡ true → Wrote o at (name_text d name) b q
        unfolding name_text
        name_wrote e = rw e (two u (omega (arith, u.behind)) v)

        pub name_end : b ≤ at + 10
        name_end = omega (arith, u.behind, v.behind)

        pub name_kept : length q ≡ length o
        name_kept = wrote_length v name_fits.fits ∙ name_same

pub ruleset name_laws = (name_none, name_blank, name_fits, name_wrote, name_end, name_kept)

-- ---- a number

module _ (o : List ℕ) (at n : ℕ) (room : at + 11 ≤ length o) where
  number_size : length (numeral n) ≤ 10
  number_size = omega (arith, length_fixed (width n) n, width_le 9 n)

  pub number_blank : Fits o at (32 ∷ [])
  number_blank = record { fits = omega arith }

  module _ (a : ℕ) (p : List ℕ) (u : Wrote o at (32 ∷ []) a p) where
    number_same : length p ≡ length o
    number_same = wrote_length u (omega arith)

    pub number_fits : Fits p a (numeral n)
    number_fits = record { fits = omega (arith, u.behind, number_same, number_size) }

    module _ (b : ℕ) (q : List ℕ) (v : Wrote p a (numeral n) b q) where
      pub number_wrote : Wrote o at (spaced n) b q
      unfolding spaced
      number_wrote = two u (omega (arith, u.behind)) v

      pub number_end : b ≤ at + 11
      number_end = omega (arith, u.behind, v.behind, number_size)

      pub number_kept : length q ≡ length o
      number_kept = wrote_length v number_fits.fits ∙ number_same

pub ruleset number_laws = (number_blank, number_fits, number_wrote, number_end, number_kept)

-- ---- names of fields

module _ (o : List ℕ) (at n : ℕ) (room : at + 30 ≤ length o) (d e : Bool) (a : ℕ) (p : List ℕ) (ua : a ≤ at + 10) (up : length p ≡ length o) (b : ℕ) (q : List ℕ) (vb : b ≤ a + 10) where
  module _ (f : Bool) (c : ℕ) (r : List ℕ) where
    pub levels_wrote : d ≡ is_odd n → Wrote o at (name_text d (bytes "protocol")) a p → e ≡ is_odd (n / 2) → Wrote p a (name_text e (bytes "facility")) b q → f ≡ is_odd (n / 4) → Wrote q b (name_text f (bytes "severity")) c r → Wrote o at (levels_text n) c r
    unfolding levels_text
    levels_wrote ed u ee v ef w = rw (← ed, ← ee, ← ef) (three u (omega arith) v (omega (arith, up)) w)

    pub places_wrote : d ≡ is_odd (n / 8) → Wrote o at (name_text d (bytes "timestamp")) a p → e ≡ is_odd (n / 16) → Wrote p a (name_text e (bytes "host")) b q → f ≡ is_odd (n / 32) → Wrote q b (name_text f (bytes "app")) c r → Wrote o at (places_text n) c r
    unfolding places_text
    places_wrote ed u ee v ef w = rw (← ed, ← ee, ← ef) (three u (omega arith) v (omega (arith, up)) w)

  pub ids_wrote : d ≡ is_odd (n / 64) → Wrote o at (name_text d (bytes "procid")) a p → e ≡ is_odd (n / 128) → Wrote p a (name_text e (bytes "msgid")) b q → Wrote o at (ids_text n) b q
  unfolding ids_text
  ids_wrote ed u ee v = rw (← ed, ← ee) (two u (omega arith) v)

module _ (o : List ℕ) (at n : ℕ) (room : at + 90 ≤ length o) (a : ℕ) (p : List ℕ) (u : Wrote o at (levels_text n) a p) (ua : a ≤ at + 30) (up : length p ≡ length o) where
  pub names_wrote : (b : ℕ) (q : List ℕ) → Wrote p a (places_text n) b q → b ≤ a + 30 → (c : ℕ) (r : List ℕ) → Wrote q b (ids_text n) c r → Wrote o at (names_text n) c r
  unfolding names_text
  names_wrote b q v vb c r w = three u (omega arith) v (omega (arith, up)) w

pub ruleset field_laws = (levels_wrote, places_wrote, ids_wrote, names_wrote)

-- ---- the pair

module _ (o : List ℕ) (at : ℕ) (name : List ℕ) (room : at + 8196 ≤ length o) (small : length name ≤ 8193) where
  pub named_blank : Fits o at (32 ∷ [])
  named_blank = record { fits = omega arith }

  module _ (a : ℕ) (p : List ℕ) (u : Wrote o at (32 ∷ []) a p) where
    named_same : length p ≡ length o
    named_same = wrote_length u (omega arith)

    pub named_fits : Fits p a name
    named_fits = record { fits = omega (arith, u.behind, named_same) }

    module _ (b : ℕ) (q : List ℕ) (v : Wrote p a name b q) where
      named_again : length q ≡ length o
      named_again = wrote_length v named_fits.fits ∙ named_same

      pub named_quote : Fits q b (61 ∷ 34 ∷ [])
      named_quote = record { fits = omega (arith, u.behind, v.behind, named_again) }

      module _ (c : ℕ) (r : List ℕ) (w : Wrote q b (61 ∷ 34 ∷ []) c r) where
        pub named_wrote : Wrote o at (named_text name) c r
        unfolding named_text
        named_wrote = three u (omega (arith, u.behind)) v (omega (arith, u.behind, v.behind, named_same)) w

        pub named_end : c ≤ at + 8196
        named_end = omega (arith, u.behind, v.behind, w.behind)

        pub named_kept : length r ≡ length o
        named_kept = wrote_length w named_quote.fits ∙ named_again

pub ruleset named_laws = (named_blank, named_fits, named_quote, named_wrote, named_end, named_kept)

module _ (o : List ℕ) (at : ℕ) (value : List ℕ) (room : at + 8194 ≤ length o) (small : length value ≤ 8193) where
  pub quoted_fits : Fits o at value
  quoted_fits = record { fits = omega arith }

  module _ (a : ℕ) (p : List ℕ) (u : Wrote o at value a p) where
    quoted_same : length p ≡ length o
    quoted_same = wrote_length u quoted_fits.fits

    pub quoted_quote : Fits p a (34 ∷ [])
    quoted_quote = record { fits = omega (arith, u.behind, quoted_same) }

    module _ (b : ℕ) (q : List ℕ) (v : Wrote p a (34 ∷ []) b q) where
      pub quoted_wrote : Wrote o at (quoted_text value) b q
      unfolding quoted_text
      quoted_wrote = two u (omega (arith, u.behind)) v

      pub quoted_end : b ≤ at + 8194
      quoted_end = omega (arith, u.behind, v.behind)

      pub quoted_kept : length q ≡ length o
      quoted_kept = wrote_length v quoted_quote.fits ∙ quoted_same

pub ruleset quoted_laws = (quoted_fits, quoted_quote, quoted_wrote, quoted_end, quoted_kept)

module _ (o : List ℕ) (at n : ℕ) (name value : List ℕ) where
  pub pair_none : n ≡ 0 → Wrote o at (pair_text n name value) at o
  unfolding pair_text
  pair_none e = unwritten (pair_text n name value) o at (rw e)

  module _ (z : n ≡ 0 → ⊥) (room : at + 16401 ≤ length o) (a : ℕ) (p : List ℕ) (u : Wrote o at (spaced n) a p) (ua : a ≤ at + 11) (up : length p ≡ length o) where
    pub pair_wrote : (b : ℕ) (q : List ℕ) → Wrote p a (named_text name) b q → b ≤ a + 8196 → (c : ℕ) (r : List ℕ) → Wrote q b (quoted_text value) c r → Wrote o at (pair_text n name value) c r
    unfolding pair_text
    pair_wrote b q v vb c r w = rw (ne_eqb n 0 z) (three u (omega arith) v (omega (arith, up)) w)

pub ruleset pair_laws = (pair_none, pair_wrote)

-- ---- all fields

module _ (o : List ℕ) (at : ℕ) (d : Differences) (name value : List ℕ) where
  module _ (t : Bool) (et : t ≡ is_odd (d.fields / 256)) where
    pub elements_none : t ≡ false → Wrote o at (elements_text d name value) at o
    unfolding elements_text
    elements_none e = unwritten (elements_text d name value) o at (rw (← et, e))

    module _ (e : t ≡ true) (room : at + 16422 ≤ length o) (a : ℕ) (p : List ℕ) (u : Wrote o at (name_text true (bytes "elements")) a p) (ua : a ≤ at + 10) (up : length p ≡ length o) where
      pub elements_wrote : (n : ℕ) → n ≡ shown_of d.position → (b : ℕ) (q : List ℕ) → Wrote p a (spaced n) b q → b ≤ a + 11 → (c : ℕ) (r : List ℕ) → Wrote q b (pair_text d.pair_line name value) c r → Wrote o at (elements_text d name value) c r
      unfolding elements_text
      elements_wrote n en b q v vb c r w = rw (← et, e, ← en) (three u (omega arith) v (omega (arith, up)) w)

  module _ (room : at + 16522 ≤ length o) (a : ℕ) (p : List ℕ) (u : Wrote o at (names_text d.fields) a p) (ua : a ≤ at + 90) (up : length p ≡ length o) where
    pub fields_wrote : (b : ℕ) (q : List ℕ) → Wrote p a (elements_text d name value) b q → b ≤ a + 16422 → (t : Bool) → t ≡ is_odd (d.fields / 512) → (c : ℕ) (r : List ℕ) → Wrote q b (name_text t (bytes "message")) c r → Wrote o at (fields_text d name value) c r
    unfolding fields_text
    fields_wrote b q v vb t et c r w = rw (← et) (three u (omega arith) v (omega (arith, up)) w)

  module _ (a : ℕ) (p : List ℕ) where
    pub done_same : d.fields ≡ 0 → Wrote o at (name_text true (bytes "same")) a p → Wrote o at (done_text d name value) a p
    unfolding done_text
    done_same e w = rw e w

    pub done_fields : (d.fields ≡ 0 → ⊥) → Wrote o at (fields_text d name value) a p → Wrote o at (done_text d name value) a p
    unfolding done_text
    done_fields f w = rw (ne_eqb d.fields 0 f) w

pub ruleset elements_laws = (elements_none, elements_wrote)

pub ruleset done_laws = (fields_wrote, done_same, done_fields)

-- ---- an answer

module _ (o : List ℕ) (at line : ℕ) (f : Refusal) (room : at + 32 ≤ length o) (a : ℕ) (p : List ℕ) (u : Wrote o at (name_text true (bytes "refuse")) a p) (ua : a ≤ at + 10) (up : length p ≡ length o) where
  pub refused_wrote : (b : ℕ) (q : List ℕ) → Wrote p a (spaced line) b q → b ≤ a + 11 → (n : ℕ) → n ≡ refusal_number f → (c : ℕ) (r : List ℕ) → Wrote q b (spaced n) c r → Wrote o at (refused_text line f) c r
  unfolding refused_text
  refused_wrote b q v vb n en c r w = rw (← en) (three u (omega arith) v (omega (arith, up)) w)

module _ (o : List ℕ) (name value : List ℕ) (c : Result Differences Refused) (a : ℕ) (p : List ℕ) where
  pub answer_refused : (x : Refused) → c ≡ Err x → Wrote o 0 (refused_text x.line x.refusal) a p → Wrote o 0 (answer_text c name value) a p
  unfolding answer_text
  answer_refused x e w = rw e w

  pub answer_done : (d : Differences) → c ≡ Ok d → Wrote o 0 (done_text d name value) a p → Wrote o 0 (answer_text c name value) a p
  unfolding answer_text
  answer_done d e w = rw e w

  module _ (room : 16523 ≤ length o) (u : Wrote o 0 (answer_text c name value) a p) (ua : a ≤ 16522) (up : length p ≡ length o) where
    pub line_fits : Fits p a (10 ∷ [])
    line_fits = record { fits = omega (arith, up, room, ua) }

    module _ (b : ℕ) (q : List ℕ) (v : Wrote p a (10 ∷ []) b q) where
      pub line_wrote : Wrote o 0 (line_text c name value) b q
      unfolding line_text
      line_wrote = two u (omega (arith, ua, room)) v

      pub line_some : 1 ≤ b
      line_some = omega (arith, v.behind)

      pub line_near : b ≤ 16523
      line_near = omega (arith, v.behind, ua)

      pub line_kept : length q ≡ length o
      line_kept = wrote_length v line_fits.fits ∙ up

pub ruleset answer_laws = (refused_wrote, answer_refused, answer_done, line_fits, line_wrote, line_some, line_near, line_kept)
