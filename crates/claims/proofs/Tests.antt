-- What the tests of a claim's pieces say, both ways.
use Rattle.std.specs.Prelude.{if◌then◌else◌, Option, Some, None}
use Prim.Native.Nat.{ℕ, suc, ◌+◌, ◌≤◌, ◌<◌}
use mathlib.Core.Path.{◌≡◌, refl, sym, ap, ap₂, ◌∙◌, subst}
use mathlib.Core.Bool.{Bool, true, false, not, ◌&&◌}
use mathlib.Core.List.{List, [], ◌∷◌, ◌++◌}
use native.Mathlib.Nat.{add-zero}
use native.Mathlib.Omega.{arith}
use lib.Dec.{eqb}
use lib.ListN.{length, get_or, drop, length-drop, length-append, take-append-drop}
use lib.Seq.{length-take-le, drop-drop, get_or-take, get_or-drop}
use borrow.Author.Tests.{le-leb, leb-true, eqb-true, eq-eqb, not-true}
use Rattle.base.specs.Choose.{is_at}
use Rattle.base.specs.Runs.{All}
use Rattle.base.specs.Texts.{text_at}
use Rattle.base.proofs.Tests.{clash, both, by_test}
use Rattle.base.proofs.Texts.{same_is, same_self}
use Rattle.base.proofs.Ranges.{inside, orders}
use Rattle.base.proofs.Parts.{at_cons}
use Rattle.record.specs.Places.{absent, place}
use Rattle.record.specs.declared.Place.{Place}
use Rattle.grammar.specs.Abnf.{print_us_ascii, Repeat}
use Rattle.grammar.specs.Line.{bare, Escaped}
use Rattle.grammar.specs.Line.Escaped.{nothing, plain, pair}
use Rattle.grammar.specs.Reading.{place_of}
use Rattle.claims.specs.Holds.{next_if, on_next, byte_next, every, stands_at, class_at, len_of, text_holds, text_next, well_escaped}
use Rattle.claims.proofs.Told.{told_text}
use Rattle.claims.proofs.Places.{Here, here_text, here_byte, here_on, here_as, moved}

-- ---- tests and steps

pub all_both : (a b : Bool) → a ≡ true → b ≡ true → (a && b) ≡ true
all_both a b p q = rw (p, q)

pub never : {A : Type 0} {n : ℕ} → None ≡ Some n → A
never h = let z : true ≡ false = cc in clash z

pub same_at : {m n : ℕ} → Some m ≡ Some n → m ≡ n
same_at h = cc

-- a test that was passed
pub next_if_lem : (b : Bool) (m n : ℕ) → next_if b m ≡ Some n → (b ≡ true) × (m ≡ n)
next_if_lem true m n h = (refl, same_at h)
next_if_lem false m n h = never h

pub if_next : (b : Bool) (x : Option ℕ) (n : ℕ) → (if b then x else None) ≡ Some n → (b ≡ true) × (x ≡ Some n)
if_next true x n h = (refl, h)
if_next false x n h = never h

-- and a step that was taken
pub record Onward (x : Option ℕ) (f : ℕ → Option ℕ) (n : ℕ) : Type 0 where
  pub to : ℕ
  pub first : x ≡ Some to
  pub second : f to ≡ Some n

pub on_next_lem : (x : Option ℕ) (f : ℕ → Option ℕ) (n : ℕ) → on_next x f ≡ Some n → Onward x f n
on_next_lem None f n h = never h
on_next_lem (Some m) f n h = record { to = m; first = refl; second = h }

-- ---- bytes and texts at their places

pub every_sound : (p : ℕ → Bool) (t : List ℕ) → every p t ≡ true → All p t
every_sound p [] h = tt
every_sound p (b ∷ t) h = let u = both (p b) (every p t) h in (u.0, every_sound p t u.1)

pub every_complete : (p : ℕ → Bool) (t : List ℕ) → All p t → every p t ≡ true
every_complete p [] a = refl
every_complete p (b ∷ t) a = rw (a.0, every_complete p t a.1)

module _ (line : List ℕ) where
  pub byte_stands : {at b : ℕ} {r : List ℕ} → Here line at (b ∷ r) → is_at line at b ≡ true
  byte_stands h = eq-eqb _ _ (here_byte h)

  pub here_inside : (at b : ℕ) (r : List ℕ) → Here line at (b ∷ r) → at < length line
  here_inside at b r h = let e : length (drop at line) ≡ suc (length r) = ap length h.is in omega (arith, length-drop at line)

  pub byte_then : (at b : ℕ) (r : List ℕ) → is_at line at (suc b) ≡ true → Here line (at + 1) r → Here line at (suc b ∷ r)
  byte_then at b r h g = record { is = at_cons line at b h ∙ ap (λ (l : List ℕ). suc b ∷ l) g.is }

  pub byte_step : (at b next : ℕ) → byte_next line at (suc b) ≡ Some next → (is_at line at (suc b) ≡ true) × (at + 1 ≡ next)
  unfolding byte_next
  byte_step at b next h = next_if_lem (is_at line at (suc b)) (at + 1) next h

  pub byte_taken : (at b : ℕ) (r : List ℕ) → Here line at (b ∷ r) → byte_next line at b ≡ Some (at + 1)
  unfolding byte_next
  byte_taken at b r h = rw (byte_stands h)

  pub cut_length : (at len : ℕ) → at + len ≤ length line → length (text_at line at len) ≡ len
  cut_length at len h = length-take-le len (drop at line) (rw length-drop (omega arith))

  -- the first byte of a text
  pub cut_first : (at len : ℕ) → 1 ≤ len → get_or (text_at line at len) 0 0 ≡ get_or line at 0
  cut_first at len l = get_or-take len (drop at line) 0 0 l ∙ get_or-drop at line 0 0 ∙ ap (λ (k : ℕ). get_or line k 0) (add-zero at)

  -- a text cut out, and the rest
  pub cut_here : (at len : ℕ) → Here line at (text_at line at len ++ drop (at + len) line)
  cut_here at len = record { is = sym (take-append-drop len (drop at line)) ∙ ap (λ (l : List ℕ). text_at line at len ++ l) (drop-drop len at line) }

  pub cut_then : (at len : ℕ) (r : List ℕ) → Here line (at + len) r → Here line at (text_at line at len ++ r)
  cut_then at len r g = record { is = (cut_here at len).is ∙ ap (λ (l : List ℕ). text_at line at len ++ l) g.is }

  pub text_here : (at : ℕ) (t : List ℕ) → stands_at line at t ≡ true → Here line at (t ++ drop (at + length t) line)
  text_here at t h = here_as (cut_here at (length t)) (ap (λ (l : List ℕ). l ++ drop (at + length t) line) (same_is (text_at line at (length t)) t h))

  pub text_then : (at : ℕ) (t r : List ℕ) → stands_at line at t ≡ true → Here line (at + length t) r → Here line at (t ++ r)
  text_then at t r h g = record { is = (text_here at t h).is ∙ ap (λ (l : List ℕ). t ++ l) g.is }

  pub text_stands : (at : ℕ) (t r : List ℕ) → Here line at (t ++ r) → stands_at line at t ≡ true
  text_stands at t r h = rw (here_text t r h) (same_self t)

  -- where a text stands, the line is that long
  pub here_fits : (at : ℕ) (t r : List ℕ) → 1 ≤ length t → Here line at (t ++ r) → at + length t ≤ length line
  here_fits at t r l h =
      let e : length (drop at line) ≡ length (t ++ r) = ap length h.is in
      omega (arith, length-drop at line, length-append t r)

  module _ (most : ℕ) (p : ℕ → Bool) (at len : ℕ) where
    pub class_sound : class_at line most p at len ≡ true → (Repeat 1 most p (text_at line at len)) × (length (text_at line at len) ≡ len)
    class_sound h =
        let u = both _ _ h in
        let v = both _ _ u.0 in
        let w = orders 1 most len v.0 in
        let e = cut_length at len (leb-true (at + len) (length line) v.1) in
        (record { at_least = omega arith; at_most = omega arith; all = every_sound p (text_at line at len) u.1 }, e)

  pub class_complete : (most : ℕ) (p : ℕ → Bool) (at : ℕ) (t r : List ℕ) → Repeat 1 most p t → Here line at (t ++ r) → class_at line most p at (length t) ≡ true
  class_complete most p at t r k h =
      rw (inside 1 most (length t) k.at_least k.at_most, le-leb (at + length t) (length line) (here_fits at t r k.at_least h), here_text t r h) (every_complete p t k.all)

-- ---- escapes

abbrev Left : Bool → List ℕ → Type 0
Left false t = Escaped t
Left true t = Escaped (92 ∷ t)

escaped_left : (t : List ℕ) (paired : Bool) → well_escaped paired t ≡ true → Left paired t
escaped_left [] true h = clash (sym h)
escaped_left [] false h = nothing
escaped_left (b ∷ t) true h = pair (escaped_left t false h)
escaped_left (b ∷ t) false h =
    let u = both (not (bare b)) (well_escaped (eqb b 92) t) h in
    by_test (λ e. eqb b 92 ≡ e → well_escaped e t ≡ true → Escaped (b ∷ t)) (eqb b 92)
    (λ e q g. subst (λ (x : ℕ). Escaped (x ∷ t)) (sym (eqb-true b 92 q)) (escaped_left t true g))
    (λ e q g. plain (not-true (bare b) u.0) q (escaped_left t false g))
    refl u.1

pub escaped_sound : (t : List ℕ) → well_escaped false t ≡ true → Escaped t
escaped_sound t h = escaped_left t false h

pub escaped_complete : {t : List ℕ} → Escaped t → well_escaped false t ≡ true
escaped_complete nothing = refl
escaped_complete (plain b e h) = rw (b, e) (escaped_complete h)
escaped_complete (pair h) = escaped_complete h

-- ---- a text that may be absent, and the space behind it

-- the test for "-"
dash_is : (t : List ℕ) → (eqb (length t) 1 && is_at t 0 45) ≡ true → t ≡ 45 ∷ []
dash_is [] h = clash (sym h)
dash_is (b ∷ []) h = ap (λ (x : ℕ). x ∷ []) (eqb-true b 45 h)
dash_is (a ∷ b ∷ t) h = let e = eqb-true (suc (suc (length t))) 1 (both _ _ h).0 in absurd (omega arith)

module _ (line : List ℕ) (most at : ℕ) where
  pub record TextHere (p : Place) : Type 0 where
    pub ok : Repeat 1 most print_us_ascii (told_text line p)
    pub is : place_of at (told_text line p) ≡ p
    pub size : length (told_text line p) ≡ len_of p
    pub here : (r : List ℕ) → Here line (at + len_of p) r → Here line at (told_text line p ++ r)

  text_sound : (b : Bool) (start len : ℕ) → 1 ≤ most → text_holds line most at (record { present = b; start = start; len = len }) ≡ true
      → TextHere (record { present = b; start = start; len = len })
  text_sound true start len l h =
      let t = text_at line at len in
      let u1 = both (eqb start at && class_at line most print_us_ascii at len) (not (eqb len 1 && is_at line at 45)) h in
      let u2 = both (eqb start at) (class_at line most print_us_ascii at len) u1.0 in
      let c = class_sound line most print_us_ascii at len u2.1 in
      let n : (eqb (length t) 1 && is_at t 0 45) ≡ false =
      ap₂ (λ (i j : ℕ). eqb i 1 && eqb j 45) c.1 (cut_first line at len (omega (arith, c.0.at_least, c.1))) ∙ not-true (eqb len 1 && is_at line at 45) u1.1 in
      let w : TextHere (place at len) = record {
        ok = c.0;
        is = ap (λ (b : Bool). if b then absent else place at (length t)) n ∙ ap (place at) c.1;
        size = c.1;
        here = λ r g. cut_then line at len r g;
      } in
      subst (λ (s : ℕ). TextHere (place s len)) (sym (eqb-true start at u2.0)) w
  text_sound false start len l h =
      let u1 = both (eqb start 0 && eqb len 0) (is_at line at 45) h in
      let u2 = both (eqb start 0) (eqb len 0) u1.0 in
      record {
        ok = record { at_least = omega arith; at_most = l; all = (refl, tt) };
        is = ap₂ (λ (s n : ℕ). record { present = false; start = s; len = n }) (sym (eqb-true start 0 u2.0)) (sym (eqb-true len 0 u2.1));
        size = refl;
        here = λ r g. byte_then line at 44 r u1.1 g;
      }

  text_complete : (t r : List ℕ) → Repeat 1 most print_us_ascii t → Here line at (t ++ r) → (text_holds line most at (place_of at t) ≡ true) × (len_of (place_of at t) ≡ length t)
  text_complete t r k h =
      by_test
      (λ b. (eqb (length t) 1 && is_at t 0 45) ≡ b
      → (let p : Place = if b then absent else place at (length t) in (text_holds line most at p ≡ true) × (len_of p ≡ length t)))
      (eqb (length t) 1 && is_at t 0 45)
      (λ e q. (byte_stands line (here_as h (ap (λ (l : List ℕ). l ++ r) (dash_is t q))), sym (ap length (dash_is t q))))
      (λ e q.
      let n : not (eqb (length t) 1 && is_at line at 45) ≡ true =
      ap (λ (j : ℕ). not (eqb (length t) 1 && eqb j 45)) (sym (cut_first line at (length t) k.at_least) ∙ ap (λ (l : List ℕ). get_or l 0 0) (here_text t r h)) ∙ ap not q in (
        all_both (eqb at at && class_at line most print_us_ascii at (length t)) _
            (all_both (eqb at at) (class_at line most print_us_ascii at (length t)) (eq-eqb at at refl) (class_complete line most print_us_ascii at t r k h)) n,
        refl,
      ))
      refl

  pub record TextStep (p : Place) (next : ℕ) : Type 0 where
    pub ok : Repeat 1 most print_us_ascii (told_text line p)
    pub is : place_of at (told_text line p) ≡ p
    pub ends : next ≡ at + length (told_text line p) + 1
    pub here : (r : List ℕ) → Here line next r → Here line at (told_text line p ++ (32 ∷ r))

  pub text_step : (p : Place) (next : ℕ) → 1 ≤ most → text_next line most at p ≡ Some next → TextStep p next
  unfolding text_next
  text_step p next l h =
      let (t, g) = if_next (text_holds line most at p) (byte_next line (at + len_of p) 32) next h in
      let (b, e) = byte_step line (at + len_of p) 31 next g in
      let s = text_sound p.present p.start p.len l t in
      record {
        ok = s.ok;
        is = s.is;
        ends = omega (arith, s.size);
        here = λ r g. s.here (32 ∷ r) (byte_then line (at + len_of p) 31 r b (moved (at + len_of p + 1) g (sym e)));
      }

  pub text_taken : (t r : List ℕ) → Repeat 1 most print_us_ascii t → Here line at (t ++ (32 ∷ r)) → text_next line most at (place_of at t) ≡ Some (at + length t + 1)
  unfolding text_next
  text_taken t r k h =
      let (a, b) = text_complete t (32 ∷ r) k h in
      rw (a, b, byte_taken line (at + length t) 32 r (here_on t h))
