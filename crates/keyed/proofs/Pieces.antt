-- The text of a pair, written in pieces.
use Prim.Native.Nat.{ℕ, suc, ◌+◌, ◌-◌, ◌/◌, ◌%◌, ◌^◌, ◌≤◌, ◌<◌}
use mathlib.Core.Path.{◌≡◌, refl, sym, ap, ap₂, ◌∙◌}
use mathlib.Core.Bool.{true}
use mathlib.Core.List.{List, [], ◌∷◌, ◌++◌}
use native.Mathlib.Omega.{arith}
use lib.ListN.{length, get_or, take, drop, set, length-set}
use mir.Syntax.{w64}
use mir.Val as val
use borrow.Author.Tests.{ne_eqb}
use Rattle.base.proofs.Parts.{step}
use Rattle.base.proofs.Texts.{part_text_lem}
use Rattle.record.specs.declared.Param.{Param}
use Rattle.record.specs.Params.{row_of}
use Rattle.output.specs.Fits.{Fits}
use Rattle.output.specs.Output.{written, Wrote}
use Rattle.output.proofs.Writes.{written_set, written_more}
use Rattle.lookup.specs.Unescape.{unescaped_from, unescaped}
use Rattle.lookup.proofs.Pairs.{Two, first_fits, second_fits, two_are}
use Rattle.keyed.specs.Keys.{short, head_text, tail_text, key_text, Begun}
use Rattle.keyed.specs.Notes.{Inside}

short_two : (x : ℕ) → Two (x % 256 ∷ []) (x / 256 % 256 ∷ []) (short x)
unfolding short
short_two x = record { is = refl }

head_two : (element len : ℕ) → Two (short element) (short len) (head_text element len)
unfolding head_text
head_two element len = record { is = refl }

tail_two : (name value : List ℕ) → Two name (unescaped true value) (tail_text name value)
unfolding tail_text
tail_two name value = record { is = refl }

-- each piece fits, and the two are one
module _ (o : List ℕ) (at : ℕ) (x : ℕ) (f : Fits o at (short x)) where
  pub short_first : Fits o at (x % 256 ∷ [])
  short_first = first_fits _ _ _ o at f (short_two x)

  module _ (n : ℕ) (q : List ℕ) (w : Wrote o at (x % 256 ∷ []) n q) where
    pub short_second : Fits q n (x / 256 % 256 ∷ [])
    short_second = second_fits _ _ _ o at f (short_two x) n q w

    pub short_all : (m : ℕ) (r : List ℕ) → Wrote q n (x / 256 % 256 ∷ []) m r → Wrote o at (short x) m r
    short_all m r v = two_are _ _ _ o at f (short_two x) n q w m r v

pub ruleset short_laws = (short_first, short_second, short_all)

module _ (o : List ℕ) (at : ℕ) (element len : ℕ) (f : Fits o at (head_text element len)) where
  pub head_first : Fits o at (short element)
  head_first = first_fits _ _ _ o at f (head_two element len)

  module _ (n : ℕ) (q : List ℕ) (w : Wrote o at (short element) n q) where
    pub head_second : Fits q n (short len)
    head_second = second_fits _ _ _ o at f (head_two element len) n q w

    pub head_all : (m : ℕ) (r : List ℕ) → Wrote q n (short len) m r → Wrote o at (head_text element len) m r
    head_all m r v = two_are _ _ _ o at f (head_two element len) n q w m r v

pub ruleset head_laws = (head_first, head_second, head_all)

-- ---- a value: up to its first backslash, and the rest

add_zero : (n : ℕ) → n + 0 ≡ n
add_zero n = omega arith

-- a byte that is no backslash
plain_step : (v : List ℕ) (i : ℕ) → i < length v → (get_or v i 0 ≡ 92 → ⊥) → unescaped true (drop i v) ≡ get_or v i 0 ∷ unescaped true (drop (i + 1) v)
unfolding unescaped_from
plain_step v i h n = rw (step v i h, ne_eqb (get_or v i 0) 92 n) refl

module _ (o : List ℕ) (at : ℕ) (v : List ℕ) where
  pub begun_none : Begun v o at 0 o
  begun_none = record { inside = omega arith; same_length = refl; counted = omega arith; owed = rw (add_zero at) refl }

  module _ (f : Fits o at (unescaped true v)) (i : ℕ) (p : List ℕ) (w : Begun v o at i p) where
    pub begun_fits : length p < 2 ^ 64 → val.Fits w64 (at + i)
    begun_fits l = record { fits = omega (arith, f.fits, w.counted, w.same_length) }

    module _ (h : i < length v) (n : get_or v i 0 ≡ 92 → ⊥) where
      one_more : i + suc (length (unescaped true (drop (i + 1) v))) ≡ length (unescaped true v)
      one_more = sym (ap (λ (t : List ℕ). i + length t) (plain_step v i h n)) ∙ w.counted

      pub begun_inside : at + i < length p
      begun_inside = omega (arith, f.fits, one_more, w.same_length)

      pub begun_on : Begun v o at (i + 1) (set p (at + i) (get_or v i 0))
      begun_on =
          let rest = unescaped true (drop (i + 1) v) in
          let e : at + i + 1 ≡ at + (i + 1) = omega arith in
          record {
            inside = omega arith;
            same_length = length-set p (at + i) (get_or v i 0) ∙ w.same_length;
            counted = omega (arith, one_more);
            owed =
                ap₂ (λ (l : List ℕ) (k : ℕ). written l k rest) (written_set p (at + i) (get_or v i 0) begun_inside) (sym e)
                ∙ written_more p (at + i) (get_or v i 0 ∷ []) rest (omega (arith, begun_inside))
                ∙ ap (written p (at + i)) (sym (plain_step v i h n))
                ∙ w.owed;
          }

    module _ (s : List ℕ) (es : s ≡ drop i v) where
      pub rest_fits : Fits p (at + i) (unescaped true s)
      rest_fits = record { fits = rw es (omega (arith, f.fits, w.counted, w.same_length)) }

      pub value_all : (m : ℕ) (q : List ℕ) → Wrote p (at + i) (unescaped true s) m q → Wrote o at (unescaped true v) m q
      value_all m q x =
          let u : Wrote p (at + i) (unescaped true (drop i v)) m q = rw es at x in
          record { behind = omega (arith, u.behind, w.counted); holds = u.holds ∙ w.owed }

pub ruleset value_laws = (begun_none, begun_fits, begun_inside, begun_on, rest_fits, value_all)

module _ (o : List ℕ) (at : ℕ) (name value : List ℕ) (f : Fits o at (tail_text name value)) where
  pub tail_first : Fits o at (name)
  tail_first = first_fits _ _ _ o at f (tail_two name value)

  module _ (n : ℕ) (q : List ℕ) (w : Wrote o at (name) n q) where
    pub tail_second : Fits q n (unescaped true value)
    tail_second = second_fits _ _ _ o at f (tail_two name value) n q w

    pub tail_all : (m : ℕ) (r : List ℕ) → Wrote q n (unescaped true value) m r → Wrote o at (tail_text name value) m r
    tail_all m r v = two_are _ _ _ o at f (tail_two name value) n q w m r v

pub ruleset tail_laws = (tail_first, tail_second, tail_all)

-- of a row
module _ (s : List ℕ) (p : Param) (i : Inside s p) where
  module _ (l : length s < 2 ^ 64) where
    pub name_fits : val.Fits w64 (p.name_start + p.name_len)
    name_fits = record { fits = omega (arith, i.name_inside) }

    pub value_fits : val.Fits w64 (p.value_start + p.value_len)
    value_fits = record { fits = omega (arith, i.value_inside) }

  pub name_ends : p.name_start + p.name_len ≤ length s
  name_ends = i.name_inside

  pub value_ends : p.value_start + p.value_len ≤ length s
  value_ends = i.value_inside

  key_two : Two (head_text p.element p.name_len)
      (tail_text (take (p.name_start + p.name_len - p.name_start) (drop p.name_start s)) (take (p.value_start + p.value_len - p.value_start) (drop p.value_start s)))
      (key_text s (row_of p))
  unfolding key_text
  key_two =
      record {
        is =
            ap (λ (t : List ℕ). head_text p.element p.name_len ++ t)
            (ap₂ tail_text (part_text_lem s p.name_start p.name_len) (part_text_lem s p.value_start p.value_len));
      }

-- and its pieces
module _ (s : List ℕ) (p : Param) (i : Inside s p) (o : List ℕ) (at : ℕ) (f : Fits o at (key_text s (row_of p))) where
  pub key_first : Fits o at (head_text p.element p.name_len)
  key_first = first_fits _ _ _ o at f (key_two s p i)

  module _ (n : ℕ) (q : List ℕ) (w : Wrote o at (head_text p.element p.name_len) n q) where
    pub key_second : Fits q n
        (tail_text (take (p.name_start + p.name_len - p.name_start) (drop p.name_start s)) (take (p.value_start + p.value_len - p.value_start) (drop p.value_start s)))
    key_second = second_fits _ _ _ o at f (key_two s p i) n q w

    pub key_all : (m : ℕ) (r : List ℕ)
        → Wrote q n
        (tail_text (take (p.name_start + p.name_len - p.name_start) (drop p.name_start s)) (take (p.value_start + p.value_len - p.value_start) (drop p.value_start s)))
        m r
        → Wrote o at (key_text s (row_of p)) m r
    key_all m r v = two_are _ _ _ o at f (key_two s p i) n q w m r v

pub ruleset key_laws = (name_fits, value_fits, name_ends, value_ends, key_first, key_second, key_all)
