-- The ids of a line: what is lent of it, and a byte of a text.
use Prim.Native.Nat.{ℕ, ◌+◌, ◌-◌, ◌^◌, ◌≤◌, ◌<◌}
use mathlib.Core.Path.{◌≡◌, refl, sym, ◌∙◌}
use mathlib.Core.List.{List}
use native.Mathlib.Omega.{arith}
use lib.ListN.{length, get_or, take, drop, get_or-eq_default}
use mir.Syntax.{w64}
use mir.Val.{Fits}
use Rattle.base.proofs.Texts.{part_text_lem}
use Rattle.distinct.specs.Distinct.{id_of, Rows}

module _ (line starts lens : List ℕ) (k : ℕ) (r : Rows line starts lens (k + 1)) (start len : ℕ) (es : start ≡ get_or starts k 0) (el : len ≡ get_or lens k 0) where
  pub id_inside : start + len ≤ length line
  id_inside = omega (arith, r.inside k (omega arith))

  pub id_fits_lem : length line < 2 ^ 64 → Fits w64 (start + len)
  id_fits_lem h = record { fits = omega (arith, id_inside) }

  pub id_lent : (s : List ℕ) → s ≡ take (start + len - start) (drop start line) → s ≡ id_of line starts lens k
  id_lent s e = e ∙ rw (part_text_lem line start len, es, el) refl

pub ruleset id_laws = (id_inside, id_fits_lem, id_lent)

-- fewer ids
pub rows_less : (line starts lens : List ℕ) (n k : ℕ) → Rows line starts lens n → k ≤ n → Rows line starts lens k
rows_less line starts lens n k r h = record {
  starts_given = omega (arith, r.starts_given);
  lens_given = omega (arith, r.lens_given);
  inside = λ m l. r.inside m (omega arith);
}

-- a byte past the end
pub byte_out : (text : List ℕ) (p : ℕ) → length text ≤ p → 0 ≡ get_or text p 0
byte_out text p h = sym (get_or-eq_default text 0 h)
