-- Names and values where they are claimed to stand, test by test.
use Rattle.std.specs.Prelude.{if◌then◌else◌}
use Prim.Native.Nat.{ℕ, ◌+◌, ◌-◌, ◌≤◌, ◌<◌}
use mathlib.Core.Path.{◌≡◌, refl, sym, ap, ◌∙◌}
use mathlib.Core.Bool.{Bool, true, false, not, ◌&&◌}
use mathlib.Core.List.{List, ◌∷◌}
use native.Mathlib.Omega.{arith}
use lib.Dec.{leb, eqb}
use lib.ListN.{length, get_or, take, drop}
use borrow.Author.Tests.{le-leb, not-true, not-false}
use Rattle.base.specs.Choose.{within, is_at}
use Rattle.base.specs.Texts.{text_at}
use Rattle.base.proofs.Parts.{step, ended}
use Rattle.base.proofs.Texts.{part_text_lem}
use Rattle.utf8.specs.Lead.{is_utf8}
use Rattle.grammar.specs.Abnf.{sd_name_byte}
use Rattle.grammar.specs.Line.{bare}
use Rattle.claims.specs.Holds.{every, class_at, well_escaped, name_holds, value_holds}

-- ---- a name

module _ (line : List ℕ) (at len : ℕ) where
  pub name_length : not (leb 1 len && leb len 32) ≡ true → false ≡ class_at line 32 sd_name_byte at len
  name_length q = rw (not-true (within 1 32 len) q)

  pub name_bytes_lem : not (leb 1 len && leb len 32) ≡ false → at + len ≤ length line → (t : Bool) → t ≡ every sd_name_byte (take (at + len - at) (drop at line))
      → t ≡ class_at line 32 sd_name_byte at len
  name_bytes_lem q l t e =
      e ∙ ap (every sd_name_byte) (part_text_lem line at len) ∙ rw (not-false (within 1 32 len) q, le-leb (at + len) (length line) l)

  module _ (x : Bool) (ex : x ≡ class_at line 32 sd_name_byte at len) where
    pub name_other : not x ≡ true → false ≡ name_holds line at len
    name_other q = rw (← ex, not-true x q)

    pub name_given : not x ≡ false → (y z : Bool) → y ≡ is_at line (at + len) 61 → z ≡ is_at line (at + len + 1) 34 → (y && z) ≡ name_holds line at len
    name_given q y z ey ez = rw (← ex, not-false x q, ← ey, ← ez)

pub ruleset name_laws = (name_length, name_bytes_lem, name_other, name_given)

-- ---- the escapes of a value: i bytes are passed

well_cons : (paired : Bool) (b : ℕ) (t : List ℕ) → well_escaped paired (b ∷ t) ≡ (if not paired && bare b then false else well_escaped (not paired && eqb b 92) t)
well_cons true b t = refl
well_cons false b t = go (bare b)
  where
    go : (c : Bool) → (not c && well_escaped (eqb b 92) t) ≡ (if c then false else well_escaped (eqb b 92) t)
    go true = refl
    go false = refl

pub record Escaping (t : List ℕ) (paired : Bool) (i : ℕ) : Type 0 where
  pub passed : i ≤ length t
  pub whole : well_escaped false t ≡ well_escaped paired (drop i t)

pub escape_start : (t : List ℕ) → Escaping t false 0
escape_start t = record { passed = omega arith; whole = refl }

module _ (t : List ℕ) (paired : Bool) (i : ℕ) (w : Escaping t paired i) where
  pub escape_out : length t ≤ i → not paired ≡ well_escaped false t
  escape_out h = sym (w.whole ∙ ap (well_escaped paired) (ended t i h))

  module _ (h : i < length t) where
    pub escape_bare : (not paired && bare (get_or t i 0)) ≡ true → false ≡ well_escaped false t
    escape_bare q = sym (w.whole ∙ rw (step t i h, well_cons paired (get_or t i 0) (drop (i + 1) t), q))

    pub escape_on : (not paired && bare (get_or t i 0)) ≡ false → Escaping t (not paired && eqb (get_or t i 0) 92) (i + 1)
    escape_on q = record { passed = omega arith; whole = w.whole ∙ rw (step t i h, well_cons paired (get_or t i 0) (drop (i + 1) t), q) }

pub ruleset escape_laws = (escape_start, escape_out, escape_bare, escape_on)

-- ---- a value

module _ (line : List ℕ) (at len : ℕ) (room : at + len ≤ length line) (x : Bool) (ex : x ≡ is_utf8 (take (at + len - at) (drop at line))) where
  text_utf8 : x ≡ is_utf8 (text_at line at len)
  text_utf8 = ex ∙ ap is_utf8 (part_text_lem line at len)

  pub value_other : not x ≡ true → false ≡ value_holds line at len
  value_other q = rw (le-leb (at + len) (length line) room, ← text_utf8, not-true x q)

  module _ (qx : not x ≡ false) (y : Bool) (ey : y ≡ well_escaped false (take (at + len - at) (drop at line))) where
    text_escaped : y ≡ well_escaped false (text_at line at len)
    text_escaped = ey ∙ ap (well_escaped false) (part_text_lem line at len)

    pub value_bare : not y ≡ true → false ≡ value_holds line at len
    value_bare q = rw (le-leb (at + len) (length line) room, ← text_utf8, not-false x qx, ← text_escaped, not-true y q)

    pub value_given : not y ≡ false → (z : Bool) → z ≡ is_at line (at + len) 34 → z ≡ value_holds line at len
    value_given q z ez = rw (le-leb (at + len) (length line) room, ← text_utf8, not-false x qx, ← text_escaped, not-false y q, ← ez)

pub ruleset value_laws = (value_other, value_bare, value_given)
