-- The head of a claim: the digits of priority and version, and the levels' tests.
use Rattle.std.specs.Prelude.{Option, Some, None}
use Prim.Native.Nat.{ℕ, ◌+◌, ◌*◌, ◌^◌, ◌≤◌, ◌<◌}
use mathlib.Core.Path.{◌≡◌, ap, ◌∙◌}
use mathlib.Core.Bool.{Bool, true, false, not, ◌&&◌, and-false}
use mathlib.Core.List.{List, [], ◌∷◌, ◌++◌}
use native.Mathlib.Omega.{arith}
use lib.Dec.{leb}
use lib.ListN.{length, take, length-append, length-take}
use borrow.Author.Tests.{not-true, not-false}
use Rattle.base.specs.Choose.{within, is_at}
use Rattle.base.proofs.Texts.{same_lengths}
use Rattle.output.specs.Numerals.{fixed, width, numeral}
use Rattle.output.proofs.Numerals.{length_fixed, width_le}
use Rattle.record.specs.declared.Protocol.{Protocol}
use Rattle.record.specs.declared.Protocol.TheVariants.{Rfc3164, Rfc5424}
use Rattle.claims.specs.Holds.{next_if, stands_at, head_text, head_next}
use Rattle.claim_header.proofs.Stands.{stands_then, stands_byte}

module _ (line : List ℕ) (p v m n : ℕ) (em : m ≡ width p) (en : n ≡ width v) where
  head_length : length (head_text p v) ≡ m + n + 3
  head_length =
      omega (arith, length-append (numeral p) (62 ∷ (numeral v ++ (32 ∷ []))), length-append (numeral v) (32 ∷ []), length_fixed (width p) p, length_fixed (width v) v)

  pub numbers_sum : m + n < 2 ^ 64
  numbers_sum = omega (arith, width_le 9 p, width_le 9 v)

  pub numbers_len : m + n + 3 < 2 ^ 64
  numbers_len = omega (arith, width_le 9 p, width_le 9 v)

  pub numbers_short : length line < m + n + 3 → None ≡ next_if (stands_at line 0 (head_text p v)) (width p + width v + 3)
  numbers_short h =
      let f : false ≡ stands_at line 0 (head_text p v) = same_lengths (take (length (head_text p v)) line) (head_text p v) (λ e. omega (arith, length-take (length (head_text p v)) line, head_length)) in
      rw (← f)

  module _ (room : m + n + 3 ≤ length line) where
    head_parts : stands_at line 0 (head_text p v) ≡ (stands_at line 0 (60 ∷ fixed m p) && (stands_at line (m + 1) (62 ∷ fixed n v) && is_at line (m + n + 2) 32))
    head_parts =
        rw (em, en)
        (stands_then line 0 (60 ∷ numeral p) ((62 ∷ numeral v) ++ (32 ∷ [])) (width p + 1) (omega (arith, length_fixed (width p) p))
        ∙ ap (λ (x : Bool). stands_at line 0 (60 ∷ numeral p) && x)
        (stands_then line (width p + 1) (62 ∷ numeral v) (32 ∷ []) (width p + width v + 2) (omega (arith, length_fixed (width v) v))
        ∙ ap (λ (x : Bool). stands_at line (width p + 1) (62 ∷ numeral v) && x) (stands_byte line (width p + width v + 2) 32 (omega arith))))

    module _ (x : Bool) (ex : x ≡ stands_at line 0 (60 ∷ fixed m p)) where
      pub numbers_pri : not x ≡ true → None ≡ next_if (stands_at line 0 (head_text p v)) (width p + width v + 3)
      numbers_pri q = rw (head_parts, ← ex, not-true x q)

      module _ (qx : not x ≡ false) (y : Bool) (ey : y ≡ stands_at line (m + 1) (62 ∷ fixed n v)) where
        pub numbers_version : not y ≡ true → None ≡ next_if (stands_at line 0 (head_text p v)) (width p + width v + 3)
        numbers_version q = rw (head_parts, ← ex, not-false x qx, ← ey, not-true y q)

        module _ (qy : not y ≡ false) (z : Bool) (ez : z ≡ is_at line (m + n + 2) 32) where
          pub numbers_space : not z ≡ true → None ≡ next_if (stands_at line 0 (head_text p v)) (width p + width v + 3)
          numbers_space q = rw (head_parts, ← ex, not-false x qx, ← ey, not-false y qy, ← ez, not-true z q)

          pub numbers_all : not z ≡ false → Some (m + n + 3) ≡ next_if (stands_at line 0 (head_text p v)) (width p + width v + 3)
          numbers_all q = rw (head_parts, ← ex, not-false x qx, ← ey, not-false y qy, ← ez, not-false z q, em, en)

pub ruleset number_laws = (numbers_sum, numbers_len, numbers_short, numbers_pri, numbers_version, numbers_space, numbers_all)

module _ (line : List ℕ) (f s : Option ℕ) (p : Protocol) where
  pub head_no_facility : f ≡ None → None ≡ head_next line f s p
  unfolding head_next
  head_no_facility e = rw e

  module _ (a : ℕ) (ea : f ≡ Some a) where
    pub head_no_severity : s ≡ None → None ≡ head_next line f s p
    unfolding head_next
    head_no_severity e = rw (ea, e, and-false (leb a 23))

    module _ (b : ℕ) (eb : s ≡ Some b) where
      pub head_no_version : p ≡ Rfc3164 → None ≡ head_next line f s p
      unfolding head_next
      head_no_version e = rw (ea, eb, e, and-false (leb a 23 && leb b 7))

      module _ (v : ℕ) (ev : p ≡ Rfc5424 v) where
        pub head_range : not (leb a 23 && leb b 7 && (leb 1 v && leb v 999)) ≡ true → None ≡ head_next line f s p
        unfolding head_next
        head_range q = rw (ea, eb, ev, not-true (leb a 23 && leb b 7 && within 1 999 v) q)

        pub head_numbers : not (leb a 23 && leb b 7 && (leb 1 v && leb v 999)) ≡ false → (k : ℕ) → k ≡ a * 8 + b
            → (r : Option ℕ) → r ≡ next_if (stands_at line 0 (head_text k v)) (width k + width v + 3) → r ≡ head_next line f s p
        unfolding head_next
        head_numbers q k ek r er = er ∙ rw (ea, eb, ev, not-false (leb a 23 && leb b 7 && within 1 999 v) q, ek)

pub ruleset head_laws = (head_no_facility, head_no_severity, head_no_version, head_range, head_numbers)
