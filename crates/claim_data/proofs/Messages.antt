-- The message, test by test.
use Prim.Native.Nat.{ℕ, ◌+◌, ◌^◌, ◌≤◌, ◌<◌}
use mathlib.Core.Path.{◌≡◌, sym, ap, ◌∙◌}
use mathlib.Core.Bool.{Bool, true, false, not, ◌&&◌}
use mathlib.Core.List.{List}
use native.Mathlib.Omega.{arith}
use lib.Dec.{eqb}
use lib.ListN.{length, drop, length-drop}
use lib.Seq.{take_all}
use borrow.Author.Tests.{eq-eqb, ne_eqb, not-true, not-false}
use Rattle.base.specs.Choose.{is_at}
use Rattle.base.specs.Texts.{text_at}
use Rattle.base.proofs.Tests.{told}
use Rattle.record.specs.Limits.{line_limit}
use Rattle.record.specs.declared.Span.{Span}
use Rattle.grammar.specs.Parse.{is_message}
use Rattle.claims.specs.Holds.{message_holds}
use Rattle.claims.proofs.Bytes.{byte_inside}

module _ (line : List ℕ) (at : ℕ) (has : Bool) (m : Span) where
  pub message_absent : not has ≡ true → (eqb m.start 0 && eqb m.len 0 && eqb at (length line)) ≡ message_holds line at has m
  message_absent q = rw (not-true has q)

  module _ (qh : not has ≡ false) (s : Bool) (es : s ≡ is_at line at 32) where
    pub message_space : not s ≡ true → false ≡ message_holds line at has m
    message_space q = rw (not-false has qh, ← es, not-true s q)

    module _ (qs : not s ≡ false) where
      inside : at < length line
      inside = byte_inside line at 32 (omega arith) (told s _ es qs)

      pub message_next_fits : length line ≤ line_limit → at + 1 < 2 ^ 64
      message_next_fits l = omega (arith, inside)

      pub message_sum_fits : length line ≤ line_limit → m.start + m.len ≤ length line → at + 1 + m.len < 2 ^ 64
      message_sum_fits l k = omega (arith, inside)

      pub message_room : at + 1 ≤ length line
      message_room = omega (arith, inside)

      pub message_start : (m.start ≡ at + 1 → ⊥) → false ≡ message_holds line at has m
      message_start n = rw (not-false has qh, ← es, not-false s qs, ne_eqb m.start (at + 1) n)

      module _ (e : m.start ≡ at + 1) where
        pub message_length : (at + 1 + m.len ≡ length line → ⊥) → false ≡ message_holds line at has m
        message_length n = rw (not-false has qh, ← es, not-false s qs, eq-eqb m.start (at + 1) e, ne_eqb (at + 1 + m.len) (length line) n)

        pub message_given : at + 1 + m.len ≡ length line → (u : List ℕ) → u ≡ drop (at + 1) line → (r : Bool) → r ≡ is_message u → r ≡ message_holds line at has m
        message_given l u eu r er =
            let t : text_at line (at + 1) m.len ≡ drop (at + 1) line = take_all m.len (drop (at + 1) line) (rw length-drop (omega arith)) in
            er ∙ ap is_message (eu ∙ sym t) ∙ rw (not-false has qh, ← es, not-false s qs, eq-eqb m.start (at + 1) e, eq-eqb (at + 1 + m.len) (length line) l)

pub ruleset message_laws = (message_absent, message_space, message_next_fits, message_sum_fits, message_room, message_start, message_length, message_given)
