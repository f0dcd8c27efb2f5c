-- What a reader left is served (specs/Served.antt): neither printing nor lookup refuses it with 1 or with 7.
use Rattle.std.specs.Prelude.{Result}
use Prim.Native.Nat.{ℕ}
use mathlib.Core.Path.{◌≡◌, refl, ◌∙◌}
use mathlib.Core.List.{List}
use mathlib.Core.Bool.{Bool, true, false}
use lib.Dec.{ltb, eqb}
use lib.ListN.{length, take}
use borrow.Author.Tests.{eqb-false}
use Rattle.base.proofs.Tests.{by_if}
use Rattle.record.specs.Limits.{line_limit}
use Rattle.record.specs.Answers.{output_answer_of}
use Rattle.record.specs.declared.Record.{Record}
use Rattle.suits.specs.Suits.{suits}
use Rattle.lookup.specs.Unescape.{unescaped}
use Rattle.lookup.specs.Lookup.{Found, found, value_answer, Looks}
use Rattle.message.specs.Message.{printed}
use Rattle.message.specs.Prints.{Prints}
use Rattle.loose.proofs.Answers.{whole_is}
use Rattle.suited.specs.Served.{Left, print_answer, lookup_answer, LeftIsServed}
use Rattle.suited.proofs.Frame.{reading_short}
use Rattle.suited.proofs.Strict as division
use Rattle.suited.proofs.Suited.{loose_suits, line_suits, strict_suits}
use Rattle.record.specs.declared.Refusal.{Refusal}

-- an answer with another number than 7
abbrev Other : Result ℕ Refusal → Type 0
Other w = eqb (output_answer_of w).number 7 ≡ false

print_other : (text : List ℕ) (out : ℕ) → Other (print_answer text out)
print_other text out = by_if (λ (w : Result ℕ Refusal). Other w) (ltb out (length text)) _ _ (λ q. refl) (λ q. refl)

value_other : (kind : Bool) (f : Found) (out : ℕ) → Other (value_answer kind f out)
value_other kind Found.nothing out = refl
value_other kind (Found.value v) out = print_other (unescaped kind v) out

lookup_other : (kind : ℕ) (f : Found) (out : ℕ) → Other (lookup_answer kind f out)
lookup_other kind f out = by_if (λ (w : Result ℕ Refusal). Other w) (ltb 1 kind) _ _ (λ q. refl) (λ q. value_other (eqb kind 0) f out)

module _ {line : List ℕ} {r : Record} {e p : ℕ} {elements params : List (List ℕ)} where
  pub left_suits : Left line r e p elements params → suits line r e p elements params ≡ true
  left_suits (Left.by_loose h) = loose_suits h
  left_suits (Left.by_whole h a b) = rw (a, b) (line_suits h)
  left_suits (Left.by_strict h q) = rw q (strict_suits h)

  pub left_short : Left line r e p elements params → ltb line_limit (length line) ≡ false
  left_short (Left.by_loose {variant} {year} {offset} {e₀} {p₀} h) = reading_short line e₀ p₀ elements params variant year offset h
  left_short (Left.by_whole h a b) = (whole_is h).short
  left_short (Left.by_strict h q) = division.reading_short h

  module _ (left : Left line r e p elements params) {before after : List ℕ} {w : (Result ℕ Refusal)} where
    module _ (h : Prints line r e p elements params before w after) where
      print_answers : w ≡ print_answer (printed line r (take e elements) (take p params)) (length before)
      print_answers = h.answer ∙ rw (left_short left, left_suits left)

      print_not_7 : (output_answer_of w).number ≡ 7 → ⊥
      print_not_7 = eqb-false _ _ (rw print_answers (print_other (printed line r (take e elements) (take p params)) (length before)))

    module _ {id name : List ℕ} {kind : ℕ} (h : Looks line r e p elements params id name kind before w after) where
      lookup_answers : w ≡ lookup_answer kind (found line elements id name (take p params)) (length before)
      lookup_answers = h.answer ∙ rw (left_short left, left_suits left)

      lookup_not_7 : (output_answer_of w).number ≡ 7 → ⊥
      lookup_not_7 = eqb-false _ _ (rw lookup_answers (lookup_other kind (found line elements id name (take p params)) (length before)))

pub left_served : LeftIsServed
left_served line r e p elements params left =
    record {
      suited = left_suits left;
      print_answers = print_answers left;
      lookup_answers = lookup_answers left;
      print_not_7 = print_not_7 left;
      lookup_not_7 = lookup_not_7 left;
    }
