-- What a call of a reader left is served (specs/Called.antt: CalledIsServed): printing and lookup get the reading's own record and counts.
use Rattle.std.specs.Prelude.{Result}
use Prim.Native.Nat.{ℕ}
use mathlib.Core.Path.{◌≡◌, sym, ap, ◌∙◌}
use mathlib.Core.List.{List}
use lib.Dec.{eqb}
use lib.ListN.{length}
use Rattle.base.proofs.Tests.{clash}
use Rattle.record.specs.Answers.{output_answer_of}
use Rattle.record.specs.declared.Record.{Record}
use Rattle.record.specs.declared.Refusal.{Refusal}
use Rattle.record.specs.declared.OutputAnswer.{OutputAnswer}
use Rattle.output.specs.Output.{output_after}
use Rattle.layout.specs.Incoming.{record_at, element_count_at, param_count_at}
use Rattle.lookup.specs.Lookup.{value_text}
use Rattle.exports.specs.Exports.{Serves, ServesPrint, ServesLookup}
use Rattle.exports.specs.Exports.Serves.{held, unheld}
use Rattle.suited.specs.Served as suited
use Rattle.suited.specs.Served.{Left, print_answer, lookup_answer}
use Rattle.suited.proofs.AfterReading.{left_served}
use Rattle.boundary.specs.Called.{Holds, Called, Answered, text_of, found_in, CalledIsServed}
use Rattle.boundary.proofs.Memory.{memory_holds}

module _ {line memory : List ℕ} {elements params : List (List ℕ)} (called : Called line memory elements params) where
  pub called_holds : Holds memory (λ r e p. Left line r e p elements params)
  called_holds = go called
    where
      go : Called line memory elements params → Holds memory (λ r e p. Left line r e p elements params)
      go (Called.by_loose h) = let k = memory_holds.loose h in record { holds = k.holds; reads = Left.by_loose k.reads }
      go (Called.by_whole h) = let k = memory_holds.whole_line h in record { holds = k.holds; reads = Left.by_whole k.reads.reads k.reads.no_elements k.reads.no_params }
      go (Called.by_strict h) = let k = memory_holds.strict h in record { holds = k.holds; reads = Left.by_strict k.reads.reads k.reads.common }

  record_served : suited.Served line (record_at memory) (element_count_at memory) (param_count_at memory) elements params
  record_served = left_served _ _ _ _ _ _ called_holds.reads

  module _ {old new : List ℕ} {a : OutputAnswer} where
    -- the bytes hold a record, so the service answers
    by_service : (P : OutputAnswer → Type 0) (first : Refusal) (Service : Record → ℕ → ℕ → Result ℕ Refusal → List ℕ → Type 0) → Serves memory first Service old a new
        → ((w : Result ℕ Refusal) → Service (record_at memory) (element_count_at memory) (param_count_at memory) w new → P (output_answer_of w)) → P a
    by_service P first Service (held q w h e) k = rw e (k w h)
    by_service P first Service (unheld q e f) k = clash (sym called_holds.holds ∙ q)

    module _ (h : ServesPrint line memory elements params old a new) where
      print_answers : let text = text_of line memory elements params in Answered (print_answer text (length old)) text old a new
      print_answers =
          let text = text_of line memory elements params in
          by_service (λ a. Answered (print_answer text (length old)) text old a new) _ _ h λ w k.
          let q = record_served.print_answers k in
          record { answer = ap output_answer_of q; output = k.output ∙ ap (λ (w : Result ℕ Refusal). output_after w text old) q }

      print_not_7 : a.number ≡ 7 → ⊥
      print_not_7 = by_service (λ a. a.number ≡ 7 → ⊥) _ _ h (λ w k. record_served.print_not_7 k)

    module _ {id name : List ℕ} {kind : ℕ} (h : ServesLookup line memory elements params id name kind old a new) where
      lookup_answers : let f = found_in line memory elements params id name in Answered (lookup_answer kind f (length old)) (value_text (eqb kind 0) f) old a new
      lookup_answers =
          let f = found_in line memory elements params id name in
          by_service (λ a. Answered (lookup_answer kind f (length old)) (value_text (eqb kind 0) f) old a new) _ _ h λ w k.
          let q = record_served.lookup_answers k in
          record { answer = ap output_answer_of q; output = k.output ∙ ap (λ (w : Result ℕ Refusal). output_after w (value_text (eqb kind 0) f) old) q }

      lookup_not_7 : a.number ≡ 7 → ⊥
      lookup_not_7 = by_service (λ a. a.number ≡ 7 → ⊥) _ _ h (λ w k. record_served.lookup_not_7 k)

pub called_served : CalledIsServed
called_served line memory elements params called =
    record {
      print_answers = print_answers called;
      lookup_answers = lookup_answers called;
      print_not_7 = print_not_7 called;
      lookup_not_7 = lookup_not_7 called;
    }
