-- Tables, a record's memory and an output that are always enough for a call (specs/Called.antt).
use Rattle.std.specs.Prelude.{Err}
use Prim.Native.Nat.{ℕ, ◌≤◌}
use mathlib.Core.Path.{◌≡◌, refl}
use mathlib.Core.Bool.{false}
use mathlib.Core.List.{List}
use lib.Dec.{ltb, eqb}
use lib.ListN.{length}
use borrow.Author.Tests.{le-ltb, ltb-false, eqb-false}
use Rattle.base.proofs.Tests.{by_if}
use Rattle.record.specs.Answers.{read_answer_of, strict_read_answer_of}
use Rattle.record.specs.Limits.{line_limit}
use Rattle.record.specs.declared.OutputAnswer.{OutputAnswer}
use Rattle.record.specs.declared.ReadAnswer.{ReadAnswer}
use Rattle.record.specs.declared.Refusal.{Refusal}
use Rattle.layout.specs.Layout.{record_size, strict_size}
use Rattle.exports.specs.Exports.{left_answer, with_reach, first_refusal, ServesPrint, ServesLookup}
use Rattle.exports.specs.Exports.Serves.{held, unheld}
use Rattle.suited.proofs.AfterReading.{left_short}
use Rattle.boundary.specs.Called.{Called}
use Rattle.boundary.proofs.AfterCall.{called_holds}
use Rattle.enough.specs.Enough.{elements_for, params_for, print_for}
use Rattle.enough.specs.Called.{EnoughCalled, CalledAlwaysEnough}
use Rattle.enough.proofs.Enough.{loose_fits, strict_fits, Done, print_done, lookup_done}

-- the answer of a reader, or 8 where it was done and the record's memory is too short
told_other : (k : ℕ) → eqb 8 k ≡ false → (a : ReadAnswer) (size room : ℕ) → eqb a.number k ≡ false → eqb (left_answer a size room).number k ≡ false
told_other k z a size room h =
    by_if (λ (b : ReadAnswer). eqb b.number k ≡ false) (ltb room size) _ _
    (λ q. by_if (λ (b : ReadAnswer). eqb b.number k ≡ false) (eqb a.number 0) _ _ (λ q. z) (λ q. h)) (λ q. h)

told_same : (a : ReadAnswer) (size room : ℕ) → size ≤ room → eqb a.number 8 ≡ false → eqb (left_answer a size room).number 8 ≡ false
told_same a size room l h = rw (le-ltb room size l) h

-- bytes that hold no record are refused with 1, 2 or 7
first_other : (len kind : ℕ) → Done (Err (first_refusal len kind))
first_other len kind =
    by_if (λ (f : Refusal). Done (Err f)) (ltb line_limit len) _ _ (λ q. refl)
    (λ q. by_if (λ (f : Refusal). Done (Err f)) (ltb 1 kind) _ _ (λ q. refl) (λ q. refl))

module _ (n : ℕ) {line memory : List ℕ} {elements params : List (List ℕ)} {old new : List ℕ} {a : OutputAnswer} (short : length line ≤ line_limit → length line ≤ n) where
  print_called : print_for n ≤ length old → Called line memory elements params → ServesPrint line memory elements params old a new → eqb a.number 8 ≡ false
  print_called room called (held q w h e) =
      let left = (called_holds called).reads in
      rw e (print_done n (short (ltb-false line_limit (length line) (left_short left))) room left h)
  print_called room called (unheld q e f) = rw e (first_other (length line) 0)

  lookup_called : {id name : List ℕ} {kind : ℕ} → n ≤ length old → ServesLookup line memory elements params id name kind old a new → eqb a.number 8 ≡ false
  lookup_called room (held q w h e) = rw e (lookup_done n short room h)
  lookup_called {kind} room (unheld q e f) = rw e (first_other (length line) kind)

enough_called : (n : ℕ) (Line : List ℕ → Type 0) → ((line : List ℕ) → Line line → length line ≤ line_limit → length line ≤ n)
    → EnoughCalled Line (elements_for n) (params_for n) (print_for n) n
enough_called n Line short =
    record {
      loose_not_5 = λ {line} {out} l a h. eqb-false _ 5 (rw h.told_is (told_other 5 refl (read_answer_of h.answer) record_size (length out) ((loose_fits n (short line l) h.reads).0 a)));
      loose_not_6 = λ {line} {out} l a h. eqb-false _ 6 (rw h.told_is (told_other 6 refl (read_answer_of h.answer) record_size (length out) ((loose_fits n (short line l) h.reads).1 a)));
      loose_not_8 = λ {line} {out} l a h. eqb-false _ 8 (rw h.told_is (told_same (read_answer_of h.answer) record_size (length out) a (loose_fits n (short line l) h.reads).2));
      strict_not_5 = λ {line} {out} l a h. eqb-false _ 5 (rw h.leaves.told_is (told_other 5 refl (with_reach h.reach (strict_read_answer_of h.leaves.answer)) strict_size (length out) ((strict_fits n (short line l) h.leaves.reads).0 a)));
      strict_not_6 = λ {line} {out} l a h. eqb-false _ 6 (rw h.leaves.told_is (told_other 6 refl (with_reach h.reach (strict_read_answer_of h.leaves.answer)) strict_size (length out) ((strict_fits n (short line l) h.leaves.reads).1 a)));
      strict_not_8 = λ {line} {out} l a h. eqb-false _ 8 (rw h.leaves.told_is (told_same (with_reach h.reach (strict_read_answer_of h.leaves.answer)) strict_size (length out) a (strict_fits n (short line l) h.leaves.reads).2));
      print_not_8 = λ {line} l a called h. eqb-false _ 8 (print_called n (short line l) a called h);
      lookup_not_8 = λ {line} l a h. eqb-false _ 8 (lookup_called n (short line l) a h);
    }

pub called_always_enough : CalledAlwaysEnough
called_always_enough =
    record {
      any = enough_called line_limit (λ line. Unit {0}) (λ line u l. l);
      up_to = λ n. enough_called n (λ line. length line ≤ n) (λ line l _. l);
    }
