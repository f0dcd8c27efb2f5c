-- A beginning of a viable text is viable, so that a line has one longest beginning that is.
use Prim.Native.Nat.{ℕ, ◌≤◌}
use mathlib.Core.Path.{◌≡◌, sym, ap, ◌∙◌, subst}
use mathlib.Core.List.{List, ◌++◌, append_assoc}
use native.Mathlib.Omega.{arith}
use lib.ListN.{take, drop, take-append-drop}
use lib.Seq.{take-take}
use lib.Dec.{leb}
use borrow.Author.Tests.{leb-true, leb-false}
use Rattle.base.proofs.Tests.{by_test}
use Rattle.base.specs.Runs.{All}
use Rattle.grammar.specs.Line.{Derives}
use Rattle.viable.specs.Viable.{is_byte, Viable, Longest}
use Rattle.viable.proofs.Alls.{all_append, all_take, all_drop}

pub viable_front : (t u : List ℕ) → All is_byte u → Viable (t ++ u) → Viable t
viable_front t u h v =
    record {
      rest = u ++ v.rest;
      rest_bytes = all_append is_byte u v.rest h v.rest_bytes;
      division = v.division;
      derives = subst (λ (l : List ℕ). Derives l v.division) (append_assoc t u v.rest) v.derives;
    }

pub viable_take : (line : List ℕ) → All is_byte line → (m n : ℕ) → m ≤ n → Viable (take n line) → Viable (take m line)
viable_take line h m n l v =
    let e : take m line ++ drop m (take n line) ≡ take n line = ap (λ (t : List ℕ). t ++ drop m (take n line)) (sym (take-take m n line l)) ∙ take-append-drop m (take n line) in
    viable_front (take m line) (drop m (take n line)) (all_drop is_byte m (take n line) (all_take is_byte n line h)) (rw e v)

pub longest_one : (line : List ℕ) (m n : ℕ) → Longest line m → Longest line n → m ≡ n
longest_one line m n g h =
    by_test (λ _. m ≡ n) (leb m n)
    (λ p. by_test (λ _. m ≡ n) (leb n m)
    (λ q. let a = leb-true m n p in let b = leb-true n m q in omega arith)
    (λ q. absurd (g.no_longer n (leb-false n m q) h.inside h.viable)))
    (λ p. absurd (h.no_longer m (leb-false m n p) g.inside g.viable))
