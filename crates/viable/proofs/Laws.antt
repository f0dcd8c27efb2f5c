-- What holds of the longest beginning, proved.
use Prim.Native.Nat.{ℕ, ◌<◌}
use mathlib.Core.Path.{◌≡◌, refl, sym, ◌∙◌, subst}
use mathlib.Core.List.{List, [], append-nil}
use native.Mathlib.Omega.{arith}
use lib.ListN.{length}
use lib.Seq.{take-length}
use lib.Dec.{leb}
use borrow.Author.Tests.{leb-true, leb-false}
use Rattle.base.proofs.Tests.{by_test}
use Rattle.grammar.specs.Line.{Division, Derives}
use Rattle.viable.specs.Viable.{Viable, Longest}
use Rattle.viable.specs.Viable.Reports.{too_long, derived, underivable}
use Rattle.viable.specs.Laws.{LongestIs, LongestOne, ShorterToo, CutShort, UnderWhereBroken, ReportsOne}
use Rattle.viable.specs.Reach.{parse_in, reach}
use Rattle.viable.proofs.Reaches.{by_parsed}
use Rattle.viable.proofs.Viable.{viable_take, longest_one}
use Rattle.viable.proofs.Lines.{parse_sound, none_derived, reach_longest}

-- a line of the grammar goes on with nothing
whole_viable : (line : List ℕ) (d : Division) → Derives line d → Viable line
whole_viable line d h = record { rest = []; rest_bytes = tt; division = d; derives = subst (λ (l : List ℕ). Derives l d) (sym (append-nil line)) h }

pub longest_is : LongestIs
longest_is line =
    by_parsed (λ _. (n : ℕ) × Longest line n) (parse_in line)
    (λ e. (reach line, reach_longest line (none_derived line e)))
    (λ d n e. (
      length line,
      record {
        inside = omega arith;
        viable = rw (take-length line) (whole_viable line d (parse_sound line d n e));
        no_longer = λ m l k v. absurd (omega arith);
      },
    ))

pub longest_is_one : LongestOne
longest_is_one = longest_one

pub shorter_too : ShorterToo
shorter_too = viable_take

-- a viable line is its own longest beginning
pub cut_short : CutShort
cut_short line n v l =
    by_test (λ t. leb (length line) n ≡ t → n ≡ length line) (leb (length line) n)
    (λ _ t. omega (arith, leb-true (length line) n t, l.inside))
    (λ _ t. absurd (l.no_longer (length line) (leb-false (length line) n t) (omega arith) (rw (take-length line) v)))
    refl

pub under_where_broken : UnderWhereBroken
under_where_broken line n l = (
  λ h v. let e = cut_short line n v l in absurd (omega arith),
  λ no.
      by_test (λ t. leb (length line) n ≡ t → n < length line) (leb (length line) n)
      (λ _ t.
      let e : n ≡ length line = omega (arith, leb-true (length line) n t, l.inside) in
      absurd (no (rw (take-length line) at (rw e at l.viable))))
      (λ _ t. leb-false (length line) n t)
      refl,
)

pub reports_one : ReportsOne
reports_one line m n (too_long a e) (too_long b f) = e ∙ sym f
reports_one line m n (too_long a e) (derived d b h f) = e ∙ sym f
reports_one line m n (too_long a e) (underivable b h f) = absurd (omega arith)
reports_one line m n (derived d a h e) (too_long b f) = e ∙ sym f
reports_one line m n (derived d a h e) (derived d' b k f) = e ∙ sym f
reports_one line m n (derived d a h e) (underivable b k f) = absurd (k d h)
reports_one line m n (underivable a h e) (too_long b f) = absurd (omega arith)
reports_one line m n (underivable a h e) (derived d b k f) = absurd (h d k)
reports_one line m n (underivable a h e) (underivable b k f) = longest_one line m n e f
