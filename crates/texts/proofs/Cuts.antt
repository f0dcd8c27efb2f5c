-- Cuts: the places of a text of characters that lie between two of them. Each step of the loose reader leads from a cut to a cut.
use Prim.Native.Nat.{ℕ, ◌+◌, ◌≤◌, ◌<◌}
use mathlib.Core.Path.{◌≡◌, refl, sym, ap, ◌∙◌}
use mathlib.Core.List.{List, ◌++◌}
use mathlib.Core.Bool.{Bool, true, ◌||◌}
use native.Mathlib.Omega.{arith}
use lib.Dec.{eqb}
use lib.ListN.{length, drop, length-drop}
use lib.Seq.{drop-drop, take-append-le, drop-append-le}
use borrow.Author.Tests.{eqb-true}
use Rattle.base.specs.Choose.{within, is_at}
use Rattle.base.specs.Runs.{run}
use Rattle.base.specs.Texts.{text_at}
use Rattle.base.proofs.Tests.{by_test}
use Rattle.base.proofs.Ranges.{orders}
use Rattle.base.proofs.Parts.{ended}
use Rattle.base.proofs.Runs.{run_le}
use Rattle.utf8.specs.Rfc3629.{Utf8}
use Rattle.utf8.specs.Lead.{utf8_from, is_utf8}
use Rattle.utf8.proofs.Texts.{utf8_sound}
use Rattle.utf8.proofs.Cuts.{cut_at, cut_past, cut_run, cut_text}
use Rattle.digits.specs.Digits.{is_digit}
use Rattle.parsers.specs.Steps.{is_blank, blanks_from}
use Rattle.parsers.proofs.Steps.{at_there}

pub record Cut (s : List ℕ) (i : ℕ) : Type 0 where
  pub inside : i ≤ length s
  pub clean : is_utf8 (drop i s) ≡ true

-- a byte of ASCII, which is not 0
abbrev pub is_ascii : ℕ → Bool
is_ascii b = within 1 0x7F b

-- a place of whole characters
pub record Between (s : List ℕ) (start len : ℕ) : Type 0 where
  pub from : Cut s start
  pub to : Cut s (start + len)

-- its text, in a line that goes on after it
pub between_text : (s r : List ℕ) (start len : ℕ) → Between s start len → Utf8 (text_at (s ++ r) start len)
between_text s r start len b =
    let i = b.from.inside in
    let l : len ≤ length (drop start s) = omega (arith, b.to.inside, length-drop start s) in
    utf8_sound _ (rw (drop-append-le start s r i, take-append-le len (drop start s) r l) (cut_text s start len b.from.clean b.to.clean))

-- a walk from a cut on
pub walk_on : (f : List ℕ → ℕ) → ((t : List ℕ) → f t ≤ length t) → ((t : List ℕ) → is_utf8 t ≡ true → is_utf8 (drop (f t) t) ≡ true)
    → (s : List ℕ) (i : ℕ) → Cut s i → Cut s (i + f (drop i s))
walk_on f le cuts s i c =
    record {
      inside = omega (arith, c.inside, le (drop i s), length-drop i s);
      clean = ap is_utf8 (sym (drop-drop (f (drop i s)) i s)) ∙ cuts (drop i s) c.clean;
    }

run_on : (p : ℕ → Bool) → ((b : ℕ) → p b ≡ true → b < 0x80) → (s : List ℕ) (i : ℕ) → Cut s i → Cut s (i + run p (drop i s))
run_on p small = walk_on (run p) (run_le p) (λ t h. cut_run p small t h (run p t) (omega arith))

blank_small : (b : ℕ) → is_blank b ≡ true → b < 0x80
blank_small b h =
    by_test (λ t. eqb b 32 ≡ t → (t || eqb b 9) ≡ true → b < 0x80) (eqb b 32)
    (λ _ e q. omega (arith, eqb-true b 32 e)) (λ _ e q. omega (arith, eqb-true b 9 q)) refl h

pub blanks_on : (s : List ℕ) (i : ℕ) → Cut s i → Cut s (blanks_from s i)
blanks_on = run_on is_blank blank_small

pub digits_on : (s : List ℕ) (i : ℕ) → Cut s i → Cut s (i + run is_digit (drop i s))
digits_on = run_on is_digit (λ b h. omega (arith, (orders 48 57 b h).1))

-- in a text of characters
module _ (s : List ℕ) (u : is_utf8 s ≡ true) where
  pub at_start : Cut s 0
  at_start = record { inside = omega arith; clean = u }

  pub at_end_lem : Cut s (length s)
  unfolding utf8_from
  at_end_lem = record { inside = omega arith; clean = rw (ended s (length s) (omega arith)) }

  -- an ASCII byte that is there
  module _ (n b : ℕ) (small : is_ascii b ≡ true) (e : is_at s n b ≡ true) where
    there : n < length s
    there = at_there s n b (orders 1 0x7F b small).0 e

    pub before : Cut s n
    before = let l = there in record { inside = omega arith; clean = cut_at s u n b (omega (arith, (orders 1 0x7F b small).1)) e }

    pub after : Cut s (n + 1)
    after = let l = there in record { inside = omega arith; clean = cut_past s u n b (omega (arith, (orders 1 0x7F b small).1)) e }
