-- The answers: each refusal, and the value given.
use Rattle.std.specs.Prelude.{Result, Ok, Err}
use Prim.Native.Nat.{ℕ, ◌≤◌, ◌<◌}
use mathlib.Core.Path.{◌≡◌, refl, sym, ◌∙◌}
use mathlib.Core.Bool.{Bool}
use mathlib.Core.List.{List}
use lib.ListN.{length}
use native.Mathlib.Omega.{arith}
use borrow.Author.Tests.{lt-ltb, le-ltb}
use Rattle.output.specs.Fits.{Fits}
use Rattle.output.specs.Output.{Wrote}
use Rattle.output.proofs.Writes.{written_front}
use Rattle.record.specs.declared.Record.{Record}
use Rattle.record.specs.declared.Refusal.TheVariants.{OutputShort}
use Rattle.lookup.specs.Unescape.{unescaped}
use Rattle.lookup.specs.Lookup.{Found, Looks}
use Rattle.lookup.specs.Steps.{Gives}
use Rattle.lookup.proofs.Unescaping.{unescaped_le}
use Rattle.record.specs.declared.Refusal.{Refusal}

-- the value is known
module _ (loose : Bool) (v out : List ℕ) where
  pub value_short : (n : ℕ) → n ≡ length (unescaped loose v) → length out < n → Gives loose (Found.value v) out (Err OutputShort) out
  value_short n e h = record { answer = rw (← e, lt-ltb (length out) n h); output = refl }

  -- an output as long as the value has room for what is unescaped, and so has one as long as that
  pub room_of_value : length v ≤ length out → Fits out 0 (unescaped loose v)
  room_of_value h = record { fits = omega (arith, unescaped_le loose v) }

  pub room_of_length : (n : ℕ) → n ≡ length (unescaped loose v) → n ≤ length out → Fits out 0 (unescaped loose v)
  room_of_length n e h = record { fits = omega arith }

  pub value_done : Fits out 0 (unescaped loose v) → (n : ℕ) (after : List ℕ) → Wrote out 0 (unescaped loose v) n after → Gives loose (Found.value v) out (Ok n) after
  value_done f n after w =
      let q : n ≡ length (unescaped loose v) = omega (arith, w.behind) in
      record { answer = rw (q, le-ltb (length out) (length (unescaped loose v)) (omega (arith, f.fits))); output = w.holds ∙ written_front out (unescaped loose v) }

pub ruleset value_laws = (value_short, room_of_value, room_of_length, value_done)

-- the contract leaves one answer and one output
pub looks_one : {line : List ℕ} {r : Record} {e p : ℕ} {elements params : List (List ℕ)} {id name : List ℕ} {kind : ℕ} {out : List ℕ} {w w' : (Result ℕ Refusal)} {after after' : List ℕ}
    → Looks line r e p elements params id name kind out w after → Looks line r e p elements params id name kind out w' after' → (w ≡ w') × (after ≡ after')
looks_one a b = let q = a.answer ∙ sym b.answer in (q, a.output ∙ rw q (sym b.output))
