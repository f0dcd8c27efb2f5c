-- Where reading goes on after the priority is in the text.
use Rattle.std.specs.Prelude.{if◌then◌else◌, Option, Some, None}
use Prim.Native.Nat.{ℕ, ◌+◌, ◌≤◌}
use mathlib.Core.List.{List}
use native.Mathlib.Omega.{arith}
use lib.ListN.{length, drop}
use Rattle.base.specs.Choose.{is_at}
use Rattle.base.proofs.Tests.{by_test}
use Rattle.base.proofs.Parts.{at_below}
use Rattle.digits.specs.Digits.{number_at}
use Rattle.pri.specs.Pri.{facility_of, severity_of, no_pri, pri_after, pri_at}

pub pri_next : (s : List ℕ) → (pri_at s).next ≤ length s
unfolding pri_at
pri_next s = by_test (λ t. (if t then pri_after s (number_at 255 (drop 1 s)) else no_pri).next ≤ length s) (is_at s 0 60) (λ h. after (number_at 255 (drop 1 s))) (λ h. omega arith)
  where
    after : (r : Option (ℕ × ℕ)) → (pri_after s r).next ≤ length s
    after None = omega arith
    after (Some x) =
        by_test (λ u. (if u then record { next = x.1 + 2; facility = facility_of x.0; severity = severity_of x.0 } else no_pri).next ≤ length s) (is_at s (x.1 + 1) 62)
        (λ g. omega (arith, at_below s (x.1 + 1) 61 g))
        (λ g. omega arith)
