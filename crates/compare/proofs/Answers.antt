-- The answers: refusals in their order, and the numbers.
use Rattle.std.specs.Prelude.{Option, Some, None, Result, Ok, Err}
use Prim.Native.Nat.{ℕ}
use mathlib.Core.Path.{◌≡◌, refl, ap}
use mathlib.Core.Bool.{true, false, ◌&&◌}
use mathlib.Core.List.{List}
use Rattle.base.proofs.Tests.{clash}
use Rattle.record.specs.declared.Reading.{Reading}
use Rattle.record.specs.declared.Reading.TheVariants as loose
use Rattle.record.specs.declared.Refusal.{Refusal}
use Rattle.differ.specs.declared.Differences.{Differences}
use Rattle.compare.specs.Compare.{nothing, second_of, compared_of, table_after}
use Rattle.compare.specs.Steps.{is_read, refusal_of}
use Rattle.compare.specs.declared.Refused.{Refused}

-- ---- refusals

abbrev refused : ℕ → Refusal → Result Differences Refused
refused line f = Err (record { line = line; refusal = f })

some_same : {f g : Refusal} → ◌≡◌ {A = Option Refusal} (Some f) (Some g) → f ≡ g
some_same h = cc

read_where : (x : Result Reading Refusal) → None ≡ refusal_of x → is_read x ≡ true
read_where (Ok (loose.Read r e p)) h = refl
read_where (Ok (loose.Whole r)) h = absurd (cc)
read_where (Err f) h = absurd (cc)

refused_where : (x : Result Reading Refusal) (f : Refusal) → Some f ≡ refusal_of x → is_read x ≡ false
refused_where (Ok (loose.Read r e p)) f h = absurd (cc)
refused_where (Ok (loose.Whole r)) f h = refl
refused_where (Err g) f h = refl

second_as : (y : Result Reading Refusal) (f : Refusal) → Some f ≡ refusal_of y → refused 2 f ≡ second_of y nothing
second_as (Ok (loose.Read r e p)) f h = absurd (cc)
second_as (Ok (loose.Whole r)) f h = ap (refused 2) (some_same h)
second_as (Err g) f h = ap (refused 2) (some_same h)

module _ (x y : Result Reading Refusal) where
  pub first_out : (f : Refusal) → Some f ≡ refusal_of x → (is_read x && is_read y) ≡ false
  first_out f h = rw (refused_where x f h) refl

  pub first_refused : (f : Refusal) → Some f ≡ refusal_of x → refused 1 f ≡ compared_of x y nothing
  first_refused f h = go x h
    where
      go : (x : Result Reading Refusal) → Some f ≡ refusal_of x → refused 1 f ≡ compared_of x y nothing
      go (Ok (loose.Read r e p)) h = absurd (cc)
      go (Ok (loose.Whole r)) h = ap (refused 1) (some_same h)
      go (Err g) h = ap (refused 1) (some_same h)

  module _ (q : None ≡ refusal_of x) where
    pub second_out : (f : Refusal) → Some f ≡ refusal_of y → (is_read x && is_read y) ≡ false
    second_out f h = rw (read_where x q, refused_where y f h) refl

    pub second_refused : (f : Refusal) → Some f ≡ refusal_of y → refused 2 f ≡ compared_of x y nothing
    second_refused f h = go x q
      where
        go : (x : Result Reading Refusal) → None ≡ refusal_of x → refused 2 f ≡ compared_of x y nothing
        go (Ok (loose.Read r e p)) q = second_as y f h
        go (Ok (loose.Whole r)) q = absurd (cc)
        go (Err g) q = absurd (cc)

    pub both_read : None ≡ refusal_of y → (is_read x && is_read y) ≡ true
    both_read h = rw (read_where x q, read_where y h) refl

-- ---- a refusal does not depend on what differs, and leaves the tables

module _ (d e : Differences) where
  pub refused_any : (x y : Result Reading Refusal) → (is_read x && is_read y) ≡ false → compared_of x y d ≡ compared_of x y e
  refused_any (Err f) y h = refl
  refused_any (Ok (loose.Whole r)) y h = refl
  refused_any (Ok (loose.Read r m n)) (Err f) h = refl
  refused_any (Ok (loose.Read r m n)) (Ok (loose.Whole s)) h = refl
  refused_any (Ok (loose.Read r m n)) (Ok (loose.Read s k l)) h = clash h

  pub refused_keeps : (x y : Result Reading Refusal) → (is_read x && is_read y) ≡ false → (rows old : List (List ℕ)) → old ≡ table_after (compared_of x y d) rows old
  refused_keeps (Err f) y h rows old = refl
  refused_keeps (Ok (loose.Whole r)) y h rows old = refl
  refused_keeps (Ok (loose.Read r m n)) (Err f) h rows old = refl
  refused_keeps (Ok (loose.Read r m n)) (Ok (loose.Whole s)) h rows old = refl
  refused_keeps (Ok (loose.Read r m n)) (Ok (loose.Read s k l)) h rows old = clash h
