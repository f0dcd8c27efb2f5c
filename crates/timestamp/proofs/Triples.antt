-- Three numbers with a byte between them, read one after another: a date, a time, a clock.
use Rattle.std.specs.Prelude.{Option, Some, None}
use Prim.Native.Nat.{ℕ, ◌≤◌}
use mathlib.Core.Path.{◌≡◌, refl}
use mathlib.Core.List.{List}
use native.Mathlib.Omega.{arith}
use lib.ListN.{length}
use Rattle.parsers.specs.Steps.{on_read, on_some, byte_from, number_from}
use Rattle.parsers.proofs.Steps.{number_within}
use Rattle.timestamp.specs.Clock.{clock_from}
use Rattle.timestamp.specs.Rfc3339.{fixed_from, date_from, time_from}
use Rattle.timestamp.specs.declared.Clock.{Clock}
use Rattle.timestamp.specs.declared.Date.{Date}
use Rattle.timestamp.proofs.Onward.{on_num_lem, on_pos_lem}
use Rattle.timestamp.proofs.Fixed.{fixed_within}

-- `first` reads the first number and `later` the others
pub record Triple {R : Type 0} (no : R) (yes : ℕ → ℕ → ℕ → ℕ → R) (first later : List ℕ → ℕ → Option (ℕ × ℕ)) (sep : ℕ) (whole : List ℕ → ℕ → R) : Type 0 where
  pub is : (s : List ℕ) (at : ℕ)
      → whole s at
      ≡ on_read (first s at) no λ x a.
      on_some (byte_from s a sep) no λ b.
      on_read (later s b) no λ y c.
      on_some (byte_from s c sep) no λ d.
      on_read (later s d) no λ z e.
      yes x y z e
  pub ends : (s : List ℕ) (at v n : ℕ) → later s at ≡ Some (v, n) → n ≤ length s

abbrev pub clock_then : ℕ → ℕ → ℕ → ℕ → Option (Clock × ℕ)
clock_then hour minute second next = Some (record { hour = hour; minute = minute; second = second }, next)

abbrev pub date_then : ℕ → ℕ → ℕ → ℕ → Option (Date × ℕ)
date_then year month day next = Some (record { year = year; month = month; day = day }, next)

pub clocks : Triple None clock_then number_from number_from 58 clock_from
unfolding clock_from
clocks = record { is = λ s at. refl; ends = λ s at v n z. number_within s at _ refl v n z }

pub times : Triple None clock_then (fixed_from 2) (fixed_from 2) 58 time_from
unfolding time_from
times = record { is = λ s at. refl; ends = λ s at v n z. fixed_within 2 (omega arith) s at _ refl v n z }

pub dates : Triple None date_then (fixed_from 4) (fixed_from 2) 45 date_from
unfolding date_from
dates = record { is = λ s at. refl; ends = λ s at v n z. fixed_within 2 (omega arith) s at _ refl v n z }

module _ {R : Type 0} {no : R} {yes : ℕ → ℕ → ℕ → ℕ → R} {first later : List ℕ → ℕ → (Option (ℕ × ℕ))} {sep : ℕ} {whole : List ℕ → ℕ → R} (t : Triple no yes first later sep whole) (s : List ℕ) (at : ℕ) where
  module _ (g1 : Option (ℕ × ℕ)) (e1 : g1 ≡ first s at) where
    pub first_no : g1 ≡ None → no ≡ whole s at
    first_no z = rw (t.is s at, ← e1, z)

    module _ (x a : ℕ) (z1 : g1 ≡ Some (x, a)) (g2 : Option ℕ) (e2 : g2 ≡ byte_from s a sep) where
      pub first_end : g2 ≡ None → no ≡ whole s at
      first_end z = rw (t.is s at, ← e1, z1, ← e2, z)

      module _ (b : ℕ) (z2 : g2 ≡ Some b) (g3 : Option (ℕ × ℕ)) (e3 : g3 ≡ later s b) where
        pub second_no : g3 ≡ None → no ≡ whole s at
        second_no z = rw (t.is s at, ← e1, z1, ← e2, z2, ← e3, z)

        module _ (y c : ℕ) (z3 : g3 ≡ Some (y, c)) (g4 : Option ℕ) (e4 : g4 ≡ byte_from s c sep) where
          pub second_end : g4 ≡ None → no ≡ whole s at
          second_end z = rw (t.is s at, ← e1, z1, ← e2, z2, ← e3, z3, ← e4, z)

          module _ (d : ℕ) (z4 : g4 ≡ Some d) (g5 : Option (ℕ × ℕ)) (e5 : g5 ≡ later s d) where
            pub third_no : g5 ≡ None → no ≡ whole s at
            third_no z = rw (t.is s at, ← e1, z1, ← e2, z2, ← e3, z3, ← e4, z4, ← e5, z)

            pub third_is : (w e : ℕ) → g5 ≡ Some (w, e) → yes x y w e ≡ whole s at
            third_is w e z = rw (t.is s at, ← e1, z1, ← e2, z2, ← e3, z3, ← e4, z4, ← e5, z)

  -- what holds of a failure and of what the steps lead to holds of the whole
  pub triple_by : (P : R → Type 0) → P no
      → ((x a b y c d z e : ℕ) → first s at ≡ Some (x, a) → byte_from s a sep ≡ Some b → later s b ≡ Some (y, c) → byte_from s c sep ≡ Some d → later s d ≡ Some (z, e) → P (yes x y z e))
      → P (whole s at)
  triple_by P n k =
      rw (t.is s at)
      (on_num_lem P (first s at) _ _ n λ x a e1.
      on_pos_lem P (byte_from s a sep) _ _ n λ b e2.
      on_num_lem P (later s b) _ _ n λ y c e3.
      on_pos_lem P (byte_from s c sep) _ _ n λ d e4.
      on_num_lem P (later s d) _ _ n λ z e e5.
      k x a b y c d z e e1 e2 e3 e4 e5)

  -- and so of what ends in the line
  pub triple_in : (P : R → Type 0) → P no → ((x y z e : ℕ) → e ≤ length s → P (yes x y z e)) → P (whole s at)
  triple_in P n k = triple_by P n (λ x a b y c d z e e1 e2 e3 e4 e5. k x y z e (t.ends s d z e e5))
