-- What holds of a failure, and of whatever a step's answer leads to, holds of the whole.
use Rattle.std.specs.Prelude.{Option, Some, None}
use Prim.Native.Nat.{ℕ}
use mathlib.Core.Path.{◌≡◌, refl}
use lib.IntN.{ℤ}
use Rattle.parsers.specs.Steps.{on_read, on_some}
use Rattle.timestamp.specs.Clock.{on_clock}
use Rattle.timestamp.specs.Rfc3339.{on_date}
use Rattle.timestamp.specs.Timestamp.{on_day}
use Rattle.timestamp.specs.declared.Clock.{Clock}
use Rattle.timestamp.specs.declared.Date.{Date}
use Rattle.timestamp.specs.declared.Day.{Day}

module _ {R : Type 0} (P : R → Type 0) where
  pub on_num_lem : (x : Option (ℕ × ℕ)) (r : R) (k : ℕ → ℕ → R) → P r → ((v n : ℕ) → x ≡ Some (v, n) → P (k v n)) → P (on_read x r k)
  on_num_lem None r k a b = a
  on_num_lem (Some x) r k a b = b x.0 x.1 refl

  pub on_pos_lem : (x : Option ℕ) (r : R) (k : ℕ → R) → P r → ((n : ℕ) → x ≡ Some n → P (k n)) → P (on_some x r k)
  on_pos_lem None r k a b = a
  on_pos_lem (Some n) r k a b = b n refl

  pub on_clock_lem : (x : Option (Clock × ℕ)) (r : R) (k : ℕ → ℕ → ℕ → ℕ → R) → P r → ((h m s n : ℕ) → x ≡ Some (record { hour = h; minute = m; second = s }, n) → P (k h m s n)) → P (on_clock x r k)
  on_clock_lem None r k a b = a
  on_clock_lem (Some x) r k a b = b x.0.hour x.0.minute x.0.second x.1 refl

  pub on_date_lem : (x : Option (Date × ℕ)) (r : R) (k : ℕ → ℕ → ℕ → ℕ → R) → P r → ((y m d n : ℕ) → x ≡ Some (record { year = y; month = m; day = d }, n) → P (k y m d n)) → P (on_date x r k)
  on_date_lem None r k a b = a
  on_date_lem (Some x) r k a b = b x.0.year x.0.month x.0.day x.1 refl

  pub on_day_lem : (x : Option (Day × ℕ)) (r : R) (k : ℕ → ℕ → ℕ → R) → P r → ((m d n : ℕ) → x ≡ Some (record { month = m; day = d }, n) → P (k m d n)) → P (on_day x r k)
  on_day_lem None r k a b = a
  on_day_lem (Some x) r k a b = b x.0.month x.0.day x.1 refl

  pub on_zone_lem : (x : Option (ℤ × ℕ)) (r : R) (k : ℤ → ℕ → R) → P r → ((o : ℤ) (n : ℕ) → x ≡ Some (o, n) → P (k o n)) → P (on_read x r k)
  on_zone_lem None r k a b = a
  on_zone_lem (Some x) r k a b = b x.0 x.1 refl
