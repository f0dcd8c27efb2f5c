-- A valid date and clock are what their instant shows; what an instant shows is valid and names that instant; and instants grow with dates.
use Rattle.std.specs.Prelude.{if◌then◌else◌, Some, None}
use Prim.Native.Nat.{ℕ, suc, ◌+◌, ◌-◌, ◌≤◌, ◌<◌}
use mathlib.Core.Path.{◌≡◌, refl, sym, ap, ◌∙◌}
use mathlib.Core.Bool.{Bool, true}
use native.Mathlib.Decide.{dec_le}
use native.Mathlib.Omega.{arith}
use lib.Dec.{ltb, eqb}
use lib.IntN.{ℤ, pos, negsuc, sub_ℕ, ◌+ℤ◌, ◌-ℤ◌, ◌*ℤ◌, +ℤ-neg_ℤ_cancel, -ℤ-+ℤ_cancel}
use lib.Signed.{lt_z}
use borrow.Author.Tests.{lt-ltb, ltb-true, eqb-true}
use Rattle.base.specs.Diff.{down}
use Rattle.base.proofs.Tests.{clash, by_test}
use Rattle.base.proofs.Diffs.{sub_ge, sub_lt}
use Rattle.calendar.specs.Calendar.{valid, days_before_year, days_of_months, day_number}
use Rattle.calendar.specs.Instant.{epoch, local_seconds, seconds_of, clock_of, all_seconds, shown_at, shown}
use Rattle.calendar.specs.Order.{before, earlier}
use Rattle.calendar.specs.declared.DateTime.{DateTime}
use Rattle.calendar.proofs.Dates.{Parts, valid_parts}
use Rattle.calendar.proofs.Days.{years_mono, months_mono}
use Rattle.calendar.proofs.Clocks.{day_of, day_in_month, day_in_year, local_below, clock_back, clock_valid, clock_local}
use Rattle.calendar.proofs.Instants.{minus_diff}

module _ (t : DateTime) (o : ℤ) (v : valid t ≡ true) where
  again : seconds_of t o +ℤ o *ℤ pos 60 +ℤ pos epoch ≡ pos (local_seconds t)
  unfolding seconds_of
  again =
      ap (λ (x : ℤ). x +ℤ pos epoch) (-ℤ-+ℤ_cancel (pos (local_seconds t) -ℤ pos epoch) (o *ℤ pos 60))
      ∙ -ℤ-+ℤ_cancel (pos (local_seconds t)) (pos epoch)

  pub back : shown (seconds_of t o) o ≡ Some t
  unfolding shown
  back = rw (again, lt-ltb (local_seconds t) all_seconds (local_below t v), clock_back t (valid_parts t v))

-- the seconds on the clock that shows `t`
record Shows (z : ℤ) (t : DateTime) : Type 0 where
  n : ℕ
  to : n < all_seconds
  local : z ≡ pos n
  clock : clock_of n ≡ t

never : {A : Type 0} (t : DateTime) → None ≡ Some t → A
never t h = let z : ◌≡◌ {A = ℕ} 0 1 = cc in absurd (omega arith)

shows : (z : ℤ) (t : DateTime) → shown_at z ≡ Some t → Shows z t
shows (pos n) t h =
    by_test
    (λ b. (if b then Some (clock_of n) else None) ≡ Some t → Shows (pos n) t)
    (ltb n all_seconds)
    (λ l e. record { n = n; to = ltb-true n all_seconds l; local = refl; clock = cc })
    (λ l. never t)
    h
shows (negsuc n) t h = never t h

module _ (z o : ℤ) (t : DateTime) (h : shown z o ≡ Some t) where
  local_shows : Shows (z +ℤ o *ℤ pos 60 +ℤ pos epoch) t
  unfolding shown
  local_shows = shows (z +ℤ o *ℤ pos 60 +ℤ pos epoch) t h

  pub shown_valid : valid t ≡ true
  shown_valid = let s = local_shows in rw (← s.clock) (clock_valid s.n s.to)

  pub shown_seconds : seconds_of t o ≡ z
  unfolding seconds_of
  shown_seconds =
      let s = local_shows in
      let e : local_seconds t ≡ s.n = ap local_seconds (sym s.clock) ∙ clock_local s.n s.to in
      ap (λ (x : ℤ). x -ℤ pos epoch -ℤ o *ℤ pos 60) (ap pos e ∙ sym s.local)
      ∙ ap (λ (x : ℤ). x -ℤ o *ℤ pos 60) (+ℤ-neg_ℤ_cancel (z +ℤ o *ℤ pos 60) (pos epoch))
      ∙ +ℤ-neg_ℤ_cancel z (o *ℤ pos 60)

  pub there : (valid t ≡ true) × (seconds_of t o ≡ z)
  there = (shown_valid, shown_seconds)

-- the first number that differs decides
first : {A : Type 0} (a b : ℕ) (r : Bool) → (if eqb a b then r else ltb a b) ≡ true → (a < b → A) → (a ≡ b → r ≡ true → A) → A
first {A} a b r h less same =
    by_test (λ c. (if c then r else ltb a b) ≡ true → A) (eqb a b) (λ e. same (eqb-true a b e)) (λ e l. less (ltb-true a b l)) h

module _ (t u : DateTime) (p : Parts t) (q : Parts u) where
  by_year : t.year < u.year → day_of t < day_of u
  by_year l = omega (arith, day_in_year t p, day_in_year u q, years_mono (suc t.year) u.year l)

  by_month : t.year ≡ u.year → t.month < u.month → day_of t < day_of u
  unfolding day_number
  by_month e l =
      omega
      (arith, day_in_month t p, ap days_before_year e, ap (λ (y : ℕ). days_of_months y (u.month - 1)) e, months_mono t.year (suc (t.month - 1)) (u.month - 1) (omega (arith, p.month_from_lem)))

  by_day : t.year ≡ u.year → t.month ≡ u.month → t.day < u.day → day_of t < day_of u
  unfolding day_number
  by_day e f l = rw (e, f) (omega (arith, p.day_from_lem))

  by_clock : day_of t < day_of u → local_seconds t < local_seconds u
  unfolding local_seconds
  by_clock l = omega (arith, p)

  parts_grow : earlier t u ≡ true → local_seconds t < local_seconds u
  unfolding before local_seconds
  parts_grow h =
      first t.year u.year _ h (λ l. by_clock (by_year l)) (λ e h.
      first t.month u.month _ h (λ l. by_clock (by_month e l)) (λ f h.
      first t.day u.day _ h (λ l. by_clock (by_day e f l)) (λ g h.
      rw (e, f, g) (
      first t.hour u.hour _ h (λ l. omega (arith, p)) (λ i h.
      first t.minute u.minute _ h (λ l. omega (arith, p)) (λ j h.
      first t.second u.second _ h (λ l. omega arith) (λ k h. clash (sym h))))))))

-- a larger number less the same
less_diff : (a b c : ℕ) → a < b → lt_z (sub_ℕ a c) (sub_ℕ b c) ≡ true
less_diff a b c h = go (dec_le c a) (dec_le c b)
  where
    go : Dec (c ≤ a) → Dec (c ≤ b) → lt_z (sub_ℕ a c) (sub_ℕ b c) ≡ true
    go (yes p) (yes q) = rw (sub_ge a c p, sub_ge b c q) (lt-ltb (a - c) (b - c) (omega arith))
    go (yes p) (no q) = absurd (omega arith)
    go (no p) (yes q) = rw (sub_lt a c (omega arith), sub_ge b c q)
    go (no p) (no q) = rw (sub_lt a c (omega arith), sub_lt b c (omega arith)) (lt-ltb (c - suc b) (c - suc a) (omega arith))

module _ (t u : DateTime) (v : valid t ≡ true) (w : valid u ≡ true) (h : earlier t u ≡ true) where
  pub local_grows : local_seconds t < local_seconds u
  local_grows = parts_grow t u (valid_parts t v) (valid_parts u w) h

  pub grows : (o : ℤ) → lt_z (seconds_of t o) (seconds_of u o) ≡ true
  unfolding seconds_of
  grows o =
      let l : local_seconds t + down (o *ℤ pos 60) < local_seconds u + down (o *ℤ pos 60) = omega (arith, local_grows) in
      rw (minus_diff (local_seconds t) epoch (o *ℤ pos 60), minus_diff (local_seconds u) epoch (o *ℤ pos 60)) (less_diff _ _ _ l)
