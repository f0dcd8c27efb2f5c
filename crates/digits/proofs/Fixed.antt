-- `fixed_at`: what it answers, on which text, and how two of them join.
use Rattle.std.specs.Prelude.{Option, Some, None}
use Prim.Native.Nat.{ℕ, suc, ◌+◌, ◌-◌, ◌*◌, ◌^◌, ◌≤◌, ◌<◌}
use mathlib.Core.Path.{◌≡◌, sym, ap, ◌∙◌}
use mathlib.Core.Bool.{true, false}
use mathlib.Core.List.{List, [], ◌∷◌, ◌++◌}
use native.Mathlib.Omega.{arith}
use lib.Dec.{leb}
use lib.ListN.{length, get_or, take, drop}
use lib.Seq.{take-add, take_at}
use mir.Syntax.{w32}
use mir.Val.{Fits}
use borrow.Author.Tests.{le-leb, lt-leb, leb-true, leb-false}
use Rattle.base.specs.Runs.{All}
use Rattle.base.proofs.Runs.{run_le, run_yes, run_front_length, run_split, run_least, run_stop}
use Rattle.digits.specs.Digits.{is_digit, digit_run, decimal_from, decimal, fixed_at}
use Rattle.digits.proofs.Choices.{chosen, not_chosen}
use Rattle.digits.proofs.Decimals.{decimal_append, decimal_front, decimal_front_lt}

pub record IsFixed (k : ℕ) (s : List ℕ) (v n : ℕ) : Type 0 where
  pub len : n ≡ k
  pub enough : k ≤ digit_run s
  pub value : v ≡ decimal (take k s)

module _ (k : ℕ) (s : List ℕ) where
  module _ (v n : ℕ) (e : fixed_at k s ≡ Some (v, n)) where
    pub fixed_is : IsFixed k s v n
    unfolding fixed_at
    fixed_is =
        let c = chosen (leb k (digit_run s)) _ _ _ _ e in
        record { len = sym c.len; enough = leb-true k (digit_run s) c.test; value = sym c.value }

    pub fixed_len : (n ≡ k) × (k ≤ length s) × (v < 10 ^ k)
    fixed_len =
        let i = fixed_is in
        (i.len, omega (arith, run_le is_digit s), rw i.value (decimal_front_lt s k i.enough))

  fixed_few : digit_run s < k → None ≡ fixed_at k s
  unfolding fixed_at
  fixed_few h = rw (lt-leb k (digit_run s) h)

  fixed_few_is : fixed_at k s ≡ None → digit_run s < k
  unfolding fixed_at
  fixed_few_is e = leb-false k (digit_run s) (not_chosen _ _ _ e)

  pub fixed_short : length s < k → None ≡ fixed_at k s
  fixed_short h = fixed_few (omega (arith, run_le is_digit s))

  pub fixed_stop : (i : ℕ) → i < k → is_digit (get_or s i 0) ≡ false → None ≡ fixed_at k s
  fixed_stop i h e = fixed_few (omega (arith, run_stop is_digit s i e))

-- digits, whatever stands after them
pub fixed_text : (k : ℕ) (t r : List ℕ) → All is_digit t → length t ≡ k → fixed_at k (t ++ r) ≡ Some (decimal t, k)
unfolding fixed_at
fixed_text k t r a h = rw (le-leb k (digit_run (t ++ r)) (omega (arith, run_least is_digit t r a)), take_at t r k h)

-- j digits, and after them k more
module _ (j k : ℕ) (s : List ℕ) where
  pub fixed_no_first : fixed_at j s ≡ None → None ≡ fixed_at (j + k) s
  fixed_no_first e = fixed_few (j + k) s (omega (arith, fixed_few_is j s e))

  module _ (a m : ℕ) (e : fixed_at j s ≡ Some (a, m)) where
    pub fixed_no_second : fixed_at k (drop j s) ≡ None → None ≡ fixed_at (j + k) s
    fixed_no_second f =
        let i = fixed_is j s a m e in
        fixed_few (j + k) s (omega (arith, run_split is_digit s j i.enough, fixed_few_is k (drop j s) f))

    pub fixed_both : (b n : ℕ) → fixed_at k (drop j s) ≡ Some (b, n) → Some (a * 10 ^ k + b, j + k) ≡ fixed_at (j + k) s
    unfolding fixed_at
    fixed_both b n f =
        let i = fixed_is j s a m e in
        let l = fixed_is k (drop j s) b n f in
        let h : j + k ≤ digit_run s = omega (arith, run_split is_digit s j i.enough, l.enough) in
        let v : decimal (take (j + k) s) ≡ a * 10 ^ k + b = rw (take-add, decimal_append, ← i.value, decimal_front, ← l.value, run_front_length is_digit (drop j s) k l.enough) in
        rw (le-leb (j + k) (digit_run s) h, v)

-- two digits, one byte after the other
pub fixed_two : (s : List ℕ) (a b : ℕ) → 2 ≤ length s → (is_digit (get_or s 0 0) ≡ true) × (a ≡ get_or s 0 0 - 48) × (a ≤ 9)
    → (is_digit (get_or s 1 0) ≡ true) × (b ≡ get_or s 1 0 - 48) × (b ≤ 9) → Some (a * 10 + b, 2) ≡ fixed_at 2 s
unfolding fixed_at decimal_from
fixed_two [] a b h p q = absurd (omega arith)
fixed_two (x ∷ []) a b h p q = absurd (omega arith)
fixed_two (x ∷ y ∷ s) a b h p q =
    let v : a * 10 + b ≡ (0 * 10 + (x - 48)) * 10 + (y - 48) = omega arith in
    rw (run_yes is_digit x (y ∷ s) p.0, run_yes is_digit y s q.0, le-leb 2 (suc (suc (digit_run s))) (omega arith), v)

pub ruleset two_laws = (fixed_short, fixed_stop, fixed_two)

-- four digits, two and two
module _ (s : List ℕ) (f : Option (ℕ × ℕ)) (ef : f ≡ fixed_at 2 s) where
  pub four_no_first : f ≡ None → None ≡ fixed_at 4 s
  four_no_first e = fixed_no_first 2 2 s (sym ef ∙ e)

  module _ (a m : ℕ) (ea : f ≡ Some (a, m)) where
    first : (m ≡ 2) × (2 ≤ length s) × (a < 10 ^ 2)
    first = fixed_len 2 s a m (sym ef ∙ ea)

    pub four_first : 2 ≤ length s
    four_first = first.1

    pub four_high : Fits w32 (a * 100)
    four_high = record { fits = omega (arith, first.2) }

    module _ (r : List ℕ) (g : Option (ℕ × ℕ)) (er : r ≡ drop 2 s) (eg : g ≡ fixed_at 2 r) where
      second : g ≡ fixed_at 2 (drop 2 s)
      second = eg ∙ ap (fixed_at 2) er

      pub four_no_second : g ≡ None → None ≡ fixed_at 4 s
      four_no_second e = fixed_no_second 2 2 s a m (sym ef ∙ ea) (sym second ∙ e)

      module _ (b n : ℕ) (eb : g ≡ Some (b, n)) where
        pub four_low : Fits w32 (a * 100 + b)
        four_low = record { fits = omega (arith, first.2, (fixed_len 2 r b n (sym eg ∙ eb)).2) }

        pub four_both : Some (a * 100 + b, 4) ≡ fixed_at 4 s
        four_both = fixed_both 2 2 s a m (sym ef ∙ ea) b n (sym second ∙ eb)

pub ruleset four_laws = (four_no_first, four_first, four_high, four_no_second, four_low, four_both)
