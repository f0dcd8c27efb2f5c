-- The white character at the front of a text: what `white_len` answers, how long it is, and what it is.
use Rattle.std.specs.Prelude.{if◌then◌else◌}
use Prim.Native.Nat.{ℕ, ◌+◌, ◌-◌, ◌≤◌, ◌<◌}
use mathlib.Core.Path.{◌≡◌, refl, sym, ap, ◌∙◌}
use mathlib.Core.Bool.{true}
use mathlib.Core.List.{List, [], ◌∷◌, ◌++◌}
use native.Mathlib.Decide.{ℕ_discrete}
use native.Mathlib.Omega.{arith}
use lib.ListN.{length, take, drop, length-append, length-drop, take-append-drop, get_or-append}
use lib.Seq.{take_at, take-take, length-take-le}
use Rattle.base.proofs.Parts.{rest, step}
use Rattle.base.proofs.Tests.{by_if}
use Rattle.utf8.specs.Rfc3629.{is_tail, Utf8Char, utf8_1, utf8_2, utf8_3_E0, utf8_3_E1, utf8_3_ED, utf8_3_EE, utf8_4_F0, utf8_4_F1, utf8_4_F4}
use Rattle.utf8.specs.Lead.{char_len}
use Rattle.base.proofs.Ranges.{orders}
use Rattle.utf8.proofs.Chars.{char_fits, char_is, char_found, later_tails, tail_begins_none}
use Rattle.white.specs.White.{is_white, code_point, white_len}
use Rattle.white.specs.Characters.{white_char}
use Rattle.white.proofs.Points.{white_small}

-- a white character
pub record Space (c : List ℕ) : Type 0 where
  pub is : Utf8Char c
  pub white : white_char c ≡ true

pub white_at : {c : List ℕ} → Utf8Char c → (t : List ℕ) → white_len (c ++ t) ≡ (if white_char c then length c else 0)
unfolding white_len
white_at {c} u t = rw (char_is u t, take_at c t (length c) refl)

found : (s : List ℕ) → (white_len s ≡ 0 → ⊥) → (white_len s ≡ char_len s) × (white_char (take (char_len s) s) ≡ true)
unfolding white_len
found s =
    by_if (λ n. (n ≡ 0 → ⊥) → (n ≡ char_len s) × (white_char (take (char_len s) s) ≡ true)) (white_char (take (char_len s) s)) (char_len s) 0
    (λ w z. (refl, w))
    (λ w z. absurd (z refl))

pub white_fits : (s : List ℕ) → white_len s ≤ length s
unfolding white_len
white_fits s = by_if (λ n. n ≤ length s) (white_char (take (char_len s) s)) (char_len s) 0 (λ w. char_fits s) (λ w. omega arith)

module _ (s : List ℕ) (n : ℕ) where
  pub begun : n ≡ white_len s → (n ≡ 0 → ⊥) → Space (take n s)
  begun e z =
      let f = found s (λ q. z (e ∙ q)) in
      let g : n ≡ char_len s = e ∙ f.0 in
      rw g (record { is = char_found s (λ q. z (g ∙ q)); white = f.1 })

  pub begins : n ≤ length s → Space (take n s) → white_len s ≡ n
  begins l h =
      ap white_len (sym (take-append-drop n s)) ∙ white_at h.is (drop n s) ∙ rw h.white (length-take-le n s l)

-- The first `n` bytes of `s` are a white character by themselves, too
module _ (s : List ℕ) (n : ℕ) (l : n ≤ length s) (z : n ≡ 0 → ⊥) where
  same : take n (take n s) ≡ take n s
  same = take-take n n s (omega arith)

  pub alone : n ≡ white_len s → white_len (take n s) ≡ n
  alone e =
      begins (take n s) n (omega (arith, length-take-le n s l)) (rw same (begun s n e z))

  pub together : white_len (take n s) ≡ n → white_len s ≡ n
  together e = begins s n l (rw same at (begun (take n s) n (sym e) z))

pub large : {A : Type 0} (c : List ℕ) → 0x3000 < code_point c → white_char c ≡ true → A
large c h w = absurd (white_small (code_point c) h w)

-- no white character is longer than three bytes
short : {c : List ℕ} → Utf8Char c → white_char c ≡ true → length c ≤ 3
unfolding code_point
short (utf8_1 p) w = omega arith
short (utf8_2 p q) w = omega arith
short (utf8_3_E0 p q) w = omega arith
short (utf8_3_E1 p q r) w = omega arith
short (utf8_3_ED p q) w = omega arith
short (utf8_3_EE p q r) w = omega arith
short (utf8_4_F0 {b} {c} {d} p q r) w = large (0xF0 ∷ b ∷ c ∷ d ∷ []) (let o = orders _ _ b p in omega arith) w
short (utf8_4_F1 {a} {b} {c} {d} p q r t) w = large (a ∷ b ∷ c ∷ d ∷ []) (let o = orders _ _ a p in omega arith) w
short (utf8_4_F4 {b} {c} {d} p q r) w = large (0xF4 ∷ b ∷ c ∷ d ∷ []) (omega arith) w

pub white_most : (s : List ℕ) → white_len s ≤ 3
white_most s = go (ℕ_discrete (white_len s) 0)
  where
    go : Dec (white_len s ≡ 0) → white_len s ≤ 3
    go (yes z) = omega arith
    go (no z) =
        let h = begun s (white_len s) refl z in
        let l = short h.is h.white in
        omega (arith, length-take-le (white_len s) s (white_fits s))

-- a byte that continues a character begins no white one
pub tail_not_white : (b : ℕ) (s : List ℕ) → is_tail b ≡ true → white_len (b ∷ s) ≡ 0
unfolding white_len code_point is_white
tail_not_white b s h = rw (tail_begins_none b s h)

-- nor does one begin within a character
pub white_inside : {c : List ℕ} → Utf8Char c → (t : List ℕ) (m : ℕ) → 1 ≤ m → m < length c → white_len (drop m (c ++ t)) ≡ 0
white_inside {c} u t m z l =
    let p : m < length (c ++ t) = simp length-append (omega arith) in
    rw (step (c ++ t) m p) (tail_not_white _ _ (rw (get_or-append c t 0 m l) (later_tails u m z l)))

-- What `white_len` answers of a part
module _ (s : List ℕ) (i w : ℕ) (e : w ≡ white_len (take (length s - i) (drop i s))) where
  pub here : w ≡ white_len (drop i s)
  here = e ∙ ap white_len (rest s i)

  pub white_within : i ≤ length s → i + w ≤ length s
  white_within h = omega (arith, here, simp length-drop at (white_fits (drop i s)))
