-- White characters by their bytes: which bytes begin one, and what the tests of one, two and three bytes answer.
use Rattle.std.specs.Prelude.{if◌then◌else◌}
use Prim.Native.Nat.{ℕ, zero, suc, ◌+◌, ◌*◌, ◌%◌, ◌≤◌, ◌<◌}
use mathlib.Core.Path.{◌≡◌, refl, sym, ap, ◌∙◌}
use mathlib.Core.Logic.{◌≢◌}
use mathlib.Core.Bool.{Bool, true, false, ◌&&◌, ◌||◌}
use mathlib.Core.List.{List, [], ◌∷◌}
use native.Mathlib.Decide.{ℕ_discrete, dec_le}
use native.Mathlib.Omega.{arith}
use lib.Dec.{eqb}
use lib.ListN.{length, get_or, take, drop}
use lib.Seq.{get_or-take, take-suc, length-take-le}
use borrow.Author.Tests.{eq-eqb, ne_eqb, eqb-true, eqb-false}
use Rattle.base.specs.Choose.{within}
use Rattle.base.proofs.Parts.{step}
use Rattle.base.proofs.Tests.{both, clash}
use Rattle.base.proofs.Ranges.{inside, outside, orders}
use Rattle.utf8.specs.Rfc3629.{Utf8Char, utf8_1, utf8_2, utf8_3_E0, utf8_3_E1, utf8_3_ED, utf8_3_EE, utf8_4_F0, utf8_4_F1, utf8_4_F4}
use Rattle.utf8.specs.Lead.{lead_of, well_formed, char_len}
use Rattle.utf8.proofs.Chars.{later_tails}
use Rattle.white.specs.White.{is_white, code_point, white_len}
use Rattle.white.specs.Characters.{white_char}
use Rattle.white.proofs.Points.{keyless, sole, white_between, white_ascii, white_space, white_line}
use Rattle.white.proofs.Whites.{Space, white_at, white_fits, white_most, begun, alone, together, large}

-- the first byte of a white character, by its length
pub record Leads (a n : ℕ) : Type 0 where
  pub one : n ≡ 1 → a < 128
  pub two : n ≡ 2 → a ≡ 0xC2
  pub three : n ≡ 3 → (0xE1 ≤ a) × (a ≤ 0xE3)

pub leads : {c : List ℕ} → Utf8Char c → white_char c ≡ true → Leads (get_or c 0 0) (length c)
unfolding code_point
leads (utf8_1 {a} p) w = let o = orders _ _ a p in omega arith
leads (utf8_2 {a} {b} p q) w = go (ℕ_discrete a 0xC2)
  where
    go : Dec (a ≡ 0xC2) → Leads a 2
    go (yes e) = omega arith
    go (no e) = let o = orders _ _ a p in absurd (white_between (a % 0x20 * 0x40 + b % 0x40) (omega arith) (omega arith) w)
leads (utf8_3_E0 {b} {c} p q) w =
    let o = orders _ _ b p in absurd (white_between (0 + b % 0x40 * 0x40 + c % 0x40) (omega arith) (omega arith) w)
leads (utf8_3_E1 {a} {b} {c} p q r) w = go (dec_le a 0xE3)
  where
    go : Dec (a ≤ 0xE3) → Leads a 3
    go (yes l) = let o = orders _ _ a p in omega arith
    go (no l) = let o = orders _ _ a p in large (a ∷ b ∷ c ∷ []) (omega arith) w
leads (utf8_3_ED {b} {c} p q) w = large (0xED ∷ b ∷ c ∷ []) (omega arith) w
leads (utf8_3_EE {a} {b} {c} p q r) w = let o = orders _ _ a p in large (a ∷ b ∷ c ∷ []) (omega arith) w
leads (utf8_4_F0 p q r) w = omega arith
leads (utf8_4_F1 p q r t) w = omega arith
leads (utf8_4_F4 p q r) w = omega arith

pub front_leads : (s : List ℕ) (n : ℕ) → n ≡ white_len s → (n ≡ 0 → ⊥) → Leads (get_or s 0 0) n
front_leads s n e z =
    let h = begun s n e z in
    let l : n ≤ length s = omega (arith, white_fits s) in
    rw (get_or-take n s 0 0 (omega arith), length-take-le n s l) at (leads h.is h.white)

-- What the tests of bytes answer

-- a test and what it decides
agree : (t : Bool) (m n : ℕ) → (t ≡ true → m ≡ n) → (m ≡ n → t ≡ true) → t ≡ eqb m n
agree true m n f g = sym (eq-eqb m n (f refl))
agree false m n f g = sym (ne_eqb m n (λ q. clash (sym (g q))))

either : {P : Type 0} (p q : Bool) → (p || q) ≡ true → (p ≡ true → P) → (q ≡ true → P) → P
either true q h f g = f refl
either false q h f g = g h

pub ascii_front : (b : ℕ) (t : List ℕ) → b < 128 → white_len (b ∷ t) ≡ (if is_white b then 1 else 0)
unfolding code_point
ascii_front b t h = white_at (utf8_1 (inside 0x00 0x7F b (omega arith) (omega arith))) t

white_85 : white_len (0xC2 ∷ 0x85 ∷ []) ≡ 2
unfolding lead_of well_formed char_len is_white code_point white_len
white_85 = refl

white_A0 : white_len (0xC2 ∷ 0xA0 ∷ []) ≡ 2
unfolding lead_of well_formed char_len is_white code_point white_len
white_A0 = refl

-- the second byte of a white pair
pair_point : (b : ℕ) → Space (0xC2 ∷ b ∷ []) → (eqb b 0x85 || eqb b 0xA0) ≡ true
unfolding code_point
pair_point b h = go (ℕ_discrete b 0x85) (ℕ_discrete b 0xA0)
  where
    go : Dec (b ≡ 0x85) → Dec (b ≡ 0xA0) → (eqb b 0x85 || eqb b 0xA0) ≡ true
    go (yes e) d = rw e
    go (no n) (yes e) = rw e
    go (no n) (no m) =
        let o = orders 0x80 0xBF b (later_tails h.is 1 (omega arith) (omega arith)) in
        absurd (keyless (0xC2 % 0x20 * 0x40 + b % 0x40) (λ x. (0x80 ≤ x) × (x ≤ 0xBF) × (x ≢ 0x85) × (x ≢ 0xA0)) (omega arith) (omega arith) (omega arith) h.white)

pub pair_is : (a b : ℕ) → (eqb a 0xC2 && (eqb b 0x85 || eqb b 0xA0)) ≡ eqb (white_len (a ∷ b ∷ [])) 2
pair_is a b = agree (eqb a 0xC2 && (eqb b 0x85 || eqb b 0xA0)) (white_len (a ∷ b ∷ [])) 2 found only
  where
    found : (eqb a 0xC2 && (eqb b 0x85 || eqb b 0xA0)) ≡ true → white_len (a ∷ b ∷ []) ≡ 2
    found h =
        let (p, q) = both (eqb a 0xC2) (eqb b 0x85 || eqb b 0xA0) h in
        rw (eqb-true a 0xC2 p) (either (eqb b 0x85) (eqb b 0xA0) q (λ e. rw (eqb-true b 0x85 e) white_85) (λ e. rw (eqb-true b 0xA0 e) white_A0))

    only : white_len (a ∷ b ∷ []) ≡ 2 → (eqb a 0xC2 && (eqb b 0x85 || eqb b 0xA0)) ≡ true
    only e =
        let l : a ≡ 0xC2 = (front_leads (a ∷ b ∷ []) 2 (sym e) (omega arith)).two refl in
        rw l (pair_point b (rw l at (begun (a ∷ b ∷ []) 2 (sym e) (omega arith))))

-- the bytes after the first
record Tails (b c : ℕ) : Type 0 where
  second : (0x80 ≤ b) × (b ≤ 0xBF)
  third : (0x80 ≤ c) × (c ≤ 0xBF)

tails : (a b c : ℕ) → Space (a ∷ b ∷ c ∷ []) → Tails b c
tails a b c h =
    record {
      second = orders 0x80 0xBF b (later_tails h.is 1 (omega arith) (omega arith));
      third = orders 0x80 0xBF c (later_tails h.is 2 (omega arith) (omega arith));
    }

-- a lead byte after which one pair of bytes alone is white
module _ (a y z : ℕ) (w : white_len (a ∷ y ∷ z ∷ []) ≡ 3) (b c : ℕ) (h : Space (a ∷ b ∷ c ∷ []) → (b ≡ y) × (c ≡ z)) where
  only_one : (eqb b y && eqb c z) ≡ eqb (white_len (a ∷ b ∷ c ∷ [])) 3
  only_one = agree (eqb b y && eqb c z) (white_len (a ∷ b ∷ c ∷ [])) 3 found only
    where
      found : (eqb b y && eqb c z) ≡ true → white_len (a ∷ b ∷ c ∷ []) ≡ 3
      found t = let (p, q) = both (eqb b y) (eqb c z) t in rw (eqb-true b y p, eqb-true c z q) w

      only : white_len (a ∷ b ∷ c ∷ []) ≡ 3 → (eqb b y && eqb c z) ≡ true
      only e = let (p, q) = h (begun (a ∷ b ∷ c ∷ []) 3 (sym e) (omega arith)) in rw (eq-eqb b y p, eq-eqb c z q)

ogham : (b c : ℕ) → Space (0xE1 ∷ b ∷ c ∷ []) → (b ≡ 0x9A) × (c ≡ 0x80)
unfolding code_point
ogham b c h =
    let t = tails 0xE1 b c h in
    let k = sole (0xE1 % 0x10 * 0x1000 + b % 0x40 * 0x40 + c % 0x40) 0x1000 0x1FFF 0x1680 (omega arith) (omega arith) (omega arith) (omega arith) h.white in
    omega arith

ideographic : (b c : ℕ) → Space (0xE3 ∷ b ∷ c ∷ []) → (b ≡ 0x80) × (c ≡ 0x80)
unfolding code_point
ideographic b c h =
    let t = tails 0xE3 b c h in
    let k = sole (0xE3 % 0x10 * 0x1000 + b % 0x40 * 0x40 + c % 0x40) 0x3000 0x3FFF 0x3000 (omega arith) (omega arith) (omega arith) (omega arith) h.white in
    omega arith

mathematical : (b c : ℕ) → b ≢ 0x80 → Space (0xE2 ∷ b ∷ c ∷ []) → (b ≡ 0x81) × (c ≡ 0x9F)
unfolding code_point
mathematical b c n h =
    let t = tails 0xE2 b c h in
    let k = sole (0xE2 % 0x10 * 0x1000 + b % 0x40 * 0x40 + c % 0x40) 0x2040 0x2FFF 0x205F (omega arith) (omega arith) (omega arith) (omega arith) h.white in
    omega arith

white_1680 : white_len (0xE1 ∷ 0x9A ∷ 0x80 ∷ []) ≡ 3
unfolding lead_of well_formed char_len is_white code_point white_len
white_1680 = refl

white_205F : white_len (0xE2 ∷ 0x81 ∷ 0x9F ∷ []) ≡ 3
unfolding lead_of well_formed char_len is_white code_point white_len
white_205F = refl

white_3000 : white_len (0xE3 ∷ 0x80 ∷ 0x80 ∷ []) ≡ 3
unfolding lead_of well_formed char_len is_white code_point white_len
white_3000 = refl

white_202F : white_len (0xE2 ∷ 0x80 ∷ 0xAF ∷ []) ≡ 3
unfolding lead_of well_formed char_len is_white code_point white_len
white_202F = refl

-- E2, 80 and a third byte
module _ (c : ℕ) where
  -- white where its code point is
  by_point : 0x80 ≤ c → c ≤ 0xBF → true ≡ is_white (0x2000 + c % 0x40) → white_len (0xE2 ∷ 0x80 ∷ c ∷ []) ≡ 3
  unfolding code_point
  by_point p q w =
      white_at (utf8_3_E1 {a = 0xE2} {b = 0x80} {c = c} refl refl (inside 0x80 0xBF c p q)) [] ∙ rw (← w)

  last : Space (0xE2 ∷ 0x80 ∷ c ∷ []) → (0x8A < c) → (0xA8 ≤ c → c ≤ 0xA9 → ⊥) → c ≡ 0xAF
  unfolding code_point
  last h l n =
      let t = tails 0xE2 0x80 c h in
      let o : 0x2028 ≤ 0x2000 + c % 0x40 → 0x2000 + c % 0x40 ≤ 0x2029 → ⊥ = λ p q. n (omega arith) (omega arith) in
      let k = sole (0x2000 + c % 0x40) 0x2000 0x203F 0x202F (omega arith) (omega arith) (omega arith) (omega arith, omega arith, o) h.white in
      omega arith

  third : Space (0xE2 ∷ 0x80 ∷ c ∷ []) → (within 0x80 0x8A c || within 0xA8 0xA9 c || eqb c 0xAF) ≡ true
  third h = go (dec_le c 0x8A) (dec_le 0xA8 c) (dec_le c 0xA9)
    where
      go : Dec (c ≤ 0x8A) → Dec (0xA8 ≤ c) → Dec (c ≤ 0xA9) → (within 0x80 0x8A c || within 0xA8 0xA9 c || eqb c 0xAF) ≡ true
      go (yes l) d f = rw (inside 0x80 0x8A c (tails 0xE2 0x80 c h).third.0 l)
      go (no l) (yes m) (yes n) = rw (outside 0x80 0x8A c (omega arith), inside 0xA8 0xA9 c m n)
      go (no l) (yes m) (no n) = rw (last h (omega arith) (omega arith))
      go (no l) (no m) d = rw (last h (omega arith) (omega arith))

  pub general_80 : (within 0x80 0x8A c || within 0xA8 0xA9 c || eqb c 0xAF) ≡ eqb (white_len (0xE2 ∷ 0x80 ∷ c ∷ [])) 3
  general_80 =
      agree (within 0x80 0x8A c || within 0xA8 0xA9 c || eqb c 0xAF) (white_len (0xE2 ∷ 0x80 ∷ c ∷ [])) 3 found
      (λ e. third (begun (0xE2 ∷ 0x80 ∷ c ∷ []) 3 (sym e) (omega arith)))
    where
      spaces : within 0x80 0x8A c ≡ true → white_len (0xE2 ∷ 0x80 ∷ c ∷ []) ≡ 3
      spaces h =
          let (p, q) = orders 0x80 0x8A c h in
          by_point (omega arith) (omega arith) (white_space (0x2000 + c % 0x40) (omega arith) (omega arith))

      lines : within 0xA8 0xA9 c ≡ true → white_len (0xE2 ∷ 0x80 ∷ c ∷ []) ≡ 3
      lines h =
          let (p, q) = orders 0xA8 0xA9 c h in
          by_point (omega arith) (omega arith) (white_line (0x2000 + c % 0x40) (omega arith) (omega arith))

      found : (within 0x80 0x8A c || within 0xA8 0xA9 c || eqb c 0xAF) ≡ true → white_len (0xE2 ∷ 0x80 ∷ c ∷ []) ≡ 3
      found h =
          either (within 0x80 0x8A c || within 0xA8 0xA9 c) (eqb c 0xAF) h (λ r. either (within 0x80 0x8A c) (within 0xA8 0xA9 c) r spaces lines)
          (λ e. rw (eqb-true c 0xAF e) white_202F)

module _ (b c : ℕ) where
  pub general_first : b ≡ 0x80 → (within 0x80 0x8A c || within 0xA8 0xA9 c || eqb c 0xAF) ≡ eqb (white_len (0xE2 ∷ b ∷ c ∷ [])) 3
  general_first e = rw e (general_80 c)

  pub general_other : (b ≡ 0x80 → ⊥) → (eqb b 0x81 && eqb c 0x9F) ≡ eqb (white_len (0xE2 ∷ b ∷ c ∷ [])) 3
  general_other n = only_one 0xE2 0x81 0x9F white_205F b c (mathematical b c n)

  module _ (a : ℕ) where
    pub triple_E1 : a ≡ 0xE1 → (eqb b 0x9A && eqb c 0x80) ≡ eqb (white_len (a ∷ b ∷ c ∷ [])) 3
    triple_E1 e = rw e (only_one 0xE1 0x9A 0x80 white_1680 b c (ogham b c))

    pub triple_E2 : a ≡ 0xE2 → (t : Bool) → t ≡ eqb (white_len (0xE2 ∷ b ∷ c ∷ [])) 3 → t ≡ eqb (white_len (a ∷ b ∷ c ∷ [])) 3
    triple_E2 e t h = rw e h

    pub triple_E3 : a ≡ 0xE3 → (eqb b 0x80 && eqb c 0x80) ≡ eqb (white_len (a ∷ b ∷ c ∷ [])) 3
    triple_E3 e = rw e (only_one 0xE3 0x80 0x80 white_3000 b c (ideographic b c))

    pub triple_none : (a ≡ 0xE1 → ⊥) → (a ≡ 0xE2 → ⊥) → (a ≡ 0xE3 → ⊥) → false ≡ eqb (white_len (a ∷ b ∷ c ∷ [])) 3
    triple_none p q r =
        agree false (white_len (a ∷ b ∷ c ∷ [])) 3 (λ h. clash (sym h))
        (λ e. absurd (omega (arith, (front_leads (a ∷ b ∷ c ∷ []) 3 (sym e) (omega arith)).three refl)))

pub ruleset byte_laws = (white_ascii, pair_is, general_first, general_other, triple_E1, triple_E2, triple_E3, triple_none)

-- What `white_len` answers: a front of ASCII
pub front_empty : (s : List ℕ) → length s ≡ 0 → 0 ≡ white_len s
front_empty s h = omega (arith, white_fits s)

module _ (s : List ℕ) (l : length s ≡ 0 → ⊥) (h : get_or s 0 0 < 128) (t : Bool) (e : t ≡ is_white (get_or s 0 0)) where
  ascii_is : white_len s ≡ (if t then 1 else 0)
  ascii_is = ap white_len (step s 0 (omega arith)) ∙ ascii_front (get_or s 0 0) (drop 1 s) h ∙ rw (← e)

  pub ascii_yes : t ≡ true → 1 ≡ white_len s
  ascii_yes q = sym (rw q at ascii_is)

  pub ascii_no : t ≡ false → 0 ≡ white_len s
  ascii_no q = sym (rw q at ascii_is)

-- a front that begins no white character
neither : (p q : Bool) → (p || q) ≡ false → (p ≡ false) × (q ≡ false)
neither true q h = clash h
neither false q h = (refl, h)

begins_none : (a n : ℕ) → 128 ≤ a → (n ≡ 0 → ⊥) → n ≤ 3 → Leads a n → (a ≡ 0xC2 → ⊥) → (0xE1 ≤ a → a ≤ 0xE3 → ⊥) → ⊥
begins_none a zero h z m l p q = z refl
begins_none a (suc zero) h z m l p q = omega (arith, l.one refl)
begins_none a (suc (suc zero)) h z m l p q = p (l.two refl)
begins_none a (suc (suc (suc zero))) h z m l p q = q (l.three refl).0 (l.three refl).1
begins_none a (suc (suc (suc (suc n)))) h z m l p q = omega arith

pub front_other : (s : List ℕ) → 128 ≤ get_or s 0 0 → (t : Bool) → t ≡ (eqb (get_or s 0 0) 0xC2 || within 0xE1 0xE3 (get_or s 0 0)) → t ≡ false → 0 ≡ white_len s
front_other s h t e q = go (ℕ_discrete (white_len s) 0)
  where
    a : ℕ
    a = get_or s 0 0

    go : Dec (white_len s ≡ 0) → 0 ≡ white_len s
    go (yes z) = sym z
    go (no n) =
        let l = front_leads s (white_len s) refl n in
        let (c, d) = neither (eqb a 0xC2) (within 0xE1 0xE3 a) (sym e ∙ q) in
        absurd (begins_none a (white_len s) h n (white_most s) l (eqb-false a 0xC2 c) (λ x y. clash (sym (inside 0xE1 0xE3 a x y) ∙ d)))

-- one of two bytes or of three
module _ (s : List ℕ) (n : ℕ) (l : n ≤ length s) (z : n ≡ 0 → ⊥) (t : Bool) (e : t ≡ eqb (white_len (take n s)) n) where
  front_is : t ≡ true → n ≡ white_len s
  front_is h = sym (together s n l z (eqb-true (white_len (take n s)) n (sym e ∙ h)))

  front_not : t ≡ false → white_len s ≡ n → ⊥
  front_not h q = clash (sym (eq-eqb (white_len (take n s)) n (alone s n l z (sym q))) ∙ sym e ∙ h)

pub first_two : (s : List ℕ) → 2 ≤ length s → take 2 s ≡ get_or s 0 0 ∷ get_or s 1 0 ∷ []
first_two s l = rw (take-suc s 1 0 (omega arith), take-suc s 0 0 (omega arith))

pub first_three : (s : List ℕ) → 3 ≤ length s → take 3 s ≡ get_or s 0 0 ∷ get_or s 1 0 ∷ get_or s 2 0 ∷ []
first_three s l = rw (take-suc s 2 0 (omega arith), take-suc s 1 0 (omega arith), take-suc s 0 0 (omega arith))

module _ (s : List ℕ) (h : 128 ≤ get_or s 0 0) where
  not_one : white_len s ≡ 1 → ⊥
  not_one e = omega (arith, (front_leads s 1 (sym e) (omega arith)).one refl)

  pub long_one : length s < 2 → 0 ≡ white_len s
  long_one l = let n = not_one in omega (arith, white_fits s)

  module _ (l : 2 ≤ length s) (p : Bool) (e : p ≡ eqb (white_len (get_or s 0 0 ∷ get_or s 1 0 ∷ [])) 2) where
    pair_here : p ≡ eqb (white_len (take 2 s)) 2
    pair_here = rw (first_two s l) e

    pub long_two : p ≡ true → 2 ≡ white_len s
    long_two = front_is s 2 l (omega arith) p pair_here

    module _ (q : p ≡ false) where
      pub long_cut : length s < 3 → 0 ≡ white_len s
      long_cut m = let n = not_one in let k = front_not s 2 l (omega arith) p pair_here q in omega (arith, white_fits s)

      module _ (m : 3 ≤ length s) (r : Bool) (f : r ≡ eqb (white_len (get_or s 0 0 ∷ get_or s 1 0 ∷ get_or s 2 0 ∷ [])) 3) where
        triple_here : r ≡ eqb (white_len (take 3 s)) 3
        triple_here = rw (first_three s m) f

        pub long_three : r ≡ true → 3 ≡ white_len s
        long_three = front_is s 3 m (omega arith) r triple_here

        pub long_none : r ≡ false → 0 ≡ white_len s
        long_none o =
            let n = not_one in
            let k = front_not s 2 l (omega arith) p pair_here q in
            let j = front_not s 3 m (omega arith) r triple_here o in
            omega (arith, white_most s)

pub ruleset front_laws = (front_empty, ascii_yes, ascii_no, front_other, long_one, long_two, long_cut, long_three, long_none)
