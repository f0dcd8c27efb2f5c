-- The walk of `is_utf8`: past ASCII by many bytes at a time, and past characters.
use Prim.Native.Nat.{ℕ, ◌+◌, ◌-◌, ◌^◌, ◌≤◌, ◌<◌}
use mathlib.Core.Path.{◌≡◌, refl, sym, ap, subst, ◌∙◌}
use mathlib.Core.List.{List, [], ◌∷◌}
use mathlib.Core.Bool.{Bool, true, false, not, ◌&&◌}
use native.Mathlib.Omega.{arith}
use mir.Syntax.{w64}
use mir.Val.{Fits}
use lib.Dec.{ltb}
use lib.ListN.{length, get_or, drop, length-drop, take-append-drop}
use lib.Seq.{drop-drop}
use borrow.Author.Tests.{le-leb, ltb-true, not-false}
use Rattle.base.specs.Choose.{within}
use Rattle.base.specs.Runs.{eight}
use Rattle.base.proofs.Tests.{by_test, both, clash}
use Rattle.base.proofs.Ranges.{orders}
use Rattle.base.proofs.Parts.{step, ended}
use Rattle.base.proofs.Runs.{eight_on}
use Rattle.utf8.specs.Rfc3629.{Characters, octets}
use Rattle.utf8.specs.Lead.{well_formed, char_len, utf8_from, is_utf8}
use Rattle.utf8.specs.Onward.{Onward}
use Rattle.utf8.proofs.Leads.{lead_1, lead_2, lead_E1}
use Rattle.utf8.proofs.Walk.{any_range}
use Rattle.utf8.proofs.Chars.{char_fits, char_found, char_is, char_some}
use Rattle.utf8.proofs.Texts.{utf8_char, utf8_sound}

-- nothing is passed yet
pub none_passed : (s : List ℕ) (at : ℕ) → at ≤ length s → Onward s at at
none_passed s at h = record { least = omega arith; most = h; same = refl }

pub then_passed : (s : List ℕ) (at i n : ℕ) → Onward s at i → Onward s i n → Onward s at n
then_passed s at i n f g = record { least = omega (arith, f.least, g.least); most = g.most; same = f.same ∙ g.same }

-- a byte of ASCII
pub one_passed : (s : List ℕ) (i : ℕ) → i < length s → get_or s i 0 < 0x80 → Onward s i (i + 1)
unfolding utf8_from
one_passed s i h a =
    record { least = omega arith; most = omega arith; same = rw (step s i h, lead_1 (get_or s i 0) (omega arith)) (any_range 0 0 0x80 0xBF (drop (i + 1) s)) }

module _ (s : List ℕ) (at i : ℕ) (w : Onward s at i) where
  pub one_more : i < length s → get_or s i 0 < 0x80 → Onward s at (i + 1)
  one_more h a = then_passed s at i (i + 1) w (one_passed s i h a)

  pub eight_more : i + 8 ≤ length s → (b : Bool) → b ≡ eight (λ x. ltb x 128) s i → not b ≡ false → Onward s at (i + 8)
  eight_more l =
      eight_on (λ x. ltb x 128) s (Onward s at) (λ j h v t. then_passed s at j (j + 1) v (one_passed s j h (ltb-true (get_or s j 0) 128 t))) i l w

  pub many_more : (n : ℕ) (b : Bool) → (b ≡ true → Onward s i n) → not b ≡ false → Onward s at n
  many_more n b e h = then_passed s at i n w (e (not-false b h))

-- four times as many
till : (s : List ℕ) (at i n : ℕ) → Onward s at i → i ≡ n → Onward s at n
till s at i n f e = subst (Onward s at) e f

four : (s : List ℕ) (i n m l k : ℕ) (a b c d : Bool) → (a ≡ true → Onward s i n) → (b ≡ true → Onward s n m) → (c ≡ true → Onward s m l) → (d ≡ true → Onward s l k)
    → (a && b && c && d) ≡ true → Onward s i k
four s i n m l k a b c d ea eb ec ed h =
    let t₃ = both _ _ h in
    let t₂ = both _ _ t₃.0 in
    let t₁ = both _ _ t₂.0 in
    then_passed s i l k (then_passed s i m l (then_passed s i n m (ea t₁.0) (eb t₁.1)) (ec t₂.1)) (ed t₃.1)

module _ (s : List ℕ) (i : ℕ) (a b c d : Bool) where
  eights : (j n : ℕ) (t : Bool) → j + 8 ≤ length s → t ≡ eight (λ x. ltb x 128) s j → j + 8 ≡ n → t ≡ true → Onward s j n
  eights j n t l e q h = till s j (j + 8) n (eight_more s j j (none_passed s j (omega arith)) l t e (rw h)) q

  pub four_eights : i + 32 ≤ length s → a ≡ eight (λ x. ltb x 128) s i → b ≡ eight (λ x. ltb x 128) s (i + 8) → c ≡ eight (λ x. ltb x 128) s (i + 16)
      → d ≡ eight (λ x. ltb x 128) s (i + 24) → (a && b && c && d) ≡ true → Onward s i (i + 32)
  four_eights l ea eb ec ed =
      four s i (i + 8) (i + 16) (i + 24) (i + 32) a b c d (eights i (i + 8) a (omega arith) ea refl) (eights (i + 8) (i + 16) b (omega arith) eb (omega arith))
      (eights (i + 16) (i + 24) c (omega arith) ec (omega arith)) (eights (i + 24) (i + 32) d (omega arith) ed (omega arith))

  pub four_many : (a ≡ true → Onward s i (i + 32)) → (b ≡ true → Onward s (i + 32) (i + 32 + 32)) → (c ≡ true → Onward s (i + 64) (i + 64 + 32))
      → (d ≡ true → Onward s (i + 96) (i + 96 + 32)) → (a && b && c && d) ≡ true → Onward s i (i + 128)
  four_many ea eb ec ed =
      four s i (i + 32) (i + 64) (i + 96) (i + 128) a b c d ea (λ h. till s _ _ _ (eb h) (omega arith)) (λ h. till s _ _ _ (ec h) (omega arith)) (λ h. till s _ _ _ (ed h) (omega arith))

-- what the needs of the functions that pass ASCII are answered by
pub ruleset ascii_laws = (none_passed, then_passed, one_more, eight_more, many_more)

-- two bytes and three
module _ (s : List ℕ) (a b : Bool) (ea : a ≡ within 0xC2 0xDF (get_or s 0 0)) (eb : b ≡ within 0x80 0xBF (get_or s 1 0)) where
  pub two_front : 2 ≤ length s → (a && b) ≡ true → 2 ≡ char_len s
  unfolding char_len well_formed
  two_front l h =
      let t = both a b h in
      let o = orders 0xC2 0xDF (get_or s 0 0) (sym ea ∙ t.0) in
      rw (lead_2 (get_or s 0 0) o.0 o.1, le-leb 2 (length s) l, ← eb, t.1)

module _ (s : List ℕ) (a b c : Bool) (ea : a ≡ within 0xE1 0xEC (get_or s 0 0)) (eb : b ≡ within 0x80 0xBF (get_or s 1 0)) (ec : c ≡ within 0x80 0xBF (get_or s 2 0)) where
  pub three_front : 3 ≤ length s → (a && b && c) ≡ true → 3 ≡ char_len s
  unfolding char_len well_formed
  three_front l h =
      let t = both (a && b) c h in
      let u = both a b t.0 in
      let o = orders 0xE1 0xEC (get_or s 0 0) (sym ea ∙ u.0) in
      rw (lead_E1 (get_or s 0 0) o.0 o.1, le-leb 3 (length s) l, ← eb, u.1, ← ec, t.1)

pub no_front : (n : ℕ) (s : List ℕ) → false ≡ true → n ≡ char_len s
no_front n s h = clash (sym h)

-- a test that was met
pub by_two : (s : List ℕ) (b : Bool) → (b ≡ true → 2 ≡ char_len s) → b ≡ true → 2 ≡ char_len s
by_two s b e h = e h

pub by_three : (s : List ℕ) (b : Bool) → (b ≡ true → 3 ≡ char_len s) → b ≡ true → 3 ≡ char_len s
by_three s b e h = e h

-- what the needs of the functions that answer tests are answered by
pub ruleset test_laws = (two_front, three_front, no_front, by_two, by_three)

-- a text that is UTF-8 begins with a character
begins : (t : List ℕ) (cs : List (List ℕ)) → Characters cs → t ≡ octets cs → 0 < length t → char_len t ≡ 0 → ⊥
begins t [] g e h z = omega (arith, ap length e)
begins t (c ∷ cs) g e h z = omega (arith, char_some g.0, sym z ∙ ap char_len e ∙ char_is g.0 (octets cs))

no_text : (t : List ℕ) → 0 < length t → char_len t ≡ 0 → is_utf8 t ≡ false
no_text t h z = by_test (λ b. b ≡ false) (is_utf8 t) (λ e. let u = utf8_sound t e in absurd (begins t u.characters u.each u.text h z)) (λ e. refl)

-- a character, and where none is
module _ (s : List ℕ) (i : ℕ) (w : Onward s 0 i) where
  pub passed_all : length s ≤ i → true ≡ is_utf8 s
  unfolding utf8_from
  passed_all h = sym (w.same ∙ rw (ended s i h))

  module _ (h : i < length s) (t : List ℕ) (et : t ≡ drop i s) (n : ℕ) (en : n ≡ char_len t) where
    pub char_more : (n ≡ 0 → ⊥) → Onward s 0 (i + n)
    char_more z =
        let k : n ≤ length t = omega (arith, char_fits t) in
        let l : length t ≡ length s - i = ap length et ∙ length-drop i s in
        let c = utf8_char (char_found t (λ q. z (en ∙ q))) (drop (char_len t) t) in
        record {
          least = omega arith;
          most = omega arith;
          same = w.same ∙ ap is_utf8 (sym et ∙ sym (take-append-drop (char_len t) t)) ∙ c ∙ ap is_utf8 (ap (λ (k : ℕ). drop k t) (sym en) ∙ ap (drop n) et ∙ drop-drop n i s);
        }

    pub char_step : length s < 2 ^ 64 → Fits w64 (i + n)
    char_step g =
        let l : length t ≡ length s - i = ap length et ∙ length-drop i s in
        record { fits = omega (arith, char_fits t) }

    pub char_missing : n ≡ 0 → false ≡ is_utf8 s
    char_missing z =
        let l : length t ≡ length s - i = ap length et ∙ length-drop i s in
        sym (w.same ∙ ap is_utf8 (sym et) ∙ no_text t (omega arith) (sym en ∙ z))

-- what the needs of `is_utf8` are answered by
pub ruleset passing_laws = (none_passed, one_more, then_passed, passed_all, char_more, char_step, char_missing)
