-- The walk from the back, `text_end`, and where a trimmed text lies.
use Rattle.std.specs.Prelude.{if◌then◌else◌}
use Prim.Native.Nat.{ℕ, zero, suc, ◌+◌, ◌-◌, ◌≤◌, ◌<◌}
use mathlib.Core.Path.{◌≡◌, refl, sym, ap, ◌∙◌}
use mathlib.Core.Bool.{Bool, true, false}
use mathlib.Core.List.{List, [], ◌∷◌}
use native.Mathlib.Decide.{dec_le}
use native.Mathlib.Omega.{arith}
use lib.Dec.{eqb}
use lib.ListN.{length, get_or, take, drop, length-drop}
use lib.Seq.{drop-drop, drop-length, take-suc, get_or-take, get_or-drop, length-take-le}
use borrow.Author.Tests.{eq-eqb, ne_eqb, eqb-true, eqb-false, le-leb, lt-leb}
use Rattle.base.proofs.Tests.{clash, by_if}
use Rattle.base.proofs.Ranges.{orders}
use Rattle.utf8.proofs.Chars.{later_tails}
use Rattle.white.specs.White.{is_white, white_len}
use Rattle.white.specs.Trim.{white_from, white_run, text_end, trimmed}
use Rattle.white.specs.Before.{ends_white, white_before}
use Rattle.white.specs.declared.Ends.{Ends}
use Rattle.white.proofs.Blanks.{Blank, Last, ends, last_behind, meets}
use Rattle.white.proofs.Whites.{begun, together}
use Rattle.white.proofs.Bytes.{front_leads, ascii_front, first_two, first_three}
use Rattle.white.proofs.Walks.{run_more}

-- The end of the text is the first place after which there are white characters alone
pub end_first : (s : List ℕ) (k : ℕ) → Blank (drop k s) → text_end s ≤ k
unfolding text_end
end_first [] k b = omega arith
end_first (x ∷ s) zero b = rw (eq-eqb _ _ b) (omega arith)
end_first (x ∷ s) (suc k) b =
    let l = end_first s k b in
    by_if (λ n. n ≤ suc k) (eqb (white_run (x ∷ s)) (length (x ∷ s))) 0 (suc (text_end s)) (λ e. omega arith) (λ e. omega arith)

pub end_more : (x : ℕ) (s : List ℕ) → (Blank (x ∷ s) → ⊥) → text_end (x ∷ s) ≡ suc (text_end s)
unfolding text_end
end_more x s h = rw (ne_eqb (white_run (x ∷ s)) (length (x ∷ s)) h)

pub end_blank : (s : List ℕ) → Blank (drop (text_end s) s)
unfolding text_end white_from
end_blank [] = refl
end_blank (x ∷ s) =
    by_if (λ n. Blank (drop n (x ∷ s))) (eqb (white_run (x ∷ s)) (length (x ∷ s))) 0 (suc (text_end s)) (λ e. eqb-true _ _ e) (λ e. end_blank s)

pub blank_none : (s : List ℕ) → Blank (drop (length s) s)
unfolding white_from
blank_none s = rw (drop-length s)

pub end_le : (s : List ℕ) → text_end s ≤ length s
end_le s = end_first s (length s) (blank_none s)

-- The loop of `text_end`: what `white_before` answers, and what it says of the place
thrice : (P : ℕ → Type 0) → P 1 → P 2 → P 3 → (n : ℕ) → 1 ≤ n → n ≤ 3 → P n
thrice P a b c zero l m = absurd (omega arith)
thrice P a b c (suc zero) l m = a
thrice P a b c (suc (suc zero)) l m = b
thrice P a b c (suc (suc (suc zero))) l m = c
thrice P a b c (suc (suc (suc (suc n)))) l m = absurd (omega arith)

-- what an answer `w` says of place `e`
record Answers (s : List ℕ) (e w : ℕ) : Type 0 where
  found : (w ≡ 0 → ⊥) → ends_white s e w ≡ true
  none : w ≡ 0 → Last s e → ⊥

module _ (s : List ℕ) (e : ℕ) where
  answer : (n : ℕ) → (n ≡ 0 → ⊥) → ends_white s e n ≡ true → Answers s e n
  answer n z h = record { found = λ _. h; none = λ q. absurd (z q) }

  no_answer : ends_white s e 1 ≡ false → ends_white s e 2 ≡ false → ends_white s e 3 ≡ false → Answers s e 0
  no_answer p q r =
      record {
        found = λ z. absurd (z refl);
        none = λ z l. clash (sym l.there ∙ thrice (λ n. ends_white s e n ≡ false) p q r l.size l.some l.most);
      }

  before_is : Answers s e (white_before s e)
  unfolding white_before
  before_is =
      by_if (Answers s e) (ends_white s e 1) 1 _ (answer 1 (omega arith))
      (λ p. by_if (Answers s e) (ends_white s e 2) 2 _ (answer 2 (omega arith))
      (λ q. by_if (Answers s e) (ends_white s e 3) 3 0 (answer 3 (omega arith))
      (λ r. no_answer p q r)))

module _ (s : List ℕ) (e : ℕ) (b : Blank (drop e s)) where
  pub end_start : e ≤ 0 → e ≡ text_end s
  end_start z = omega (arith, end_first s e b)

  module _ (l : e ≤ length s) (w : ℕ) (q : w ≡ white_before s e) where
    answers : Answers s e w
    answers = rw q (before_is s e)

    pub before_le : (w ≡ 0 → ⊥) → w ≤ e
    before_le z = (ends s e w (answers.found z)).0

    pub end_next : (w ≡ 0 → ⊥) → Blank (drop (e - w) s)
    end_next z =
        let (o, h) = ends s e w (answers.found z) in
        let r = drop (e - w) s in
        let f : w ≤ length r = simp length-drop (omega arith) in
        let m = run_more r w (sym (together r w f z h)) z in
        let p : e - w + w ≡ e = omega arith in
        let d : drop w r ≡ drop e s = drop-drop w (e - w) s ∙ ap (λ (k : ℕ). drop k s) p in
        omega (arith, ap white_run d, ap length d, b, length-drop w r)

    pub end_here : w ≡ 0 → e ≡ text_end s
    end_here z = go (dec_le e (text_end s))
      where
        t : ℕ
        t = text_end s

        go : Dec (e ≤ text_end s) → e ≡ text_end s
        go (yes h) = omega (arith, end_first s e b)
        go (no h) =
            let m = e - t in
            let p : t + m ≡ e = omega arith in
            let d : drop m (drop t s) ≡ drop e s = drop-drop m t s ∙ ap (λ (k : ℕ). drop k s) p in
            let met = meets (drop t s) m (omega (arith, end_blank s, length-drop t s)) (rw d b) in
            absurd (answers.none z (last_behind s t m e p (met.last (omega arith))))

pub ruleset end_laws = (blank_none, end_start, before_le, end_next, end_here)

-- What `white_before` answers
module _ (s : List ℕ) (e n : ℕ) where
  ends_past : e < n → ends_white s e n ≡ false
  unfolding ends_white
  ends_past h = rw (lt-leb n e h)

  ends_is : n ≤ e → (c : List ℕ) → take n (drop (e - n) s) ≡ c → ends_white s e n ≡ eqb (white_len c) n
  unfolding ends_white
  ends_is h c q = rw (q, le-leb n e h)

  module _ (l : e ≤ length s) (z : n ≡ 0 → ⊥) (h : ends_white s e n ≡ true) where
    rest_fits : n ≤ length (drop (e - n) s)
    rest_fits = simp length-drop (omega (arith, (ends s e n h).0))

    ends_here : n ≡ white_len (drop (e - n) s)
    ends_here = sym (together (drop (e - n) s) n rest_fits z (ends s e n h).1)

    -- the byte before the place
    last_byte : get_or (drop (e - n) s) (n - 1) 0 ≡ get_or s (e - 1) 0
    last_byte =
        let p : e - n + (n - 1) ≡ e - 1 = omega (arith, (ends s e n h).0) in
        get_or-drop (e - n) s (n - 1) 0 ∙ ap (λ (k : ℕ). get_or s k 0) p

    -- is ASCII, or a tail
    last_ascii : n ≡ 1 → get_or s (e - 1) 0 < 128
    last_ascii q =
        let o = (front_leads (drop (e - n) s) n ends_here z).one q in
        let p : n - 1 ≡ 0 = omega arith in
        omega (arith, rw p at last_byte)

    last_tail : 2 ≤ n → 128 ≤ get_or s (e - 1) 0
    last_tail q =
        let r = drop (e - n) s in
        let t = later_tails (begun r n ends_here z).is (n - 1) (omega arith) (omega (arith, length-take-le n r rest_fits)) in
        omega (arith, (orders 0x80 0xBF (get_or (take n r) (n - 1) 0) t).0, get_or-take n r (n - 1) 0 (omega arith), last_byte)

module _ (s : List ℕ) (e : ℕ) where
  before_1 : ends_white s e 1 ≡ true → 1 ≡ white_before s e
  unfolding white_before
  before_1 p = rw p

  module _ (p : ends_white s e 1 ≡ false) where
    before_2 : ends_white s e 2 ≡ true → 2 ≡ white_before s e
    unfolding white_before
    before_2 q = rw (p, q)

    module _ (q : ends_white s e 2 ≡ false) where
      before_3 : ends_white s e 3 ≡ true → 3 ≡ white_before s e
      unfolding white_before
      before_3 r = rw (p, q, r)

      before_0 : ends_white s e 3 ≡ false → 0 ≡ white_before s e
      unfolding white_before
      before_0 r = rw (p, q, r)

refuted : (t : Bool) → (t ≡ true → ⊥) → t ≡ false
refuted true f = absurd (f refl)
refuted false f = refl

module _ (s : List ℕ) (e : ℕ) (z : 0 < e) (l : e ≤ length s) where
  byte_at : (n i j : ℕ) → e - n + i ≡ j → get_or (drop (e - n) s) i 0 ≡ get_or s j 0
  byte_at n i j q = get_or-drop (e - n) s i 0 ∙ ap (λ (k : ℕ). get_or s k 0) q

  -- behind a byte of ASCII
  module _ (h : get_or s (e - 1) 0 < 128) (t : Bool) (q : t ≡ is_white (get_or s (e - 1) 0)) where
    ascii_ends : ends_white s e 1 ≡ t
    ascii_ends =
        let b = get_or s (e - 1) 0 in
        let f : 0 < length (drop (e - 1) s) = simp length-drop (omega arith) in
        let c : take 1 (drop (e - 1) s) ≡ b ∷ [] = rw (take-suc (drop (e - 1) s) 0 0 f, byte_at 1 0 (e - 1) (omega arith)) in
        ends_is s e 1 (omega arith) (b ∷ []) c ∙ ap (λ (k : ℕ). eqb k 1) (ascii_front b [] h) ∙ rw (← q) (go t)
      where
        go : (x : Bool) → eqb (if x then 1 else 0) 1 ≡ x
        go true = refl
        go false = refl

    pub before_blank : t ≡ true → 1 ≡ white_before s e
    before_blank y = before_1 s e (ascii_ends ∙ y)

    pub before_ascii : t ≡ false → 0 ≡ white_before s e
    before_ascii y =
        before_0 s e (ascii_ends ∙ y)
        (refuted (ends_white s e 2) (λ w. omega (arith, last_tail s e 2 l (omega arith) w (omega arith))))
        (refuted (ends_white s e 3) (λ w. omega (arith, last_tail s e 3 l (omega arith) w (omega arith))))

  -- behind another
  module _ (h : 128 ≤ get_or s (e - 1) 0) where
    not_one : ends_white s e 1 ≡ false
    not_one = refuted (ends_white s e 1) (λ w. omega (arith, last_ascii s e 1 l (omega arith) w refl))

    pub before_first : e < 2 → 0 ≡ white_before s e
    before_first m = before_0 s e not_one (ends_past s e 2 m) (ends_past s e 3 (omega arith))

    module _ (m : 2 ≤ e) (p : Bool) (f : p ≡ eqb (white_len (get_or s (e - 2) 0 ∷ get_or s (e - 1) 0 ∷ [])) 2) where
      pair_ends : ends_white s e 2 ≡ p
      pair_ends =
          let r = drop (e - 2) s in
          let g : 2 ≤ length r = simp length-drop (omega arith) in
          ends_is s e 2 m (get_or s (e - 2) 0 ∷ get_or s (e - 1) 0 ∷ [])
          (rw (first_two r g, byte_at 2 0 (e - 2) (omega arith), byte_at 2 1 (e - 1) (omega arith))) ∙ sym f

      pub before_pair : p ≡ true → 2 ≡ white_before s e
      before_pair y = before_2 s e not_one (pair_ends ∙ y)

      module _ (y : p ≡ false) where
        pub before_second : e < 3 → 0 ≡ white_before s e
        before_second k = before_0 s e not_one (pair_ends ∙ y) (ends_past s e 3 k)

        module _ (k : 3 ≤ e) (t : Bool) (u : t ≡ eqb (white_len (get_or s (e - 3) 0 ∷ get_or s (e - 2) 0 ∷ get_or s (e - 1) 0 ∷ [])) 3) where
          triple_ends : ends_white s e 3 ≡ t
          triple_ends =
              let r = drop (e - 3) s in
              let g : 3 ≤ length r = simp length-drop (omega arith) in
              ends_is s e 3 k (get_or s (e - 3) 0 ∷ get_or s (e - 2) 0 ∷ get_or s (e - 1) 0 ∷ [])
              (rw (first_three r g, byte_at 3 0 (e - 3) (omega arith), byte_at 3 1 (e - 2) (omega arith), byte_at 3 2 (e - 1) (omega arith))) ∙ sym u

          pub before_triple : t ≡ true → 3 ≡ white_before s e
          before_triple x = before_3 s e not_one (pair_ends ∙ y) (triple_ends ∙ x)

          pub before_none : t ≡ false → 0 ≡ white_before s e
          before_none x = before_0 s e not_one (pair_ends ∙ y) (triple_ends ∙ x)

pub ruleset before_laws = (before_blank, before_ascii, before_first, before_pair, before_second, before_triple, before_none)

-- The trimmed text
module _ (s : List ℕ) (n : ℕ) (e : n ≡ text_end s) where
  pub trimmed_none : n ≡ 0 → record { start = 0; end = 0 } ≡ trimmed s
  unfolding trimmed
  trimmed_none z = rw (← e, z)

  pub trimmed_some : (n ≡ 0 → ⊥) → (m : ℕ) → m ≡ white_run s → record { start = m; end = n } ≡ trimmed s
  unfolding trimmed
  trimmed_some z m f = rw (← e, ne_eqb n 0 z, f)

pub ruleset trim_laws = (trimmed_none, trimmed_some)

-- white characters at the front end before the text does, if there is any text
pub run_before_end : (s : List ℕ) → (text_end s ≡ 0 → ⊥) → white_run s ≤ text_end s
run_before_end s z = go (dec_le (white_run s) (text_end s))
  where
    go : Dec (white_run s ≤ text_end s) → white_run s ≤ text_end s
    go (yes h) = h
    go (no h) =
        let met = meets s (text_end s) (omega arith) (end_blank s) in
        absurd (z (omega (arith, end_first s 0 met.blank)))

-- where the trimmed text lies: what a caller of `trim` needs to take the part
pub record Lies (s : List ℕ) (p : Ends) : Type 0 where
  pub ordered : p.start ≤ p.end
  pub inside : p.end ≤ length s

pub lies : (s : List ℕ) (p : Ends) → p ≡ trimmed s → Lies s p
unfolding trimmed
lies s p e =
    rw e (by_if (Lies s) (eqb (text_end s) 0) (record { start = 0; end = 0 }) (record { start = white_run s; end = text_end s })
    (λ q. record { ordered = omega arith; inside = omega arith })
    (λ q. record { ordered = run_before_end s (eqb-false (text_end s) 0 q); inside = end_le s }))
