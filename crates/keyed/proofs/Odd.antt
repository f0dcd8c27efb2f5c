-- The texts of both lines: each is the one between two ends; and what is odd among them.
use Prim.Native.Nat.{ℕ, zero, suc, ◌+◌, ◌-◌, ◌*◌, ◌≤◌, ◌<◌}
use mathlib.Core.Path.{◌≡◌, refl, sym, ap, ap₂, ◌∙◌, subst}
use mathlib.Core.Bool.{Bool, not}
use mathlib.Core.List.{List, [], ◌∷◌, ◌++◌, map, append_assoc}
use native.Mathlib.Omega.{arith}
use native.Mathlib.Numerals.{add-one}
use Rattle.std.proofs.Common.{get_or-take}
use lib.Dec.{eqb}
use lib.ListN.{length, get_or, take, drop, replicate, length-append, length-map, length-replicate, take-append-drop}
use lib.Seq.{drop-cons, drop_at, take_at, length-take-le}
use Rattle.base.specs.Texts.{text_at, same_text}
use Rattle.pairs.specs.Keys.{key_of, Keys}
use Rattle.pairs.specs.Odd.{is_odd, element_of, element_at, Least, Halved}
use Rattle.pairs.specs.Odd.Least.{none, some}
use Rattle.pairs.specs.declared.Odd.{Odd}
use Rattle.pairs.proofs.Counts.{tally_alike}
use Rattle.keyed.specs.Keys.{key_text}
use Rattle.keyed.specs.Notes.{joined, Keyed, Roomed, Notes, Listed}
use Rattle.keyed.specs.Odd.{keys_of, FirstOdd, rows_of, Enough, Bounded}
use Rattle.keyed.specs.declared.Texts.{Texts}
use Rattle.keyed.proofs.Notes.{joined_append, joined_one}

-- ---- the text between two ends

module _ (ts : List (List ℕ)) (text ends : List ℕ) (at : ℕ) (h : Keyed ts text ends at) where
  module _ (k : ℕ) (l : k < length ts) where
    one : List ℕ
    one = get_or ts k []

    split : ts ≡ take k ts ++ (one ∷ drop (k + 1) ts)
    unfolding one
    split = sym (take-append-drop k ts) ∙ ap (λ (u : List (List ℕ)). take k ts ++ u) (rw (add-one) (drop-cons ts k [] l))

    front_len : length (take k ts) ≡ k
    front_len = length-take-le k ts (omega arith)

    next_take : take (k + 1) ts ≡ take k ts ++ (one ∷ [])
    next_take =
        ap (take (k + 1)) (split ∙ sym (append_assoc (take k ts) (one ∷ []) (drop (k + 1) ts)))
        ∙ take_at (take k ts ++ (one ∷ [])) (drop (k + 1) ts) (k + 1) (length-append (take k ts) (one ∷ []) ∙ ap (λ (n : ℕ). n + 1) front_len)

    start_is : get_or ends k 0 ≡ length (joined (take k ts))
    start_is = h.each k (omega arith)

    end_is : get_or ends (k + 1) 0 ≡ length (joined (take k ts)) + length one
    end_is =
        h.each (k + 1) (omega arith)
        ∙ ap (λ (u : List (List ℕ)). length (joined u)) next_take
        ∙ ap length (joined_append (take k ts) (one ∷ []) ∙ ap (λ (u : List ℕ). joined (take k ts) ++ u) (joined_one one))
        ∙ length-append (joined (take k ts)) one

    whole : text ≡ joined (take k ts) ++ (one ++ (joined (drop (k + 1) ts) ++ drop at text))
    unfolding joined
    whole =
        sym (take-append-drop at text)
        ∙ ap (λ (u : List ℕ). u ++ drop at text) (h.front ∙ ap joined split ∙ joined_append (take k ts) (one ∷ drop (k + 1) ts))
        ∙ append_assoc (joined (take k ts)) (one ++ joined (drop (k + 1) ts)) (drop at text)
        ∙ ap (λ (u : List ℕ). joined (take k ts) ++ u) (append_assoc one (joined (drop (k + 1) ts)) (drop at text))

    pub key_is : key_of text ends k ≡ get_or ts k []
    unfolding key_of one
    key_is =
        let rest = joined (drop (k + 1) ts) ++ drop at text in
        let d : get_or ends (k + 1) 0 - get_or ends k 0 ≡ length one = omega (arith, start_is, end_is) in
        ap (λ (n : ℕ). text_at text (get_or ends k 0) n) d
        ∙ ap (λ (u : List ℕ). take (length one) (drop (get_or ends k 0) u)) whole
        ∙ ap (take (length one)) (drop_at (joined (take k ts)) (one ++ rest) (get_or ends k 0) (sym start_is))
        ∙ take_at one rest (length one) refl

    key_inside : get_or ends (k + 1) 0 ≤ length text
    key_inside = omega (arith, end_is, ap length whole, length-append (joined (take k ts)) (one ++ (joined (drop (k + 1) ts) ++ drop at text)), length-append one (joined (drop (k + 1) ts) ++ drop at text))

  pub keys_are : length ts < length ends → Keys text ends (length ts)
  keys_are m = record {
    ends_given = m;
    in_order = λ k l. omega (arith, start_is k l, end_is k l);
    inside = key_inside;
  }

-- ---- what is odd among them

least_change : (odd odd' : ℕ → Bool) (element element' : ℕ → ℕ) (n : ℕ) (r : Odd) → ((k : ℕ) → k < n → odd k ≡ odd' k) → ((k : ℕ) → k < n → element k ≡ element' k)
    → Least odd element n r → Least odd' element' n r
least_change odd odd' element element' n r h g (none a f) = none a (λ k l. sym (h k l) ∙ f k l)
least_change odd odd' element element' n r h g (some a b c f o) =
    some a (sym (h r.entry a) ∙ b) (c ∙ g r.entry a) (λ k l q. omega (arith, g k l, f k l (h k l ∙ q))) (λ k l q. let b : k < n = omega arith in omega (arith, g k b, o k l (h k b ∙ q)))

odd_alike : (key key' : ℕ → List ℕ) (m n : ℕ) → m ≤ n → ((k : ℕ) → k < n → key k ≡ key' k) → (k : ℕ) → k < n → is_odd key m n k ≡ is_odd key' m n k
unfolding is_odd
odd_alike key key' m n h e k l =
    ap₂ (λ (a b : ℕ). not (eqb a b))
    (tally_alike (λ j. same_text (key j) (key k)) (λ j. same_text (key' j) (key' k)) 0 0 m (λ j b. ap₂ same_text (e (0 + j) (omega arith)) (e k l)))
    (tally_alike (λ j. same_text (key j) (key k)) (λ j. same_text (key' j) (key' k)) m m (n - m) (λ j b. ap₂ same_text (e (m + j) (omega arith)) (e k l)))

-- ---- both lines

keyed_none : (text ends : List ℕ) → get_or ends 0 0 ≡ 0 → Keyed [] text ends 0
unfolding joined
keyed_none text ends e = record { front = refl; inside = omega arith; each = λ k l. let z : k ≡ 0 = omega arith in rw z e }

-- tables of zeros
zeros : (k q : ℕ) → ◌≡◌ {A = ℕ} (get_or (replicate k 0) q 0) 0
zeros zero q = refl
zeros (suc k) zero = refl
zeros (suc k) (suc q) = zeros k q

module _ (s₁ : List ℕ) (rows₁ : List (List ℕ)) (s₂ : List ℕ) (rows₂ : List (List ℕ)) (size most : ℕ) (a : Enough rows₁ rows₂ size most) (small : size < 65536) (few : most ≤ 3277)
    (t : Texts) (et : t.text.now ≡ replicate size 0) (ee : t.ends.now ≡ replicate most 0) (ec : t.count ≡ 0) (ea : t.at ≡ 0) where
  lt : length t.text.now ≡ size
  lt = ap length et ∙ length-replicate size 0

  le : length t.ends.now ≡ most
  le = ap length ee ∙ length-replicate most 0

  pub room₁ : Roomed rows₁ t
  room₁ = record { fits = omega (arith, lt, a.fits); small = omega (arith, lt); many = omega (arith, le, a.many) }

  module _ (t' : Texts) (u : Notes s₁ rows₁ t t') where
    pub room₂ : Roomed rows₂ t'
    room₂ = record {
      fits = omega (arith, lt, a.fits, u.grown, u.text_kept);
      small = omega (arith, lt, u.text_kept);
      many = omega (arith, le, a.many, u.counted, u.ends_kept);
    }

    module _ (t'' : Texts) (v : Notes s₂ rows₂ t' t'') where
      abbrev ts : List (List ℕ)
      ts = keys_of s₁ rows₁ s₂ rows₂

      m_is : t'.count ≡ length rows₁
      m_is = omega (arith, u.counted)

      n_is : t''.count ≡ length rows₁ + length rows₂
      n_is = omega (arith, v.counted, m_is)

      len : length ts ≡ length rows₁ + length rows₂
      len = length-append (map (key_text s₁) rows₁) (map (key_text s₂) rows₂) ∙ ap₂ ◌+◌ (length-map rows₁ (key_text s₁)) (length-map rows₂ (key_text s₂))

      clear : Keyed [] t.text.now t.ends.now t.at
      clear = rw (ea, ee) (keyed_none t.text.now (replicate most 0) (zeros most 0))

      keyed : Keyed ts t''.text.now t''.ends.now t''.at
      keyed = v.adds (map (key_text s₁) rows₁) (length-map rows₁ (key_text s₁) ∙ sym m_is) (u.adds [] (sym ec) clear)

      pub both_halved : Halved t''.text.now t''.ends.now t'.count t''.count
      both_halved = record {
        keys = subst (Keys t''.text.now t''.ends.now) (len ∙ sym n_is) (keys_are ts t''.text.now t''.ends.now t''.at keyed (omega (arith, len, le, a.many, u.ends_kept, v.ends_kept)));
        first = omega (arith, v.counted);
        few = omega (arith, n_is, a.many);
      }

      pub both_few : t''.count ≤ 3276
      both_few = omega (arith, n_is, a.many)

      pub both_odd : (r : Odd) → Least (is_odd (key_of t''.text.now t''.ends.now) t'.count t''.count) (element_at t''.text.now t''.ends.now) t''.count r → FirstOdd s₁ rows₁ s₂ rows₂ r
      unfolding element_at
      both_odd r w =
          let key = key_of t''.text.now t''.ends.now in
          let element = element_at t''.text.now t''.ends.now in
          let same : (k : ℕ) → k < length rows₁ + length rows₂ → key_of t''.text.now t''.ends.now k ≡ get_or ts k [] = λ k l. key_is ts t''.text.now t''.ends.now t''.at keyed k (omega (arith, len)) in
          let w' : Least (is_odd (key_of t''.text.now t''.ends.now) (length rows₁) (length rows₁ + length rows₂)) (element_at t''.text.now t''.ends.now) (length rows₁ + length rows₂) r =
          subst (λ (n : ℕ). Least (is_odd key (length rows₁) n) element n r) n_is
          (subst (λ (m : ℕ). Least (is_odd key m t''.count) element t''.count r) m_is w) in
          record {
            is = least_change (is_odd key (length rows₁) (length rows₁ + length rows₂)) (is_odd (λ k. get_or ts k []) (length rows₁) (length rows₁ + length rows₂))
                element (λ k. element_of (get_or ts k [])) (length rows₁ + length rows₂) r
                (odd_alike key (λ k. get_or ts k []) (length rows₁) (length rows₁ + length rows₂) (omega arith) same)
                (λ k l. ap element_of (same k l)) w';
          }

-- ---- the tables

-- of the first n ids
pub listed_front : (s : List ℕ) (elements : List (List ℕ)) (n : ℕ) → Listed s elements n → Listed s (take n elements) (length (take n elements))
listed_front s elements n a =
    let l : length (take n elements) ≡ n = length-take-le n elements a.given in
    record { given = omega arith; inside = λ i h. rw (get_or-take n elements i [] (omega arith)) (a.inside i (omega arith)) }

pub enough_made : (s₁ : List ℕ) (elements₁ : List (List ℕ)) (n₁ : ℕ) (s₂ : List ℕ) (elements₂ : List (List ℕ)) (n₂ bytes size most : ℕ) → Bounded s₁ elements₁ n₁ s₂ elements₂ n₂ bytes
    → 8 * bytes < 7 * (size + 1) → bytes < 5 * most → Enough (rows_of s₁ elements₁ n₁) (rows_of s₂ elements₂ n₂) size most
enough_made s₁ elements₁ n₁ s₂ elements₂ n₂ bytes size most b f m = record { fits = omega (arith, b.sizes); many = omega (arith, b.counts) }
