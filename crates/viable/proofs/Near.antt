-- While fewer than 91 * 91 ids are used, what code asks of an id is how far it reaches: `idFar` is `idNear`.
use Rattle.std.specs.Prelude.{if◌then◌else◌}
use Prim.Native.Nat.{ℕ, zero, suc, ◌+◌, ◌/◌, ◌%◌, ◌≤◌, ◌<◌}
use mathlib.Core.Path.{◌≡◌, refl, sym, ap, ◌∙◌}
use mathlib.Core.Bool.{Bool, true, not, ◌&&◌, ◌||◌}
use mathlib.Core.List.{List, [], ◌∷◌, ◌++◌, append_assoc, append-nil}
use native.Mathlib.Omega.{arith}
use lib.ListN.{length, take, drop, length-append}
use lib.Seq.{drop-append_seam, take-add, length-take-le}
use lib.Dec.{leb, leb-suc-suc}
use borrow.Author.Tests.{le-leb, lt-leb, leb-true, leb-false}
use Rattle.base.specs.Texts.{same_text}
use Rattle.base.specs.Runs.{run}
use Rattle.base.proofs.Tests.{clash, both, by_test}
use Rattle.base.proofs.Texts.{same_is}
use Rattle.base.proofs.Runs.{run_le, run_split}
use Rattle.grammar.specs.Abnf.{sd_name_byte}
use Rattle.viable.specs.Ids.{is_used, is_unused, is_free, alive, room, id_far_from, id_far, is_shut, id_near}
use Rattle.viable.proofs.Ids.{Ends, alive_yes}

-- ---- pigeons

-- without the first t
without : List ℕ → List (List ℕ) → List (List ℕ)
without t [] = []
without t (u ∷ us) = if same_text u t then us else u ∷ without t us

without_length : (t : List ℕ) (us : List (List ℕ)) → is_used us t ≡ true → length us ≡ suc (length (without t us))
unfolding without
without_length t [] h = clash (sym h)
without_length t (u ∷ us) h =
    by_test (λ b. (b || is_used us t) ≡ true → suc (length us) ≡ suc (length (if b then us else u ∷ without t us))) (same_text u t)
    (λ _ _. refl) (λ _ g. ap suc (without_length t us g)) h

without_other : (t v : List ℕ) (us : List (List ℕ)) → (t ≡ v → ⊥) → is_used us v ≡ true → is_used (without t us) v ≡ true
unfolding without
without_other t v [] d h = h
without_other t v (u ∷ us) d h =
    by_test (λ b. same_text u t ≡ b → is_used (if b then us else u ∷ without t us) v ≡ true) (same_text u t)
    (λ _ e.
    by_test (λ b. same_text u v ≡ b → (b || is_used us v) ≡ true → is_used us v ≡ true) (same_text u v)
    (λ _ g _. absurd (d (sym (same_is u t e) ∙ same_is u v g))) (λ _ _ g. g) refl h)
    (λ _ e. by_test (λ b. (b || is_used us v) ≡ true → (b || is_used (without t us) v) ≡ true) (same_text u v) (λ _ _. refl) (λ _ g. without_other t v us d g) h)
    refl

-- the numbers below n that pass a test
goods : (ℕ → Bool) → ℕ → ℕ
goods good zero = 0
goods good (suc n) = if good n then suc (goods good n) else goods good n

module _ (f : ℕ → List ℕ) (good : ℕ → Bool) (apart : (j k : ℕ) → f j ≡ f k → j ≡ k) where
  pigeons : (n : ℕ) (us : List (List ℕ)) → ((k : ℕ) → k < n → good k ≡ true → is_used us (f k) ≡ true) → goods good n ≤ length us
  unfolding goods
  pigeons zero us h = omega arith
  pigeons (suc n) us h =
      by_test (λ b. good n ≡ b → (if b then suc (goods good n) else goods good n) ≤ length us) (good n)
      (λ _ e.
      let l = without_length (f n) us (h n (omega arith) e) in
      let r = pigeons n (without (f n) us) (λ k m g. without_other (f n) (f k) us (λ q. let z = apart n k q in omega arith) (h k (omega arith) g)) in
      omega arith)
      (λ _ e. pigeons n us (λ k m g. h k (omega arith) g))
      refl

-- ---- two bytes more

abbrev two_more : List ℕ → ℕ → List ℕ
two_more t k = t ++ (k / 128 ∷ k % 128 ∷ [])

abbrev two_good : ℕ → Bool
two_good k = sd_name_byte (k / 128) && sd_name_byte (k % 128)

two_apart : (t : List ℕ) (j k : ℕ) → two_more t j ≡ two_more t k → j ≡ k
two_apart t j k e =
    let q : ◌≡◌ {A = List ℕ} (j / 128 ∷ j % 128 ∷ []) (k / 128 ∷ k % 128 ∷ []) = sym (drop-append_seam t _) ∙ ap (drop (length t)) e ∙ drop-append_seam t _ in
    let a : j / 128 ≡ k / 128 = cc in
    let b : j % 128 ≡ k % 128 = cc in
    omega arith

two_many : goods two_good 16256 ≡ 8281
unfolding goods
two_many = refl

module _ (used : List (List ℕ)) (few : length used < 8281) where
  -- a beginning of at most 30 bytes is alive
  pub alive_early : (m : ℕ) (t : List ℕ) → alive used (suc (suc m)) t ≡ true
  alive_early m t =
      by_test (λ b. alive used (suc (suc m)) t ≡ b → alive used (suc (suc m)) t ≡ true) (alive used (suc (suc m)) t) (λ _ e. e)
      (λ _ e.
      let p = pigeons (two_more t) two_good (two_apart t) 16256 used
      (λ k l g.
      let (a, b) = both (sd_name_byte (k / 128)) (sd_name_byte (k % 128)) g in
      by_test (λ b. is_used used (two_more t k) ≡ b → is_used used (two_more t k) ≡ true) (is_used used (two_more t k)) (λ _ u. u)
      (λ _ u.
      let n = length-append t (k / 128 ∷ k % 128 ∷ []) in
      let v : Ends used (suc (suc m)) t (k / 128 ∷ k % 128 ∷ [])
      = record { at_most = omega arith; all = (a, (b, tt)); free = rw (le-leb 1 (length (two_more t k)) (omega arith), u) } in
      clash (sym (alive_yes used (suc (suc m)) t _ v) ∙ e))
      refl) in
      absurd (let c = two_many in omega arith))
      refl

  pub room_early : room used ≡ true
  room_early = alive_early 30 []

  -- the first i bytes ask for a name alone
  early : (i : ℕ) (t s : List ℕ) → id_far_from used (suc (suc i)) t s ≡ (if leb i (run sd_name_byte s) then i + id_far_from used 2 (t ++ take i s) (drop i s) else run sd_name_byte s)
  unfolding id_far_from run
  early zero t s =
      let z : 0 + id_far_from used 2 t s ≡ id_far_from used 2 t s = omega arith in
      rw (le-leb 0 (run sd_name_byte s) (omega arith), append-nil t) (sym z)
  early (suc i) t [] = rw (lt-leb (suc i) 0 (omega arith))
  early (suc i) t (c ∷ s) =
      by_test (λ b. (if b && alive used (suc (suc i)) (t ++ c ∷ []) then suc (id_far_from used (suc (suc i)) (t ++ c ∷ []) s) else 0)
      ≡ (if leb (suc i) (if b then suc (run sd_name_byte s) else 0) then suc i + id_far_from used 2 (t ++ c ∷ take i s) (drop i s) else (if b then suc (run sd_name_byte s) else 0))) (sd_name_byte c)
      (λ _.
      let a = append_assoc t (c ∷ []) (take i s) in
      rw (alive_early i (t ++ c ∷ []), early i (t ++ c ∷ []) s, a, leb-suc-suc i (run sd_name_byte s))
      (by_test (λ q. suc (if q then i + id_far_from used 2 (t ++ c ∷ take i s) (drop i s) else run sd_name_byte s)
      ≡ (if q then suc i + id_far_from used 2 (t ++ c ∷ take i s) (drop i s) else suc (run sd_name_byte s))) (leb i (run sd_name_byte s)) (λ _. omega arith) (λ _. refl)))
      (λ _. rw (lt-leb (suc i) 0 (omega arith)))

  -- the last two
  abbrev last_two : List ℕ → List ℕ → ℕ
  last_two t s = if leb (run sd_name_byte s) 0 then 0 else if is_shut used (t ++ take 1 s) then 0 else if leb 2 (run sd_name_byte s) && is_free used (t ++ take 2 s) then 2 else 1

  last_one : (t s : List ℕ) → id_far_from used 1 t s ≡ (if leb 1 (run sd_name_byte s) && is_free used (t ++ take 1 s) then 1 else 0)
  unfolding id_far_from run alive
  last_one t [] = refl
  last_one t (d ∷ s) =
      by_test (λ b. (if b && is_free used (t ++ d ∷ []) then suc 0 else 0) ≡ (if leb 1 (if b then suc (run sd_name_byte s) else 0) && is_free used (t ++ d ∷ []) then 1 else 0)) (sd_name_byte d)
      (λ _. rw (le-leb 1 (suc (run sd_name_byte s)) (omega arith))) (λ _. refl)

  last_two_lem : (t s : List ℕ) → id_far_from used 2 t s ≡ last_two t s
  unfolding id_far_from run
  last_two_lem t [] = refl
  last_two_lem t (c ∷ s) =
      by_test (λ b. (if b && alive used 1 (t ++ c ∷ []) then suc (id_far_from used 1 (t ++ c ∷ []) s) else 0)
      ≡ (if leb (if b then suc (run sd_name_byte s) else 0) 0 then 0 else if not (alive used 1 (t ++ c ∷ [])) then 0 else if leb 2 (if b then suc (run sd_name_byte s) else 0) && is_free used (t ++ c ∷ take 1 s) then 2 else 1)) (sd_name_byte c)
      (λ _.
      rw (lt-leb (suc (run sd_name_byte s)) 0 (omega arith), last_one (t ++ c ∷ []) s, append_assoc t (c ∷ []) (take 1 s), leb-suc-suc 1 (run sd_name_byte s))
      (by_test (λ a. (if a then suc (if leb 1 (run sd_name_byte s) && is_free used (t ++ c ∷ take 1 s) then 1 else 0) else 0)
      ≡ (if not a then 0 else if leb 1 (run sd_name_byte s) && is_free used (t ++ c ∷ take 1 s) then 2 else 1)) (alive used 1 (t ++ c ∷ []))
      (λ _. by_test (λ q. suc (if q then 1 else 0) ≡ (if q then 2 else 1)) (leb 1 (run sd_name_byte s) && is_free used (t ++ c ∷ take 1 s)) (λ _. refl) (λ _. refl))
      (λ _. refl)))
      (λ _. refl)

  -- both agree
  pub near : (s : List ℕ) → id_far used s ≡ id_near used s
  unfolding id_near
  near s =
      let n = run sd_name_byte s in
      let r = run sd_name_byte (drop 30 s) in
      early 30 [] s
      ∙ by_test (λ b. leb 30 n ≡ b → (if b then 30 + id_far_from used 2 (take 30 s) (drop 30 s) else n)
      ≡ (if leb n 30 then n else if is_shut used (take 31 s) then 30 else if leb 32 n && is_unused used (take 32 s) then 32 else 31)) (leb 30 n)
      (λ _ b.
      let l = leb-true 30 n b in
      let e = run_split sd_name_byte s 30 l in
      let w = run_le sd_name_byte (drop 30 s) in
      let t₁ : take 30 s ++ take 1 (drop 30 s) ≡ take 31 s = sym (take-add 30 1 s) in
      let t₂ : take 30 s ++ take 2 (drop 30 s) ≡ take 32 s = sym (take-add 30 2 s) in
      rw (last_two_lem (take 30 s) (drop 30 s), t₁, t₂)
      (by_test (λ q. leb r 0 ≡ q → 30 + (if q then 0 else if is_shut used (take 31 s) then 0 else if leb 2 r && is_free used (take 32 s) then 2 else 1)
      ≡ (if leb n 30 then n else if is_shut used (take 31 s) then 30 else if leb 32 n && is_unused used (take 32 s) then 32 else 31)) (leb r 0)
      (λ _ q. let z = leb-true r 0 q in rw (le-leb n 30 (omega arith)) (omega arith))
      (λ _ q.
      let z = leb-false r 0 q in
      rw (lt-leb n 30 (omega arith))
      (by_test (λ h. 30 + (if h then 0 else if leb 2 r && is_free used (take 32 s) then 2 else 1) ≡ (if h then 30 else if leb 32 n && is_unused used (take 32 s) then 32 else 31)) (is_shut used (take 31 s))
      (λ _. refl)
      (λ _.
      by_test (λ h. leb 2 r ≡ h → 30 + (if h && is_free used (take 32 s) then 2 else 1) ≡ (if leb 32 n && is_unused used (take 32 s) then 32 else 31)) (leb 2 r)
      (λ _ h.
      let y = leb-true 2 r h in
      let v = run_le sd_name_byte s in
      rw (le-leb 32 n (omega arith), length-take-le 32 s (omega arith))
      (by_test (λ u. 30 + (if u then 2 else 1) ≡ (if u then 32 else 31)) (is_unused used (take 32 s)) (λ _. refl) (λ _. refl)))
      (λ _ h. let y = leb-false 2 r h in rw (lt-leb 32 n (omega arith)))
      refl)))
      refl))
      (λ _ b. let l = leb-false 30 n b in rw (le-leb n 30 (omega arith)))
      refl
