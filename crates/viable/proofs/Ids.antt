-- How far an SD-ID reaches that has to differ from those before it.
use Rattle.std.specs.Prelude.{if◌then◌else◌}
use Prim.Native.Nat.{ℕ, zero, suc, ◌≤◌, ◌<◌}
use mathlib.Core.Path.{◌≡◌, refl, sym, ap, ◌∙◌, subst}
use mathlib.Core.Bool.{Bool, true, false, ◌&&◌}
use mathlib.Core.List.{List, [], ◌∷◌, ◌++◌, append_assoc, append-nil}
use native.Mathlib.Omega.{arith}
use lib.ListN.{length, take}
use lib.Dec.{leb, eqb}
use borrow.Author.Tests.{le-leb, leb-true, eqb-true, eqb-false}
use Rattle.base.specs.Choose.{within}
use Rattle.base.specs.Runs.{run, All}
use Rattle.base.proofs.Tests.{clash, both, by_test}
use Rattle.base.proofs.Ranges.{orders}
use Rattle.grammar.specs.Abnf.{sd_name_byte, print_us_ascii, Repeat}
use Rattle.grammar.specs.Parse.{only, repeat}
use Rattle.grammar.specs.Parse.Parsed.{failed, found}
use Rattle.grammar.proofs.Readers.{Reads, not_found, if_found, through, only_reads}
use Rattle.grammar.proofs.Bytes.{itself, repeat_reads}
use Rattle.viable.specs.Viable.{is_byte}
use Rattle.viable.proofs.Alls.{all_weaken, all_behind}
use Rattle.viable.specs.Ids.{is_unused, is_free, any_below, alive, room, id_of, id_far_from, id_far}
use Rattle.viable.proofs.Reaches.{Reaches, by_parsed}
use Rattle.viable.proofs.Leaves.{run_local, take_left, only_local, repeat_local, tested_yes}

-- ---- tests

pub any_yes : (n : ℕ) (f : ℕ → Bool) (b : ℕ) → b < n → f b ≡ true → any_below n f ≡ true
unfolding any_below
any_yes zero f b l h = absurd (omega arith)
any_yes (suc n) f b l h =
    by_test (λ t. f n ≡ t → (elim t [ true ↦ true | false ↦ any_below n f ]) ≡ true) (f n)
    (λ _ t. refl)
    (λ _ t.
    by_test (λ q. eqb b n ≡ q → any_below n f ≡ true) (eqb b n)
    (λ _ q. clash (sym h ∙ ap f (eqb-true b n q) ∙ t))
    (λ _ q. any_yes n f b (let z = eqb-false b n q in omega arith) h)
    refl)
    refl

any_some : (n : ℕ) (f : ℕ → Bool) → any_below n f ≡ true → (b : ℕ) × (f b ≡ true)
unfolding any_below
any_some zero f h = clash (sym h)
any_some (suc n) f h =
    by_test (λ t. f n ≡ t → (elim t [ true ↦ true | false ↦ any_below n f ]) ≡ true → (b : ℕ) × (f b ≡ true)) (f n)
    (λ _ t _. (n, t)) (λ _ t h. any_some n f h) refl h

-- a byte of a name is below 127
pub name_below : (c : ℕ) → sd_name_byte c ≡ true → c < 127
name_below c h = let (p, _) = both (print_us_ascii c) _ h in let o = orders 33 126 c p in omega arith

name_byte : (c : ℕ) → sd_name_byte c ≡ true → is_byte c ≡ true
name_byte c h = let l = name_below c h in le-leb c 255 (omega arith)

-- ---- ids that can stand

-- v is what can stand behind t
pub record Ends (used : List (List ℕ)) (m : ℕ) (t v : List ℕ) : Type 0 where
  pub at_most : length v ≤ m
  pub all : All sd_name_byte v
  pub free : is_free used (t ++ v) ≡ true

module _ (used : List (List ℕ)) where
  abbrev tries : ℕ → List ℕ → ℕ → Bool
  tries m t c = elim (sd_name_byte c) [ true ↦ alive used m (t ++ c ∷ []) | false ↦ false ]

  pub alive_yes : (m : ℕ) (t v : List ℕ) → Ends used m t v → alive used m t ≡ true
  unfolding alive
  alive_yes zero t [] e = ap (is_free used) (sym (append-nil t)) ∙ e.free
  alive_yes zero t (c ∷ v) e = absurd (let l = e.at_most in omega arith)
  alive_yes (suc m) t [] e = let h : is_free used t ≡ true = ap (is_free used) (sym (append-nil t)) ∙ e.free in rw h
  alive_yes (suc m) t (c ∷ v) e =
      let l = e.at_most in
      let n = e.all.0 in
      let r = alive_yes m (t ++ c ∷ []) v (record { at_most = omega arith; all = e.all.1; free = ap (is_free used) (append_assoc t (c ∷ []) v) ∙ e.free }) in
      let f : tries m t c ≡ true = ap (λ (b : Bool). elim b [ true ↦ alive used m (t ++ c ∷ []) | false ↦ false ]) n ∙ r in
      by_test (λ q. (if q then true else any_below 127 (tries m t)) ≡ true) (is_free used t) (λ _. refl) (λ _. any_yes 127 (tries m t) c (name_below c n) f)

  pub alive_some : (m : ℕ) (t : List ℕ) → alive used m t ≡ true → (v : List ℕ) × Ends used m t v
  unfolding alive
  alive_some zero t h = ([], record { at_most = omega arith; all = tt; free = ap (is_free used) (append-nil t) ∙ h })
  alive_some (suc m) t h =
      by_test (λ q. is_free used t ≡ q → (if q then true else any_below 127 (tries m t)) ≡ true → (v : List ℕ) × Ends used (suc m) t v) (is_free used t)
      (λ _ q _. ([], record { at_most = omega arith; all = tt; free = ap (is_free used) (append-nil t) ∙ q }))
      (λ _ q h.
      let s = any_some 127 (tries m t) h in
      let c = s.0 in
      by_test (λ b. sd_name_byte c ≡ b → (elim b [ true ↦ alive used m (t ++ c ∷ []) | false ↦ false ]) ≡ true → (v : List ℕ) × Ends used (suc m) t v) (sd_name_byte c)
      (λ _ b g.
      let r = alive_some m (t ++ c ∷ []) g in
      let l = r.1.at_most in
      (c ∷ r.0, record { at_most = omega arith; all = (b, r.1.all); free = ap (is_free used) (sym (append_assoc t (c ∷ []) r.0)) ∙ r.1.free }))
      (λ _ b g. clash (sym g))
      refl s.1)
      refl h

  -- ---- how far

  id_inside : (m : ℕ) (t s : List ℕ) → id_far_from used m t s ≤ length s
  unfolding id_far_from
  id_inside zero t s = omega arith
  id_inside (suc m) t [] = omega arith
  id_inside (suc m) t (c ∷ s) =
      let l = id_inside m (t ++ c ∷ []) s in
      by_test (λ b. (if b then suc (id_far_from used m (t ++ c ∷ []) s) else 0) ≤ suc (length s)) (sd_name_byte c && alive used m (t ++ c ∷ [])) (λ _. omega arith) (λ _. omega arith)

  id_goes : (m : ℕ) (t s : List ℕ) → alive used m t ≡ true → (v : List ℕ) × Ends used m t (take (id_far_from used m t s) s ++ v)
  unfolding id_far_from
  id_goes zero t s h = alive_some zero t h
  id_goes (suc m) t [] h = alive_some (suc m) t h
  id_goes (suc m) t (c ∷ s) h =
      by_test (λ b. (sd_name_byte c && alive used m (t ++ c ∷ [])) ≡ b → (v : List ℕ) × Ends used (suc m) t (take (if b then suc (id_far_from used m (t ++ c ∷ []) s) else 0) (c ∷ s) ++ v))
      (sd_name_byte c && alive used m (t ++ c ∷ []))
      (λ _ b.
      let (p, q) = both (sd_name_byte c) (alive used m (t ++ c ∷ [])) b in
      let r = id_goes m (t ++ c ∷ []) s q in
      let l = r.1.at_most in
      let w = take (id_far_from used m (t ++ c ∷ []) s) s ++ r.0 in
      (r.0, record { at_most = omega arith; all = (p, r.1.all); free = ap (is_free used) (sym (append_assoc t (c ∷ []) w)) ∙ r.1.free }))
      (λ _ b. alive_some (suc m) t h)
      refl

  -- an id that can stand in front of z's text is reached as far as it goes
  id_dead : (m : ℕ) (t x y z : List ℕ) → Ends used m t (take (run sd_name_byte (x ++ z)) (x ++ z)) → run sd_name_byte (x ++ z) ≤ m → id_far_from used m t (x ++ y) < length x → id_far_from used m t (x ++ y) ≡ run sd_name_byte (x ++ z)
  unfolding id_far_from run
  id_dead m t [] y z e w l = absurd (omega arith)
  id_dead zero t (c ∷ x) y z e w l = omega arith
  id_dead (suc m) t (c ∷ x) y z e w l =
      by_test (λ b. sd_name_byte c ≡ b → Ends used (suc m) t (take (if b then suc (run sd_name_byte (x ++ z)) else 0) (c ∷ (x ++ z))) → (if b then suc (run sd_name_byte (x ++ z)) else 0) ≤ suc m
      → (if b && alive used m (t ++ c ∷ []) then suc (id_far_from used m (t ++ c ∷ []) (x ++ y)) else 0) < suc (length x)
      → (if b && alive used m (t ++ c ∷ []) then suc (id_far_from used m (t ++ c ∷ []) (x ++ y)) else 0) ≡ (if b then suc (run sd_name_byte (x ++ z)) else 0)) (sd_name_byte c)
      (λ _ b e w.
      let v = take (run sd_name_byte (x ++ z)) (x ++ z) in
      let k = e.at_most in
      let e' : Ends used m (t ++ c ∷ []) v = record { at_most = omega arith; all = e.all.1; free = ap (is_free used) (append_assoc t (c ∷ []) v) ∙ e.free } in
      let a = alive_yes m (t ++ c ∷ []) v e' in
      by_test (λ q. alive used m (t ++ c ∷ []) ≡ q → (if q then suc (id_far_from used m (t ++ c ∷ []) (x ++ y)) else 0) < suc (length x)
      → (if q then suc (id_far_from used m (t ++ c ∷ []) (x ++ y)) else 0) ≡ suc (run sd_name_byte (x ++ z))) (alive used m (t ++ c ∷ []))
      (λ _ q l. ap suc (id_dead m (t ++ c ∷ []) x y z e' (omega arith) (omega arith)))
      (λ _ q l. clash (sym a ∙ q))
      refl)
      (λ _ b e w l. refl)
      refl e w l

  -- ---- the reader

  abbrev pub IdOk : List ℕ → Type 0
  IdOk t = Repeat 1 32 sd_name_byte t × (is_unused used t ≡ true)

  pub id_reads : Reads itself IdOk (λ r. run sd_name_byte r ≡ 0) (id_of used)
  unfolding id_of
  id_reads = only_reads (repeat_reads 32 sd_name_byte) (is_unused used)

  ok_ends : (t : List ℕ) → IdOk t → Ends used 32 [] t
  ok_ends t h = let r = h.0 in record { at_most = r.at_most; all = r.all; free = rw (le-leb 1 (length t) r.at_least) h.1 }

  ends_ok : (t : List ℕ) → Ends used 32 [] t → IdOk t
  ends_ok t e =
      let (p, q) = both (leb 1 (length t)) (is_unused used t) e.free in
      (record { at_least = leb-true 1 (length t) p; at_most = e.at_most; all = e.all }, q)

  -- what is found is the run at the front
  found_run : (s a : List ℕ) (n : ℕ) → id_of used s ≡ found a n → (a ≡ take (run sd_name_byte s) s) × (n ≡ run sd_name_byte s) × (within 1 32 (run sd_name_byte s) ≡ true)
  unfolding id_of only repeat
  found_run s a n e =
      let u = through (repeat 32 sd_name_byte s) _ e in
      let v = if_found (is_unused used u.value) u.second in
      let w = if_found (within 1 32 (run sd_name_byte s)) u.first in
      let g = v.1 in
      let h = w.1 in
      (cc, cc, w.0)

  -- where no id is left, none is read
  pub id_full : room used ≡ false → (s : List ℕ) → id_of used s ≡ failed
  id_full r s =
      by_parsed (λ o. id_of used s ≡ o → o ≡ failed) (id_of used s) (λ _ e. refl)
      (λ a n _ e. clash (sym (alive_yes 32 [] a (ok_ends a (id_reads.sound s a n e).ok)) ∙ r)) refl

  id_not : (x y z : List ℕ) → id_of used (x ++ y) ≡ failed → id_far used (x ++ y) < length x → (a : List ℕ) (n : ℕ) → id_of used (x ++ z) ≡ found a n → ⊥
  unfolding id_of
  id_not x y z e l a n g =
      let f = found_run (x ++ z) a n g in
      let k = (id_reads.sound (x ++ z) a n g).ok in
      let d = run sd_name_byte (x ++ z) in
      let o = orders 1 32 d f.2 in
      let i = id_dead 32 [] x y z (subst (Ends used 32 []) f.0 (ok_ends a k)) o.1 l in
      let j : run sd_name_byte (x ++ y) ≡ run sd_name_byte (x ++ z) = run_local sd_name_byte x z y (omega arith) in
      let t : take (run sd_name_byte (x ++ y)) (x ++ y) ≡ a = ap (λ (n : ℕ). take n (x ++ y)) j ∙ take_left (run sd_name_byte (x ++ z)) x y z (omega arith) ∙ sym f.0 in
      not_found (sym e ∙ tested_yes (is_unused used) 32 sd_name_byte (x ++ y) (ap (within 1 32) j ∙ f.2) (ap (is_unused used) t ∙ k.1))

  pub id_reaches : room used ≡ true → Reaches itself IdOk (id_of used) (id_far used)
  unfolding id_of
  id_reaches r =
      record {
        local = only_local (is_unused used) (repeat 32 sd_name_byte) (repeat_local 32 sd_name_byte);
        dead = λ x y z e l. by_parsed (λ o. id_of used (x ++ z) ≡ o → o ≡ failed) (id_of used (x ++ z)) (λ _ g. refl) (λ a n _ g. absurd (id_not x y z e l a n g)) refl;
        extends = λ s e.
            let g = id_goes 32 [] s r in
            let t = take (id_far used s) s ++ g.0 in
            record { value = t; ok = ends_ok t g.1; rest = g.0; split = append-nil t; small = all_weaken sd_name_byte is_byte name_byte g.0 (all_behind sd_name_byte (take (id_far used s) s) g.0 g.1.all) };
        inside = λ s e. id_inside 32 [] s;
      }
