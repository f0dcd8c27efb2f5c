-- Elements whose ids have to differ: how far they go, by the ids that are used.
use Rattle.std.specs.Prelude.{if◌then◌else◌, Err}
use Prim.Native.Nat.{ℕ, ◌+◌, ◌≤◌, ◌<◌}
use mathlib.Core.Path.{◌≡◌, refl, sym, ap, ◌∙◌}
use mathlib.Core.Bool.{true, false, not, ◌&&◌}
use mathlib.Core.List.{List, [], ◌∷◌, ◌++◌}
use native.Mathlib.Omega.{arith}
use lib.ListN.{length, get_or, take, drop}
use lib.Seq.{take-add, length-take-le}
use lib.Dec.{leb}
use borrow.Author.Tests.{le-leb, lt-leb, leb-true, leb-false}
use Rattle.base.specs.Choose.{within}
use Rattle.base.specs.Runs.{run}
use Rattle.base.proofs.Tests.{clash, by_test}
use Rattle.base.proofs.Ranges.{inside, orders}
use Rattle.base.proofs.Parts.{step}
use Rattle.base.proofs.Runs.{run_le, run_in}
use Rattle.grammar.specs.Abnf.{sd_name_byte}
use Rattle.grammar.specs.Line.{Param}
use Rattle.grammar.specs.Parse.{Parsed, on_found, closed, many, into, only, repeat, sd_name, param, element_of, ◌next◌}
use Rattle.grammar.specs.Parse.Parsed.{failed, found}
use Rattle.viable.specs.Far.{next_far, closed_far}
use Rattle.viable.specs.Ids.{is_used, is_unused, is_free, alive, id_of, id_far, is_shut, id_near}
use Rattle.viable.specs.Leaves.{repeat_far}
use Rattle.viable.specs.Reach.{params_far, element_in, element_far}
use Rattle.viable.specs.Walks.{went_of}
use Rattle.viable.proofs.Ids.{alive_yes}
use Rattle.viable.proofs.Leaves.{tested_yes, tested_no, tested_long}
use Rattle.viable.proofs.Near.{near}
use Rattle.reach_data.specs.Pieces.{plain_far}
use Rattle.reach_data.specs.Rows.{id_len, near_of}

-- ---- an id, by whether it is used

module _ (used : List (List ℕ)) (x : List ℕ) where
  abbrev n : ℕ
  n = run sd_name_byte x

  len_small : n ≤ 32 → id_len x ≡ n
  len_small l = rw (le-leb n 32 l)

  len_large : 32 < n → id_len x ≡ 32
  len_large l = rw (lt-leb n 32 l)

  module _ (u : is_used used (take (id_len x) x) ≡ true) where
    pub id_used : id_of used x ≡ failed
    unfolding id_of
    id_used =
        by_test (λ w. within 1 32 n ≡ w → only (is_unused used) (repeat 32 sd_name_byte) x ≡ failed) (within 1 32 n)
        (λ _ w. tested_no (is_unused used) 32 sd_name_byte x (ap not (ap (λ (m : ℕ). is_used used (take m x)) (sym (len_small (orders 1 32 n w).1)) ∙ u)))
        (λ _ w. tested_long (is_unused used) 32 sd_name_byte x w)
        refl

    pub far_used : length used < 8281 → id_far used x ≡ near_of (id_len x) (is_shut used (take 31 x))
    unfolding id_near
    far_used few =
        near used few x
        ∙ by_test (λ b. leb n 30 ≡ b
        → (if b then n else if is_shut used (take 31 x) then 30 else if leb 32 n && is_unused used (take 32 x) then 32 else 31) ≡ near_of (id_len x) (is_shut used (take 31 x))) (leb n 30)
        (λ _ b. let l = leb-true n 30 b in rw (len_small (omega arith), b))
        (λ _ b.
        let l = leb-false n 30 b in
        by_test (λ c. leb 32 n ≡ c → (if is_shut used (take 31 x) then 30 else if c && is_unused used (take 32 x) then 32 else 31) ≡ near_of (id_len x) (is_shut used (take 31 x))) (leb 32 n)
        (λ _ c.
        let m = leb-true 32 n c in
        let e = exactly m in
        let v : is_used used (take 32 x) ≡ true = ap (λ (k : ℕ). is_used used (take k x)) (sym e) ∙ u in
        rw (e, v))
        (λ _ c. let m = leb-false 32 n c in rw (len_small (omega arith), b))
        refl)
        refl
      where
        exactly : 32 ≤ n → id_len x ≡ 32
        exactly m =
            by_test (λ b. leb n 32 ≡ b → (if b then n else 32) ≡ 32) (leb n 32)
            (λ _ b. let l = leb-true n 32 b in omega arith) (λ _ _. refl) refl

  module _ (u : is_used used (take (id_len x) x) ≡ false) where
    -- more than 32 bytes of a name, of which the first 32 are not used: they can be gone on with
    long_far : length used < 8281 → 32 < n → id_far used x ≡ 32
    unfolding id_near
    long_far few l =
        let v : is_used used (take 32 x) ≡ false = ap (λ (k : ℕ). is_used used (take k x)) (sym (len_large l)) ∙ u in
        let w = run_le sd_name_byte x in
        let c = get_or x 31 0 in
        let one : take 1 (drop 31 x) ≡ c ∷ [] = ap (take 1) (step x 31 (omega arith)) in
        let both : take 31 x ++ (c ∷ []) ≡ take 32 x = ap (λ (l : List ℕ). take 31 x ++ l) (sym one) ∙ sym (take-add 31 1 x) in
        let free : is_free used (take 31 x ++ (c ∷ [])) ≡ true = rw (both, length-take-le 32 x (omega arith), v) in
        let a : alive used 1 (take 31 x) ≡ true = alive_yes used 1 (take 31 x) (c ∷ []) (record { at_most = omega arith; all = (run_in sd_name_byte x 31 (omega arith), tt); free = free }) in
        near used few x ∙ rw (lt-leb n 30 (omega arith), a, le-leb 32 n (omega arith), v)

    -- an id that is not used goes as far as one whatever it is
    pub unused_same : length used < 8281
        → went_of (element_in used x) (element_far used x) ≡ went_of ((sd_name next closed (many 32 param) 93) x) (plain_far x)
    unfolding element_in element_far into ◌next◌ next_far id_of repeat id_near repeat_far
    unused_same few =
        by_test (λ w. within 1 32 n ≡ w → went_of (element_in used x) (element_far used x) ≡ went_of ((sd_name next closed (many 32 param) 93) x) (plain_far x)) (within 1 32 n)
        (λ _ w.
        let f : is_unused used (take n x) ≡ true = ap not (ap (λ (m : ℕ). is_used used (take m x)) (sym (len_small (orders 1 32 n w).1)) ∙ u) in
        let g : only (is_unused used) (repeat 32 sd_name_byte) x ≡ found (take n x) n = tested_yes (is_unused used) 32 sd_name_byte x w f in
        rw (g, w) (same_into (closed (many 32 param) 93 (drop n x)) (take n x) n (closed_far (many 32 param) params_far (drop n x))))
        (λ _ w.
        let g : only (is_unused used) (repeat 32 sd_name_byte) x ≡ failed = tested_long (is_unused used) 32 sd_name_byte x w in
        rw (g, w) (ap Err (none_or_long w)))
        refl
      where
        none_or_long : within 1 32 n ≡ false → id_far used x ≡ repeat_far 32 sd_name_byte x
        none_or_long w =
            by_test (λ b. leb 1 n ≡ b → id_far used x ≡ (if b then 32 else 0)) (leb 1 n)
            (λ _ b.
            by_test (λ c. leb n 32 ≡ c → id_far used x ≡ 32) (leb n 32)
            (λ _ c. clash (sym (inside 1 32 n (leb-true 1 n b) (leb-true n 32 c)) ∙ w))
            (λ _ c. long_far few (leb-false n 32 c))
            refl)
            (λ _ b. let l = leb-false 1 n b in near used few x ∙ rw (le-leb n 30 (omega arith)) (omega arith))
            refl

        same_into : (o : Parsed (List Param)) (t : List ℕ) (m k : ℕ)
            → went_of (on_found (on_found {B = List ℕ × List Param} o λ b j. found (t, b) (m + j)) λ a j. found (element_of a) j) (m + k)
            ≡ went_of (on_found {B = List ℕ × List Param} o λ b j. found (t, b) (m + j)) (m + k)
        same_into failed t m k = refl
        same_into (found b j) t m k = refl
