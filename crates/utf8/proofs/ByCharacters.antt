-- Walks over a text of characters: one by bytes that goes on over the later bytes of each character is the walk by characters, and ends at a cut.
use Rattle.std.specs.Prelude.{if◌then◌else◌}
use Prim.Native.Nat.{ℕ, suc, ◌+◌, ◌≤◌, ◌<◌}
use mathlib.Core.Path.{◌≡◌, refl, ap, ◌∙◌}
use mathlib.Core.List.{List, [], ◌∷◌, ◌++◌}
use mathlib.Core.Bool.{Bool, true, false, not, ◌&&◌, ◌||◌}
use native.Mathlib.Decide.{ℕ_discrete}
use native.Mathlib.Omega.{arith}
use lib.Dec.{leb, eqb}
use lib.ListN.{length, get_or, drop, length-append, get_or-append}
use lib.Seq.{drop-append-add}
use borrow.Author.Tests.{ne_eqb, le-leb, leb-true}
use Rattle.base.specs.Choose.{within, is_at}
use Rattle.base.specs.Runs.{run, All}
use Rattle.base.proofs.Tests.{by_if}
use Rattle.base.proofs.Ranges.{orders}
use Rattle.base.proofs.Runs.{all_at}
use Rattle.base.proofs.Parts.{step}
use Rattle.utf8.specs.Rfc3629.{is_tail, Utf8Char, Characters, octets, utf8_1, utf8_2, utf8_3_E0, utf8_3_E1, utf8_3_ED, utf8_3_EE, utf8_4_F0, utf8_4_F1, utf8_4_F4}
use Rattle.utf8.specs.Lead.{utf8_from, is_utf8}
use Rattle.utf8.specs.Characters.{is_char, char_run}
use Rattle.utf8.proofs.Chars.{char_some}
use Rattle.utf8.proofs.Texts.{utf8_sound, utf8_complete}

-- no ASCII byte
abbrev pub is_wide : ℕ → Bool
is_wide b = leb 0x80 b

-- a character is one ASCII byte, or has no ASCII byte
pub data Kind : List ℕ → Type 0 where
  ascii : {b : ℕ} → b < 0x80 → Kind (b ∷ [])
  wide : {x y : ℕ} {c : List ℕ} → All is_wide (x ∷ y ∷ c) → Kind (x ∷ y ∷ c)

from : (lo hi x : ℕ) → 0x80 ≤ lo → within lo hi x ≡ true → is_wide x ≡ true
from lo hi x l h = le-leb 0x80 x (omega (arith, (orders lo hi x h).0))

tail : (x : ℕ) → is_tail x ≡ true → is_wide x ≡ true
tail x h = from 0x80 0xBF x (omega arith) h

-- no ASCII byte is one of a longer character
pub wide_apart : (x b : ℕ) → is_wide x ≡ true → b < 0x80 → eqb x b ≡ false
wide_apart x b w l = ne_eqb x b (omega (arith, leb-true 0x80 x w))

pub kind_of : {c : List ℕ} → Utf8Char c → Kind c
kind_of (utf8_1 {a} h) = ascii {b = a} (omega (arith, (orders 0x00 0x7F a h).1))
kind_of (utf8_2 {a} {b} h p) = wide {c = []} (from 0xC2 0xDF a (omega arith) h, (tail b p, tt))
kind_of (utf8_3_E0 {b} {c} p q) = wide {c = c ∷ []} (refl, (from 0xA0 0xBF b (omega arith) p, (tail c q, tt)))
kind_of (utf8_3_E1 {a} {b} {c} h p q) = wide {c = c ∷ []} (from 0xE1 0xEC a (omega arith) h, (tail b p, (tail c q, tt)))
kind_of (utf8_3_ED {b} {c} p q) = wide {c = c ∷ []} (refl, (from 0x80 0x9F b (omega arith) p, (tail c q, tt)))
kind_of (utf8_3_EE {a} {b} {c} h p q) = wide {c = c ∷ []} (from 0xEE 0xEF a (omega arith) h, (tail b p, (tail c q, tt)))
kind_of (utf8_4_F0 {b} {c} {d} p q r) = wide {c = c ∷ d ∷ []} (refl, (from 0x90 0xBF b (omega arith) p, (tail c q, (tail d r, tt))))
kind_of (utf8_4_F1 {a} {b} {c} {d} h p q r) = wide {c = c ∷ d ∷ []} (from 0xF1 0xF3 a (omega arith) h, (tail b p, (tail c q, (tail d r, tt))))
kind_of (utf8_4_F4 {b} {c} {d} p q r) = wide {c = c ∷ d ∷ []} (refl, (from 0x80 0x8F b (omega arith) p, (tail c q, (tail d r, tt))))

-- a walk by bytes, which goes on where the rest of the text passes the test
pub record Walk (goes : List ℕ → Bool) (f : List ℕ → ℕ) : Type 0 where
  pub out : f [] ≡ 0
  pub turn : (b : ℕ) (s : List ℕ) → f (b ∷ s) ≡ (if goes (b ∷ s) then suc (f s) else 0)

pub run_walk : (p : ℕ → Bool) → Walk (λ s. p (get_or s 0 0)) (run p)
unfolding run
run_walk p = record { out = refl; turn = λ b s. refl }

-- a test of the rest of a text that is one of characters: at the front of one it asks of that one, and within one it answers `v`
pub record Tests (v : Bool) (test ask : List ℕ → Bool) : Type 0 where
  pub at_front : {c : List ℕ} → Utf8Char c → (t : List ℕ) → test (c ++ t) ≡ ask c
  pub at_later : {c : List ℕ} → Utf8Char c → (t : List ℕ) (m : ℕ) → 1 ≤ m → m < length c → test (drop m (c ++ t)) ≡ v

pub tests_not : {v : Bool} {test ask : List ℕ → Bool} → Tests v test ask → Tests (not v) (λ s. not (test s)) (λ c. not (ask c))
tests_not h = record { at_front = λ u t. ap not (h.at_front u t); at_later = λ u t m z l. ap not (h.at_later u t m z l) }

module _ {v w : Bool} {test ask also asks : List ℕ → Bool} (h : Tests v test ask) (k : Tests w also asks) where
  pub tests_or : Tests (v || w) (λ s. test s || also s) (λ c. ask c || asks c)
  tests_or = record { at_front = λ u t. rw (h.at_front u t, k.at_front u t); at_later = λ u t m z l. rw (h.at_later u t m z l, k.at_later u t m z l) }

  pub tests_and : Tests (v && w) (λ s. test s && also s) (λ c. ask c && asks c)
  tests_and = record { at_front = λ u t. rw (h.at_front u t, k.at_front u t); at_later = λ u t m z l. rw (h.at_later u t m z l, k.at_later u t m z l) }

-- an ASCII byte, at the front of the rest
module _ (b : ℕ) (small : b < 0x80) where
  front_byte : {c : List ℕ} → Kind c → (t : List ℕ) → is_at (c ++ t) 0 b ≡ is_char b c
  front_byte (ascii h) t = refl
  front_byte (wide {x} w) t = wide_apart x b w.0 small

  later_byte : {c : List ℕ} → Kind c → (t : List ℕ) (m : ℕ) → 1 ≤ m → m < length c → is_at (drop m (c ++ t)) 0 b ≡ false
  later_byte (ascii h) t m z l = absurd (omega arith)
  later_byte (wide {x} {y} {c} w) t m z l =
      let p : m < length ((x ∷ y ∷ c) ++ t) = simp length-append (omega arith) in
      rw (step ((x ∷ y ∷ c) ++ t) m p, get_or-append (x ∷ y ∷ c) t 0 m l) (wide_apart (get_or (x ∷ y ∷ c) m 0) b (all_at is_wide (x ∷ y ∷ c) m w l) small)

  pub tests_byte : Tests false (λ s. is_at s 0 b) (is_char b)
  tests_byte = record { at_front = λ u. front_byte (kind_of u); at_later = λ u. later_byte (kind_of u) }

-- after a run of characters there are characters
run_cuts : (p : List ℕ → Bool) (cs : List (List ℕ)) → Characters cs → is_utf8 (drop (char_run p cs) (octets cs)) ≡ true
unfolding char_run utf8_from
run_cuts p [] h = refl
run_cuts p (c ∷ cs) (u, h) =
    by_if (λ n. is_utf8 (drop n (c ++ octets cs)) ≡ true) (p c) (length c + char_run p cs) 0
    (λ e. rw (drop-append-add c (octets cs) (char_run p cs)) (run_cuts p cs h))
    (λ e. utf8_complete (c ++ octets cs) (record { characters = c ∷ cs; each = (u, h); text = refl }))

module _ {goes p : List ℕ → Bool} {f : List ℕ → ℕ} (walk : Walk goes f) (tests : Tests true goes p) where
  walk_over : (c t : List ℕ) → ((m : ℕ) → m < length c → goes (drop m (c ++ t)) ≡ true) → f (c ++ t) ≡ length c + f t
  walk_over [] t h = omega arith
  walk_over (x ∷ c) t h =
      let r = walk_over c t (λ m l. h (suc m) (omega arith)) in
      walk.turn x (c ++ t) ∙ rw (h 0 (omega arith)) (omega arith)

  walk_on : {c : List ℕ} → Utf8Char c → (t : List ℕ) → p c ≡ true → f (c ++ t) ≡ length c + f t
  walk_on {c} u t e = walk_over c t (λ m. go (ℕ_discrete m 0))
    where
      go : {m : ℕ} → Dec (m ≡ 0) → m < length c → goes (drop m (c ++ t)) ≡ true
      go (yes z) l = rw z (tests.at_front u t ∙ e)
      go {m} (no z) l = tests.at_later u t m (omega arith) l

  walk_off : (c t : List ℕ) → Utf8Char c → p c ≡ false → f (c ++ t) ≡ 0
  walk_off [] t u e = absurd (omega (arith, char_some u))
  walk_off (x ∷ c) t u e = walk.turn x (c ++ t) ∙ rw (tests.at_front u t ∙ e)

  pub walk_by_characters : (cs : List (List ℕ)) → Characters cs → f (octets cs) ≡ char_run p cs
  unfolding char_run
  walk_by_characters [] h = walk.out
  walk_by_characters (c ∷ cs) (u, h) =
      by_if (λ n. f (c ++ octets cs) ≡ n) (p c) (length c + char_run p cs) 0
      (λ e. walk_on u (octets cs) e ∙ ap (λ (n : ℕ). length c + n) (walk_by_characters cs h))
      (λ e. walk_off c (octets cs) u e)

  -- it ends at a cut
  pub walk_cuts : (s : List ℕ) → is_utf8 s ≡ true → is_utf8 (drop (f s) s) ≡ true
  walk_cuts s h =
      let u = utf8_sound s h in
      rw (u.text, walk_by_characters u.characters u.each) (run_cuts p u.characters u.each)
