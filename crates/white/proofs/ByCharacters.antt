-- In a text of characters the walks by bytes meet the characters' own white ones, and no others.
use Rattle.std.specs.Prelude.{if◌then◌else◌}
use Prim.Native.Nat.{ℕ, suc, ◌+◌, ◌≤◌, ◌<◌}
use mathlib.Core.Path.{◌≡◌, refl, sym, ap, ◌∙◌}
use mathlib.Core.Bool.{Bool, true, false, not, ◌&&◌}
use mathlib.Core.List.{List, [], ◌∷◌, ◌++◌}
use native.Mathlib.Decide.{ℕ_discrete}
use native.Mathlib.Omega.{arith}
use lib.Dec.{eqb}
use lib.ListN.{length, drop, length-append}
use lib.Seq.{drop-append_seam, drop-append-add}
use borrow.Author.Tests.{ne_eqb}
use Rattle.base.proofs.Tests.{both, clash, by_if}
use Rattle.utf8.specs.Rfc3629.{Utf8Char, Characters, octets}
use Rattle.utf8.specs.Lead.{utf8_from, is_utf8}
use Rattle.utf8.specs.Characters.{char_run}
use Rattle.utf8.proofs.Chars.{char_some}
use Rattle.utf8.proofs.ByCharacters.{Walk, Tests, walk_by_characters, walk_cuts}
use Rattle.utf8.proofs.Texts.{utf8_sound, utf8_complete}
use Rattle.white.specs.White.{white_len}
use Rattle.white.specs.Trim.{field_len, white_from, white_run, text_end}
use Rattle.white.specs.Characters.{white_char, field_of, white_of, all_white, end_of}
use Rattle.white.proofs.Whites.{white_at, white_inside}
use Rattle.white.proofs.Walks.{run_more, run_stops}
use Rattle.white.proofs.Blanks.{Blank, not_inside}
use Rattle.white.proofs.Trims.{end_first, end_more}

-- no white character begins within a character, so that the walk of a field asks of characters alone
pub tests_not_white : Tests true (λ s. eqb (white_len s) 0) (λ c. not (white_char c))
tests_not_white = record { at_front = λ {c} u t. rw (white_at u t) (go c (white_char c) (char_some u)); at_later = λ u t m z l. rw (white_inside u t m z l) }
  where
    go : (c : List ℕ) (w : Bool) → 1 ≤ length c → eqb (if w then length c else 0) 0 ≡ not w
    go c true l = ne_eqb (length c) 0 (omega arith)
    go c false l = refl

field_walk : Walk (λ s. eqb (white_len s) 0) field_len
unfolding field_len
field_walk = record { out = refl; turn = λ b s. refl }

pub field_by_characters : (cs : List (List ℕ)) → Characters cs → field_len (octets cs) ≡ field_of cs
field_by_characters = walk_by_characters field_walk tests_not_white

-- a field ends between two characters
pub field_cuts : (s : List ℕ) → is_utf8 s ≡ true → is_utf8 (drop (field_len s) s) ≡ true
field_cuts = walk_cuts field_walk tests_not_white

-- bytes after none of which there are white characters alone
end_over : (c t : List ℕ) → ((m : ℕ) → m < length c → Blank (drop m (c ++ t)) → ⊥) → text_end (c ++ t) ≡ length c + text_end t
end_over [] t h = omega arith
end_over (x ∷ c) t h =
    let r = end_over c t (λ m l. h (suc m) (omega arith)) in
    omega (arith, end_more x (c ++ t) (h 0 (omega arith)))

module _ {c : List ℕ} (u : Utf8Char c) (t : List ℕ) where
  module _ (w : white_char c ≡ true) where
    white_here : length c ≡ white_len (c ++ t)
    white_here = sym (white_at u t ∙ rw w)

    run_white : white_run (c ++ t) ≡ length c + white_run t
    run_white = rw (drop-append_seam c t) at (run_more (c ++ t) (length c) white_here (λ z. omega (arith, char_some u)))

  module _ (w : white_char c ≡ false) where
    not_here : white_len (c ++ t) ≡ 0
    not_here = white_at u t ∙ rw w

    run_text : white_run (c ++ t) ≡ 0
    run_text = run_stops (c ++ t) not_here

pub white_by_characters : (cs : List (List ℕ)) → Characters cs → white_run (octets cs) ≡ white_of cs
unfolding white_from char_run
white_by_characters [] h = refl
white_by_characters (c ∷ cs) (u, h) =
    by_if (λ n. white_run (c ++ octets cs) ≡ n) (white_char c) (length c + white_of cs) 0
    (λ w. run_white u (octets cs) w ∙ ap (λ (n : ℕ). length c + n) (white_by_characters cs h))
    (λ w. run_text u (octets cs) w)

-- white characters alone, by bytes and by characters
blank_all : (cs : List (List ℕ)) → Characters cs → Blank (octets cs) → all_white cs ≡ true
unfolding all_white
blank_all [] h b = refl
blank_all (c ∷ cs) (u, h) b = go (white_char c) refl (blank_all cs h)
  where
    t : List ℕ
    t = octets cs

    go : (w : Bool) → white_char c ≡ w → (Blank t → all_white cs ≡ true) → (w && all_white cs) ≡ true
    go true w f = f (omega (arith, b, run_white u t w, length-append c t))
    go false w f = absurd (omega (arith, b, run_text u t w, length-append c t, char_some u))

all_blank : (cs : List (List ℕ)) → Characters cs → all_white cs ≡ true → Blank (octets cs)
unfolding all_white white_from
all_blank [] h a = refl
all_blank (c ∷ cs) (u, h) a =
    let (w, r) = both (white_char c) (all_white cs) a in
    omega (arith, run_white u (octets cs) w, length-append c (octets cs), all_blank cs h r)

pub end_by_characters : (cs : List (List ℕ)) → Characters cs → text_end (octets cs) ≡ end_of cs
unfolding text_end end_of
end_by_characters [] h = refl
end_by_characters (c ∷ cs) (u, h) =
    by_if (λ n. text_end (c ++ octets cs) ≡ n) (all_white (c ∷ cs)) 0 (length c + end_of cs)
    (λ a. omega (arith, end_first (c ++ octets cs) 0 (all_blank (c ∷ cs) (u, h) a)))
    (λ a. end_over c (octets cs) (λ m. go a (ℕ_discrete m 0)) ∙ ap (λ (n : ℕ). length c + n) (end_by_characters cs h))
  where
    go : {m : ℕ} → all_white (c ∷ cs) ≡ false → Dec (m ≡ 0) → m < length c → Blank (drop m (c ++ octets cs)) → ⊥
    go a (yes z) l b = clash (sym (blank_all (c ∷ cs) (u, h) (rw z at b)) ∙ a)
    go {m} a (no z) l b = not_inside u (octets cs) m (omega arith) l b

-- a trimmed text ends between two characters
end_cut : (cs : List (List ℕ)) → Characters cs → is_utf8 (drop (end_of cs) (octets cs)) ≡ true
unfolding end_of utf8_from
end_cut [] h = refl
end_cut (c ∷ cs) (u, h) =
    by_if (λ n. is_utf8 (drop n (c ++ octets cs)) ≡ true) (all_white (c ∷ cs)) 0 (length c + end_of cs)
    (λ a. utf8_complete (c ++ octets cs) (record { characters = c ∷ cs; each = (u, h); text = refl }))
    (λ a. rw (drop-append-add c (octets cs) (end_of cs)) (end_cut cs h))

pub end_cuts : (s : List ℕ) → is_utf8 s ≡ true → is_utf8 (drop (text_end s) s) ≡ true
end_cuts s h =
    let u = utf8_sound s h in
    rw (u.text, end_by_characters u.characters u.each) (end_cut u.characters u.each)
