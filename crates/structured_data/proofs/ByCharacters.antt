-- Id, name and value go by characters, and the id ends between two of them. (Name and value end before `=` and `"`.)
use Rattle.std.specs.Prelude.{if◌then◌else◌}
use Prim.Native.Nat.{ℕ, suc, ◌+◌}
use mathlib.Core.Path.{◌≡◌, refl, ap, ◌∙◌}
use mathlib.Core.List.{List, [], ◌∷◌, ◌++◌}
use mathlib.Core.Bool.{Bool, true, false, ◌&&◌}
use native.Mathlib.Omega.{arith}
use lib.Dec.{eqb}
use lib.ListN.{length, get_or, drop}
use Rattle.base.specs.Runs.{run, All}
use Rattle.utf8.specs.Rfc3629.{Characters, octets}
use Rattle.utf8.specs.Lead.{is_utf8}
use Rattle.utf8.specs.Characters.{is_char}
use Rattle.utf8.proofs.ByCharacters.{is_wide, wide_apart, Kind, ascii, wide, kind_of, Walk, run_walk, Tests, tests_not, tests_or, tests_and, tests_byte, walk_by_characters, walk_cuts}
use Rattle.white.specs.White.{white_len}
use Rattle.white.proofs.ByCharacters.{tests_not_white}
use Rattle.structured_data.specs.Param.{is_named, quoted_len}
use Rattle.structured_data.specs.Element.{id_len}
use Rattle.structured_data.specs.Characters.{named_char, id_char, id_of, name_of, quoted_of}

named_tests : Tests true (λ s. is_named (get_or s 0 0)) named_char
named_tests = tests_not (tests_or (tests_byte 93 (omega arith)) (tests_byte 61 (omega arith)))

pub name_by_characters : (cs : List (List ℕ)) → Characters cs → run is_named (octets cs) ≡ name_of cs
name_by_characters = walk_by_characters (run_walk is_named) named_tests

abbrev goes : List ℕ → Bool
goes s = eqb (white_len s) 0 && is_named (get_or s 0 0)

id_walk : Walk goes id_len
unfolding id_len
id_walk = record { out = refl; turn = λ b s. refl }

id_tests : Tests true goes id_char
id_tests = tests_and tests_not_white named_tests

pub id_by_characters : (cs : List (List ℕ)) → Characters cs → id_len (octets cs) ≡ id_of cs
id_by_characters = walk_by_characters id_walk id_tests

pub id_cuts : (s : List ℕ) → is_utf8 s ≡ true → is_utf8 (drop (id_len s) s) ≡ true
id_cuts = walk_cuts id_walk id_tests

-- the value: a byte of a longer character is neither a quote nor a backslash
quoted_wide : (c t : List ℕ) → All is_wide c → quoted_len false (c ++ t) ≡ length c + quoted_len false t
unfolding quoted_len
quoted_wide [] t w = omega arith
quoted_wide (x ∷ c) t (w, ws) =
    let r = quoted_wide c t ws in
    rw (wide_apart x 34 w (omega arith), wide_apart x 92 w (omega arith)) (omega arith)

-- one character, taken by a backslash or not
taken_char : {c : List ℕ} → Kind c → (t : List ℕ) → quoted_len true (c ++ t) ≡ length c + quoted_len false t
unfolding quoted_len
taken_char (ascii h) t = omega arith
taken_char (wide {x} {y} {c} w) t = omega (arith, quoted_wide (y ∷ c) t w.1)

bare_char : {c : List ℕ} → Kind c → (t : List ℕ) → quoted_len false (c ++ t) ≡ (if is_char 34 c then 0 else length c + quoted_len (is_char 92 c) t)
unfolding quoted_len
bare_char (ascii {b} h) t = let e : suc (quoted_len (eqb b 92) t) ≡ 1 + quoted_len (eqb b 92) t = omega arith in ap (λ (n : ℕ). if eqb b 34 then 0 else n) e
bare_char (wide {x} {y} {c} w) t = quoted_wide (x ∷ y ∷ c) t w

pub quoted_by_characters : (taken : Bool) (cs : List (List ℕ)) → Characters cs → quoted_len taken (octets cs) ≡ quoted_of taken cs
unfolding quoted_len quoted_of
quoted_by_characters taken [] h = refl
quoted_by_characters true (c ∷ cs) (u, h) = taken_char (kind_of u) (octets cs) ∙ rw (quoted_by_characters false cs h)
quoted_by_characters false (c ∷ cs) (u, h) = bare_char (kind_of u) (octets cs) ∙ rw (quoted_by_characters (is_char 92 c) cs h)
