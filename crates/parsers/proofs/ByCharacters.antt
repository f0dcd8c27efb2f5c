-- The tag goes by characters, and ends between two of them.
use Prim.Native.Nat.{ℕ}
use mathlib.Core.Path.{◌≡◌, refl}
use mathlib.Core.List.{List}
use mathlib.Core.Bool.{Bool, true, ◌&&◌, not}
use native.Mathlib.Omega.{arith}
use lib.Dec.{eqb}
use lib.ListN.{drop}
use Rattle.base.specs.Choose.{is_at}
use Rattle.utf8.specs.Rfc3629.{Characters, octets}
use Rattle.utf8.specs.Lead.{is_utf8}
use Rattle.utf8.proofs.ByCharacters.{Walk, Tests, tests_not, tests_and, tests_byte, walk_by_characters, walk_cuts}
use Rattle.white.specs.White.{white_len}
use Rattle.white.proofs.ByCharacters.{tests_not_white}
use Rattle.parsers.specs.Parsers.{tag_len}
use Rattle.parsers.specs.Characters.{tag_char, tag_of}

abbrev goes : List ℕ → Bool
goes s = eqb (white_len s) 0 && not (is_at s 0 58)

tag_walk : Walk goes tag_len
unfolding tag_len
tag_walk = record { out = refl; turn = λ b s. refl }

tag_tests : Tests true goes tag_char
tag_tests = tests_and tests_not_white (tests_not (tests_byte 58 (omega arith)))

pub tag_by_characters : (cs : List (List ℕ)) → Characters cs → tag_len (octets cs) ≡ tag_of cs
tag_by_characters = walk_by_characters tag_walk tag_tests

pub tag_cuts : (s : List ℕ) → is_utf8 s ≡ true → is_utf8 (drop (tag_len s) s) ≡ true
tag_cuts = walk_cuts tag_walk tag_tests
