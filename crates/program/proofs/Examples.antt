-- Worked examples, computed from the definitions.
use mathlib.Core.Path.{◌≡◌, refl}
use mathlib.Core.Bool.{true, false}
use mathlib.Core.List.{[], ◌∷◌, map}
use Rattle.base.specs.Bytes.{bytes}
use Rattle.program.specs.Arguments.{word_of, with_word, wishing, running_with}
use Rattle.program.specs.declared.Word.TheVariants as word
use Rattle.program.specs.declared.Wish.TheVariants as wish
use Rattle.program.specs.declared.Asked.{Asked}
use Rattle.program.specs.declared.Takes.{Takes}

-- the words, and words that are nearly one
words : map word_of (map bytes ("--status-on-3" ∷ "--help" ∷ "--version" ∷ "--crlf" ∷ "--counted" ∷ "--where" ∷ "--point" ∷ []))
    ≡ word.Launched ∷ word.Help ∷ word.Version ∷ word.Crlf ∷ word.Counted ∷ word.Where ∷ word.Point ∷ []
words = refl

unknown : map word_of (map bytes ("" ∷ "-" ∷ "--" ∷ "--hel" ∷ "--helps" ∷ "--Help" ∷ "-help" ∷ "--crlf=1" ∷ "--count" ∷ "--counted-" ∷ "--wher" ∷ "--points" ∷ "FILE" ∷ []))
    ≡ word.Unknown ∷ word.Unknown ∷ word.Unknown ∷ word.Unknown ∷ word.Unknown ∷ word.Unknown ∷ word.Unknown ∷ word.Unknown ∷ word.Unknown ∷ word.Unknown ∷ word.Unknown ∷ word.Unknown ∷ word.Unknown ∷ []
unknown = refl

abbrev all : Takes
all = record { forms = true; places = true }

abbrev unknown_2 : Asked
unknown_2 = wishing (wish.Unknown 2) (running_with true false false false false)

-- the options of forms, and those of places, are options of a program that takes them, and no words of another
forms_alone : (map (λ w. with_word (record { forms = true; places = false }) (running_with true false false false false) w 2) (word.Crlf ∷ word.Counted ∷ word.Where ∷ word.Point ∷ [])
    ≡ running_with true true false false false ∷ running_with true false true false false ∷ unknown_2 ∷ unknown_2 ∷ [])
    × (map (λ w. with_word (record { forms = false; places = true }) (running_with true false false false false) w 2) (word.Crlf ∷ word.Counted ∷ word.Where ∷ word.Point ∷ [])
    ≡ unknown_2 ∷ unknown_2 ∷ running_with true false false true false ∷ running_with true false false true true ∷ [])
forms_alone = (refl, refl)

-- what came before is kept
kept : (map (λ w. with_word all (running_with true true false true false) w 3) (word.Launched ∷ word.Counted ∷ word.Point ∷ word.Unknown ∷ [])
    ≡ running_with true true false true false ∷ running_with true true true true false ∷ running_with true true false true true ∷ wishing (wish.Unknown 3) (running_with true true false true false) ∷ [])
    × (map (λ w. with_word all (running_with false false true true true) w 3) (word.Launched ∷ word.Crlf ∷ word.Where ∷ word.Help ∷ [])
    ≡ running_with true false true true true ∷ running_with false true true true true ∷ running_with false false true true true ∷ wishing wish.Help (running_with false false true true true) ∷ [])
kept = (refl, refl)
