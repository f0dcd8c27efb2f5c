-- RULES Pri as worked examples, computed from the definition.
use Rattle.std.specs.Prelude.{Some, None}
use mathlib.Core.Path.{◌≡◌, refl}
use mathlib.Core.List.{[], ◌∷◌, map}
use Rattle.base.specs.Bytes.{bytes}
use Rattle.base.specs.Runs.{run}
use Rattle.digits.specs.Digits.{decimal_from, number_at}
use Rattle.pri.specs.Pri.{pri_at}
use Rattle.pri.specs.declared.Pri.{Pri}

taken : map pri_at (bytes "<0>" ∷ bytes "<0013>x" ∷ bytes "<191>x" ∷ bytes "<192>x" ∷ bytes "<255>x" ∷ [])
    ≡ record { next = 3; facility = Some 0; severity = Some 0 }
    ∷ record { next = 6; facility = Some 1; severity = Some 5 }
    ∷ record { next = 5; facility = Some 23; severity = Some 7 }
    ∷ record { next = 5; facility = None; severity = Some 0 }
    ∷ record { next = 5; facility = None; severity = Some 7 }
    ∷ []
unfolding pri_at number_at decimal_from run
taken = refl

abbrev none : Pri
none = record { next = 0; facility = None; severity = None }

-- anything else consumes nothing and leaves both absent
others : map pri_at (bytes "<256>x" ∷ bytes "<>" ∷ bytes "<13" ∷ bytes "<13 >" ∷ bytes "<-1>" ∷ bytes " <13>" ∷ bytes "x" ∷ bytes "" ∷ [])
    ≡ none ∷ none ∷ none ∷ none ∷ none ∷ none ∷ none ∷ none ∷ []
unfolding pri_at number_at decimal_from run
others = refl
