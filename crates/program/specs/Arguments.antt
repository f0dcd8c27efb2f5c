-- What an argument is, and what it adds to what the arguments before it ask for.
use Rattle.std.specs.Prelude.{ℕ, Bool, true, false, List, if◌then◌else◌}
use Rattle.base.specs.Bytes.{bytes}
use Rattle.base.specs.Texts.{same_text}
use Rattle.program.specs.declared.Word.{Word}
use Rattle.program.specs.declared.Word.TheVariants as word
use Rattle.program.specs.declared.Wish.{Wish}
use Rattle.program.specs.declared.Wish.TheVariants as wish
use Rattle.program.specs.declared.Asked.{Asked}
use Rattle.program.specs.declared.Takes.{Takes}

-- the words that a program knows
abbrev pub word_of : List ℕ → Word
word_of s =
    if same_text s (bytes "--status-on-3") then word.Launched
    else if same_text s (bytes "--help") then word.Help
    else if same_text s (bytes "--version") then word.Version
    else if same_text s (bytes "--crlf") then word.Crlf
    else if same_text s (bytes "--counted") then word.Counted
    else if same_text s (bytes "--where") then word.Where
    else if same_text s (bytes "--point") then word.Point
    else word.Unknown

-- a run with these options
abbrev pub running_with : Bool → Bool → Bool → Bool → Bool → Asked
running_with l c n p q = record { wish = wish.Run; launched = l; crlf = c; counted = n; place = p; point = q }

-- the same options with another wish
abbrev pub wishing : Wish → Asked → Asked
wishing w a = record { wish = w; launched = a.launched; crlf = a.crlf; counted = a.counted; place = a.place; point = a.point }

-- with an option, of a program that takes it and of one that does not
abbrev pub with_option : Bool → Asked → Asked → ℕ → Asked
with_option true a with i = with
with_option false a with i = wishing (wish.Unknown i) a

-- the `i`th argument, where those before it ask for `a`
abbrev pub with_word : Takes → Asked → Word → ℕ → Asked
with_word t a word.Launched i = running_with true a.crlf a.counted a.place a.point
with_word t a word.Help i = wishing wish.Help a
with_word t a word.Version i = wishing wish.Version a
with_word t a word.Crlf i = with_option t.forms a (running_with a.launched true a.counted a.place a.point) i
with_word t a word.Counted i = with_option t.forms a (running_with a.launched a.crlf true a.place a.point) i
with_word t a word.Where i = with_option t.places a (running_with a.launched a.crlf a.counted true a.point) i
with_word t a word.Point i = with_option t.places a (running_with a.launched a.crlf a.counted true true) i
with_word t a word.Unknown i = wishing (wish.Unknown i) a
