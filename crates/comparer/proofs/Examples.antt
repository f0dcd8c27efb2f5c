-- Worked examples, computed from the definitions.
use Rattle.std.specs.Prelude.{Some, None, Result, Ok, Err}
use Prim.Native.Nat.{ℕ}
use mathlib.Core.Path.{◌≡◌, refl}
use mathlib.Core.List.{List, [], ◌∷◌, map}
use Rattle.base.specs.Bytes.{bytes}
use Rattle.record.specs.declared.Refusal.{Refusal}
use Rattle.record.specs.declared.Refusal.TheVariants.{LineTooLong, NoReading}
use Rattle.output.specs.Numerals.{fixed, width_from}
use Rattle.differ.specs.declared.Differences.{Differences}
use Rattle.frames.specs.declared.Task.TheVariants.{More, Read, Refuse, Failed}
use Rattle.compare.specs.declared.Refused.{Refused}
use Rattle.comparer.specs.Text.{shown_of, name_text, spaced, levels_text, places_text, ids_text, names_text, named_text, quoted_text, pair_text, elements_text, fields_text, refused_text, done_text, answer_text, line_text}
use Rattle.comparer.specs.Turns.{line_of}

-- with the pair `ms` and `]`
told : Result Differences Refused → List ℕ
told c = line_text c (bytes "ms") (bytes "]")

differ : ℕ → ℕ → ℕ → Result Differences Refused
differ fields position line = Ok (record { fields = fields; position = position; pair_line = line; pair_entry = 0 })

refused : ℕ → Refusal → Result Differences Refused
refused line f = Err (record { line = line; refusal = f })

lines : map told (differ 0 0 0 ∷ differ 17 0 0 ∷ differ 256 2730 0 ∷ differ 256 0 1 ∷ differ 768 3 2 ∷ differ 1023 0 0 ∷ refused 1 LineTooLong ∷ refused 2 NoReading ∷ [])
    ≡ bytes " same\n"
    ∷ bytes " protocol host\n"
    ∷ bytes " elements 2730\n"
    ∷ bytes " elements 0 1 ms=\"]\"\n"
    ∷ bytes " elements 3 2 ms=\"]\" message\n"
    ∷ bytes " protocol facility severity timestamp host app procid msgid elements 0 message\n"
    ∷ bytes " refuse 1 1\n"
    ∷ bytes " refuse 2 4\n"
    ∷ []
unfolding told differ refused line_text answer_text done_text refused_text fields_text elements_text pair_text quoted_text named_text names_text ids_text places_text levels_text spaced name_text fixed width_from
lines = refl

-- each field alone
fields : map told (map (λ n. differ n 0 0) (1 ∷ 2 ∷ 4 ∷ 8 ∷ 16 ∷ 32 ∷ 64 ∷ 128 ∷ 256 ∷ 512 ∷ []))
    ≡ bytes " protocol\n"
    ∷ bytes " facility\n"
    ∷ bytes " severity\n"
    ∷ bytes " timestamp\n"
    ∷ bytes " host\n"
    ∷ bytes " app\n"
    ∷ bytes " procid\n"
    ∷ bytes " msgid\n"
    ∷ bytes " elements 0\n"
    ∷ bytes " message\n"
    ∷ []
unfolding told differ refused line_text answer_text done_text refused_text fields_text elements_text pair_text quoted_text named_text names_text ids_text places_text levels_text spaced name_text fixed width_from
fields = refl

shown : map shown_of (0 ∷ 4294967295 ∷ 4294967296 ∷ 4294967297 ∷ []) ≡ 0 ∷ 4294967295 ∷ 0 ∷ 1 ∷ []
shown = refl

-- a line that is too long is all of its buffer; the end of the input is no line
lengths : map (λ t. line_of t 8193) (Read 0 ∷ Read 7 ∷ Refuse 1 ∷ More ∷ Failed ∷ []) ≡ Some 0 ∷ Some 7 ∷ Some 8193 ∷ None ∷ None ∷ []
lengths = refl
