-- Worked examples, computed from the definitions.
use Rattle.std.specs.Prelude.{Some, None, Ok, Err}
use Prim.Native.Nat.{ℕ}
use mathlib.Core.Path.{◌≡◌, refl}
use mathlib.Core.List.{List, [], ◌∷◌, map}
use lib.IntN.{pos}
use lib.ListN.{replicate}
use Rattle.base.specs.Bytes.{bytes}
use Rattle.calendar.specs.Calendar.{leap, month_days, year_days, days_before_year, days_of_months}
use Rattle.calendar.specs.Instant.{span_from, year_of, month_of, clock_of, shown}
use Rattle.record.specs.Places.{absent, place}
use Rattle.record.specs.Records.{empty_record}
use Rattle.record.specs.declared.Protocol.TheVariants.{Rfc3164, Rfc5424}
use Rattle.record.specs.declared.Record.{Record}
use Rattle.record.specs.declared.Refusal.TheVariants.{LineTooLong, Unsuitable, OutputShort}
use Rattle.suits.specs.Suits.{record_suits, elements_suit, params_suit, tables_suit, suits}
use Rattle.output.specs.Numerals.{fixed, width_from}
use Rattle.message_stamp.specs.Stamps.{date_text, time_text, clock_text, fraction_text, offset_text}
use Rattle.message.specs.Message.{pri_text, field_text, param_text, params_text, other_params, open_text, elements_text, head_text, printed}
use Rattle.message.specs.Prints.{answered}

-- the line of RULES Cases 10, and its record at +60 in 2023
line : List ℕ
line = bytes "<13>Feb  5 10:01:02 gate7 reader[42]: tap ok"

tap : Record
tap =
    record {
      protocol = Rfc3164;
      facility = Some 1;
      severity = Some 5;
      timestamp = Some (record { seconds = pos 1675587662; nanos = 0; digits = 0; offset = pos 60 });
      host = place 20 5;
      app = place 26 6;
      procid = place 33 2;
      msgid = absent;
      message = record { start = 38; len = 6 };
    }

text : List ℕ
text = bytes "<13> 2023-02-05T10:01:02+01:00 gate7 reader[42]: tap ok"

read_back : printed line tap [] [] ≡ text
unfolding line tap text printed head_text pri_text field_text elements_text fixed width_from date_text time_text clock_text fraction_text offset_text leap month_days year_days days_before_year days_of_months span_from year_of month_of clock_of shown
read_back = refl

-- RFC 5424, with two elements, the first with two parameters and the second with none
line₅ : List ℕ
line₅ = bytes "<34>1 - gate7 reader 42 TAP [t@32473 ms=\"212\" k=\"v\"][x] ok"

event : Record
event =
    record {
      protocol = Rfc5424 1;
      facility = Some 4;
      severity = Some 2;
      timestamp = None;
      host = place 8 5;
      app = place 14 6;
      procid = place 21 2;
      msgid = place 24 3;
      message = record { start = 56; len = 2 };
    }

elements : List (List ℕ)
elements = (29 ∷ 7 ∷ []) ∷ (53 ∷ 1 ∷ []) ∷ []

params : List (List ℕ)
params = (0 ∷ 37 ∷ 2 ∷ 41 ∷ 3 ∷ []) ∷ (0 ∷ 46 ∷ 1 ∷ 49 ∷ 1 ∷ []) ∷ []

data_printed : printed line₅ event elements params ≡ line₅
unfolding line₅ event elements params printed head_text pri_text field_text open_text param_text params_text other_params elements_text fixed width_from
data_printed = refl

-- with no elements
none_printed : printed line₅ event [] [] ≡ bytes "<34>1 - gate7 reader 42 TAP - ok"
unfolding line₅ event printed head_text pri_text field_text elements_text fixed width_from
none_printed = refl

-- nothing set: facility counts as 5, severity as 7
empty_printed : printed [] empty_record [] [] ≡ bytes "<47> - - : "
unfolding printed head_text pri_text field_text elements_text fixed width_from
empty_printed = refl

-- an output of exactly that length is long enough, and one of a byte less is not
answers : (answered line tap 0 0 [] [] text 55 ≡ Ok 55) × (answered line tap 0 0 [] [] text 54 ≡ Err OutputShort) × (answered line tap 1 0 [] [] text 55 ≡ Err Unsuitable)
unfolding line tap text suits record_suits tables_suit elements_suit params_suit leap month_days year_days days_before_year days_of_months span_from year_of month_of clock_of shown
answers = (refl, refl, refl)

-- the longest line
lengths : map (λ n. answered (replicate n 32) empty_record 0 0 [] [] [] 0) (8192 ∷ 8193 ∷ []) ≡ Ok 0 ∷ Err LineTooLong ∷ []
unfolding suits record_suits tables_suit elements_suit params_suit
lengths = refl

-- each parameter with its own element
own_params : elements_text (bytes "ax1by2") 0 ((0 ∷ 1 ∷ []) ∷ (3 ∷ 1 ∷ []) ∷ []) ((0 ∷ 1 ∷ 1 ∷ 2 ∷ 1 ∷ []) ∷ (1 ∷ 4 ∷ 1 ∷ 5 ∷ 1 ∷ []) ∷ []) ≡ bytes "[a x=\"1\"][b y=\"2\"]"
unfolding open_text param_text params_text other_params elements_text
own_params = refl
