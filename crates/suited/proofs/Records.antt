-- The records of both protocols: levels, timestamps and places that suit the line.
use Rattle.std.specs.Prelude.{Option, Some, None}
use Prim.Native.Nat.{ℕ, ◌+◌, ◌/◌, ◌%◌, ◌≤◌}
use mathlib.Core.Path.{◌≡◌, refl}
use mathlib.Core.List.{List}
use mathlib.Core.Bool.{true, ◌&&◌}
use native.Mathlib.Omega.{arith}
use lib.Dec.{leb}
use lib.ListN.{length, take, drop, length-take}
use lib.IntN.{ℤ, nat_abs}
use borrow.Author.Tests.{le-leb, leb-true, eq-eqb}
use Rattle.base.specs.Choose.{is_at}
use Rattle.base.proofs.Tests.{both, by_if}
use Rattle.white.specs.Trim.{trimmed}
use Rattle.digits.specs.Digits.{number_at}
use Rattle.calendar.specs.Calendar.{offset_limit, last_year}
use Rattle.pri.specs.Pri.{no_pri, pri_after, pri_at}
use Rattle.pri.specs.declared.Pri.{Pri}
use Rattle.parsers.specs.Steps.{blanks_from, on_read}
use Rattle.parsers.proofs.Steps.{blanks_within}
use Rattle.timestamp.specs.Timestamp.{rfc3164_from}
use Rattle.timestamp.proofs.Answers.{StampIn, rfc3164_within, rfc3164_stamp}
use Rattle.structured_data.specs.Data.{data_from}
use Rattle.structured_data.specs.declared.Rules.TheVariants.{Rfc3164Rules, Rfc5424Rules}
use Rattle.draft.specs.Outcome.Outcome.{no_reading}
use Rattle.structured_data.proofs.Within.{rows_within}
use Rattle.rfc3164.specs.Rfc3164 as rfc3164
use Rattle.rfc3164.proofs.Within.{body_in}
use Rattle.rfc5424.specs.Rfc5424 as rfc5424
use Rattle.rfc5424.proofs.Headers.{start_stamp, four_places}
use Rattle.rfc5424.proofs.Lines.{on_start_lem, on_four_lem, on_data_lem}
use Rattle.suits.specs.Suits.{level_suits, stamp_suits}
use Rattle.loose.specs.Loose.{outcome_of, settings_ok}
use Rattle.loose.proofs.Variants.{of_variant}
use Rattle.suited.proofs.Frame.{OutcomeSuits}
use Rattle.suited.proofs.Data.{data_in}
use Rattle.record.specs.declared.Timestamp.{Timestamp}

-- the priority
record PriSuits (p : Pri) : Type 0 where
  facility : level_suits 23 p.facility ≡ true
  severity : level_suits 7 p.severity ≡ true

pri_suits : (s : List ℕ) → PriSuits (pri_at s)
unfolding pri_at
pri_suits s = by_if PriSuits (is_at s 0 60) _ _ (λ h. after (number_at 255 (drop 1 s))) (λ h. none)
  where
    none : PriSuits no_pri
    none = record { facility = refl; severity = refl }

    after : (r : Option (ℕ × ℕ)) → PriSuits (pri_after s r)
    after None = none
    after (Some x) =
        by_if PriSuits (is_at s (x.1 + 1) 62) _ _
        (λ h.
        record {
          facility = by_if (λ (l : Option ℕ). level_suits 23 l ≡ true) (leb (x.0 / 8) 23) _ _ (λ q. q) (λ q. refl);
          severity = le-leb (x.0 % 8) 7 (omega arith);
        })
        (λ h. none)

-- the timestamp
pub stamp_suits_lem : (t : Option Timestamp) → StampIn offset_limit t → stamp_suits t ≡ true
stamp_suits_lem None h = refl
stamp_suits_lem (Some t) h = rw (le-leb _ _ h.nanos_to, le-leb _ _ h.digits_to, eq-eqb _ 0 h.digits_show, le-leb _ _ h.offset_to, h.year_in)

-- a line whose text `s`, from `start` on, is read
module _ (line s : List ℕ) (inside : length s ≤ length line) (start : ℕ) where
  rfc5424_suits : OutcomeSuits line (rfc5424.rfc5424 s start)
  unfolding rfc5424.rfc5424 rfc5424.body_from
  rfc5424_suits =
      let pri = pri_at (drop start s) in
      on_start_lem (OutcomeSuits line) (rfc5424.start_from s (start + pri.next)) _ _ tt λ version stamp a e1.
      on_four_lem (OutcomeSuits line) (rfc5424.four_from s a) _ _ tt λ host app procid msgid b e2.
      on_data_lem (OutcomeSuits line) (data_from Rfc5424Rules s (blanks_from s b)) _ _ tt λ rows e3.
      let p = pri_suits (drop start s) in
      let four = four_places s a _ refl host app procid msgid b e2 in
      let from = blanks_within s b _ refl four.within_line in
      let message = blanks_within s rows.next _ refl (rows_within Rfc5424Rules s _ rows e3 from) in
      record {
        of_record = record {
          facility_in = p.facility;
          severity_in = p.severity;
          timestamp_in = stamp_suits_lem stamp (start_stamp s _ _ refl version stamp a e1);
          host_in = omega (arith, four);
          app_in = omega (arith, four);
          procid_in = omega (arith, four);
          msgid_in = omega (arith, four);
          message_in = omega arith;
        };
        of_tables = rw e3 at (data_in line Rfc5424Rules s _ from inside);
      }

  module _ (year : ℕ) (offset : ℤ) (range : nat_abs offset ≤ offset_limit) where
    rfc3164_suits : OutcomeSuits line (rfc3164.rfc3164 year offset s start)
    unfolding rfc3164.rfc3164 rfc3164.body_from
    rfc3164_suits = go (rfc3164_from year offset s from) refl
      where
        pri : Pri
        pri = pri_at (drop start s)

        from : ℕ
        from = blanks_from s (start + pri.next)

        go : (g : Option (Option Timestamp × ℕ)) → g ≡ rfc3164_from year offset s from → OutcomeSuits line (on_read g no_reading (λ stamp a. rfc3164.body_from pri stamp s a))
        go None q = tt
        go (Some x) q =
            let p = pri_suits (drop start s) in
            let places = body_in pri x.0 s x.1 (rfc3164_within s from _ x.0 x.1 refl year offset q) in
            record {
              of_record = record {
                facility_in = p.facility;
                severity_in = p.severity;
                timestamp_in = stamp_suits_lem x.0 (rfc3164_stamp s from _ x.0 x.1 refl year offset q range);
                host_in = omega (arith, places);
                app_in = omega (arith, places);
                procid_in = omega (arith, places);
                msgid_in = omega (arith, places);
                message_in = omega (arith, places);
              };
              of_tables = data_in line Rfc3164Rules s _ places.data_in inside;
            }

-- the text of a line is its trimmed part
pub outcome_suits : (line : List ℕ) (variant year : ℕ) (offset : ℤ) → settings_ok variant year offset ≡ true
    → OutcomeSuits line (outcome_of line variant year offset)
unfolding outcome_of
outcome_suits line variant year offset h =
    let ends = trimmed line in
    let range = leb-true (nat_abs offset) offset_limit (both (leb variant 2 && leb year last_year) _ h).1 in
    let s = take ends.end line in
    let inside : length s ≤ length line = omega (arith, length-take ends.end line) in
    of_variant (OutcomeSuits line) variant year offset s ends.start
    (rfc5424_suits line s inside ends.start) (rfc3164_suits line s inside ends.start year offset range)
