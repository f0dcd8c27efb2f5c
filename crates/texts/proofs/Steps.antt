-- The steps of the loose reader, its fields and its timestamps: what each answers ends at a cut.
use Rattle.std.specs.Prelude.{Option, Some, None}
use Prim.Native.Nat.{ℕ, ◌+◌, ◌-◌}
use mathlib.Core.Path.{◌≡◌, refl}
use mathlib.Core.List.{List}
use mathlib.Core.Bool.{true, ◌&&◌}
use lib.Dec.{leb, eqb}
use lib.ListN.{get_or, take, drop}
use lib.IntN.{ℤ, pos}
use Rattle.base.specs.Choose.{is_at}
use Rattle.base.proofs.Tests.{by_if}
use Rattle.utf8.specs.Lead.{is_utf8}
use Rattle.white.specs.Trim.{field_len}
use Rattle.white.proofs.Walks.{field_le}
use Rattle.white.proofs.ByCharacters.{field_cuts}
use Rattle.digits.specs.Digits.{digit_run, decimal, number_at}
use Rattle.record.specs.declared.Place.{Place}
use Rattle.calendar.specs.Calendar.{valid}
use Rattle.calendar.specs.Instant.{seconds_of, shown, is_shown}
use Rattle.calendar.specs.declared.DateTime.{DateTime}
use Rattle.parsers.specs.Parsers.{alone, or_absent, plain_at, host_at, tag_len, tag_at}
use Rattle.parsers.specs.Steps.{is_blank, some_blanks_from, byte_from, moved, number_from, placed, plain_from, host_from, tag_from, colon_from}
use Rattle.parsers.specs.declared.Text.{Text}
use Rattle.parsers.specs.declared.Text.TheVariants.{Fails, Absent, Given}
use Rattle.parsers.proofs.Texts.{tag_le}
use Rattle.parsers.proofs.ByCharacters.{tag_cuts}
use Rattle.structured_data.proofs.Params.{at_part}
use Rattle.timestamp.specs.Clock.{clock_from}
use Rattle.timestamp.specs.Rfc3339.{either_from, date_from, time_from, nanos_from, zone_from, stamp_if, end_from, full_from, rfc3339_from}
use Rattle.timestamp.specs.Timestamp.{day_from, without_year, utc_if, with_year, or_else, rfc3164_from}
use Rattle.timestamp.specs.declared.Clock.{Clock}
use Rattle.timestamp.proofs.Onward.{on_num_lem, on_pos_lem, on_clock_lem, on_date_lem, on_day_lem, on_zone_lem}
use Rattle.texts.proofs.Cuts.{Cut, is_ascii, Between, walk_on, blanks_on, digits_on, at_start, before, after}
use Rattle.record.specs.declared.Timestamp.{Timestamp}

-- ---- what an answer leads to

abbrev pub PosCut : List ℕ → Option ℕ → Type 0
PosCut s None = Unit {0}
PosCut s (Some n) = Cut s n

abbrev NumCut : List ℕ → Option (ℕ × ℕ) → Type 0
NumCut s None = Unit {0}
NumCut s (Some x) = Cut s x.1

abbrev ClockCut : List ℕ → Option (Clock × ℕ) → Type 0
ClockCut s None = Unit {0}
ClockCut s (Some y) = Cut s y.1

abbrev pub StampCut : List ℕ → Option (Option Timestamp × ℕ) → Type 0
StampCut s None = Unit {0}
StampCut s (Some x) = Cut s x.1

abbrev pub PlaceCut : List ℕ → Place → Type 0
PlaceCut s p = Between s p.start p.len

abbrev pub FieldCut : List ℕ → Option (Place × ℕ) → Type 0
FieldCut s None = Unit {0}
FieldCut s (Some x) = PlaceCut s x.0 × Cut s x.1

abbrev TextCut : List ℕ → ℕ → Text → Type 0
TextCut s at Fails = Unit {0}
TextCut s at (Absent n) = Cut s (at + n)
TextCut s at (Given k n) = Cut s (at + k) × Cut s (at + n)

-- ---- from a cut on

module _ (s : List ℕ) (at : ℕ) (c : Cut s at) where
  pub some_cut : PosCut s (some_blanks_from s at)
  unfolding some_blanks_from
  some_cut = by_if (PosCut s) (is_blank (get_or s at 0)) _ _ (λ h. blanks_on s at c) (λ h. tt)

  number_cut : NumCut s (number_from s at)
  unfolding number_from number_at
  number_cut =
      by_if (λ (r : Option (ℕ × ℕ)). NumCut s (moved at r)) (leb 1 (digit_run (drop at s)) && leb (decimal (take (digit_run (drop at s)) (drop at s))) 4294967295) _ _
      (λ h. digits_on s at c) (λ h. tt)

  field_on : Cut s (at + field_len (drop at s))
  field_on = walk_on field_len field_le field_cuts s at c

  tag_on : Cut s (at + tag_len (drop at s))
  tag_on = walk_on tag_len tag_le tag_cuts s at c

-- ---- in a text of characters

module _ (s : List ℕ) (u : is_utf8 s ≡ true) where
  pub byte_cut : (at b : ℕ) → is_ascii b ≡ true → PosCut s (byte_from s at b)
  unfolding byte_from
  byte_cut at b p = by_if (PosCut s) (is_at s at b) _ _ (λ h. after s u at b p h) (λ h. tt)

  -- a byte of the part from `at` on
  pub before_part : (at n b : ℕ) → is_ascii b ≡ true → is_at (drop at s) n b ≡ true → Cut s (at + n)
  before_part at n b p h = before s u (at + n) b p (rw (at_part s at n b) at h)

  pub after_part : (at n b : ℕ) → is_ascii b ≡ true → is_at (drop at s) n b ≡ true → Cut s (at + n + 1)
  after_part at n b p h = after s u (at + n) b p (rw (at_part s at n b) at h)

  -- fields
  text_cut : (at : ℕ) → Cut s at → (t : Text) → TextCut s at t → FieldCut s (placed at t)
  text_cut at c Fails i = tt
  text_cut at c (Absent n) i = (record { from = at_start s u; to = at_start s u }, i)
  text_cut at c (Given k n) i = (record { from = c; to = i.0 }, i.1)

  absent_cut : (at n : ℕ) → Cut s (at + n) → TextCut s at (or_absent (drop at s) n)
  absent_cut at n c = by_if (TextCut s at) (alone (drop at s) n 45) _ _ (λ h. c) (λ h. (c, c))

  module _ (at : ℕ) (c : Cut s at) where
    pub plain_cut : FieldCut s (plain_from s at)
    unfolding plain_from plain_at
    plain_cut = text_cut at c (plain_at (drop at s)) (
        by_if (TextCut s at) (eqb (field_len (drop at s)) 0) _ _ (λ h. tt) λ h.
        by_if (TextCut s at) (alone (drop at s) (field_len (drop at s)) 58) _ _ (λ h. tt) λ h.
        absent_cut at (field_len (drop at s)) (field_on s at c))

    pub host_cut : FieldCut s (host_from s at)
    unfolding host_from host_at
    host_cut = text_cut at c (host_at (drop at s)) (
        by_if (TextCut s at) (eqb (field_len (drop at s)) 0) _ _ (λ h. tt) λ h.
        by_if (TextCut s at) (alone (drop at s) (field_len (drop at s)) 58) _ _ (λ h. tt) λ h.
        by_if (TextCut s at) (is_at (drop at s) (field_len (drop at s) - 1) 58) _ _
        (λ h. let k = before_part at (field_len (drop at s) - 1) 58 refl h in (k, k)) λ h.
        absent_cut at (field_len (drop at s)) (field_on s at c))

    pub tag_cut : FieldCut s (tag_from s at)
    unfolding tag_from tag_at
    tag_cut = text_cut at c (tag_at (drop at s)) (
        by_if (TextCut s at) (eqb (tag_len (drop at s)) 0) _ _ (λ h. tt) λ h.
        absent_cut at (tag_len (drop at s)) (tag_on s at c))

  -- timestamps
  clock_cut : (at : ℕ) → ClockCut s (clock_from s at)
  unfolding clock_from
  clock_cut at =
      on_num_lem (ClockCut s) (number_from s at) _ _ tt λ h a e1.
      on_pos_lem (ClockCut s) (byte_from s a 58) _ _ tt λ b e2.
      on_num_lem (ClockCut s) (number_from s b) _ _ tt λ m c e3.
      on_pos_lem (ClockCut s) (byte_from s c 58) _ _ tt λ d e4.
      on_num_lem (ClockCut s) (number_from s d) _ _ tt λ x n e5.
      rw e5 at (number_cut s d (rw e4 at (byte_cut c 58 refl)))

  pub colon_cut : (at : ℕ) → Cut s at → Cut s (colon_from s at)
  colon_cut at c = by_if (Cut s) (is_at s at 58) _ _ (λ h. after s u at 58 refl h) (λ h. c)

  stamp_cut : (t : DateTime) (nanos digits : ℕ) (o : ℤ) (n : ℕ) → Cut s n → StampCut s (stamp_if t nanos digits o n)
  stamp_cut t nanos digits o n c = by_if (StampCut s) (valid t) _ _ (λ h. c) (λ h. tt)

  utc_cut : (t : DateTime) (o : ℤ) (n : ℕ) → Cut s n → StampCut s (utc_if t o n)
  utc_cut t o n c = by_if (StampCut s) (valid t && is_shown (shown (seconds_of t (pos 0)) o)) _ _ (λ h. c) (λ h. tt)

  end_cut : (t : DateTime) (at : ℕ) → StampCut s (end_from s t at)
  unfolding end_from
  end_cut t at =
      on_num_lem (StampCut s) (nanos_from s at) _ _ tt λ nanos a e1.
      on_zone_lem (StampCut s) (zone_from s a) _ _ tt λ o b e2.
      by_if (StampCut s) (is_at s b 32) _ _ (λ h. stamp_cut t nanos (a - at - 1) o b (before s u b 32 refl h)) (λ h. tt)

  pub rfc3339_cut : (at : ℕ) → StampCut s (rfc3339_from s at)
  unfolding rfc3339_from full_from
  rfc3339_cut at =
      by_if (StampCut s) (is_at s at 45) _ _ (λ h. after s u at 45 refl h) λ h.
      on_date_lem (StampCut s) (date_from s at) _ _ tt λ year month day a e1.
      on_pos_lem (StampCut s) (either_from s a 84 116) _ _ tt λ b e2.
      on_clock_lem (StampCut s) (time_from s b) _ _ tt λ hour minute second c e3.
      end_cut _ c

  without_cut : (year : ℕ) (o : ℤ) (at : ℕ) → StampCut s (without_year year o s at)
  unfolding without_year
  without_cut year o at =
      on_day_lem (StampCut s) (day_from s at) _ _ tt λ month day a e1.
      on_clock_lem (StampCut s) (clock_from s a) _ _ tt λ hour minute second b e2.
      stamp_cut _ 0 0 o _ (colon_cut b (rw e2 at (clock_cut a)))

  with_cut : (o : ℤ) (at : ℕ) → StampCut s (with_year o s at)
  unfolding with_year
  with_cut o at =
      on_day_lem (StampCut s) (day_from s at) _ _ tt λ month day a e1.
      on_num_lem (StampCut s) (number_from s a) _ _ tt λ year b e2.
      on_pos_lem (StampCut s) (some_blanks_from s b) _ _ tt λ c e3.
      on_clock_lem (StampCut s) (clock_from s c) _ _ tt λ hour minute second d e4.
      utc_cut _ o _ (colon_cut d (rw e4 at (clock_cut c)))

  or_cut : (x y : Option (Option Timestamp × ℕ)) → StampCut s x → StampCut s y → StampCut s (or_else x y)
  or_cut None y a b = b
  or_cut (Some x) y a b = a

  pub rfc3164_cut : (year : ℕ) (o : ℤ) (at : ℕ) → StampCut s (rfc3164_from year o s at)
  unfolding rfc3164_from
  rfc3164_cut year o at =
      or_cut (without_year year o s at) (or_else (with_year o s at) (rfc3339_from s at)) (without_cut year o at) (or_cut (with_year o s at) (rfc3339_from s at) (with_cut o at) (rfc3339_cut at))
