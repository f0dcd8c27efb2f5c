-- The pieces of a header, each made of others.
use Rattle.std.specs.Prelude.{Result, Ok, Err}
use Prim.Native.Nat.{ℕ, ◌+◌}
use mathlib.Core.Path.{◌≡◌, sym, ap, ◌∙◌}
use mathlib.Core.Bool.{Bool, true, false, not}
use mathlib.Core.List.{List}
use mathlib.Core.Option.{none, some}
use native.Mathlib.Omega.{arith}
use borrow.Author.Tests.{not-true, not-false}
use Rattle.base.specs.Choose.{is_at}
use Rattle.grammar.specs.Abnf.{is_digit, print_us_ascii}
use Rattle.grammar.specs.Parse.{◌next◌, choose, always, into, only, repeat, is_prival, is_version, pri, version, pri_version, date, clock, secfrac, zone, east_of, west_of, offset, timestamp_of, full, timestamp, printable, names, header}
use Rattle.viable.specs.Far.{next_far, choose_far, none_far}
use Rattle.viable.specs.Leaves.{repeat_far, prival_far, version_far, ranged, ranged_far}
use Rattle.viable.specs.Reach.{pri_far, version_sp_far, two_in, two_in_far, date_far, clock_by, clock_far, secfrac_far, zone_by, zone_far, offset_far, full_far, timestamp_far, printable_far, names_far, header_far}
use Rattle.viable.specs.Walks.{went_at}
use Rattle.viable.proofs.Header.{clock_same, zone_same}
use Rattle.viable.proofs.Walks.{Seq, seq, re_seq, Closed, closing, Behind, leading, choose_yes, choose_no, into_walk, same_walk}
use Rattle.reach_header.specs.Pieces.{digits_at, prival_at, prival_end_at, pri_at, version_at, version_end_at, pri_version_at, ranged_at, two_at, date_at, minutes_at, clock_at, secfrac_at, zone_at, signed_at, offset_at, ending_at, time_at, full_at, stamp_at, timestamp_at, printed_at, field_at, ids_at, app_at, names_at, rest_at, header_at}

-- ---- PRI VERSION SP

pub prival_closed : Closed prival_at 62 prival_end_at
prival_closed = closing (only is_prival (repeat 3 is_digit)) prival_far 62

pub pri_behind : Behind 60 prival_end_at pri_at
unfolding pri pri_far
pri_behind = leading _ _ 60

pub version_closed : Closed version_at 32 version_end_at
unfolding version version_sp_far
version_closed = closing (only is_version (repeat 3 is_digit)) version_far 32

pub pri_version_seq : Seq pri_at version_end_at pri_version_at
unfolding pri_version
pri_version_seq = seq pri version pri_far version_sp_far

-- ---- TIMESTAMP SP

module _ (b lo hi : ℕ) (s : List ℕ) (at : ℕ) (t : Bool) (et : t ≡ is_at s at b) where
  pub two_no : not t ≡ true → Err at ≡ two_at b lo hi s at
  two_no h = (leading (ranged lo hi) (ranged_far lo hi) b).no s at t et h

  pub two_yes : not t ≡ false → (x : Result ℕ ℕ) → x ≡ ranged_at lo hi s (at + 1) → x ≡ two_at b lo hi s at
  two_yes h x e = (leading (ranged lo hi) (ranged_far lo hi) b).yes s at t et h x e

pub ruleset two_laws = (two_no, two_yes)

pub minutes_seq : Seq (two_at 58 0 59) (two_at 58 0 59) minutes_at
minutes_seq = seq (two_in 58 0 59) (two_in 58 0 59) (two_in_far 58 0 59) (two_in_far 58 0 59)

pub clock_seq : Seq (two_at 84 0 23) minutes_at clock_at
unfolding clock_by clock_far
clock_seq = re_seq (same_walk clock clock_by clock_same clock_far)
    (seq (two_in 84 0 23) (two_in 58 0 59 next two_in 58 0 59) (two_in_far 84 0 23) (next_far (two_in 58 0 59) (two_in_far 58 0 59) (λ _. two_in_far 58 0 59)))

pub zone_seq : Seq (ranged_at 0 23) (two_at 58 0 59) zone_at
unfolding zone_by zone_far
zone_seq = re_seq (same_walk zone zone_by zone_same zone_far) (seq (ranged 0 23) (two_in 58 0 59) (ranged_far 0 23) (two_in_far 58 0 59))

nothing_here : {A : Type 0} (a : A) (s : List ℕ) (at : ℕ) → Ok at ≡ went_at (always a) none_far s at
unfolding went_at
nothing_here a s at = ap Ok (let z : at ≡ at + 0 = omega arith in z)

module _ (s : List ℕ) (at : ℕ) (t : Bool) (et : t ≡ is_at s at 46) where
  pub secfrac_none : not t ≡ true → Ok at ≡ secfrac_at s at
  unfolding secfrac secfrac_far
  secfrac_none h = choose_no _ _ _ _ 46 s at t et (not-true t h) (Ok at) (nothing_here none s at)

  pub secfrac_some : not t ≡ false → (x : Result ℕ ℕ) → x ≡ digits_at 6 s (at + 1) → x ≡ secfrac_at s at
  unfolding secfrac secfrac_far
  secfrac_some h x e = choose_yes _ _ _ _ 46 s at t et (not-false t h) x (e ∙ sym (into_walk some (repeat 6 is_digit) (repeat_far 6 is_digit) s (at + 1)))

pub ruleset secfrac_laws = (secfrac_none, secfrac_some)

module _ (s : List ℕ) (at : ℕ) (u : Bool) (eu : u ≡ is_at s at 43) where
  pub signed_east : u ≡ true → (x : Result ℕ ℕ) → x ≡ zone_at s (at + 1) → x ≡ signed_at s at
  signed_east k x e = choose_yes _ _ _ _ 43 s at u eu k x (e ∙ sym (into_walk east_of zone zone_far s (at + 1)))

  module _ (k : u ≡ false) (v : Bool) (ev : v ≡ is_at s at 45) where
    pub signed_west : v ≡ true → (x : Result ℕ ℕ) → x ≡ zone_at s (at + 1) → x ≡ signed_at s at
    signed_west l x e = choose_no _ _ _ _ 43 s at u eu k x (choose_yes _ _ _ _ 45 s at v ev l x (e ∙ sym (into_walk west_of zone zone_far s (at + 1))))

    pub signed_none : v ≡ false → Err at ≡ signed_at s at
    signed_none l = choose_no _ _ _ _ 43 s at u eu k (Err at) ((leading (into west_of zone) zone_far 45).no s at v ev (rw l))

pub ruleset signed_laws = (signed_east, signed_west, signed_none)

module _ (s : List ℕ) (at : ℕ) (t : Bool) (et : t ≡ is_at s at 90) where
  pub offset_utc : t ≡ true → Ok (at + 1) ≡ offset_at s at
  unfolding offset offset_far
  offset_utc h = choose_yes _ _ _ _ 90 s at t et h (Ok (at + 1)) (nothing_here _ s (at + 1))

  pub offset_signed : t ≡ false → (x : Result ℕ ℕ) → x ≡ signed_at s at → x ≡ offset_at s at
  unfolding offset offset_far
  offset_signed h x e = choose_no _ _ _ _ 90 s at t et h x e

pub ruleset offset_laws = (offset_utc, offset_signed)

pub ending_seq : Seq secfrac_at offset_at ending_at
ending_seq = seq secfrac offset secfrac_far offset_far

pub time_seq : Seq clock_at ending_at time_at
time_seq = seq clock (secfrac next offset) clock_far (next_far secfrac secfrac_far (λ _. offset_far))

pub full_seq : Seq date_at time_at full_at
unfolding full full_far
full_seq =
    re_seq (into_walk timestamp_of (date next clock next secfrac next offset) full_far)
    (seq date (clock next secfrac next offset) date_far (next_far clock clock_far (λ _. next_far secfrac secfrac_far (λ _. offset_far))))

module _ (s : List ℕ) (at : ℕ) (t : Bool) (et : t ≡ is_at s at 45) where
  pub stamp_nil : t ≡ true → Ok (at + 1) ≡ stamp_at s at
  stamp_nil h = choose_yes (always none) (into some full) none_far full_far 45 s at t et h (Ok (at + 1)) (nothing_here none s (at + 1))

  pub stamp_full : t ≡ false → (x : Result ℕ ℕ) → x ≡ full_at s at → x ≡ stamp_at s at
  stamp_full h x e = choose_no (always none) (into some full) none_far full_far 45 s at t et h x (e ∙ sym (into_walk some full full_far s at))

pub ruleset stamp_laws = (stamp_nil, stamp_full)

pub timestamp_closed : Closed stamp_at 32 timestamp_at
unfolding timestamp timestamp_far
timestamp_closed = closing (choose 45 (always none) (into some full)) (choose_far 45 none_far full_far) 32

-- ---- the names

module _ (most : ℕ) (s : List ℕ) (at : ℕ) (x : Result ℕ ℕ) (e : x ≡ printed_at most s at) where
  closes : Closed (printed_at most) 32 (field_at most)
  closes = closing (repeat most print_us_ascii) (repeat_far most print_us_ascii) 32

  pub field_stuck : (k : ℕ) → x ≡ Err k → x ≡ field_at most s at
  field_stuck = closes.stuck s at x e

  module _ (n : ℕ) (h : x ≡ Ok n) (t : Bool) (et : t ≡ is_at s n 32) where
    pub field_missing : not t ≡ true → Err n ≡ field_at most s at
    field_missing = closes.missing s at x e n h t et

    pub field_past : not t ≡ false → Ok (n + 1) ≡ field_at most s at
    field_past = closes.past s at x e n h t et

pub ruleset field_laws = (field_stuck, field_missing, field_past)

pub ids_seq : Seq (field_at 128) (field_at 32) ids_at
ids_seq = seq (printable 128) (printable 32) (printable_far 128) (printable_far 32)

pub app_seq : Seq (field_at 48) ids_at app_at
app_seq = seq (printable 48) (printable 128 next printable 32) (printable_far 48) (next_far (printable 128) (printable_far 128) (λ _. printable_far 32))

pub names_seq : Seq (field_at 255) app_at names_at
unfolding names names_far
names_seq = seq (printable 255) (printable 48 next printable 128 next printable 32) (printable_far 255)
    (next_far (printable 48) (printable_far 48) (λ _. next_far (printable 128) (printable_far 128) (λ _. printable_far 32)))

-- ---- HEADER SP

pub rest_seq : Seq timestamp_at names_at rest_at
rest_seq = seq timestamp names timestamp_far names_far

pub header_seq : Seq pri_version_at rest_at header_at
unfolding header header_far
header_seq = seq pri_version (timestamp next names) (next_far pri pri_far (λ _. version_sp_far)) (next_far timestamp timestamp_far (λ _. names_far))
