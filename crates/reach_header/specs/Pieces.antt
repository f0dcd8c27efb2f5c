-- For private contracts alone: what the walks over the pieces of a header answer.
use Rattle.std.specs.Prelude.{ℕ, ◌≤◌, Bool, ◌&&◌, List, take, drop, leb, ltb, Result}
use Rattle.std.proofs.Math.Option.{none, some}
use Rattle.digits.specs.Digits.{decimal}
use Rattle.base.specs.Runs.{run}
use Rattle.grammar.specs.Abnf.{is_digit, print_us_ascii}
use Rattle.grammar.specs.Parse.{◌next◌, closed, choose, behind, always, into, only, repeat, is_prival, is_version, pri, version, pri_version, date, clock, secfrac, zone, east_of, west_of, offset, full, timestamp, printable, names, header}
use Rattle.viable.specs.Far.{next_far, closed_far, choose_far, behind_far, none_far}
use Rattle.viable.specs.Leaves.{repeat_far, prival_far, version_far, ranged, ranged_far}
use Rattle.viable.specs.Reach.{pri_far, version_sp_far, two_in, two_in_far, date_far, clock_far, secfrac_far, zone_far, offset_far, full_far, timestamp_far, printable_far, names_far, header_far}
use Rattle.viable.specs.Walks.{went_at}

abbrev pub Walk : Type 0
Walk = List ℕ → ℕ → Result ℕ ℕ

-- 1*most DIGIT
abbrev pub digits_at : ℕ → Walk
digits_at most = went_at (repeat most is_digit) (repeat_far most is_digit)

-- three digits stand there that write more than 191
abbrev pub is_over : List ℕ → ℕ → Bool
is_over s at = leb 3 (run is_digit (drop at s)) && ltb 191 (decimal (take 3 (drop at s)))

-- PRIVAL, PRIVAL ">", PRI
abbrev pub prival_at : Walk
prival_at = went_at (only is_prival (repeat 3 is_digit)) prival_far

abbrev pub prival_end_at : Walk
prival_end_at = went_at (closed (only is_prival (repeat 3 is_digit)) 62) (closed_far (only is_prival (repeat 3 is_digit)) prival_far)

abbrev pub pri_at : Walk
pri_at = went_at pri pri_far

-- VERSION, VERSION SP, PRI VERSION SP
abbrev pub version_at : Walk
version_at = went_at (only is_version (repeat 3 is_digit)) version_far

abbrev pub version_end_at : Walk
version_end_at = went_at version version_sp_far

abbrev pub pri_version_at : Walk
pri_version_at = went_at pri_version (next_far pri pri_far (λ _. version_sp_far))

-- 2DIGIT ; lo-hi, alone and after a byte
abbrev pub ranged_at : ℕ → ℕ → Walk
ranged_at lo hi = went_at (ranged lo hi) (ranged_far lo hi)

abbrev pub two_at : ℕ → ℕ → ℕ → Walk
two_at b lo hi = went_at (two_in b lo hi) (two_in_far b lo hi)

abbrev pub date_at : Walk
date_at = went_at date date_far

-- ":" TIME-MINUTE ":" TIME-SECOND
abbrev pub minutes_at : Walk
minutes_at = went_at (two_in 58 0 59 next two_in 58 0 59) (next_far (two_in 58 0 59) (two_in_far 58 0 59) (λ _. two_in_far 58 0 59))

abbrev pub clock_at : Walk
clock_at = went_at clock clock_far

abbrev pub secfrac_at : Walk
secfrac_at = went_at secfrac secfrac_far

abbrev pub zone_at : Walk
zone_at = went_at zone zone_far

-- TIME-NUMOFFSET
abbrev pub signed_at : Walk
signed_at = went_at (choose 43 (into east_of zone) (behind 45 (into west_of zone))) (choose_far 43 zone_far (behind_far 45 zone_far))

abbrev pub offset_at : Walk
offset_at = went_at offset offset_far

-- [TIME-SECFRAC] TIME-OFFSET, and with the clock in front
abbrev pub ending_at : Walk
ending_at = went_at (secfrac next offset) (next_far secfrac secfrac_far (λ _. offset_far))

abbrev pub time_at : Walk
time_at = went_at (clock next secfrac next offset) (next_far clock clock_far (λ _. next_far secfrac secfrac_far (λ _. offset_far)))

abbrev pub full_at : Walk
full_at = went_at full full_far

-- TIMESTAMP, TIMESTAMP SP
abbrev pub stamp_at : Walk
stamp_at = went_at (choose 45 (always none) (into some full)) (choose_far 45 none_far full_far)

abbrev pub timestamp_at : Walk
timestamp_at = went_at timestamp timestamp_far

-- 1*most PRINTUSASCII, alone and with its space
abbrev pub printed_at : ℕ → Walk
printed_at most = went_at (repeat most print_us_ascii) (repeat_far most print_us_ascii)

abbrev pub field_at : ℕ → Walk
field_at most = went_at (printable most) (printable_far most)

-- PROCID SP MSGID SP, and with APP-NAME SP in front
abbrev pub ids_at : Walk
ids_at = went_at (printable 128 next printable 32) (next_far (printable 128) (printable_far 128) (λ _. printable_far 32))

abbrev pub app_at : Walk
app_at = went_at (printable 48 next printable 128 next printable 32) (next_far (printable 48) (printable_far 48) (λ _. next_far (printable 128) (printable_far 128) (λ _. printable_far 32)))

abbrev pub names_at : Walk
names_at = went_at names names_far

-- TIMESTAMP SP and the names
abbrev pub rest_at : Walk
rest_at = went_at (timestamp next names) (next_far timestamp timestamp_far (λ _. names_far))

abbrev pub header_at : Walk
header_at = went_at header header_far

-- so many digits stand there
pub record Digits (s : List ℕ) (at k : ℕ) : Type 0 where
  pub digits : k ≤ run is_digit (drop at s)

pub record Month (m : ℕ) : Type 0 where
  pub first : 1 ≤ m
  pub last : m ≤ 12
