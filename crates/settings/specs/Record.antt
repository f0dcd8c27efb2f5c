-- The settings of a gate, and the record of 32 bytes that holds them. Numbers are low byte first.
use Rattle.std.specs.Prelude.{ℕ, ◌-◌, ◌/◌, ◌%◌, ◌≡◌, Bool, true, ◌&&◌, List, [], ◌∷◌, ◌++◌, eqb, leb, ℤ, pos, negsuc, length, replicate, if◌then◌else◌}
use Rattle.base.specs.Choose.{within}
use Rattle.base.specs.Runs.{run}
use Rattle.calendar.specs.Calendar.{last_year, valid_offset}

-- ---- settings

-- what a record says; an empty host is none
pub record Meaning : Type 0 where
  pub version : ℕ
  pub gate : ℕ
  pub year : ℕ
  pub offset : ℤ
  pub variant : ℕ
  pub host : List ℕ

-- by its fields
abbrev pub meant : ℕ → ℕ → ℕ → ℤ → ℕ → List ℕ → Meaning
meant version gate year offset variant host =
    record { version = version; gate = gate; year = year; offset = offset; variant = variant; host = host }

-- the greatest version
abbrev pub last_version : ℕ
last_version = 2

-- the versions that a reader up to `greatest` knows
abbrev pub is_version : ℕ → ℕ → Bool
is_version greatest version = within 1 greatest version

-- 0 to 2; in version 1, 0 alone
abbrev pub is_variant : ℕ → ℕ → Bool
is_variant version variant = leb variant (if eqb version 1 then 0 else 2)

-- how many bytes a host may have
abbrev pub host_room : ℕ
host_room = 20

-- every byte of the text is in the range
unfoldable pub all_within : ℕ → ℕ → List ℕ → Bool
all_within lo hi s = eqb (run (within lo hi) s) (length s)

abbrev pub is_host : List ℕ → Bool
is_host host = leb (length host) host_room && all_within 33 126 host

-- every field but the version is in its range
unfoldable pub in_range : Meaning → Bool
in_range m =
    leb m.gate 65535 && leb m.year last_year && valid_offset m.offset && is_variant m.version m.variant && is_host m.host

-- ---- the record

abbrev pub record_size : ℕ
record_size = 32

-- a number of 16 bits
abbrev pub pair : ℕ → List ℕ
pair n = (n % 256) ∷ (n / 256 % 256) ∷ []

-- a signed one, as two's complement
abbrev pub bits : ℤ → ℕ
bits (pos n) = n
bits (negsuc n) = 65535 - n

-- version, length of the host, year, offset, gate; the host and zeros behind it; the variant, which is 0 in version 1, and three zeros
unfoldable pub record_of : Meaning → List ℕ
record_of m =
    (m.version ∷ length m.host ∷ pair m.year ++ pair (bits m.offset) ++ pair m.gate)
    ++ (m.host ++ replicate (host_room - length m.host) 0)
    ++ (m.variant ∷ 0 ∷ 0 ∷ 0 ∷ [])

-- the bytes of a record hold these settings
pub record Holds (bytes : List ℕ) (m : Meaning) : Type 0 where
  pub known : is_version last_version m.version ≡ true
  pub in_range_lem : in_range m ≡ true
  pub bytes_are : bytes ≡ record_of m
