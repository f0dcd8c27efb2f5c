-- For private contracts alone: a record by its fields and by its pieces, and the steps of a reader.
use Rattle.std.specs.Prelude.{ℕ, ◌+◌, ◌-◌, ◌*◌, ◌/◌, ◌%◌, ◌<◌, ◌≡◌, Bool, true, false, ◌&&◌, List, [], ◌∷◌, ◌++◌, ltb, ℤ, pos, negsuc, length, get_or, replicate, if◌then◌else◌, Option, Some, None, Result, Ok, Err}
use Rattle.base.specs.Texts.{text_at}
use Rattle.record.specs.declared.Refusal.TheVariants.{UnknownVersion, BadField}
use Rattle.settings.specs.declared.Settings.{Settings}
use Rattle.settings.specs.Record.{Meaning, meant, is_version, host_room, all_within, in_range, pair, Holds}
use Rattle.settings.specs.File.{version_of, NoneOf, Chosen, host_place, settings_of}
use Rattle.record.specs.declared.Refusal.{Refusal}

-- ---- the fields of a record, whatever they hold

-- the number of the two bytes from `at` on
abbrev pub pair_number : List ℕ → ℕ → ℕ
pair_number s at = get_or s at 0 + 256 * get_or s (at + 1) 0

-- and that they are bytes
pub record PairAt (s : List ℕ) (at n : ℕ) : Type 0 where
  pub is : n ≡ pair_number s at
  pub low : n % 256 ≡ get_or s at 0
  pub high : n / 256 % 256 ≡ get_or s (at + 1) 0
  pub below : n < 65536

-- two's complement
abbrev pub signed : ℕ → ℤ
signed n = if ltb n 32768 then pos n else negsuc (65535 - n)

abbrev pub meaning_at : List ℕ → Meaning
meaning_at bytes =
    meant (version_of bytes) (pair_number bytes 6) (pair_number bytes 2) (signed (pair_number bytes 4)) (get_or bytes 28 0) (text_at bytes host_place (get_or bytes 1 0))

abbrev pub fields_of : List ℕ → ℕ → Settings
fields_of bytes start =
    record {
      version = version_of bytes;
      gate = pair_number bytes 6;
      year = pair_number bytes 2;
      offset = signed (pair_number bytes 4);
      variant = get_or bytes 28 0;
      host = record { start = start + host_place; len = get_or bytes 1 0 };
    }

pub record FieldsAt (bytes : List ℕ) (start : ℕ) (s : Settings) : Type 0 where
  pub are : s ≡ fields_of bytes start
  pub year_bytes : PairAt bytes 2 s.year
  pub offset_bytes : PairAt bytes 4 (pair_number bytes 4)
  pub gate_bytes : PairAt bytes 6 s.gate

-- they are in range, and the bytes that say nothing are zero
unfoldable pub sound : List ℕ → Settings → Bool
sound bytes s =
    let len = s.host.len in
    if ltb host_room len then false
    else (in_range (meant s.version s.gate s.year s.offset s.variant (text_at bytes host_place len))
    && all_within 0 0 (text_at bytes (host_place + len) (host_room - len)) && all_within 0 0 (text_at bytes 29 3))

-- ---- the steps of a reader

-- the last record of a gate
abbrev pub SoughtAs : ℕ → List ℕ → Option ℕ → Type 0
SoughtAs gate file None = NoneOf gate file
SoughtAs gate file (Some i) = Chosen gate file i

pub record Seeks (gate : ℕ) (file : List ℕ) (f : Option ℕ) : Type 0 where
  pub is : SoughtAs gate file f

-- what is answered of the chosen record
pub data Takes (greatest : ℕ) (bytes : List ℕ) (start : ℕ) (r : Result Settings Refusal) : Type 0 where
  unknown : is_version greatest (version_of bytes) ≡ false → r ≡ Err UnknownVersion → Takes greatest bytes start r
  bad : is_version greatest (version_of bytes) ≡ true → ((m : Meaning) → Holds bytes m → ⊥) → r ≡ Err BadField → Takes greatest bytes start r
  takes : (m : Meaning) → is_version greatest m.version ≡ true → Holds bytes m → r ≡ Ok (settings_of m (start + host_place)) → Takes greatest bytes start r

-- ---- the pieces of a record

abbrev pub front_text : ℕ → ℕ → ℕ → ℕ → ℕ → List ℕ
front_text version len year bits gate = version ∷ len ∷ pair year ++ pair bits ++ pair gate

abbrev pub host_text : List ℕ → List ℕ
host_text host = host ++ replicate (host_room - length host) 0

abbrev pub end_text : ℕ → List ℕ
end_text variant = variant ∷ 0 ∷ 0 ∷ 0 ∷ []
