-- What is answered of the chosen record, by the tests of its fields.
use Rattle.std.specs.Prelude.{if◌then◌else◌, Ok, Err}
use Prim.Native.Nat.{ℕ, zero, suc, ◌+◌, ◌-◌, ◌*◌, ◌≤◌, ◌<◌}
use mathlib.Core.Path.{◌≡◌, refl, sym, ap, ◌∙◌}
use mathlib.Core.Bool.{Bool, true, false, not, ◌&&◌}
use mathlib.Core.List.{List}
use native.Mathlib.Omega.{arith}
use lib.Dec.{leb, ltb, eqb}
use lib.IntN.{ℤ}
use lib.ListN.{length, get_or, take, drop}
use mir.Syntax.{w32}
use mir.Val.{SFits, to_z, of_z}
use mir.ValLaws.{to_z-of_z}
use borrow.Author.Tests.{lt-ltb, le-ltb, lt-leb, ne_eqb, le-leb, ltb-false, not-true, not-false}
use Rattle.base.specs.Choose.{within}
use Rattle.base.specs.Runs.{run}
use Rattle.base.specs.Texts.{text_at}
use Rattle.base.proofs.Tests.{both, clash, by_test}
use Rattle.base.proofs.Ranges.{orders}
use Rattle.record.specs.declared.Refusal.TheVariants.{UnknownVersion, BadField}
use Rattle.calendar.specs.Calendar.{last_year, valid_offset}
use Rattle.settings.specs.declared.Settings.{Settings}
use Rattle.settings.specs.Record.{Meaning, meant, last_version, is_version, is_variant, host_room, all_within, in_range, record_size, Holds}
use Rattle.settings.specs.File.{version_of, host_place, settings_of}
use Rattle.settings.specs.Steps.{pair_number, PairAt, signed, meaning_at, FieldsAt, sound, Takes}
use Rattle.settings.specs.Steps.Takes.{unknown, bad, takes}
use Rattle.settings.proofs.Zeros.{part_length}
use Rattle.settings.proofs.Fields.{ranges, holds_meaning, holds_room, holds_unused, holds_end, fields_make}

-- ---- the two bytes of a number

module _ (s : List ℕ) (at a b : ℕ) where
  pub pair_is : (a ≡ get_or s at 0) × (a < 256) → (b ≡ get_or s (at + 1) 0) × (b < 256) → PairAt s at (a + 256 * b)
  pair_is (e, l) (f, k) =
      record {
        is = rw (← e, ← f);
        low = sym (sym e ∙ omega arith);
        high = sym (sym f ∙ omega arith);
        below = omega arith;
      }

-- ---- the tests

none_below : (n : ℕ) → eqb n 0 ≡ leb n 0
none_below zero = refl
none_below (suc n) = ne_eqb (suc n) 0 (λ e. omega arith) ∙ sym (lt-leb (suc n) 0 (omega arith))

pub variant_first : (version variant : ℕ) → version ≡ 1 → eqb variant 0 ≡ is_variant version variant
variant_first version variant e = rw e (none_below variant)

pub variant_other : (version variant : ℕ) → (version ≡ 1 → ⊥) → leb variant 2 ≡ is_variant version variant
variant_other version variant e = rw (ne_eqb version 1 e)

pub ruleset variant_laws = (variant_first, variant_other)

-- the ranges, where the offset comes by its bits
module _ (o : ℤ) (f : SFits w32 o) (version gate year variant : ℕ) (host : List ℕ) (t u w : Bool) (et : t ≡ valid_offset (to_z w32 (of_z w32 o)))
    (eu : u ≡ is_variant version variant) (ew : w ≡ all_within 33 126 host) where
  pub range_is : (leb gate 65535 && leb year last_year && t && u && (leb (length host) host_room && w)) ≡ in_range (meant version gate year o variant host)
  unfolding in_range
  range_is = rw (et, to_z-of_z w32 o f, eu, ew)

pub all_is : (lo hi : ℕ) (s : List ℕ) (n : ℕ) → n ≡ run (within lo hi) s → eqb n (length s) ≡ all_within lo hi s
unfolding all_within
all_is lo hi s n e = rw e

-- ---- the record

-- the fields, as they are read
module _ (b : List ℕ) (start v n y k g x : ℕ) (o : ℤ) (f : SFits w32 o) where
  pub fields_are : (v ≡ get_or b 0 0) × (v < 256) → (n ≡ get_or b 1 0) × (n < 256) → PairAt b 2 y → PairAt b 4 k → o ≡ signed k → PairAt b 6 g → (x ≡ get_or b 28 0) × (x < 256)
      → FieldsAt b start (record { version = v; gate = g; year = y; offset = to_z w32 (of_z w32 o); variant = x; host = record { start = start + 8; len = n } })
  fields_are ev en ey ek eo eg ex =
      record {
        are = rw (to_z-of_z w32 o f, eo, ek.is, ey.is, eg.is, ev.0, en.0, ex.0);
        year_bytes = ey;
        offset_bytes = rw ek.is at ek;
        gate_bytes = eg;
      }

-- the tests, as they are made
module _ (b : List ℕ) (s : Settings) (f : SFits w32 s.offset) (h : s.host.len ≤ host_room) (t u w : Bool) where
  pub sound_is : t ≡ in_range (meant s.version s.gate s.year (to_z w32 (of_z w32 s.offset)) s.variant (take (8 + s.host.len - 8) (drop 8 b)))
      → u ≡ all_within 0 0 (take (28 - (8 + s.host.len)) (drop (8 + s.host.len) b)) → w ≡ all_within 0 0 (take 3 (drop 29 b)) → (t && u && w) ≡ sound b s
  unfolding sound
  sound_is et eu ew =
      let e : 8 + s.host.len - 8 ≡ s.host.len = omega arith in
      let e' : 28 - (8 + s.host.len) ≡ 20 - s.host.len = omega arith in
      rw (et, eu, ew, le-ltb host_room s.host.len h, to_z-of_z w32 s.offset f, e, e')

module _ (b : List ℕ) (s : Settings) where
  pub unsound_long : host_room < s.host.len → false ≡ sound b s
  unfolding sound
  unsound_long h = rw (lt-ltb host_room s.host.len h)

  -- what the three tests say, where the host is not too long
  pub record Passes : Type 0 where
    pub room : s.host.len ≤ host_room
    pub in_range_lem : in_range (meant s.version s.gate s.year s.offset s.variant (text_at b host_place s.host.len)) ≡ true
    pub unused : all_within 0 0 (text_at b (host_place + s.host.len) (host_room - s.host.len)) ≡ true
    pub ends : all_within 0 0 (text_at b 29 3) ≡ true

  passes : sound b s ≡ true → Passes
  unfolding sound
  passes =
      by_test (λ t. (if t then false else (in_range (meant s.version s.gate s.year s.offset s.variant (text_at b host_place s.host.len))
      && all_within 0 0 (text_at b (host_place + s.host.len) (host_room - s.host.len)) && all_within 0 0 (text_at b 29 3))) ≡ true → Passes) (ltb host_room s.host.len)
      (λ e h. clash (sym h))
      (λ e h.
      let t₂ = both _ _ h in
      let t₁ = both _ _ t₂.0 in
      record { room = ltb-false host_room s.host.len e; in_range_lem = t₁.0; unused = t₁.1; ends = t₂.1 })

module _ (b : List ℕ) (start : ℕ) (s : Settings) (f : FieldsAt b start s) where
  holds_sound : (m : Meaning) → Holds b m → sound b s ≡ true
  unfolding sound
  holds_sound m h =
      let e : in_range (meaning_at b) ≡ true = rw (← holds_meaning b m h) h.in_range_lem in
      rw (f.are, le-ltb host_room (get_or b 1 0) (holds_room b m h), e, holds_unused b m h, holds_end b m h)

  module _ (l : length b ≡ record_size) (known : is_version last_version s.version ≡ true) (p : Passes b s) where
    len_is : s.host.len ≡ get_or b 1 0
    len_is = ap (λ (x : Settings). x.host.len) f.are

    sound_holds : Holds b (meaning_at b)
    sound_holds =
        record {
          known = rw f.are at known;
          in_range_lem = rw f.are at p.in_range_lem;
          bytes_are = fields_make b l (get_or b 1 0) (rw len_is at p.room) (rw len_is at p.unused) p.ends
              (pair_number b 2) (pair_number b 4) (pair_number b 6) (signed (pair_number b 4)) refl
              (rw f.are at f.year_bytes) f.offset_bytes (rw f.are at f.gate_bytes) refl
              (ranges (meaning_at b) (rw f.are at p.in_range_lem)).offset_ok;
        }

    sound_settings : s ≡ settings_of (meaning_at b) (start + host_place)
    sound_settings =
        let e : length (text_at b host_place (get_or b 1 0)) ≡ get_or b 1 0 = part_length b host_place (get_or b 1 0) (omega (arith, p.room, len_is)) in
        f.are ∙ rw e

  module _ (greatest : ℕ) (to : greatest ≤ last_version) (l : length b ≡ record_size) (t : Bool) (et : t ≡ is_version greatest s.version) where
    version_is : is_version greatest (version_of b) ≡ t
    version_is = sym (et ∙ ap (λ (x : Settings). is_version greatest x.version) f.are)

    pub take_unknown : not t ≡ true → Takes greatest b start (Err UnknownVersion)
    take_unknown q = unknown (version_is ∙ not-true t q) refl

    module _ (q : not t ≡ false) (u : Bool) (eu : u ≡ sound b s) where
      version_ok : is_version greatest (version_of b) ≡ true
      version_ok = version_is ∙ not-false t q

      pub take_bad : not u ≡ true → Takes greatest b start (Err BadField)
      take_bad p = bad version_ok (λ m h. clash (sym (holds_sound m h) ∙ sym eu ∙ not-true u p)) refl

      version_known : is_version last_version s.version ≡ true
      version_known =
          let (x, y) = orders 1 greatest s.version (sym et ∙ not-false t q) in
          rw (le-leb 1 s.version x, le-leb s.version last_version (omega arith))

      pub take_read : not u ≡ false → Takes greatest b start (Ok s)
      take_read p =
          let w = passes b s (sym eu ∙ not-false u p) in
          takes (meaning_at b) version_ok (sound_holds l version_known w) (ap Ok (sound_settings l version_known w))

pub ruleset sound_laws = (unsound_long, sound_is)

pub ruleset take_laws = (take_unknown, take_bad, take_read)
