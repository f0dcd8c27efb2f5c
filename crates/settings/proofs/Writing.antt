-- Writing a record: zeros, its pieces, and the refusals.
use Rattle.std.specs.Prelude.{if◌then◌else◌, Ok, Err}
use Prim.Native.Nat.{ℕ, suc, ◌+◌, ◌-◌, ◌≤◌, ◌<◌}
use mathlib.Core.Path.{◌≡◌, refl, sym, ◌∙◌}
use mathlib.Core.Bool.{Bool, true, false, not}
use mathlib.Core.List.{List, ◌++◌}
use native.Mathlib.Omega.{arith}
use lib.Dec.{leb, eqb}
use lib.IntN.{ℤ}
use lib.ListN.{length, set, replicate, length-replicate}
use mir.Syntax.{w8, w16, w32}
use mir.Val as val
use mir.ValLaws.{to_z-of_z}
use borrow.Author.Tests.{lt-ltb, le-ltb, leb-true, not-true, not-false}
use Rattle.base.specs.Fills.{filled}
use Rattle.base.proofs.Ranges.{orders}
use Rattle.base.proofs.Tests.{by_test}
use Rattle.calendar.specs.Calendar.{valid_offset}
use Rattle.record.specs.declared.Refusal.TheVariants.{OutputShort, UnknownVersion, BadField}
use Rattle.output.specs.Fits.{Fits}
use Rattle.output.specs.Output.{Wrote}
use Rattle.output.proofs.Writes.{Owes, owes_all, owes_more, owes_none, written_front}
use Rattle.output.proofs.Pieces.{Starts, starts_front, starts_all, next_fits, last_fits, three_are}
use Rattle.settings.specs.Record.{Meaning, meant, last_version, is_version, is_variant, host_room, in_range, record_size, bits, record_of}
use Rattle.settings.specs.Writes.{writing, Writes}
use Rattle.settings.specs.Steps.{front_text, host_text, end_text}
use Rattle.settings.proofs.Fields.{Ranges, ranges, record_length}

-- ---- zeros

abbrev pub zeros : ℕ → List ℕ
zeros n = replicate n 0

module _ (o : List ℕ) (at n : ℕ) where
  pub zeros_none : Owes o at (zeros n) o (at + 0) (zeros (n - 0))
  zeros_none = let z : at + 0 ≡ at = omega arith in let y : n - 0 ≡ n = omega arith in rw (z, y) (owes_all o at (zeros n))

  module _ (f : at + n ≤ length o) (p : List ℕ) (i : ℕ) (w : Owes o at (zeros n) p (at + i) (zeros (n - i))) where
    pub zeros_more : i < n → Owes o at (zeros n) (set p (at + i) 0) (at + (i + 1)) (zeros (n - (i + 1)))
    zeros_more h =
        let e : at + i + 1 ≡ at + (i + 1) = omega arith in
        let s : n - i ≡ suc (n - (i + 1)) = omega arith in
        rw (← e) (owes_more o at (zeros n) p (at + i) 0 (zeros (n - (i + 1))) (rw s at w) (omega (arith, w.same)))

    pub zeros_all : i ≤ n → n ≤ i → Wrote o at (zeros n) (at + n) p
    zeros_all l h =
        let z : n - i ≡ 0 = omega arith in
        let e : i ≡ n = omega arith in
        owes_none o at (zeros n) p (at + n) (at + n) (rw (z, e) at w) (omega (arith, length-replicate {A = ℕ} n 0))

    pub zeros_inside : i < n → at + i < length p
    zeros_inside h = omega (arith, w.same)

pub ruleset zeros_laws = (zeros_none, zeros_more, zeros_all, zeros_inside)

pub zeros_room : (o : List ℕ) (at n : ℕ) → Fits o at (zeros n) → at + n ≤ length o
zeros_room o at n f = omega (arith, f.fits, length-replicate {A = ℕ} n 0)

-- ---- the pieces of a record

pub front_fits : (o : List ℕ) (version len year bits gate : ℕ) → record_size ≤ length o → Fits o 0 (front_text version len year bits gate)
front_fits o version len year bits gate l = record { fits = omega arith }

pub variant_to : (version variant : ℕ) → is_variant version variant ≡ true → variant ≤ 2
variant_to version variant =
    by_test (λ t. leb variant (if t then 0 else 2) ≡ true → variant ≤ 2) (eqb version 1) (λ e h. omega (arith, leb-true variant 0 h)) (λ e h. leb-true variant 2 h)

module _ (version gate year variant : ℕ) (offset : ℤ) (host : List ℕ) (ok : in_range (meant version gate year offset variant host) ≡ true) where
  of_range : Ranges (meant version gate year offset variant host)
  of_range = ranges (meant version gate year offset variant host) ok

  pub host_short : length host ≤ host_room
  host_short = of_range.host_to

  pub host_byte : val.Fits w8 (length host)
  host_byte = record { fits = omega (arith, of_range.host_to) }

  pub variant_byte : val.Fits w8 variant
  variant_byte = record { fits = omega (arith, variant_to version variant of_range.variant_ok) }

  pub year_fits : val.Fits w16 year
  year_fits = record { fits = omega (arith, of_range.year_to) }

  pub gate_fits : val.Fits w16 gate
  gate_fits = record { fits = omega (arith, of_range.gate_to) }

  pub offset_valid : val.SFits w32 offset → valid_offset (val.to_z w32 (val.of_z w32 offset)) ≡ true
  offset_valid f = rw (to_z-of_z w32 offset f) of_range.offset_ok

  module _ (o : List ℕ) (l : record_size ≤ length o) (f : val.SFits w32 offset) (k : ℕ) (ek : k ≡ bits (val.to_z w32 (val.of_z w32 offset))) where
    abbrev m : Meaning
    m = meant version gate year offset variant host

    abbrev front : List ℕ
    front = front_text version (length host) year (bits offset) gate

    all_fits : Fits o 0 (record_of m)
    all_fits = record { fits = omega (arith, record_length m of_range) }

    pieces : front ++ host_text host ++ end_text variant ≡ record_of m
    unfolding record_of
    pieces = refl

    host_starts : Starts (front ++ host_text host) (record_of m)
    unfolding record_of
    host_starts = starts_front (front ++ host_text host) (end_text variant)

    end_starts : Starts (front ++ host_text host ++ end_text variant) (record_of m)
    unfolding record_of
    end_starts = starts_all _

    module _ (n : ℕ) (p : List ℕ) (w : Wrote o 0 (front_text version (length host) year k gate) n p) where
      front_wrote : Wrote o 0 front n p
      front_wrote = rw (ek, to_z-of_z w32 offset f) at w

      pub host_fits : Fits p n (host_text host)
      host_fits = next_fits all_fits front_wrote host_starts

      module _ (x : ℕ) (q : List ℕ) (v : Wrote p n (host_text host) x q) where
        pub end_fits : Fits q x (end_text variant)
        end_fits = last_fits all_fits front_wrote v end_starts

        pub record_done : (y : ℕ) (r : List ℕ) → Wrote q x (end_text variant) y r → r ≡ filled (record_of m) o
        record_done y r u = (three_are all_fits front_wrote v u pieces).holds ∙ written_front o (record_of m)

pub ruleset record_laws = (host_short, host_byte, variant_byte, year_fits, gate_fits, offset_valid, host_fits, end_fits, record_done)

pub version_byte : (version : ℕ) → is_version last_version version ≡ true → val.Fits w8 version
version_byte version h = record { fits = omega (arith, (orders 1 last_version version h).1) }

-- ---- the answer

-- the offset comes by its bits
module _ (version gate year variant : ℕ) (offset : ℤ) (f : val.SFits w32 offset) (host old : List ℕ) (t : Bool) (et : t ≡ is_version last_version version) where
  abbrev told : Meaning
  told = meant version gate year offset variant host

  abbrev given : Meaning
  given = meant version gate year (val.to_z w32 (val.of_z w32 offset)) variant host

  pub write_unknown : not t ≡ true → Writes told old (Err UnknownVersion) old
  unfolding writing
  write_unknown q = record { answer = rw (← et, not-true t q); output = refl }

  module _ (q : not t ≡ false) (u : Bool) (eu : u ≡ in_range given) where
    range_is : in_range told ≡ u
    range_is = sym (rw (to_z-of_z w32 offset f) at eu)

    pub write_bad : not u ≡ true → Writes told old (Err BadField) old
    unfolding writing
    write_bad p = record { answer = rw (← et, not-false t q, range_is, not-true u p); output = refl }

    module _ (p : not u ≡ false) where
      pub write_short : length old < record_size → Writes told old (Err OutputShort) old
      unfolding writing
      write_short l = record { answer = rw (← et, not-false t q, range_is, not-false u p, lt-ltb (length old) record_size l); output = refl }

      pub write_done : record_size ≤ length old → (new : List ℕ) → new ≡ filled (record_of given) old → Writes told old (Ok 32) new
      unfolding writing
      write_done l new e =
          record {
            answer = rw (← et, not-false t q, range_is, not-false u p, le-ltb (length old) record_size l);
            output = rw (to_z-of_z w32 offset f) at e;
          }

pub ruleset write_laws = (write_unknown, write_bad, write_short, write_done)
