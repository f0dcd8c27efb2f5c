-- Which word is wrong.
use Prim.Native.Nat.{ℕ, ◌≤◌, ◌<◌}
use mathlib.Core.Path.{◌≡◌, sym, ap, ◌∙◌}
use mathlib.Core.Bool.{Bool, true, false, not, ◌&&◌}
use lib.Dec.{leb}
use mir.Syntax.{w32}
use mir.Val.{SFits, to_z, of_z}
use mir.ValLaws.{to_z-of_z}
use borrow.Author.Tests.{lt-ltb, le-ltb, ne_eqb}
use Rattle.calendar.specs.Calendar.{last_year, valid_offset}
use Rattle.settings_words.specs.declared.Field.TheVariants as field
use Rattle.settings_words.specs.declared.Words.{Words}
use Rattle.settings_words.specs.Words.{last_variant, first_bad}

pub variant_one : (version : ℕ) → version ≡ 1 → 0 ≡ last_variant version
variant_one version e = rw e

pub variant_other : (version : ℕ) → (version ≡ 1 → ⊥) → 2 ≡ last_variant version
variant_other version e = rw (ne_eqb version 1 e)

pub ruleset variant_laws = (variant_one, variant_other)

module _ (w : Words) where
  pub bad_version : not (leb 1 w.version && leb w.version 2) ≡ true → field.Version ≡ first_bad w
  unfolding first_bad
  bad_version t = rw t

  module _ (v : not (leb 1 w.version && leb w.version 2) ≡ false) where
    pub bad_gate : 65535 < w.gate → field.Gate ≡ first_bad w
    unfolding first_bad
    bad_gate h = rw (v, lt-ltb 65535 w.gate h)

    module _ (g : w.gate ≤ 65535) where
      pub bad_year : last_year < w.year → field.Year ≡ first_bad w
      unfolding first_bad
      bad_year h = rw (v, le-ltb 65535 w.gate g, lt-ltb last_year w.year h)

      module _ (y : w.year ≤ last_year) (f : SFits w32 w.offset) (o : Bool) (eo : o ≡ valid_offset (to_z w32 (of_z w32 w.offset))) where
        valid_is : valid_offset w.offset ≡ o
        valid_is = sym (eo ∙ ap valid_offset (to_z-of_z w32 w.offset f))

        pub bad_offset : not o ≡ true → field.Offset ≡ first_bad w
        unfolding first_bad
        bad_offset t = rw (v, le-ltb 65535 w.gate g, le-ltb last_year w.year y, valid_is, t)

        module _ (t : not o ≡ false) (p : ℕ) (ep : p ≡ last_variant w.version) where
          pub bad_variant : p < w.variant → field.Variant ≡ first_bad w
          unfolding first_bad
          bad_variant h = rw (v, le-ltb 65535 w.gate g, le-ltb last_year w.year y, valid_is, t, ← ep, lt-ltb p w.variant h)

          pub bad_host : w.variant ≤ p → field.Host ≡ first_bad w
          unfolding first_bad
          bad_host h = rw (v, le-ltb 65535 w.gate g, le-ltb last_year w.year y, valid_is, t, ← ep, le-ltb p w.variant h)

pub ruleset bad_laws = (bad_version, bad_gate, bad_year, bad_offset, bad_variant, bad_host)
