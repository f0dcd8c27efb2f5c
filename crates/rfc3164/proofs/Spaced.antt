-- One space and a field, and that both lie in the line.
use Rattle.std.specs.Prelude.{Option, Some, None}
use Prim.Native.Nat.{ℕ, ◌+◌, ◌≤◌}
use mathlib.Core.Path.{◌≡◌, refl, sym, ◌∙◌}
use mathlib.Core.List.{List}
use native.Mathlib.Omega.{arith}
use lib.ListN.{length}
use Rattle.record.specs.declared.Place.{Place}
use Rattle.parsers.specs.Steps.{byte_from, host_from, tag_from, on_some}
use Rattle.parsers.proofs.Steps.{byte_within}
use Rattle.parsers.proofs.Fields.{FieldIn, host_place_lem, tag_place}
use Rattle.rfc3164.specs.Rfc3164.{spaced_host, spaced_tag, behind_field}
use Rattle.rfc3164.specs.Steps.{FieldWithin}

module _ (s : List ℕ) (at : ℕ) (g : Option ℕ) (e : g ≡ byte_from s at 32) where
  module _ (z : g ≡ None) where
    pub no_host : None ≡ spaced_host s at
    unfolding spaced_host
    no_host = rw (← e, z)

    pub no_tag : None ≡ spaced_tag s at
    unfolding spaced_tag
    no_tag = rw (← e, z)

  module _ (a : ℕ) (z : g ≡ Some a) where
    pub space_within : a ≤ length s
    space_within = byte_within s at 32 (omega arith) g e a z

    pub host_is : (r : Option (Place × ℕ)) → r ≡ host_from s a → r ≡ spaced_host s at
    unfolding spaced_host
    host_is r q = q ∙ rw (← e, z)

    pub tag_is : (r : Option (Place × ℕ)) → r ≡ tag_from s a → r ≡ spaced_tag s at
    unfolding spaced_tag
    tag_is r q = q ∙ rw (← e, z)

pub ruleset spaced_laws = (no_host, no_tag, space_within, host_is, tag_is)

abbrev Lies : List ℕ → Option (Place × ℕ) → Type 0
Lies s None = Unit {0}
Lies s (Some x) = FieldIn (length s) x.0 x.1

module _ (s : List ℕ) where
  lies : (f : Option (Place × ℕ)) → ((p : Place) (n : ℕ) → f ≡ Some (p, n) → FieldIn (length s) p n) → Lies s f
  lies None h = tt
  lies (Some x) h = h x.0 x.1 refl

  spaced_lies : (g : Option ℕ) (k : ℕ → Option (Place × ℕ)) → ((a : ℕ) → Lies s (k a)) → Lies s (on_some g None k)
  spaced_lies None k h = tt
  spaced_lies (Some a) k h = h a

  host_lies : (at : ℕ) → Lies s (spaced_host s at)
  unfolding spaced_host
  host_lies at = spaced_lies (byte_from s at 32) _ (λ a. lies _ (λ p n z. host_place_lem s a _ p n z refl))

  tag_lies : (at : ℕ) → Lies s (spaced_tag s at)
  unfolding spaced_tag
  tag_lies at = spaced_lies (byte_from s at 32) _ (λ a. lies _ (λ p n z. tag_place s a _ p n z refl))

  field_within : (f : Option (Place × ℕ)) → Lies s f → FieldWithin s f
  field_within None i = tt
  field_within (Some x) i = omega (arith, i.ends, i.within_line)

  behind_within : (at : ℕ) → at ≤ length s → (f : Option (Place × ℕ)) → Lies s f → behind_field at f ≤ length s
  behind_within at h None i = h
  behind_within at h (Some x) i = i.within_line

  module _ (at : ℕ) (f : Option (Place × ℕ)) where
    module _ (e : f ≡ spaced_host s at) (p : Place) (n : ℕ) (z : f ≡ Some (p, n)) where
      there : FieldIn (length s) p n
      there = rw (sym e ∙ z) at (host_lies at)

      pub host_within : p.start + p.len ≤ length s
      host_within = omega (arith, there.ends, there.within_line)

      pub behind_host : n ≤ length s
      behind_host = there.within_line

    module _ (e : f ≡ spaced_tag s at) where
      pub tag_within : FieldWithin s f
      tag_within = rw e (field_within (spaced_tag s at) (tag_lies at))

      pub behind_tag : at ≤ length s → (n : ℕ) → n ≡ behind_field at f → n ≤ length s
      behind_tag h n q = rw (q, e) (behind_within at h (spaced_tag s at) (tag_lies at))

pub ruleset within_laws = (host_within, behind_host, tag_within, behind_tag)
