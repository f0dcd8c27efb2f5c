-- Host and tag, by the fields that are there and by what can be split.
use Rattle.std.specs.Prelude.{if◌then◌else◌, Option, Some, None}
use Prim.Native.Nat.{ℕ, ◌+◌, ◌≤◌}
use mathlib.Core.Path.{◌≡◌, sym, ap, ◌∙◌}
use mathlib.Core.List.{List}
use mathlib.Core.Bool.{Bool, true, false, not}
use lib.ListN.{length}
use borrow.Author.Tests.{not-true, not-false}
use Rattle.record.specs.Places.{absent, place}
use Rattle.record.specs.declared.Place.{Place}
use Rattle.rfc3164.specs.Names.{split_of, no_names, with_tag, only_field, host_and_tag}
use Rattle.rfc3164.specs.Steps.{FieldWithin}
use Rattle.rfc3164.specs.declared.Names.{Names}

pub all_absent : (p : Place) → p ≡ absent → record { host = p; app = p; procid = p } ≡ no_names
all_absent p e = rw e

-- a field `-`
pub dash_names : (b : Bool) (x r : Names) → not b ≡ true → r ≡ no_names → r ≡ (if b then x else no_names)
dash_names b x r h q = q ∙ rw (not-true b h)

-- any other field, by its split
module _ (s : List ℕ) (f : Place) (h : not f.present ≡ false) (g : Option (ℕ × ℕ)) (e : g ≡ split_of s f) where
  names_by : (k : Option (ℕ × ℕ) → Names) (x : Option (ℕ × ℕ)) → g ≡ x → k x ≡ (if f.present then k (split_of s f) else no_names)
  names_by k x z = ap k (sym z ∙ e) ∙ rw (not-false f.present h)

  module _ (n : Place) (en : n ≡ absent) (z : g ≡ None) where
    pub tag_whole : (host : Place) → record { host = host; app = f; procid = n } ≡ (if f.present then with_tag host f (split_of s f) else no_names)
    tag_whole host = rw en (names_by (with_tag host f) None z)

    pub field_whole : record { host = f; app = n; procid = n } ≡ (if f.present then only_field f (split_of s f) else no_names)
    field_whole = rw en (names_by (only_field f) None z)

  module _ (a p : ℕ) (z : g ≡ Some (a, p)) (x y : Place) (ex : x ≡ place f.start a) (ey : y ≡ place (f.start + a + 1) p) where
    pub tag_parts : (host : Place) → record { host = host; app = x; procid = y } ≡ (if f.present then with_tag host f (split_of s f) else no_names)
    tag_parts host = rw (ex, ey) (names_by (with_tag host f) (Some (a, p)) z)

    pub field_parts : (n : Place) → n ≡ absent → record { host = n; app = x; procid = y } ≡ (if f.present then only_field f (split_of s f) else no_names)
    field_parts n en = rw (en, ex, ey) (names_by (only_field f) (Some (a, p)) z)

pub ruleset names_laws = (dash_names, tag_whole, tag_parts, field_whole, field_parts)

pub place_within : (s : List ℕ) (f : Option (Place × ℕ)) (p : Place) (n : ℕ) → f ≡ Some (p, n) → FieldWithin s f → p.start + p.len ≤ length s
place_within s f p n e w = rw e at w

module _ (s : List ℕ) (host : Place) (tag : Option (Place × ℕ)) (r : Names) where
  pub host_and_tag_lem : (t : Place) (m : ℕ) → tag ≡ Some (t, m) → r ≡ (if t.present then with_tag host t (split_of s t) else no_names) → r ≡ host_and_tag s host tag
  unfolding host_and_tag
  host_and_tag_lem t m et q = q ∙ rw et

  pub host_only : tag ≡ None → r ≡ (if host.present then only_field host (split_of s host) else no_names) → r ≡ host_and_tag s host tag
  unfolding host_and_tag
  host_only et q = q ∙ rw et

pub ruleset host_laws = (place_within, host_and_tag_lem, host_only)
