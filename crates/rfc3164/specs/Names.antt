-- rfc3164.rs: the split of a field, and host and tag.
use Rattle.std.specs.Prelude.{ℕ, ◌+◌, List, Bool, not, ◌&&◌, ◌||◌, leb, eqb, length, take, drop, if◌then◌else◌, Option, Some, None}
use Rattle.base.specs.Choose.{is_at}
use Rattle.base.specs.Runs.{run}
use Rattle.record.specs.Places.{absent, place}
use Rattle.record.specs.declared.Place.{Place}
use Rattle.parsers.specs.Steps.{is_inside}
use Rattle.rfc3164.specs.declared.Names.{Names}

-- what an app may hold
abbrev pub is_app : ℕ → Bool
is_app b = not (eqb b 58 || eqb b 91)

-- A field's text that is wholly `app[pid]`: app may be empty and holds no `:` or `[` (nor white space, which no field holds);
-- pid is one or more characters up to the first `]`.
unfoldable pub split_at : List ℕ → Option (ℕ × ℕ)
split_at t =
    let a = run is_app t in
    let p = run is_inside (drop (a + 1) t) in
    if is_at t a 91 && leb 1 p && is_at t (a + 1 + p) 93 && eqb (a + p + 2) (length t) then Some (a, p) else None

-- the split of a place of the line
unfoldable pub split_of : List ℕ → Place → Option (ℕ × ℕ)
split_of s p = split_at (take p.len (drop p.start s))

abbrev pub names : Place → Place → Place → Names
names host app procid = record { host = host; app = app; procid = procid }

abbrev pub no_names : Names
no_names = names absent absent absent

-- host as read, tag split if it can be
abbrev pub with_tag : Place → Place → Option (ℕ × ℕ) → Names
with_tag host tag None = names host tag absent
with_tag host tag (Some x) = names host (place tag.start x.0) (place (tag.start + x.0 + 1) x.1)

-- one field only: split, else it is the host
abbrev pub only_field : Place → Option (ℕ × ℕ) → Names
only_field field None = names field absent absent
only_field field (Some x) = names absent (place field.start x.0) (place (field.start + x.0 + 1) x.1)

-- what a host and the tag after it give; a tag `-`, or a lone host `-`: all three absent
unfoldable pub host_and_tag : List ℕ → Place → Option (Place × ℕ) → Names
host_and_tag s host (Some x) = if x.0.present then with_tag host x.0 (split_of s x.0) else no_names
host_and_tag s host None = if host.present then only_field host (split_of s host) else no_names
