-- A tag and no host: the Rust has a branch for it, with a note that it should not happen. It does not. (To be read: no contract rests on it.)
use Rattle.std.specs.Prelude.{ℕ, ◌+◌, ◌≡◌, List, Bool, true, not, ◌||◌, drop, if◌then◌else◌, Option, Some, None}
use Rattle.base.specs.Choose.{is_at}
use Rattle.parsers.specs.Unread.{is_unread}
use Rattle.rfc3164.specs.Names.{split_of, no_names, with_tag, only_field}
use Rattle.rfc3164.specs.Rfc3164.{spaced_host, spaced_tag, behind_field, header_from}
use Rattle.rfc3164.specs.declared.Names.{Names}
use Rattle.rfc3164.specs.declared.Header.{Header}
use Rattle.record.specs.declared.Place.{Place}

-- no space, or after it no field or `:` alone
abbrev pub is_unspaced : List ℕ → ℕ → Bool
is_unspaced s at = not (is_at s at 32) || is_unread (drop (at + 1) s)

-- where a host is not read it is for one of these, and no tag is read from the same bytes
abbrev pub NoTagAlone : Type 0
NoTagAlone = (s : List ℕ) (at : ℕ) → spaced_host s at ≡ None → (is_unspaced s at ≡ true) × (spaced_tag s at ≡ None)

-- the Rust's four branches: a tag alone is taken for the only field
abbrev pub four_branches : List ℕ → Option (Place × ℕ) → Option (Place × ℕ) → Names
four_branches s (Some x) (Some y) = if y.0.present then with_tag x.0 y.0 (split_of s y.0) else no_names
four_branches s (Some x) None = if x.0.present then only_field x.0 (split_of s x.0) else no_names
four_branches s None (Some x) = if x.0.present then only_field x.0 (split_of s x.0) else no_names
four_branches s None None = no_names

-- host and tag by them: the tag is tried whether or not there is a host
abbrev pub branched_from : List ℕ → ℕ → Header
branched_from s at =
    let host = spaced_host s at in
    let a = behind_field at host in
    let tag = spaced_tag s a in
    record { names = four_branches s host tag; next = behind_field a tag }

-- with the branch and without it, the same
abbrev pub SameHeader : Type 0
SameHeader = (s : List ℕ) (at : ℕ) → branched_from s at ≡ header_from s at
