-- Where no host is read, no tag is read from the same bytes. (To be read: no contract rests on it.)
use Rattle.std.specs.Prelude.{ℕ, ◌≡◌, List, Bool, true, ◌||◌, eqb}
use Rattle.white.specs.Trim.{field_len}
use Rattle.parsers.specs.Parsers.{alone, host_at, tag_at}
use Rattle.parsers.specs.declared.Text.TheVariants.{Fails}

-- no field, or `:` alone
abbrev pub is_unread : List ℕ → Bool
is_unread s = eqb (field_len s) 0 || alone s (field_len s) 58

-- where a host is not read it is for one of these, and no tag is read from the same bytes
abbrev pub NoHostNoTag : Type 0
NoHostNoTag = (s : List ℕ) → host_at s ≡ Fails → (is_unread s ≡ true) × (tag_at s ≡ Fails)
