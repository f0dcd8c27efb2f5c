-- For private contracts alone: what the second pass finds at a place of the structured data, by the byte there.
use Rattle.std.specs.Prelude.{ℕ, ◌+◌, ◌≤◌, ◌<◌, ◌≡◌, true, false, List, length, drop, if◌then◌else◌}
use Rattle.base.specs.Choose.{is_at}
use Rattle.base.specs.Runs.{run}
use Rattle.grammar.specs.Abnf.{sd_name_byte}
use Rattle.grammar.specs.Parse.{stop}
use Rattle.strict_data.specs.declared.Entry.{Entry}

-- "[" and an id of n bytes
abbrev pub opening : ℕ → ℕ → Entry
opening at n = record { opens = true; holds = false; name = n; value = 0; next = at + n + 1 }

-- a space and a parameter, whose name has n bytes and whose value has m
abbrev pub holding : ℕ → ℕ → ℕ → Entry
holding at n m = record { opens = false; holds = true; name = n; value = m; next = at + n + m + 4 }

-- another byte: "]", or the NILVALUE
abbrev pub passing : ℕ → Entry
passing at = record { opens = false; holds = false; name = 0; value = 0; next = at + 1 }

abbrev pub name_at : List ℕ → ℕ → ℕ
name_at line at = run sd_name_byte (drop (at + 1) line)

abbrev pub value_at : List ℕ → ℕ → ℕ
value_at line at = stop false (drop (at + name_at line at + 3) line)

unfoldable pub entry_at : List ℕ → ℕ → Entry
entry_at line at =
    if is_at line at 91 then opening at (name_at line at)
    else if is_at line at 32 then holding at (name_at line at) (value_at line at)
    else passing at

-- what is found at the place lies within the line
pub record Lies (line : List ℕ) (at : ℕ) : Type 0 where
  pub inside : at < length line
  pub param_inside : is_at line at 32 ≡ true → at + name_at line at + value_at line at + 4 ≤ length line
