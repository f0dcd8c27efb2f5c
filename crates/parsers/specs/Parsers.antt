-- parsers.rs: the fields of a header, each read from the rest of the line, which is the text `s` here.
use Rattle.std.specs.Prelude.{ℕ, suc, ◌-◌, List, [], ◌∷◌, Bool, ◌&&◌, not, eqb, if◌then◌else◌}
use Rattle.base.specs.Choose.{is_at}
use Rattle.white.specs.White.{white_len}
use Rattle.white.specs.Trim.{field_len}
use Rattle.parsers.specs.declared.Text.{Text}
use Rattle.parsers.specs.declared.Text.TheVariants.{Fails, Absent, Given}

-- whether the field of `n` bytes is the one byte `b`
abbrev pub alone : List ℕ → ℕ → ℕ → Bool
alone s n b = eqb n 1 && is_at s 0 b

-- `-` is absent; any other field is given. Both are passed.
abbrev pub or_absent : List ℕ → ℕ → Text
or_absent s n = if alone s n 45 then Absent n else Given n n

-- App name, process id, message id: one or more non-white characters; `:` alone fails.
unfoldable pub plain_at : List ℕ → Text
plain_at s =
    let n = field_len s in
    if eqb n 0 then Fails
    else if alone s n 58 then Fails
    else or_absent s n

-- Host: the same, but one that ends in `:` gives the text before it and leaves the colon.
unfoldable pub host_at : List ℕ → Text
host_at s =
    let n = field_len s in
    if eqb n 0 then Fails
    else if alone s n 58 then Fails
    else if is_at s (n - 1) 58 then Given (n - 1) (n - 1)
    else or_absent s n

-- how many bytes come before the first white character or `:`
unfoldable pub tag_len : List ℕ → ℕ
tag_len [] = 0
tag_len (b ∷ s) = if eqb (white_len (b ∷ s)) 0 && not (eqb b 58) then suc (tag_len s) else 0

-- Tag: it stops at `:`.
unfoldable pub tag_at : List ℕ → Text
tag_at s =
    let n = tag_len s in
    if eqb n 0 then Fails else or_absent s n
