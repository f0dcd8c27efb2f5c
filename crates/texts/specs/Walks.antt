-- The rules describe these walks by characters, and the definitions go by bytes. On UTF-8 they are the same: of the characters `cs`, each walk over their
-- bytes is the walk over `cs` themselves. (char_run and its like count the bytes of characters.)
use Rattle.std.specs.Prelude.{ℕ, ◌≡◌, List, Bool, false, not, eqb}
use Rattle.base.specs.Runs.{run}
use Rattle.utf8.specs.Rfc3629.{Characters, octets}
use Rattle.white.specs.Trim.{field_len, white_run, text_end}
use Rattle.white.specs.Characters.{field_of, white_of, end_of}
use Rattle.parsers.specs.Parsers.{tag_len}
use Rattle.parsers.specs.Characters.{tag_of}
use Rattle.structured_data.specs.Param.{is_named, quoted_len}
use Rattle.structured_data.specs.Element.{id_len}
use Rattle.structured_data.specs.Characters.{id_of, name_of, quoted_of}
use Rattle.rfc3164.specs.Names.{is_app}
use Rattle.rfc3164.specs.Characters.{app_of, pid_of}
use Rattle.lookup.specs.Unescape.{unescaped}
use Rattle.lookup.specs.Characters.{unescaped_of}

pub record ByCharacters (cs : List (List ℕ)) : Type 0 where
  -- a field, and where a text is trimmed at its front and at its end
  pub field : field_len (octets cs) ≡ field_of cs
  pub front : white_run (octets cs) ≡ white_of cs
  pub end : text_end (octets cs) ≡ end_of cs
  -- a tag, and the two parts of `app[pid]`
  pub tag : tag_len (octets cs) ≡ tag_of cs
  pub app : run is_app (octets cs) ≡ app_of cs
  pub pid : run (λ b. not (eqb b 93)) (octets cs) ≡ pid_of cs
  -- an element's id, a parameter's name and its value
  pub id : id_len (octets cs) ≡ id_of cs
  pub name : run is_named (octets cs) ≡ name_of cs
  pub value : quoted_len false (octets cs) ≡ quoted_of false cs
  -- what is left of a value by either unescaping
  pub plain : (loose : Bool) → unescaped loose (octets cs) ≡ octets (unescaped_of loose false cs)

abbrev pub WalksByCharacters : Type 0
WalksByCharacters = (cs : List (List ℕ)) → Characters cs → ByCharacters cs
