-- The statement of specs/Walks.antt, by the law of each walk.
use mathlib.Core.Bool.{false}
use Rattle.white.proofs.ByCharacters.{field_by_characters, white_by_characters, end_by_characters}
use Rattle.parsers.proofs.ByCharacters.{tag_by_characters}
use Rattle.structured_data.proofs.ByCharacters.{id_by_characters, name_by_characters, quoted_by_characters}
use Rattle.rfc3164.proofs.ByCharacters.{app_by_characters, pid_by_characters}
use Rattle.lookup.proofs.ByCharacters.{unescaped_by_characters}
use Rattle.texts.specs.Walks.{WalksByCharacters}

pub walks_by_characters : WalksByCharacters
walks_by_characters cs h =
    record {
      field = field_by_characters cs h;
      front = white_by_characters cs h;
      end = end_by_characters cs h;
      tag = tag_by_characters cs h;
      app = app_by_characters cs h;
      pid = pid_by_characters cs h;
      id = id_by_characters cs h;
      name = name_by_characters cs h;
      value = quoted_by_characters false cs h;
      plain = λ loose. unescaped_by_characters loose false cs h;
    }
