-- No character is ever cut: the loose reader takes lines of UTF-8 alone, and each text that it leaves is UTF-8 again, as are the value that lookup
-- gives of it and the text that printing writes.
use Rattle.std.specs.Prelude.{ℕ, List, get_or, take, ℤ, Ok}
use Rattle.base.specs.Texts.{text_at}
use Rattle.utf8.specs.Rfc3629.{Utf8}
use Rattle.record.specs.declared.Record.{Record}
use Rattle.record.specs.declared.Reading.TheVariants.{Read, Whole}
use Rattle.grammar.specs.Line.{Each}
use Rattle.loose.specs.Loose.{Reads}
use Rattle.lookup.specs.Lookup.{Looks}
use Rattle.message.specs.Prints.{Prints}

-- the texts of a record
pub record OfRecord (line : List ℕ) (r : Record) : Type 0 where
  pub host : Utf8 (text_at line r.host.start r.host.len)
  pub app : Utf8 (text_at line r.app.start r.app.len)
  pub procid : Utf8 (text_at line r.procid.start r.procid.len)
  pub msgid : Utf8 (text_at line r.msgid.start r.msgid.len)
  pub message : Utf8 (text_at line r.message.start r.message.len)

-- the id of an element, by its row
abbrev pub OfElement : List ℕ → List ℕ → Type 0
OfElement line row = Utf8 (text_at line (get_or row 0 0) (get_or row 1 0))

-- name and value of a parameter, by its row
pub record OfParam (line row : List ℕ) : Type 0 where
  pub name : Utf8 (text_at line (get_or row 1 0) (get_or row 2 0))
  pub value : Utf8 (text_at line (get_or row 3 0) (get_or row 4 0))

-- all texts: of the record, and of the rows that are counted
pub record Texts (line : List ℕ) (r : Record) (e p : ℕ) (elements params : List (List ℕ)) : Type 0 where
  pub of_record : OfRecord line r
  pub of_elements : Each (OfElement line) (take e elements)
  pub of_params : Each (OfParam line) (take p params)

pub record WholeCharacters : Type 0 where
  -- Every text that the loose reader leaves is UTF-8.
  pub loose : {line : List ℕ} {variant year : ℕ} {offset : ℤ} {e₀ p₀ e₁ p₁ : List (List ℕ)} {r : Record} {e p : ℕ}
      → Reads line variant year offset e₀ p₀ (Ok (Read r e p)) e₁ p₁ → Texts line r e p e₁ p₁
  pub whole : {line : List ℕ} {variant year : ℕ} {offset : ℤ} {e₀ p₀ e₁ p₁ : List (List ℕ)} {r : Record}
      → Reads line variant year offset e₀ p₀ (Ok (Whole r)) e₁ p₁ → Texts line r 0 0 e₁ p₁
  -- Where they are, so is the value that lookup gives, by either unescaping: the first n bytes of the output;
  pub lookup : {line : List ℕ} {r : Record} {e p : ℕ} {elements params : List (List ℕ)} {id name : List ℕ} {kind n : ℕ} {before after : List ℕ}
      → Texts line r e p elements params → Looks line r e p elements params id name kind before (Ok n) after → Utf8 (take n after)
  -- and so is the text that printing writes.
  pub print : {line : List ℕ} {r : Record} {e p : ℕ} {elements params : List (List ℕ)} {n : ℕ} {before after : List ℕ}
      → Texts line r e p elements params → Prints line r e p elements params before (Ok n) after → Utf8 (take n after)
