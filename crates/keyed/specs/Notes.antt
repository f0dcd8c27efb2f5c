-- For private contracts alone: the texts of rows, noted one after the other, and their ends.
use Rattle.std.specs.Prelude.{ℕ, ◌+◌, ◌≤◌, ◌<◌, ◌≡◌, List, [], ◌∷◌, ◌++◌, map, length, get_or, take, drop, Option, Some, None}
use Rattle.record.specs.declared.Param.{Param as Row}
use Rattle.parsers.specs.Steps.{blanks_from}
use Rattle.structured_data.specs.Param.{param_at}
use Rattle.structured_data.specs.Element.{params_from}
use Rattle.structured_data.specs.declared.Param.{Param}
use Rattle.message.specs.Rooms.{param_size, total}
use Rattle.keyed.specs.Keys.{key_text}
use Rattle.keyed.specs.declared.Texts.{Texts}

-- a row whose places are in the line
pub record Inside (s : List ℕ) (p : Row) : Type 0 where
  pub name_inside : p.name_start + p.name_len ≤ length s
  pub value_inside : p.value_start + p.value_len ≤ length s

-- all texts as one
unfoldable pub joined : List (List ℕ) → List ℕ
joined [] = []
joined (t ∷ ts) = t ++ joined ts

-- the texts stand at the front of `text`, up to `at`, and their ends in `ends`
pub record Keyed (ts : List (List ℕ)) (text ends : List ℕ) (at : ℕ) : Type 0 where
  pub front : take at text ≡ joined ts
  pub inside : at ≤ length text
  pub each : (k : ℕ) → k ≤ length ts → get_or ends k 0 ≡ length (joined (take k ts))

-- room for the texts of rows, behind those that are noted
pub record Roomed (rows : List (List ℕ)) (t : Texts) : Type 0 where
  pub fits : t.at + total param_size rows ≤ length t.text.now
  pub small : length t.text.now < 65536
  pub many : t.count + length rows < length t.ends.now

-- they are noted
pub record Notes (s : List ℕ) (rows : List (List ℕ)) (t t' : Texts) : Type 0 where
  pub text_kept : length t'.text.now ≡ length t.text.now
  pub ends_kept : length t'.ends.now ≡ length t.ends.now
  pub counted : t'.count ≡ t.count + length rows
  pub grown : t'.at ≤ t.at + total param_size rows
  pub adds : (ts : List (List ℕ)) → length ts ≡ t.count → Keyed ts t.text.now t.ends.now t.at → Keyed (ts ++ map (key_text s) rows) t'.text.now t'.ends.now t'.at

-- the row of a parameter of element e at `start`
abbrev pub row_at : ℕ → ℕ → Param → List ℕ
row_at e start p = e ∷ start ∷ p.name ∷ (start + p.value) ∷ p.value_len ∷ []

-- a parameter is at `start`, it is noted, and `next` is behind it
pub record Noted (s : List ℕ) (e start : ℕ) (t : Texts) (next : ℕ) (t' : Texts) : Type 0 where
  pub param : Param
  pub is : param_at (drop start s) ≡ Some param
  pub behind : next ≡ start + param.len
  pub notes : Notes s (row_at e start param ∷ []) t t'

-- the parameter at `start`, if there is one, is noted
abbrev pub Steps : List ℕ → ℕ → ℕ → Texts → Option ℕ → Texts → Type 0
Steps s e start t None t' = (param_at (drop start s) ≡ None) × (t' ≡ t)
Steps s e start t (Some next) t' = Noted s e start t next t'

-- the rows of the parameters that start at `from`
abbrev pub rows_at : List ℕ → ℕ → ℕ → List (List ℕ)
rows_at s e from = (params_from e from (drop from s)).rows

-- and of the elements with these ids, the first of them number `e`
unfoldable pub rows_from : List ℕ → ℕ → List (List ℕ) → List (List ℕ)
rows_from s e [] = []
rows_from s e (row ∷ rows) = rows_at s e (blanks_from s (get_or row 0 0 + get_or row 1 0)) ++ rows_from s (e + 1) rows

-- the ids are in the line
pub record Listed (s : List ℕ) (elements : List (List ℕ)) (n : ℕ) : Type 0 where
  pub given : n ≤ length elements
  pub inside : (i : ℕ) → i < n → get_or (get_or elements i []) 0 0 + get_or (get_or elements i []) 1 0 ≤ length s
