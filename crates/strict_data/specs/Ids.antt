-- For private contracts alone: the places of the ids that the first pass notes, and whether the ids differ.
use Rattle.std.specs.Prelude.{ℕ, ◌+◌, ◌≤◌, ◌<◌, ◌≡◌, Bool, List, [], length, get_or, take, Some}
use Rattle.base.specs.Texts.{all_different}
use Rattle.record.specs.Limits.{line_limit}
use Rattle.grammar.specs.Line.{Element, ids_of}
use Rattle.grammar.specs.Parse.{Parsed, many, element}
use Rattle.grammar.specs.Parse.Parsed.{found}
use Rattle.distinct.specs.Distinct.{id_of}
use Rattle.distinct.specs.Tree.{Room}
use Rattle.strict_data.specs.Counts.{counts_of}
use Rattle.strict_data.specs.Filling.{elements_of}

-- a place that two tables of one length can hold
pub record Noted (starts lens : List ℕ) (start len : ℕ) : Type 0 where
  pub one_size : length lens ≡ length starts
  pub start_fits : start < 65536
  pub len_fits : len < 256

pub record Noting (s starts lens : List ℕ) : Type 0 where
  pub one_size : length lens ≡ length starts
  pub short : length s ≤ line_limit

-- as far as the tables go, they have the ids of the elements
pub record Rowed (s : List ℕ) (es : List Element) (starts lens : List ℕ) : Type 0 where
  pub one_size : length lens ≡ length starts
  pub named : (k : ℕ) → k < length es → k < length starts → id_of s starts lens k ≡ get_or (ids_of es) k []
  pub inside : (k : ℕ) → k < length es → k < length starts → get_or starts k 0 + get_or lens k 0 ≤ length s

pub record Listed (s : List ℕ) (o : Parsed (List Element)) (starts₀ lens₀ starts lens : List ℕ) : Type 0 where
  pub starts_kept : length starts ≡ length starts₀
  pub lens_kept : length lens ≡ length lens₀
  pub rows : (es : List Element) (n : ℕ) → o ≡ found es n → Rowed s es starts lens

-- the elements at the front of a text, whatever their ids are
abbrev pub elements_in : List ℕ → List Element
elements_in s = elements_of (many 91 element s)

-- the ids of the first so many of them are pairwise different
abbrev pub first_differ : ℕ → List ℕ → Bool
first_differ count s = all_different (take count (ids_of (elements_in s)))

-- The first pass found so many elements, or more, in a text that is not too long.
pub record Among (s : List ℕ) (count : ℕ) : Type 0 where
  pub len : ℕ
  pub elements : ℕ
  pub params : ℕ
  pub is_data : counts_of (many 91 element s) ≡ Some (record { len = len; elements = elements; params = params })
  pub few : count ≤ elements
  pub short : length s ≤ line_limit

-- room for so many ids, all zeros, and for what tells them apart
pub record Spacious (count : ℕ) (starts lens depths kids : List ℕ) : Type 0 where
  pub rows : count ≤ length starts
  pub one_size : length lens ≡ length starts
  pub room : Room count depths kids
  pub clear : (q : ℕ) → get_or kids q 0 ≡ 0
