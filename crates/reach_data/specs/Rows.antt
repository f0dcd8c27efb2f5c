-- For private contracts alone: the ids of the elements that a walk notes, a row for each, and how far an id goes that is used.
use Rattle.std.specs.Prelude.{ℕ, zero, suc, ◌+◌, ◌*◌, ◌≤◌, ◌<◌, ◌≡◌, Bool, true, false, not, ◌&&◌, ◌||◌, List, [], ◌∷◌, length, get_or, set, take, drop, leb, eqb, if◌then◌else◌, Option, Some, None, Result, Ok, Err}
use Rattle.base.specs.Choose.{is_at}
use Rattle.base.specs.Runs.{run}
use Rattle.base.specs.Texts.{same_text}
use Rattle.record.specs.Limits.{line_limit}
use Rattle.distinct.specs.Distinct.{id_of, Rows}
use Rattle.distinct.specs.Tree.{Room}
use Rattle.grammar.specs.Abnf.{sd_name_byte, Repeat}
use Rattle.grammar.specs.Line.{Element}
use Rattle.grammar.specs.Parse.{element}
use Rattle.grammar.specs.Parse.Parsed.{found}
use Rattle.viable.specs.Far.{each_from, each_far}
use Rattle.viable.specs.Ids.{is_shut, room}
use Rattle.viable.specs.Reach.{element_in, element_far, used_and}
use Rattle.viable.specs.Walks.{went_at}
use Rattle.reach_data.specs.Pieces.{plain_at}

-- *SD-ELEMENT, where the ids of `used` are used
abbrev pub each_at : List (List ℕ) → List ℕ → ℕ → Result ℕ ℕ
each_at used = went_at (each_from 91 element_in used_and used 0) (each_far 91 element_in element_far used_and room used 0)

-- of n bytes of a name, how many can be an id's
abbrev pub len_of : ℕ → ℕ
len_of n = if leb n 32 then n else 32

-- how many bytes of an id stand in front, 32 at most
abbrev pub id_len : List ℕ → ℕ
id_len s = len_of (run sd_name_byte s)

-- ---- the walk

-- Between two places stand k elements, and their ids have rows.
pub data Elements (s starts lens : List ℕ) (from : ℕ) : ℕ → ℕ → Type 0 where
  none : Elements s starts lens from 0 from
  more : {k at : ℕ} (e : Element) (n : ℕ) → Elements s starts lens from k at → is_at s at 91 ≡ true → element (drop (at + 1) s) ≡ found e n
      → get_or starts k 0 ≡ at + 1 → get_or lens k 0 ≡ id_len (drop (at + 1) s) → Elements s starts lens from (suc k) (at + 1 + n)

-- what a walk is given and keeps
pub record Noting (s starts lens : List ℕ) : Type 0 where
  pub one_size : length lens ≡ length starts
  pub short : length s ≤ line_limit

-- a row that the tables have
pub record Noted (starts lens : List ℕ) (k start len : ℕ) : Type 0 where
  pub one_size : length lens ≡ length starts
  pub room : k < length starts
  pub start_fits : start < 65536
  pub len_fits : len < 256

-- n rows are noted, and w is where the elements end or break, whatever their ids are
pub data Ends (s starts lens : List ℕ) (from n : ℕ) (w : Result ℕ ℕ) : Type 0 where
  ended : {at : ℕ} → Elements s starts lens from n at → is_at s at 91 ≡ false → w ≡ Ok at → Ends s starts lens from n w
  broke : {k at : ℕ} → Elements s starts lens from k at → is_at s at 91 ≡ true → get_or starts k 0 ≡ at + 1 → get_or lens k 0 ≡ id_len (drop (at + 1) s)
      → n ≡ k + 1 → (j : ℕ) → w ≡ Err j → w ≡ plain_at s (at + 1) → Ends s starts lens from n w

pub record Listed (s starts lens : List ℕ) (from n : ℕ) (w : Result ℕ ℕ) : Type 0 where
  pub ends : Ends s starts lens from n w
  pub room : n ≤ length starts

-- more elements than a table of a size has rows for: each of them has three bytes or more
pub record Beyond (s : List ℕ) (size : ℕ) : Type 0 where
  pub many : 3 * size < length s

abbrev pub Walked : List ℕ → List ℕ → List ℕ → ℕ → Option (ℕ × Result ℕ ℕ) → Type 0
Walked s starts lens from None = Beyond s (length starts)
Walked s starts lens from (Some x) = Listed s starts lens from x.0 x.1

-- what a walk leaves
pub record Leaves (s starts₀ lens₀ starts lens : List ℕ) (from : ℕ) (r : Option (ℕ × Result ℕ ℕ)) : Type 0 where
  pub walked : Walked s starts lens from r
  pub starts_kept : length starts ≡ length starts₀
  pub lens_kept : length lens ≡ length lens₀

-- ---- an id that is used

-- the ids of the first k rows
abbrev pub used_to : (ℕ → List ℕ) → ℕ → List (List ℕ)
used_to id zero = []
used_to id (suc k) = id k ∷ used_to id k

-- Of an id that is used 30 bytes can be gone on with, and 31 where the 31 do not shut.
abbrev pub near_of : ℕ → Bool → ℕ
near_of n shut = if leb n 30 then n else if shut then 30 else 31

abbrev pub shut_at : List ℕ → List ℕ → List ℕ → ℕ → Bool
shut_at s starts lens j = is_shut (used_to (id_of s starts lens) j) (take 31 (id_of s starts lens j))

-- where the id of row j breaks
abbrev pub id_end : List ℕ → List ℕ → List ℕ → ℕ → ℕ
id_end s starts lens j = get_or starts j 0 + near_of (get_or lens j 0) (shut_at s starts lens j)

-- the rows before j are ids, and row j lies in the line
pub record Named (s starts lens : List ℕ) (j : ℕ) : Type 0 where
  pub rows : Rows s starts lens (j + 1)
  pub names : (i : ℕ) → i < j → Repeat 1 32 sd_name_byte (id_of s starts lens i)

-- an id of 31 bytes or more
pub record Long (s starts lens : List ℕ) (j : ℕ) : Type 0 where
  pub named : Named s starts lens j
  pub long : 31 ≤ get_or lens j 0

-- the id begins with the 31 bytes of t
abbrev pub is_like : List ℕ → List ℕ → Bool
is_like t id = leb 31 (length id) && same_text (take 31 id) t

-- one of the first k ids begins with t, and its byte after that is c, or 0 where it ends there
abbrev pub is_marked : (ℕ → List ℕ) → List ℕ → ℕ → ℕ → Bool
is_marked id t zero c = false
is_marked id t (suc k) c = (is_like t (id k) && eqb (get_or (id k) 31 0) c) || is_marked id t k c

-- a mark is set where the id is like
abbrev pub mark_of : ℕ → Bool → ℕ
mark_of old like = if like then 1 else old

abbrev pub marks_with : List ℕ → List ℕ → List ℕ → List ℕ
marks_with t id seen = set seen (get_or id 31 0) (mark_of (get_or seen (get_or id 31 0) 0) (is_like t id))

pub record Marks (id : ℕ → List ℕ) (t : List ℕ) (k : ℕ) (seen : List ℕ) : Type 0 where
  pub size : length seen ≡ 256
  pub tell : (c : ℕ) → c < 256 → eqb (get_or seen c 0) 1 ≡ is_marked id t k c

pub record Clear (seen : List ℕ) : Type 0 where
  pub size : length seen ≡ 256
  pub clear : (c : ℕ) → get_or seen c 0 ≡ 0

-- a byte of a name, or none
abbrev pub is_asked : ℕ → Bool
is_asked c = eqb c 0 || sd_name_byte c

abbrev pub is_unseen : List ℕ → ℕ → Bool
is_unseen seen c = is_asked c && not (eqb (get_or seen c 0) 1)

-- ---- what is told of the elements

-- tables with room for what tells the ids apart, all zeros
pub record Spacious (s starts lens depths kids : List ℕ) : Type 0 where
  pub noting : Noting s starts lens
  pub room : Room (length starts) depths kids
  pub clear : (q : ℕ) → get_or kids q 0 ≡ 0

-- what is judged by n rows, and by where the elements end or break
pub record Judging (s starts lens depths kids : List ℕ) (n : ℕ) (w : Result ℕ ℕ) : Type 0 where
  pub from : ℕ
  pub listed : Listed s starts lens from n w
  pub spacious : Spacious s starts lens depths kids

pub record Judged (s starts lens : List ℕ) (n : ℕ) (w r : Result ℕ ℕ) : Type 0 where
  pub is : (from : ℕ) → Listed s starts lens from n w → r ≡ each_at [] s from

abbrev pub Tells : List ℕ → ℕ → ℕ → Option (Result ℕ ℕ) → Type 0
Tells s from size None = Beyond s size
Tells s from size (Some w) = w ≡ each_at [] s from
