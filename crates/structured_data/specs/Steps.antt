-- For private contracts alone: steps of the walk over structured data, by positions of the text `s`.
use Rattle.std.specs.Prelude.{ℕ, ◌+◌, ◌-◌, ◌≤◌, ◌<◌, ◌≡◌, List, Bool, true, false, ◌&&◌, leb, length, take, drop, if◌then◌else◌, Option, Some, None}
use Rattle.std.proofs.lemmas.List.Edits.{sets}
use Rattle.base.specs.Choose.{within, is_at}
use Rattle.record.specs.Params.{blank}
use Rattle.parsers.specs.Steps.{blanks_from}
use Rattle.structured_data.specs.Param.{is_named, quoted_len}
use Rattle.structured_data.specs.Element.{Params, id_len, more_params, params_from}
use Rattle.structured_data.specs.Data.{Item, item_from}
use Rattle.structured_data.specs.Data.Item.{taken, skipped, ended}
use Rattle.structured_data.specs.declared.Rules.{Rules}
use Rattle.structured_data.specs.declared.Rules.TheVariants.{Rfc3164Rules, Rfc5424Rules}
use Rattle.structured_data.specs.declared.Param.{Param}
use Rattle.structured_data.specs.declared.Entry.{Entry}
use Rattle.structured_data.specs.declared.Walk.{Walk}
use Rattle.structured_data.specs.declared.Open.{Open}
use Rattle.structured_data.specs.declared.Turn.{Turn}

-- ASCII above the space that ends no id
abbrev pub is_plain : ℕ → Bool
is_plain b = within 33 127 b && is_named b

-- the quote that ends the value whose first quote is at `quote`
unfoldable pub value_end : List ℕ → ℕ → Option ℕ
value_end s quote =
    let end = quote + 1 + quoted_len false (drop (quote + 1) s) in
    if is_at s quote 34 && is_at s end 34 then Some end else None

-- how many parameters there are, and the position after them
abbrev pub walk_of : Params → Walk
walk_of ps = record { count = length ps.rows; next = ps.next }

abbrev pub walk_from : List ℕ → ℕ → Walk
walk_from s at = walk_of (params_from 0 at (drop at s))

-- the entry of a parameter of element `e` at `start`, and the position after it
abbrev pub entry_of : ℕ → ℕ → Option Param → Entry
entry_of e start None = record { row = blank; next = start }
entry_of e start (Some x) = record { row = record { element = e; name_start = start; name_len = x.name; value_start = start + x.value; value_len = x.value_len }; next = start + x.len }

-- the element whose parameters start at `at` fails
abbrev pub Fails : List ℕ → ℕ → Type 0
Fails s at = is_at s (walk_from s at).next 93 ≡ false

-- it does where the walk over its parameters goes past `stop`
pub record Stops (s : List ℕ) (at stop : ℕ) : Type 0 where
  pub at_within : at ≤ length s
  pub past_stop : stop < (walk_from s at).next → Fails s at

-- the whole walk; or one that was given up because the element fails, and which then ends at `at`, where no `]` stands
pub data Ends (s : List ℕ) (at : ℕ) (walk : Walk) : Type 0 where
  whole : walk ≡ walk_from s at → Ends s at walk
  given_up : walk.next ≡ at → is_at s at 93 ≡ false → Fails s at → Ends s at walk

-- room for rows from index `first` up to `end`; an element with more parameters fails
pub record Holds (s : List ℕ) (at stop : ℕ) (table : List (List ℕ)) (first end : ℕ) : Type 0 where
  pub stops : Stops s at stop
  pub in_order : first ≤ end
  pub end_within : end ≤ length table
  pub past_end : end - first < (walk_from s at).count → Fails s at

-- rows that the walk passed are stored: all, where it ends before `]`
pub record Stores (s : List ℕ) (e at : ℕ) (old : List (List ℕ)) (first end : ℕ) (walk : Walk) (new : List (List ℕ)) : Type 0 where
  pub ends : Ends s at walk
  pub kept : ℕ
  pub few : kept ≤ end - first
  pub stored : new ≡ sets old first (take kept (params_from e at (drop at s)).rows)
  pub all : is_at s walk.next 93 ≡ true → length (params_from e at (drop at s)).rows ≤ kept

-- the length of an element's id, and where its parameters start; no id where no element starts
unfoldable pub open_from : List ℕ → ℕ → Open
open_from s at =
    let n = id_len (drop (at + 1) s) in
    if is_at s at 91 && leb 1 n then record { id = n; start = blanks_from s (at + 1 + n) }
    else record { id = 0; start = length s }

abbrev pub ends_list : Rules → Bool
ends_list Rfc3164Rules = true
ends_list Rfc5424Rules = false

-- what an item adds to the counts, and the position after it; the end of the list adds nothing and stays where it is
abbrev pub turn_of : ℕ → ℕ → Item → Turn
turn_of at dead (taken row params next) = record { elements = 1; params = length params; next = next; dead = dead }
turn_of at dead (skipped next) = record { elements = 0; params = 0; next = next; dead = dead }
turn_of at dead ended = record { elements = 0; params = 0; next = at; dead = dead }

-- where a walk ends that passes the `]` at `r`, which is then in a value: it goes on after the quote that ends the value
abbrev pub fate_of : List ℕ → ℕ → ℕ
fate_of s r =
    let sep = r + 2 + quoted_len false (drop (r + 1) s) in
    (more_params 0 0 sep (drop sep s)).next

-- from `at` up to `dead`, a walk that passes a `]` ends before none
pub record Dead (s : List ℕ) (at dead : ℕ) : Type 0 where
  pub within_s : dead ≤ length s
  pub fails : (r : ℕ) → at ≤ r → r < dead → is_at s r 93 ≡ true → is_at s (fate_of s r) 93 ≡ false

-- the end of the line, or a `]` of those
pub data Stop (s : List ℕ) (at dead stop : ℕ) : Type 0 where
  nowhere : stop ≡ length s → Stop s at dead stop
  there : at ≤ stop → stop < dead → is_at s stop 93 ≡ true → Stop s at dead stop

-- what is known of the element at `at`: `id` bytes of id, and the walk over its parameters
pub record Closes (s : List ℕ) (at id : ℕ) (walk : Walk) (dead : ℕ) : Type 0 where
  pub named : id ≡ (open_from s at).id
  pub ends : Ends s (open_from s at).start walk
  pub alive : Dead s at dead

-- the turn is that of the item at `at`, whatever its element's number
pub record Turns (rules : Rules) (s : List ℕ) (at : ℕ) (turn : Turn) : Type 0 where
  pub is : (e : ℕ) → turn ≡ turn_of at turn.dead (item_from rules e at (drop at s))
  pub alive : Dead s turn.next turn.dead
