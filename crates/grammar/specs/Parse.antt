-- For private contracts alone: the parser on lists that the code follows: each field is found from the front of what is left, with no second choice, in one pass.
-- No contract of a service names it. proofs/ show that it finds the divisions of Line.antt and no others.
use Rattle.std.specs.Prelude.{ℕ, zero, suc, ◌+◌, Bool, true, false, not, ◌&&◌, List, [], ◌∷◌, length, take, drop, leb, eqb, if◌then◌else◌}
use Rattle.std.proofs.Math.Option.{Option, none, some}
use Rattle.base.specs.Choose.{within, is_at}
use Rattle.base.specs.Runs.{run}
use Rattle.base.specs.Texts.{all_different}
use Rattle.utf8.specs.Lead.{is_utf8}
use Rattle.digits.specs.Digits.{decimal}
use Rattle.calendar.specs.Calendar.{valid_date, valid_time}
use Rattle.grammar.specs.Abnf.{is_digit, print_us_ascii, sd_name_byte}
use Rattle.grammar.specs.Line.{Param, Element, Offset, Timestamp, Division, zero_led, bare, ids_of}

-- What a reader finds at the front of a text: a value and how many bytes it took; or nothing that fits.
pub data Parsed (A : Type 0) : Type 0 where
  failed : Parsed A
  found : A → ℕ → Parsed A

abbrev pub Reader : Type 0 → Type 0
Reader A = List ℕ → Parsed A

abbrev pub on_found : {A B : Type 0} → Parsed A → (A → ℕ → Parsed B) → Parsed B
on_found failed f = failed
on_found (found a n) f = f a n

-- ---- readers made of readers

infixr 4 ◌next◌
module _ {A : Type 0} where
  -- no byte, and the value a
  abbrev pub always : A → Reader A
  always a s = found a 0

  abbrev pub never : Reader A
  never s = failed

  -- the byte b and then p; where b does not stand in front, q
  unfoldable pub choose : ℕ → Reader A → Reader A → Reader A
  choose b p q s = if is_at s 0 b then on_found (p (drop 1 s)) (λ a n. found a (n + 1)) else q s

  -- the byte b and then p
  abbrev pub behind : ℕ → Reader A → Reader A
  behind b p = choose b p never

  -- p and then the byte b
  unfoldable pub closed : Reader A → ℕ → Reader A
  closed p b s = on_found (p s) λ a n. if is_at s n b then found a (n + 1) else failed

  -- what p finds, where it passes the test
  unfoldable pub only : (A → Bool) → Reader A → Reader A
  only t p s = on_found (p s) λ a n. if t a then found a n else failed

  abbrev pub item_and : A → ℕ → Parsed (List A) → Parsed (List A)
  item_and a n failed = failed
  item_and a n (found l m) = found (a ∷ l) (n + 1 + m)

  -- items, each the byte b and then p, up to what b does not stand in front of; k bytes are left of the item before
  unfoldable pub many_from : ℕ → Reader A → ℕ → Reader (List A)
  many_from b p k [] = found [] 0
  many_from b p zero (x ∷ s) = if eqb x b then on_found (p s) (λ a n. item_and a n (many_from b p n s)) else found [] 0
  many_from b p (suc k) (x ∷ s) = many_from b p k s

  abbrev pub many : ℕ → Reader A → Reader (List A)
  many b p = many_from b p 0

module _ {A B : Type 0} where
  -- p and then q
  unfoldable pub ◌next◌ : Reader A → Reader B → Reader (A × B)
  ◌next◌ p q s = on_found (p s) λ a n. on_found (q (drop n s)) λ b m. found (a, b) (n + m)

  -- what p finds, as a value of another type
  unfoldable pub into : (A → B) → Reader A → Reader B
  into f p s = on_found (p s) λ a n. found (f a) n

-- ---- readers of bytes

-- 1*most of a class: all of it that stands in front
unfoldable pub repeat : ℕ → (ℕ → Bool) → Reader (List ℕ)
repeat most p s = let n = run p s in if within 1 most n then found (take n s) n else failed

-- kDIGIT: the first k bytes
unfoldable pub fixed : ℕ → Reader (List ℕ)
fixed k s = if leb k (run is_digit s) then found (take k s) k else failed

-- Where a value stops: at a bare '"' or ']', or at the end. The test: the byte before is a backslash that begins a pair.
unfoldable pub stop : Bool → List ℕ → ℕ
stop paired [] = 0
stop true (b ∷ s) = suc (stop false s)
stop false (b ∷ s) = if bare b then 0 else suc (stop (eqb b 92) s)

-- a value and then %d34
unfoldable pub until_quote : Reader (List ℕ)
until_quote s = let n = stop false s in if is_at s n 34 then found (take n s) (n + 1) else failed

-- all that is left
unfoldable pub all_left : Reader (List ℕ)
all_left s = found s (length s)

unfoldable pub at_end : Reader (Option (List ℕ))
at_end s = if eqb (length s) 0 then found none 0 else failed

-- ---- PRI VERSION SP

abbrev pub is_prival : List ℕ → Bool
is_prival t = not (zero_led t) && leb (decimal t) 191

abbrev pub is_version : List ℕ → Bool
is_version t = not (is_at t 0 48)

unfoldable pub pri : Reader (List ℕ)
pri = behind 60 (closed (only is_prival (repeat 3 is_digit)) 62)

unfoldable pub version : Reader (List ℕ)
version = closed (only is_version (repeat 3 is_digit)) 32

unfoldable pub pri_version : Reader (List ℕ × List ℕ)
pri_version = pri next version

-- ---- TIMESTAMP SP

-- three numbers of a date or of a clock
abbrev pub Three : Type 0
Three = List ℕ × (List ℕ × List ℕ)

-- the byte b and then 2DIGIT
abbrev pub two : ℕ → Reader (List ℕ)
two b = behind b (fixed 2)

abbrev pub is_date : Three → Bool
is_date t = valid_date (decimal t.0) (decimal t.1.0) (decimal t.1.1)

abbrev pub is_time : Three → Bool
is_time t = valid_time (decimal t.0) (decimal t.1.0) (decimal t.1.1)

-- FULL-DATE
unfoldable pub date : Reader Three
date = only is_date (fixed 4 next two 45 next two 45)

-- "T" TIME-HOUR ":" TIME-MINUTE ":" TIME-SECOND
unfoldable pub clock : Reader Three
clock = only is_time (two 84 next two 58 next two 58)

-- [TIME-SECFRAC]
unfoldable pub secfrac : Reader (Option (List ℕ))
secfrac = choose 46 (into some (repeat 6 is_digit)) (always none)

abbrev pub is_zone : List ℕ × List ℕ → Bool
is_zone t = leb (decimal t.0) 23 && leb (decimal t.1) 59

-- TIME-HOUR ":" TIME-MINUTE
unfoldable pub zone : Reader (List ℕ × List ℕ)
zone = only is_zone (fixed 2 next two 58)

abbrev pub east_of : List ℕ × List ℕ → Offset
east_of t = Offset.east t.0 t.1

abbrev pub west_of : List ℕ × List ℕ → Offset
west_of t = Offset.west t.0 t.1

-- TIME-OFFSET
unfoldable pub offset : Reader Offset
offset = choose 90 (always Offset.utc) (choose 43 (into east_of zone) (behind 45 (into west_of zone)))

abbrev pub timestamp_of : Three × (Three × (Option (List ℕ) × Offset)) → Timestamp
timestamp_of t =
    record {
      year = t.0.0;
      month = t.0.1.0;
      day = t.0.1.1;
      hour = t.1.0.0;
      minute = t.1.0.1.0;
      second = t.1.0.1.1;
      secfrac = t.1.1.0;
      offset = t.1.1.1;
    }

-- FULL-DATE "T" FULL-TIME
unfoldable pub full : Reader Timestamp
full = into timestamp_of (date next clock next secfrac next offset)

unfoldable pub timestamp : Reader (Option Timestamp)
timestamp = closed (choose 45 (always none) (into some full)) 32

-- ---- HOSTNAME SP APP-NAME SP PROCID SP MSGID SP

abbrev pub Names : Type 0
Names = List ℕ × (List ℕ × (List ℕ × List ℕ))

abbrev pub printable : ℕ → Reader (List ℕ)
printable most = closed (repeat most print_us_ascii) 32

unfoldable pub names : Reader Names
names = printable 255 next printable 48 next printable 128 next printable 32

-- ---- STRUCTURED-DATA

-- PARAM-VALUE %d34
unfoldable pub value : Reader (List ℕ)
value = only is_utf8 until_quote

abbrev pub sd_name : Reader (List ℕ)
sd_name = repeat 32 sd_name_byte

abbrev pub param_of : List ℕ × List ℕ → Param
param_of t = record { name = t.0; value = t.1 }

-- SD-PARAM
unfoldable pub param : Reader Param
param = into param_of (closed sd_name 61 next behind 34 value)

abbrev pub element_of : List ℕ × List Param → Element
element_of t = record { id = t.0; params = t.1 }

-- what is after the "[" of an SD-ELEMENT
unfoldable pub element : Reader Element
element = into element_of (sd_name next closed (many 32 param) 93)

abbrev pub one_or_more : List Element → Bool
one_or_more es = leb 1 (length es)

-- the elements, whatever their ids are
unfoldable pub listed : Reader (List Element)
listed = choose 45 (always []) (only one_or_more (many 91 element))

abbrev pub ids_differ : List Element → Bool
ids_differ es = all_different (ids_of es)

unfoldable pub structured : Reader (List Element)
structured = only ids_differ listed

-- ---- [SP MSG]

-- the byte order mark, and after it UTF-8; or no mark
abbrev pub is_message : List ℕ → Bool
is_message m = if is_at m 0 0xEF && is_at m 1 0xBB && is_at m 2 0xBF then is_utf8 (drop 3 m) else true

unfoldable pub message : Reader (Option (List ℕ))
message = choose 32 (into some (only is_message all_left)) at_end

-- ---- SYSLOG-MSG

abbrev pub Header : Type 0
Header = (List ℕ × List ℕ) × (Option Timestamp × Names)

-- HEADER SP
unfoldable pub header : Reader Header
header = pri_version next timestamp next names

abbrev pub division_of : Header × (List Element × Option (List ℕ)) → Division
division_of t =
    record {
      prival = t.0.0.0;
      version = t.0.0.1;
      timestamp = t.0.1.0;
      hostname = t.0.1.1.0;
      app_name = t.0.1.1.1.0;
      procid = t.0.1.1.1.1.0;
      msgid = t.0.1.1.1.1.1;
      elements = t.1.0;
      message = t.1.1;
    }

-- the division of a line, and its length
unfoldable pub parse : Reader Division
parse = into division_of (header next structured next message)
