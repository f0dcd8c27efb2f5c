-- What differs between two readings, in the order of the request: protocol and version, facility, severity, timestamp, host, app, process id, message id, elements,
-- message.
use Rattle.std.specs.Prelude.{ℕ, zero, suc, ◌+◌, ◌*◌, List, [], ◌∷◌, Bool, true, false, not, ◌&&◌, ◌||◌, eqb, leb, ltb, length, ℤ, pos, negsuc, if◌then◌else◌, Option, Some, None}
use Rattle.base.specs.Texts.{same_text}
use Rattle.record.specs.declared.Protocol.{Protocol}
use Rattle.record.specs.declared.Protocol.TheVariants.{Rfc3164, Rfc5424}
use Rattle.differ.specs.declared.Differences.{Differences}
use Rattle.differ.specs.Seen.{Text, Time, Pair, Seen}

-- ---- the fields but for the elements

-- the protocol and its version
abbrev pub same_protocol : Protocol → Protocol → Bool
same_protocol Rfc3164 Rfc3164 = true
same_protocol Rfc3164 (Rfc5424 w) = false
same_protocol (Rfc5424 v) Rfc3164 = false
same_protocol (Rfc5424 v) (Rfc5424 w) = eqb v w

-- a facility or a severity
abbrev pub same_level : Option ℕ → Option ℕ → Bool
same_level None None = true
same_level None (Some n) = false
same_level (Some m) None = false
same_level (Some m) (Some n) = eqb m n

abbrev pub same_signed : ℤ → ℤ → Bool
same_signed (pos m) (pos n) = eqb m n
same_signed (pos m) (negsuc n) = false
same_signed (negsuc m) (pos n) = false
same_signed (negsuc m) (negsuc n) = eqb m n

-- the instant and the offset
abbrev pub same_time : Time → Time → Bool
same_time Time.untimed Time.untimed = true
same_time Time.untimed (Time.timed s n o) = false
same_time (Time.timed s n o) Time.untimed = false
same_time (Time.timed s n o) (Time.timed t m p) = same_signed s t && eqb n m && same_signed o p

-- absent and empty differ
abbrev pub same_given : Text → Text → Bool
same_given Text.missing Text.missing = true
same_given Text.missing (Text.given t) = false
same_given (Text.given s) Text.missing = false
same_given (Text.given s) (Text.given t) = same_text s t

-- ---- the elements

abbrev pub same_pair : Pair → Pair → Bool
same_pair p q = eqb p.element q.element && same_text p.name q.name && same_text p.value q.value

-- how often a pair occurs
unfoldable pub occurs : Pair → List Pair → ℕ
occurs p [] = 0
occurs p (q ∷ qs) = if same_pair p q then suc (occurs p qs) else occurs p qs

-- how many come before the first that passes a test: all, where none does
unfoldable pub before : {A : Type 0} → (A → Bool) → List A → ℕ
before test [] = 0
before test (x ∷ xs) = if test x then 0 else suc (before test xs)

abbrev pub has : {A : Type 0} → (A → Bool) → List A → Bool
has test xs = ltb (before test xs) (length xs)

-- a pair at position k that does not occur as often in both
abbrev pub odd_at : List Pair → List Pair → ℕ → Pair → Bool
odd_at a b k p = eqb p.element k && not (eqb (occurs p a) (occurs p b))

-- the id at position k: none, where the list has ended
abbrev pub id_at : List (List ℕ) → ℕ → Text
id_at [] k = Text.missing
id_at (t ∷ ts) zero = Text.given t
id_at (t ∷ ts) (suc k) = id_at ts k

-- one id at position k, or none
abbrev pub same_id_at : Seen → Seen → ℕ → Bool
same_id_at a b k = same_given (id_at a.ids k) (id_at b.ids k)

-- Position k differs where one list has ended and the other not, where the ids differ, and where the pairs do: order of no account, repeats counted.
abbrev pub differs_at : Seen → Seen → ℕ → Bool
differs_at a b k = not (same_id_at a b k) || has (odd_at a.pairs b.pairs k) a.pairs || has (odd_at a.pairs b.pairs k) b.pairs

-- n positions from k on
abbrev pub positions : ℕ → ℕ → List ℕ
positions k zero = []
positions k (suc n) = k ∷ positions (suc k) n

-- the positions that one of both has
abbrev pub all_positions : Seen → Seen → List ℕ
all_positions a b = let m = length a.ids in let n = length b.ids in positions 0 (if leb m n then n else m)

-- the first position that differs
abbrev pub first_position : Seen → Seen → ℕ
first_position a b = before (differs_at a b) (all_positions a b)

abbrev pub elements_differ : Seen → Seen → Bool
elements_differ a b = has (differs_at a b) (all_positions a b)

-- Of position k, where both have one id: the first pair that does not occur as often in both, the first line's before the second's: its line and its entry. Else zeros.
abbrev pub pair_at : Seen → Seen → ℕ → ℕ × ℕ
pair_at a b k =
    if not (same_id_at a b k) then (0, 0)
    else if has (odd_at a.pairs b.pairs k) a.pairs then (1, before (odd_at a.pairs b.pairs k) a.pairs)
    else (2, before (odd_at a.pairs b.pairs k) b.pairs)

-- ---- all

abbrev pub differing : Seen → Seen → List Bool
differing a b =
    not (same_protocol a.protocol b.protocol)
    ∷ not (same_level a.facility b.facility)
    ∷ not (same_level a.severity b.severity)
    ∷ not (same_time a.time b.time)
    ∷ not (same_given a.host b.host)
    ∷ not (same_given a.app b.app)
    ∷ not (same_given a.procid b.procid)
    ∷ not (same_given a.msgid b.msgid)
    ∷ elements_differ a b
    ∷ not (same_text a.message b.message)
    ∷ []

-- bit k is the k-th
abbrev pub bits : List Bool → ℕ
bits [] = 0
bits (b ∷ bs) = (if b then 1 else 0) + 2 * bits bs

-- where no element differs, zeros
abbrev pub differences_of : Seen → Seen → Differences
differences_of a b =
    let k = first_position a b in
    if elements_differ a b then record { fields = bits (differing a b); position = k; pair_line = (pair_at a b k).0; pair_entry = (pair_at a b k).1 }
    else record { fields = bits (differing a b); position = 0; pair_line = 0; pair_entry = 0 }
