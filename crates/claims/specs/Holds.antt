-- For private contracts alone: the check of a claim that the code follows, field after field: what is claimed is held against the bytes where it is claimed to stand.
-- No contract of the service names it. proofs/ show that it holds of the claims of Claims.antt and of no others.
use Rattle.std.specs.Prelude.{ℕ, zero, suc, ◌+◌, Bool, true, false, not, ◌&&◌, List, [], ◌∷◌, ◌++◌, leb, eqb, ℤ, pos, negsuc, length, get_or, if◌then◌else◌, Option, Some, None}
use Rattle.base.specs.Choose.{within, is_at}
use Rattle.base.specs.Texts.{text_at, same_text, all_different}
use Rattle.utf8.specs.Lead.{is_utf8}
use Rattle.output.specs.Numerals.{width, numeral}
use Rattle.record.specs.declared.Place.{Place}
use Rattle.record.specs.declared.Protocol.{Protocol}
use Rattle.record.specs.declared.Protocol.TheVariants.{Rfc3164, Rfc5424}
use Rattle.record.specs.declared.Span.{Span}
use Rattle.record.specs.declared.StrictRecord.{StrictRecord}
use Rattle.grammar.specs.Abnf.{print_us_ascii, sd_name_byte}
use Rattle.grammar.specs.Line.{bare, timestamp_then}
use Rattle.grammar.specs.Parse.{is_message}
use Rattle.suits.specs.Suits.{stamp_suits}
use Rattle.claims.specs.Claims.{Claim}
use Rattle.claims.specs.Texts.{version_of, priority_of, zone_at, written_stamp}
use Rattle.record.specs.declared.Timestamp.{Timestamp}

-- ---- one thing after another

abbrev pub next_if : Bool → ℕ → Option ℕ
next_if b at = if b then Some at else None

abbrev pub on_next : Option ℕ → (ℕ → Option ℕ) → Option ℕ
on_next None f = None
on_next (Some n) f = f n

-- the byte b
unfoldable pub byte_next : List ℕ → ℕ → ℕ → Option ℕ
byte_next line at b = next_if (is_at line at b) (at + 1)

-- every byte passes the test
abbrev pub every : (ℕ → Bool) → List ℕ → Bool
every p [] = true
every p (b ∷ t) = p b && every p t

-- the text stands there
abbrev pub stands_at : List ℕ → ℕ → List ℕ → Bool
stands_at line at t = same_text (text_at line at (length t)) t

-- 1 to `most` bytes of a class, from `at` on
abbrev pub class_at : List ℕ → ℕ → (ℕ → Bool) → ℕ → ℕ → Bool
class_at line most p at len = within 1 most len && leb (at + len) (length line) && every p (text_at line at len)

-- ---- PRI VERSION SP: the digits of the numbers

abbrev pub level_holds : ℕ → Option ℕ → Bool
level_holds most None = false
level_holds most (Some n) = leb n most

abbrev pub protocol_holds : Protocol → Bool
protocol_holds Rfc3164 = false
protocol_holds (Rfc5424 v) = within 1 999 v

abbrev pub head_text : ℕ → ℕ → List ℕ
head_text p v = 60 ∷ (numeral p ++ (62 ∷ (numeral v ++ (32 ∷ []))))

unfoldable pub head_next : List ℕ → Option ℕ → Option ℕ → Protocol → Option ℕ
head_next line f s p =
    next_if (level_holds 23 f && level_holds 7 s && protocol_holds p && stands_at line 0 (head_text (priority_of f s) (version_of p))) (width (priority_of f s) + width (version_of p) + 3)

-- ---- TIMESTAMP SP: its text as the claimed numbers are written

-- `Z` and both signs may stand for 0
abbrev pub sign_holds : ℕ → ℤ → Bool
sign_holds b (pos zero) = true
sign_holds b (pos (suc n)) = not (eqb b 90) && not (eqb b 45)
sign_holds b (negsuc n) = not (eqb b 90) && eqb b 45

abbrev pub stamp_holds : List ℕ → ℕ → Place → Option Timestamp → Bool
stamp_holds line at p None = not p.present && eqb p.start 0 && eqb p.len 0 && is_at line at 45
stamp_holds line at p (Some t) =
    stamp_suits (Some t)
    && leb t.digits 6
    && p.present
    && eqb p.start at
    && eqb p.len (length (timestamp_then (written_stamp line at (Some t)) []))
    && sign_holds (get_or line (zone_at at t.digits) 0) t.offset
    && stands_at line at (timestamp_then (written_stamp line at (Some t)) [])

-- how many bytes a place takes: that of an absent text is "-"
abbrev pub len_of : Place → ℕ
len_of p = if p.present then p.len else 1

unfoldable pub stamp_next : List ℕ → ℕ → Place → Option Timestamp → Option ℕ
stamp_next line at p stamp = if stamp_holds line at p stamp then byte_next line (at + len_of p) 32 else None

-- ---- HOSTNAME SP APP-NAME SP PROCID SP MSGID SP

-- given and with the text's rules, or absent and "-" in the line
abbrev pub text_holds : List ℕ → ℕ → ℕ → Place → Bool
text_holds line most at p =
    if p.present then eqb p.start at && class_at line most print_us_ascii at p.len && not (eqb p.len 1 && is_at line at 45)
    else eqb p.start 0 && eqb p.len 0 && is_at line at 45

unfoldable pub text_next : List ℕ → ℕ → ℕ → Place → Option ℕ
text_next line most at p = if text_holds line most at p then byte_next line (at + len_of p) 32 else None

-- ---- HEADER SP

abbrev pub names_next : List ℕ → ℕ → Place → Place → Place → Option ℕ
names_next line at app procid msgid =
    on_next (text_next line 48 at app) λ b. on_next (text_next line 128 b procid) λ c. text_next line 32 c msgid

abbrev pub header_next : List ℕ → StrictRecord → Option ℕ
header_next line r =
    let c = r.common in
    on_next (head_next line c.facility c.severity c.protocol) λ a.
    on_next (stamp_next line a r.timestamp_text c.timestamp) λ b.
    on_next (text_next line 255 b c.host) λ d. names_next line d c.app c.procid c.msgid

-- ---- STRUCTURED-DATA

-- backslash pairs from the left, no '"' or ']' bare, none left alone at the end
abbrev pub well_escaped : Bool → List ℕ → Bool
well_escaped paired [] = not paired
well_escaped true (b ∷ t) = well_escaped false t
well_escaped false (b ∷ t) = not (bare b) && well_escaped (eqb b 92) t

-- a value, from `at` on
abbrev pub value_at : List ℕ → ℕ → ℕ → Bool
value_at line at len = leb (at + len) (length line) && is_utf8 (text_at line at len) && well_escaped false (text_at line at len)

-- a name, '=' and '"', from `at` on
abbrev pub name_holds : List ℕ → ℕ → ℕ → Bool
name_holds line at n = class_at line 32 sd_name_byte at n && is_at line (at + n) 61 && is_at line (at + n + 1) 34

-- a value and '"'
abbrev pub value_holds : List ℕ → ℕ → ℕ → Bool
value_holds line at m = value_at line at m && is_at line (at + m) 34

-- the entry of a parameter of element k, whose space is at `at`
unfoldable pub param_next : List ℕ → ℕ → ℕ → List ℕ → Option ℕ
param_next line k at row =
    let n = get_or row 2 0 in
    let m = get_or row 4 0 in
    next_if (is_at line at 32 && same_text row (k ∷ (at + 1) ∷ n ∷ (at + n + 3) ∷ m ∷ []) && name_holds line (at + 1) n && value_holds line (at + n + 3) m) (at + n + m + 4)

-- the entries of the parameters of element k
abbrev pub params_next : List ℕ → ℕ → ℕ → List (List ℕ) → Option ℕ
params_next line k at [] = Some at
params_next line k at (row ∷ rows) = on_next (param_next line k at row) λ b. params_next line k b rows

-- the entry of an element, whose '[' is at `at`: it goes on behind the id
unfoldable pub id_next : List ℕ → ℕ → List ℕ → Option ℕ
id_next line at row =
    let n = get_or row 1 0 in
    next_if (is_at line at 91 && same_text row ((at + 1) ∷ n ∷ []) && class_at line 32 sd_name_byte (at + 1) n) (at + n + 1)

-- no entry is left
abbrev pub nothing_left : List (List ℕ) → ℕ → Option ℕ
nothing_left [] at = Some at
nothing_left (row ∷ rows) at = None

-- the entries in front that are of element k, and those behind them
abbrev pub front : ℕ → List (List ℕ) → List (List ℕ)
front k [] = []
front k (row ∷ rows) = if eqb (get_or row 0 0) k then row ∷ front k rows else []

abbrev pub rest : ℕ → List (List ℕ) → List (List ℕ)
rest k [] = []
rest k (row ∷ rows) = if eqb (get_or row 0 0) k then rest k rows else row ∷ rows

-- the entries of the elements from element k on, and of their parameters
abbrev pub elements_next : List ℕ → ℕ → ℕ → List (List ℕ) → List (List ℕ) → Option ℕ
elements_next line k at [] params = nothing_left params at
elements_next line k at (row ∷ rows) params =
    on_next (id_next line at row) λ a.
    on_next (params_next line k a (front k params)) λ b.
    on_next (byte_next line b 93) λ c. elements_next line (k + 1) c rows (rest k params)

-- no element is "-"
abbrev pub data_next : List ℕ → ℕ → List (List ℕ) → List (List ℕ) → Option ℕ
data_next line at [] params = on_next (nothing_left params at) λ a. byte_next line a 45
data_next line at (row ∷ rows) params = elements_next line 0 at (row ∷ rows) params

-- the ids of the entries
abbrev pub ids_at : List ℕ → List (List ℕ) → List (List ℕ)
ids_at line [] = []
ids_at line (row ∷ rows) = text_at line (get_or row 0 0) (get_or row 1 0) ∷ ids_at line rows

-- ---- [SP MSG]: absent at the line's end, or a space and all that is left

abbrev pub message_holds : List ℕ → ℕ → Bool → Span → Bool
message_holds line at has m =
    if has then is_at line at 32 && eqb m.start (at + 1) && eqb (at + 1 + m.len) (length line) && is_message (text_at line (at + 1) m.len)
    else eqb m.start 0 && eqb m.len 0 && eqb at (length line)

-- ---- all of it

abbrev pub end_holds : List ℕ → Claim → Option ℕ → Bool
end_holds line c None = false
end_holds line c (Some at) = all_different (ids_at line c.elements) && message_holds line at c.reading.has_message c.reading.common.message

unfoldable pub holds : List ℕ → Claim → Bool
holds line c = end_holds line c (on_next (header_next line c.reading) λ a. data_next line a c.elements c.params)
