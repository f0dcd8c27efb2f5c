-- RFC 5424 section 6 (RULES Strict) as a relation between a line and its division into fields.
-- `xThen f r` is the text of the field f, as the production above it lays it out, and then r.
use Rattle.std.specs.Prelude.{ℕ, ◌≤◌, ◌≡◌, Bool, true, false, ◌&&◌, ◌||◌, List, [], ◌∷◌, ◌++◌, map, length, get_or, eqb, ltb}
use Rattle.std.proofs.Math.Option.{Option, none, some}
use Rattle.base.specs.Texts.{Distinct}
use Rattle.utf8.specs.Rfc3629.{Utf8}
use Rattle.digits.specs.Digits.{decimal}
use Rattle.calendar.specs.Calendar.{valid_date, valid_time}
use Rattle.grammar.specs.Abnf.{is_digit, print_us_ascii, sd_name_byte, Repeat}

-- ---- the fields. Each holds its text.

pub record Param : Type 0 where
  pub name : List ℕ
  pub value : List ℕ

pub record Element : Type 0 where
  pub id : List ℕ
  pub params : List Param

pub data Offset : Type 0 where
  utc : Offset
  east : (hour minute : List ℕ) → Offset
  west : (hour minute : List ℕ) → Offset

pub record Timestamp : Type 0 where
  pub year : List ℕ
  pub month : List ℕ
  pub day : List ℕ
  pub hour : List ℕ
  pub minute : List ℕ
  pub second : List ℕ
  pub secfrac : Option (List ℕ)
  pub offset : Offset

-- A timestamp NILVALUE is none, no element is NILVALUE; the other fields that may be NILVALUE hold its text, "-".
pub record Division : Type 0 where
  pub prival : List ℕ
  pub version : List ℕ
  pub timestamp : Option Timestamp
  pub hostname : List ℕ
  pub app_name : List ℕ
  pub procid : List ℕ
  pub msgid : List ℕ
  pub elements : List Element
  pub message : Option (List ℕ)

-- ---- the texts

-- [TIME-SECFRAC]            TIME-SECFRAC = "." 1*6DIGIT
abbrev pub secfrac_then : Option (List ℕ) → List ℕ → List ℕ
secfrac_then none r = r
secfrac_then (some f) r = 46 ∷ (f ++ r)

-- TIME-OFFSET = "Z" / TIME-NUMOFFSET
-- TIME-NUMOFFSET = ("+" / "-") TIME-HOUR ":" TIME-MINUTE
abbrev pub offset_then : Offset → List ℕ → List ℕ
offset_then Offset.utc r = 90 ∷ r
offset_then (Offset.east h m) r = 43 ∷ (h ++ (58 ∷ (m ++ r)))
offset_then (Offset.west h m) r = 45 ∷ (h ++ (58 ∷ (m ++ r)))

-- FULL-DATE = DATE-FULLYEAR "-" DATE-MONTH "-" DATE-MDAY
abbrev pub date_then : Timestamp → List ℕ → List ℕ
date_then t r = t.year ++ (45 ∷ (t.month ++ (45 ∷ (t.day ++ r))))

-- FULL-TIME = PARTIAL-TIME TIME-OFFSET
-- PARTIAL-TIME = TIME-HOUR ":" TIME-MINUTE ":" TIME-SECOND [TIME-SECFRAC]
abbrev pub time_then : Timestamp → List ℕ → List ℕ
time_then t r = t.hour ++ (58 ∷ (t.minute ++ (58 ∷ (t.second ++ secfrac_then t.secfrac (offset_then t.offset r)))))

-- TIMESTAMP = NILVALUE / FULL-DATE "T" FULL-TIME
abbrev pub timestamp_then : Option Timestamp → List ℕ → List ℕ
timestamp_then none r = 45 ∷ r
timestamp_then (some t) r = date_then t (84 ∷ time_then t r)

-- *item, one text after the other
abbrev pub each_then : {A : Type 0} → (A → List ℕ → List ℕ) → List A → List ℕ → List ℕ
each_then text [] r = r
each_then text (a ∷ l) r = text a (each_then text l r)

-- SP SD-PARAM               SD-PARAM = PARAM-NAME "=" %d34 PARAM-VALUE %d34
abbrev pub param_then : Param → List ℕ → List ℕ
param_then p r = 32 ∷ (p.name ++ (61 ∷ (34 ∷ (p.value ++ (34 ∷ r)))))

-- SD-ELEMENT = "[" SD-ID *(SP SD-PARAM) "]"
abbrev pub element_then : Element → List ℕ → List ℕ
element_then e r = 91 ∷ (e.id ++ each_then param_then e.params (93 ∷ r))

-- STRUCTURED-DATA = NILVALUE / 1*SD-ELEMENT
abbrev pub data_then : List Element → List ℕ → List ℕ
data_then [] r = 45 ∷ r
data_then (e ∷ es) r = each_then element_then (e ∷ es) r

-- [SP MSG]
abbrev pub message_text : Option (List ℕ) → List ℕ
message_text none = []
message_text (some m) = 32 ∷ m

-- PRI VERSION SP            PRI = "<" PRIVAL ">"
abbrev pub pri_then : Division → List ℕ → List ℕ
pri_then d r = 60 ∷ (d.prival ++ (62 ∷ (d.version ++ (32 ∷ r))))

-- SYSLOG-MSG = HEADER SP STRUCTURED-DATA [SP MSG]
-- HEADER = PRI VERSION SP TIMESTAMP SP HOSTNAME SP APP-NAME SP PROCID SP MSGID
abbrev pub line_text : Division → List ℕ
line_text d =
    pri_then d (timestamp_then d.timestamp (32 ∷ (d.hostname ++ (32 ∷ (d.app_name ++ (32 ∷ (d.procid ++ (32 ∷ (d.msgid ++ (32 ∷
    data_then d.elements (message_text d.message)))))))))))

-- ---- the rules of the fields

-- a zero in front of other digits
abbrev pub zero_led : List ℕ → Bool
zero_led t = eqb (get_or t 0 0) 48 && ltb 1 (length t)

-- PRIVAL = 1*3DIGIT ; range 0 .. 191          no leading zero but in "0"
pub record PrivalOk (t : List ℕ) : Type 0 where
  pub digits : Repeat 1 3 is_digit t
  pub plain : zero_led t ≡ false
  pub range : decimal t ≤ 191

-- VERSION = NONZERO-DIGIT 0*2DIGIT            1 to 999
pub record VersionOk (t : List ℕ) : Type 0 where
  pub digits : Repeat 1 3 is_digit t
  pub nonzero : eqb (get_or t 0 0) 48 ≡ false

-- TIME-SECFRAC = "." 1*6DIGIT
abbrev pub SecfracOk : Option (List ℕ) → Type 0
SecfracOk none = Unit {0}
SecfracOk (some f) = Repeat 1 6 is_digit f

-- TIME-HOUR = 2DIGIT ; 00-23                  TIME-MINUTE = 2DIGIT ; 00-59
pub record NumOffsetOk (hour minute : List ℕ) : Type 0 where
  pub hour_digits : Repeat 2 2 is_digit hour
  pub minute_digits : Repeat 2 2 is_digit minute
  pub hour_range : decimal hour ≤ 23
  pub minute_range : decimal minute ≤ 59

abbrev pub OffsetOk : Offset → Type 0
OffsetOk Offset.utc = Unit {0}
OffsetOk (Offset.east h m) = NumOffsetOk h m
OffsetOk (Offset.west h m) = NumOffsetOk h m

-- DATE-FULLYEAR = 4DIGIT, DATE-MONTH = 2DIGIT ; 01-12, DATE-MDAY = 2DIGIT ; based on month/year
-- TIME-HOUR = 2DIGIT ; 00-23, TIME-MINUTE = 2DIGIT ; 00-59, TIME-SECOND = 2DIGIT ; 00-59
pub record FullOk (t : Timestamp) : Type 0 where
  pub year_digits : Repeat 4 4 is_digit t.year
  pub month_digits : Repeat 2 2 is_digit t.month
  pub day_digits : Repeat 2 2 is_digit t.day
  pub date : valid_date (decimal t.year) (decimal t.month) (decimal t.day) ≡ true
  pub hour_digits : Repeat 2 2 is_digit t.hour
  pub minute_digits : Repeat 2 2 is_digit t.minute
  pub second_digits : Repeat 2 2 is_digit t.second
  pub time : valid_time (decimal t.hour) (decimal t.minute) (decimal t.second) ≡ true
  pub secfrac_ok : SecfracOk t.secfrac
  pub offset_ok : OffsetOk t.offset

abbrev pub TimestampOk : Option Timestamp → Type 0
TimestampOk none = Unit {0}
TimestampOk (some t) = FullOk t

-- '"' and ']', which stand in a value after a backslash alone
abbrev pub bare : ℕ → Bool
bare b = eqb b 34 || eqb b 93

-- The escapes of a PARAM-VALUE. Backslash pairs are taken from the left, whatever the second byte is; none is left alone at the end.
pub data Escaped : List ℕ → Type 0 where
  nothing : Escaped []
  plain : {b : ℕ} {t : List ℕ} → bare b ≡ false → eqb b 92 ≡ false → Escaped t → Escaped (b ∷ t)
  pair : {b : ℕ} {t : List ℕ} → Escaped t → Escaped (92 ∷ b ∷ t)

-- PARAM-NAME = SD-NAME                        SD-NAME = 1*32PRINTUSASCII except '=', SP, ']', %d34
-- PARAM-VALUE = UTF-8-STRING
pub record ParamOk (p : Param) : Type 0 where
  pub name_ok : Repeat 1 32 sd_name_byte p.name
  pub value_utf8 : Utf8 p.value
  pub value_escaped : Escaped p.value

-- each item obeys its rule
abbrev pub Each : {A : Type 0} → (A → Type 0) → List A → Type 0
Each P [] = Unit {0}
Each P (a ∷ l) = P a × Each P l

-- SD-ID = SD-NAME
pub record ElementOk (e : Element) : Type 0 where
  pub id_ok : Repeat 1 32 sd_name_byte e.id
  pub params_ok : Each ParamOk e.params

-- The ids of the elements, in their order. "The same SD-ID MUST NOT exist more than once in a message" (6.3.2): they are pairwise different, byte for byte, so that
-- `t` and `T` are two ids. The names of an element's parameters may repeat (6.3.3).
abbrev pub ids_of : List Element → List (List ℕ)
ids_of es = map (λ (e : Element). e.id) es

-- MSG = MSG-ANY / MSG-UTF8                    MSG-ANY = *OCTET ; not starting with BOM
-- MSG-UTF8 = BOM UTF-8-STRING                 BOM = %xEF.BB.BF
abbrev pub MessageOk : Option (List ℕ) → Type 0
MessageOk none = Unit {0}
MessageOk (some m) = (u : List ℕ) → m ≡ 0xEF ∷ 0xBB ∷ 0xBF ∷ u → Utf8 u

-- The line divides into the fields d.
-- HOSTNAME = NILVALUE / 1*255PRINTUSASCII     APP-NAME = NILVALUE / 1*48PRINTUSASCII
-- PROCID = NILVALUE / 1*128PRINTUSASCII       MSGID = NILVALUE / 1*32PRINTUSASCII        (NILVALUE = "-" is PRINTUSASCII)
pub record Derives (line : List ℕ) (d : Division) : Type 0 where
  pub text : line ≡ line_text d
  pub prival_ok : PrivalOk d.prival
  pub version_ok : VersionOk d.version
  pub timestamp_ok : TimestampOk d.timestamp
  pub hostname_ok : Repeat 1 255 print_us_ascii d.hostname
  pub app_name_ok : Repeat 1 48 print_us_ascii d.app_name
  pub procid_ok : Repeat 1 128 print_us_ascii d.procid
  pub msgid_ok : Repeat 1 32 print_us_ascii d.msgid
  pub elements_ok : Each ElementOk d.elements
  pub ids_differ : Distinct (ids_of d.elements)
  pub message_ok : MessageOk d.message
