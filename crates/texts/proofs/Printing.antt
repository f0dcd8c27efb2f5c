-- Printing: a text that is put together of ASCII and of texts of whole characters is UTF-8.
use Rattle.std.specs.Prelude.{Option, Some, None}
use Prim.Native.Nat.{ℕ, zero, suc, ◌+◌, ◌-◌, ◌*◌, ◌/◌, ◌%◌, ◌^◌, ◌<◌}
use mathlib.Core.Path.{◌≡◌, refl, ◌∙◌}
use mathlib.Core.List.{List, [], ◌∷◌, ◌++◌}
use mathlib.Core.Bool.{Bool, true, ◌&&◌}
use native.Mathlib.Omega.{arith}
use lib.Dec.{eqb}
use lib.ListN.{get_or}
use lib.IntN.{ℤ, pos, negsuc, nat_abs}
use Rattle.base.specs.Choose.{within}
use Rattle.base.specs.Bytes.{bytes}
use Rattle.base.specs.Texts.{text_at}
use Rattle.base.proofs.Tests.{both, by_if}
use Rattle.base.proofs.Ranges.{inside}
use Rattle.utf8.specs.Rfc3629.{Utf8, utf8_1}
use Rattle.utf8.specs.Lead.{utf8_from, is_utf8}
use Rattle.utf8.proofs.Texts.{utf8_char, utf8_append, utf8_sound, utf8_complete}
use Rattle.calendar.specs.Instant.{shown}
use Rattle.calendar.specs.declared.DateTime.{DateTime}
use Rattle.record.specs.declared.Place.{Place}
use Rattle.record.specs.declared.Protocol.{Protocol}
use Rattle.record.specs.declared.Protocol.TheVariants.{Rfc3164, Rfc5424}
use Rattle.record.specs.declared.Record.{Record}
use Rattle.record.specs.declared.Timestamp.{Timestamp}
use Rattle.grammar.specs.Line.{Each}
use Rattle.output.specs.Numerals.{fixed, numeral, width}
use Rattle.message_stamp.specs.Stamps.{date_text, time_text, clock_text, fraction_text, sign_of, offset_text, shown_text, stamp_text}
use Rattle.message.specs.Message.{level_or, pri_text, version_text, place_text, field_text, tag_text, names_text, param_text, params_text, other_params, open_text, elements_text, data_text, head_text, printed}
use Rattle.texts.specs.Texts.{OfRecord, OfElement, OfParam}

abbrev IsText : List ℕ → Type 0
IsText t = is_utf8 t ≡ true

join : (a b : List ℕ) → IsText a → IsText b → IsText (a ++ b)
join a b h k = let u = utf8_sound a h in rw u.text (utf8_append u.characters u.each b ∙ k)

-- an ASCII byte, and a text after it
ascii : (b : ℕ) (t : List ℕ) → b < 0x80 → IsText t → IsText (b ∷ t)
ascii b t l h = utf8_char (utf8_1 {a = b} (inside 0 0x7F b (omega arith) (omega arith))) t ∙ h

empty : IsText []
unfolding utf8_from
empty = refl

-- a written text
abbrev all_ascii : List ℕ → Bool
all_ascii [] = true
all_ascii (b ∷ t) = within 0x00 0x7F b && all_ascii t

plain : (t : List ℕ) → all_ascii t ≡ true → IsText t
plain [] h = empty
plain (b ∷ t) h = let (p, q) = both (within 0x00 0x7F b) (all_ascii t) h in utf8_char (utf8_1 {a = b} p) t ∙ plain t q

fixed_text : (k n : ℕ) → IsText (fixed k n)
unfolding fixed
fixed_text zero n = empty
fixed_text (suc k) n = join (fixed k (n / 10)) _ (fixed_text k (n / 10)) (ascii (48 + n % 10) [] (omega arith) empty)

-- the timestamp
date_text_lem : (t : DateTime) → IsText (date_text t)
unfolding date_text
date_text_lem t =
    join (fixed 4 t.year ++ (45 ∷ fixed 2 t.month)) _
    (join (fixed 4 t.year) _ (fixed_text 4 t.year) (ascii 45 _ (omega arith) (fixed_text 2 t.month)))
    (ascii 45 _ (omega arith) (fixed_text 2 t.day))

time_text_lem : (t : DateTime) → IsText (time_text t)
unfolding time_text
time_text_lem t =
    join ((84 ∷ fixed 2 t.hour) ++ (58 ∷ fixed 2 t.minute)) _
    (join (84 ∷ fixed 2 t.hour) _ (ascii 84 _ (omega arith) (fixed_text 2 t.hour)) (ascii 58 _ (omega arith) (fixed_text 2 t.minute)))
    (ascii 58 _ (omega arith) (fixed_text 2 t.second))

fraction_text_lem : (d n : ℕ) → IsText (fraction_text d n)
unfolding fraction_text
fraction_text_lem d n = by_if IsText (eqb d 0) _ _ (λ q. empty) (λ q. ascii 46 _ (omega arith) (fixed_text d (n / 10 ^ (9 - d))))

sign_small : (o : ℤ) → sign_of o < 0x80
sign_small (pos n) = omega arith
sign_small (negsuc n) = omega arith

offset_text_lem : (o : ℤ) → IsText (offset_text o)
unfolding offset_text
offset_text_lem o =
    ascii (sign_of o) _ (sign_small o)
    (join (fixed 2 (nat_abs o / 60)) _ (fixed_text 2 (nat_abs o / 60)) (ascii 58 _ (omega arith) (fixed_text 2 (nat_abs o % 60))))

shown_text_lem : (t : Timestamp) (s : Option DateTime) → IsText (shown_text t s)
unfolding clock_text
shown_text_lem t None = empty
shown_text_lem t (Some clock) =
    join ((date_text clock ++ time_text clock) ++ fraction_text t.digits t.nanos) _
    (join (date_text clock ++ time_text clock) _ (join (date_text clock) _ (date_text_lem clock) (time_text_lem clock)) (fraction_text_lem t.digits t.nanos))
    (offset_text_lem t.offset)

stamp_text_lem : (t : Option Timestamp) → IsText (stamp_text t)
stamp_text_lem None = ascii 45 [] (omega arith) empty
stamp_text_lem (Some t) = shown_text_lem t (shown t.seconds t.offset)

-- the record
pri_text_lem : (r : Record) → IsText (pri_text r)
unfolding pri_text
pri_text_lem r =
    let n = level_or 5 r.facility * 8 + level_or 7 r.severity in
    ascii 60 _ (omega arith) (join (numeral n) (bytes ">") (fixed_text (width n) n) (plain (bytes ">") refl))

version_text_lem : (p : Protocol) → IsText (version_text p)
version_text_lem Rfc3164 = empty
version_text_lem (Rfc5424 v) = fixed_text (width v) v

module _ (line : List ℕ) where
  -- a text of the line, or `-`
  place_text_lem : (p : Place) → Utf8 (text_at line p.start p.len) → IsText (place_text line p)
  place_text_lem p h = by_if IsText p.present _ _ (λ q. utf8_complete _ h) (λ q. plain (bytes "-") refl)

  field_text_lem : (p : Place) → Utf8 (text_at line p.start p.len) → IsText (field_text line p)
  unfolding field_text
  field_text_lem p h = join (place_text line p) (bytes " ") (place_text_lem p h) (plain (bytes " ") refl)

  module _ (r : Record) (h : OfRecord line r) where
    tag_text_lem : IsText (tag_text line r.app r.procid)
    tag_text_lem =
        let app = place_text line r.app in
        let pid = place_text line r.procid in
        let a = place_text_lem r.app h.app in
        by_if IsText r.app.present _ _
        (λ q.
        by_if IsText r.procid.present _ _
        (λ q. join (app ++ bytes "[" ++ pid) (bytes "]: ") (join (app ++ bytes "[") pid (join app (bytes "[") a (plain (bytes "[") refl)) (place_text_lem r.procid h.procid)) (plain (bytes "]: ") refl))
        (λ q. join app (bytes ": ") a (plain (bytes ": ") refl)))
        (λ q. plain (bytes ": ") refl)

    names_text_lem : (p : Protocol) → IsText (names_text line r p)
    names_text_lem Rfc3164 = tag_text_lem
    names_text_lem (Rfc5424 v) =
        join (field_text line r.app ++ field_text line r.procid) (field_text line r.msgid)
        (join (field_text line r.app) (field_text line r.procid) (field_text_lem r.app h.app) (field_text_lem r.procid h.procid))
        (field_text_lem r.msgid h.msgid)

    head_text_lem : IsText (head_text line r)
    unfolding head_text
    head_text_lem =
        let front = pri_text r ++ version_text r.protocol in
        let stamp = stamp_text r.timestamp in
        join (front ++ bytes " " ++ stamp ++ bytes " ") (field_text line r.host)
        (join (front ++ bytes " " ++ stamp) (bytes " ")
        (join (front ++ bytes " ") stamp (join front (bytes " ") (join (pri_text r) _ (pri_text_lem r) (version_text_lem r.protocol)) (plain (bytes " ") refl)) (stamp_text_lem r.timestamp))
        (plain (bytes " ") refl))
        (field_text_lem r.host h.host)

  -- the elements
  param_text_lem : (row : List ℕ) → OfParam line row → IsText (param_text line row)
  unfolding param_text
  param_text_lem row h =
      let name = text_at line (get_or row 1 0) (get_or row 2 0) in
      let value = text_at line (get_or row 3 0) (get_or row 4 0) in
      ascii 32 _ (omega arith)
      (join (name ++ bytes "=\"" ++ value) (bytes "\"")
      (join (name ++ bytes "=\"") value (join name (bytes "=\"") (utf8_complete _ h.name) (plain (bytes "=\"") refl)) (utf8_complete _ h.value))
      (plain (bytes "\"") refl))

  params_text_lem : (k : ℕ) (rows : List (List ℕ)) → Each (OfParam line) rows → IsText (params_text line k rows)
  unfolding params_text
  params_text_lem k [] h = empty
  params_text_lem k (row ∷ rows) h =
      by_if IsText (eqb (get_or row 0 0) k) _ _ (λ q. join (param_text line row) _ (param_text_lem row h.0) (params_text_lem k rows h.1)) (λ q. empty)

  others : (k : ℕ) (rows : List (List ℕ)) → Each (OfParam line) rows → Each (OfParam line) (other_params k rows)
  unfolding other_params
  others k [] h = tt
  others k (row ∷ rows) h = by_if (Each (OfParam line)) (eqb (get_or row 0 0) k) _ _ (λ q. others k rows h.1) (λ q. h)

  elements_text_lem : (k : ℕ) (rows params : List (List ℕ)) → Each (OfElement line) rows → Each (OfParam line) params → IsText (elements_text line k rows params)
  unfolding elements_text open_text
  elements_text_lem k [] params h p = empty
  elements_text_lem k (row ∷ rows) params h p =
      let id = text_at line (get_or row 0 0) (get_or row 1 0) in
      let its = params_text line k params in
      ascii 91 _ (omega arith)
      (join (id ++ its ++ bytes "]") _ (join (id ++ its) (bytes "]") (join id its (utf8_complete _ h.0) (params_text_lem k params p)) (plain (bytes "]") refl))
      (elements_text_lem (k + 1) rows (other_params k params) h.1 (others k params p)))

  data_text_lem : (protocol : Protocol) (elements params : List (List ℕ)) → Each (OfElement line) elements → Each (OfParam line) params
      → IsText (data_text line protocol elements params)
  data_text_lem Rfc3164 [] params h p = empty
  data_text_lem (Rfc5424 v) [] params h p = plain (bytes "- ") refl
  data_text_lem Rfc3164 (row ∷ rows) params h p = join (elements_text line 0 (row ∷ rows) params) (bytes " ") (elements_text_lem 0 (row ∷ rows) params h p) (plain (bytes " ") refl)
  data_text_lem (Rfc5424 v) (row ∷ rows) params h p = join (elements_text line 0 (row ∷ rows) params) (bytes " ") (elements_text_lem 0 (row ∷ rows) params h p) (plain (bytes " ") refl)

  pub printed_text : (r : Record) (elements params : List (List ℕ)) → OfRecord line r → Each (OfElement line) elements → Each (OfParam line) params
      → Utf8 (printed line r elements params)
  unfolding printed
  printed_text r elements params h e p =
      let head = head_text line r ++ names_text line r r.protocol in
      let «data» = data_text line r.protocol elements params in
      utf8_sound _
      (join (head ++ «data») (text_at line r.message.start r.message.len)
      (join head «data» (join (head_text line r) _ (head_text_lem r h) (names_text_lem r h r.protocol)) (data_text_lem r.protocol elements params e p))
      (utf8_complete _ h.message))
