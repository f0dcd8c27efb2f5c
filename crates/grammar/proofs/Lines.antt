-- The parser finds the divisions of a line and no others, so that a line has one division or none.
use Prim.Native.Nat.{ℕ}
use mathlib.Core.Path.{◌≡◌, refl, sym, ap, ◌∙◌, subst}
use mathlib.Core.Bool.{false}
use mathlib.Core.List.{List, [], append-nil}
use mathlib.Core.Option.{Option, none, some}
use lib.ListN.{length}
use Rattle.base.specs.Choose.{is_at}
use Rattle.grammar.specs.Line.{Division, data_then, line_text, message_text, MessageOk, Derives}
use Rattle.grammar.specs.Parse.{Header, division_of, header, structured, parse}
use Rattle.grammar.specs.Parse.Parsed.{failed, found}
use Rattle.grammar.proofs.Readers.{Reads, ToEnd, not_found, fields_reads, next_reads, next_any, next_to_end, into_to_end}
use Rattle.grammar.proofs.Header.{header_then, header_reads}
use Rattle.grammar.proofs.Data.{data_reads, message_then, message_reads, message_to_end}

-- the header of a division
abbrev pub header_of : Division → Header
header_of d = ((d.prival, d.version), (d.timestamp, (d.hostname, (d.app_name, (d.procid, d.msgid)))))

abbrev pub line_then : Division → List ℕ → List ℕ
line_then d r = header_then (header_of d) (data_then d.elements (message_then d.message r))

no_bracket : (m : Option (List ℕ)) (r : List ℕ) → MessageOk m → r ≡ [] → is_at (message_then m r) 0 91 ≡ false
no_bracket none r h e = rw e
no_bracket (some m) r h e = refl

pub parse_reads : Reads line_then (λ d. Derives (line_text d) d) (λ r. r ≡ []) parse
unfolding parse
parse_reads =
    fields_reads
    (next_any header_reads (next_reads data_reads message_reads no_bracket))
    division_of (λ d. (header_of d, (d.elements, d.message))) line_then (λ d. refl) (λ t r. refl)
    (λ d h. (
      ((h.prival_ok, h.version_ok), (h.timestamp_ok, (h.hostname_ok, (h.app_name_ok, (h.procid_ok, h.msgid_ok))))),
      ((h.elements_ok, h.ids_differ), h.message_ok),
    ))
    (λ t h.
    record {
      text = refl;
      prival_ok = h.0.0.0;
      version_ok = h.0.0.1;
      timestamp_ok = h.0.1.0;
      hostname_ok = h.0.1.1.0;
      app_name_ok = h.0.1.1.1.0;
      procid_ok = h.0.1.1.1.1.0;
      msgid_ok = h.0.1.1.1.1.1;
      elements_ok = h.1.0.0;
      ids_differ = h.1.0.1;
      message_ok = h.1.1;
    })

pub parse_to_end : ToEnd parse
unfolding parse
parse_to_end = into_to_end division_of (next_to_end header (next_to_end structured message_to_end))

line_then_lem : (d : Division) → line_then d [] ≡ line_text d
line_then_lem d = ap (λ (l : List ℕ). header_then (header_of d) (data_then d.elements l)) (append-nil (message_text d.message))

-- what is found is a division
pub parse_sound : (line : List ℕ) (d : Division) (n : ℕ) → parse line ≡ found d n → Derives line d
parse_sound line d n e =
    let f = parse_reads.sound line d n e in
    let t : line ≡ line_text d = f.split ∙ ap (line_then d) (parse_to_end line d n e) ∙ line_then_lem d in
    subst (λ (l : List ℕ). Derives l d) (sym t) f.ok

-- each division is found
pub parse_found : (line : List ℕ) (d : Division) → Derives line d → parse line ≡ found d (length line)
parse_found line d h =
    let k : Derives (line_text d) d = subst (λ (l : List ℕ). Derives l d) h.text h in
    let t : line ≡ line_then d [] = h.text ∙ sym (line_then_lem d) in
    rw t (parse_reads.complete d [] k refl)

-- no line has two divisions
pub unambiguous : (line : List ℕ) (d d' : Division) → Derives line d → Derives line d' → d ≡ d'
unambiguous line d d' h k =
    let p = parse_found line d h in
    let q = parse_found line d' k in
    cc

-- where the parser fails, there is none
pub none_derived : (line : List ℕ) → parse line ≡ failed → (d : Division) → Derives line d → ⊥
none_derived line e d h = not_found (sym e ∙ parse_found line d h)
