-- The reader of a line with R-5 finds the strict divisions and no others; and where it fails, `reach` is the longest beginning that is viable.
use Prim.Native.Nat.{ℕ, ◌<◌}
use mathlib.Core.Path.{◌≡◌, refl, sym, ap, ◌∙◌, subst}
use mathlib.Core.Bool.{false}
use mathlib.Core.List.{List, [], ◌++◌, append-nil}
use mathlib.Core.Option.{Option, none, some}
use lib.ListN.{length, take, drop, take-append-drop}
use lib.Seq.{length-take-le}
use Rattle.base.specs.Choose.{is_at}
use Rattle.grammar.specs.Line.{Element, Division, data_then, line_text, message_text, MessageOk, Derives}
use Rattle.grammar.specs.Parse.{Header, division_of, header}
use Rattle.grammar.specs.Parse.Parsed.{failed, found}
use Rattle.grammar.proofs.Readers.{Reads, ToEnd, not_found, fields_reads, next_reads, next_any, next_to_end, into_to_end}
use Rattle.grammar.proofs.Header.{header_then, HeaderOk, header_reads}
use Rattle.grammar.proofs.Data.{message_then, message_reads, message_to_end}
use Rattle.grammar.proofs.Lines.{header_of, line_then}
use Rattle.viable.specs.Viable.{Longest}
use Rattle.viable.specs.Reach.{structured_in, parse_in, reach}
use Rattle.viable.proofs.Reaches.{Reaches, by_parsed, next_reaches, into_reaches}
use Rattle.viable.proofs.Header.{header_reaches}
use Rattle.viable.proofs.Data.{Elements, structured_reads, structured_reaches, strict_elements, elements_strict, message_reaches}

no_bracket : (m : Option (List ℕ)) (r : List ℕ) → MessageOk m → r ≡ [] → is_at (message_then m r) 0 91 ≡ false
no_bracket none r h e = rw e
no_bracket (some m) r h e = refl

abbrev LineOk : Division → Type 0
LineOk d = Derives (line_text d) d

line_ok : (t : Header × (List Element × Option (List ℕ))) → HeaderOk t.0 × (Elements [] t.1.0 × MessageOk t.1.1) → LineOk (division_of t)
line_ok t h =
    let e = elements_strict t.1.0 h.1.0 in
    record {
      text = refl;
      prival_ok = h.0.0.0;
      version_ok = h.0.0.1;
      timestamp_ok = h.0.1.0;
      hostname_ok = h.0.1.1.0;
      app_name_ok = h.0.1.1.1.0;
      procid_ok = h.0.1.1.1.1.0;
      msgid_ok = h.0.1.1.1.1.1;
      elements_ok = e.0;
      ids_differ = e.1;
      message_ok = h.1.1;
    }

pub parse_reads : Reads line_then LineOk (λ r. r ≡ []) parse_in
unfolding parse_in
parse_reads =
    fields_reads
    (next_any header_reads (next_reads structured_reads message_reads no_bracket))
    division_of (λ d. (header_of d, (d.elements, d.message))) line_then (λ d. refl) (λ t r. refl)
    (λ d h. (
      ((h.prival_ok, h.version_ok), (h.timestamp_ok, (h.hostname_ok, (h.app_name_ok, (h.procid_ok, h.msgid_ok))))),
      (strict_elements d.elements h.elements_ok h.ids_differ, h.message_ok),
    ))
    line_ok

pub parse_reaches : Reaches line_then LineOk parse_in reach
unfolding parse_in reach
parse_reaches =
    into_reaches
    (next_reaches header_reads (next_reads structured_reads message_reads no_bracket) header_reaches (next_reaches structured_reads message_reads structured_reaches message_reaches))
    division_of line_then (λ t r. refl) line_ok

pub parse_to_end : ToEnd parse_in
unfolding parse_in
parse_to_end = into_to_end division_of (next_to_end header (next_to_end structured_in message_to_end))

line_then_lem : (d : Division) → line_then d [] ≡ line_text d
line_then_lem d = ap (λ (l : List ℕ). header_then (header_of d) (data_then d.elements l)) (append-nil (message_text d.message))

-- what is found is a strict division
pub parse_sound : (line : List ℕ) (d : Division) (n : ℕ) → parse_in line ≡ found d n → Derives line d
parse_sound line d n e =
    let f = parse_reads.sound line d n e in
    let t : line ≡ line_text d = f.split ∙ ap (line_then d) (parse_to_end line d n e) ∙ line_then_lem d in
    subst (λ (l : List ℕ). Derives l d) (sym t) f.ok

-- each strict division is found
pub parse_found : (line : List ℕ) (d : Division) → Derives line d → parse_in line ≡ found d (length line)
parse_found line d h =
    let k : LineOk d = subst (λ (l : List ℕ). Derives l d) h.text h in
    let t : line ≡ line_then d [] = h.text ∙ sym (line_then_lem d) in
    rw t (parse_reads.complete d [] k refl)

pub parse_failed : (line : List ℕ) → ((d : Division) → Derives line d → ⊥) → parse_in line ≡ failed
parse_failed line h = by_parsed (λ o. parse_in line ≡ o → o ≡ failed) (parse_in line) (λ _ e. refl) (λ d n _ e. absurd (h d (parse_sound line d n e))) refl

-- where the reader fails, there is none
pub none_derived : (line : List ℕ) → parse_in line ≡ failed → (d : Division) → Derives line d → ⊥
none_derived line e d h = not_found (sym e ∙ parse_found line d h)

-- R-13: for every line that the strict grammar does not derive, `reach` is the length of its longest viable beginning
pub reach_longest : (line : List ℕ) → ((d : Division) → Derives line d → ⊥) → Longest line (reach line)
reach_longest line h =
    let e = parse_failed line h in
    let o = parse_reaches.extends line e in
    let d = o.value in
    record {
      inside = parse_reaches.inside line e;
      viable = record { rest = o.rest; rest_bytes = o.small; division = d; derives = subst (λ (l : List ℕ). Derives l d) (sym (line_then_lem d) ∙ o.split) o.ok };
      no_longer = λ m l k v.
          let w = take-append-drop m line in
          let z : reach (take m line ++ drop m line) < length (take m line) = rw (w, length-take-le m line k) l in
          not_found (sym (parse_reaches.dead (take m line) (drop m line) v.rest (ap parse_in w ∙ e) z) ∙ parse_found (take m line ++ v.rest) v.division v.derives);
    }
