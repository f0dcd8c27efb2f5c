-- Where the texts of a division stand in its line.
use Prim.Native.Nat.{ℕ, ◌+◌}
use mathlib.Core.Path.{◌≡◌, refl, sym, ap, ◌∙◌}
use mathlib.Core.List.{List, [], ◌∷◌, ◌++◌}
use mathlib.Core.Option.{Option, none, some}
use native.Mathlib.Nat.{add-zero}
use native.Mathlib.Omega.{arith}
use lib.ListN.{length, get_or, take, drop}
use lib.Seq.{take-append_seam, drop-append_seam, drop-drop, get_or-drop}
use Rattle.base.specs.Texts.{text_at}
use Rattle.grammar.specs.Line.{Timestamp, Division, timestamp_then, data_then, message_text, TimestampOk, Derives}
use Rattle.grammar.specs.Reading.{timestamp_at, hostname_at, app_name_at, procid_at, msgid_at, data_at, data_end}
use Rattle.grammar.proofs.Header.{full_reads}
use Rattle.grammar.proofs.Data.{data_reads}

-- r stands in the line from the place `at` on
pub record Here (line : List ℕ) (at : ℕ) (r : List ℕ) : Type 0 where
  pub is : drop at line ≡ r

module _ {line : List ℕ} where
  pub here_all : {r : List ℕ} → line ≡ r → Here line 0 r
  here_all e = record { is = e }

  pub here_next : {at b : ℕ} {r : List ℕ} → Here line at (b ∷ r) → Here line (at + 1) r
  here_next {at} h = record { is = sym (drop-drop 1 at line) ∙ ap (drop 1) h.is }

  pub here_on : {at : ℕ} (t : List ℕ) {r : List ℕ} → Here line at (t ++ r) → Here line (at + length t) r
  here_on {at} t {r} h = record { is = sym (drop-drop (length t) at line) ∙ ap (drop (length t)) h.is ∙ drop-append_seam t r }

  pub here_text : {at : ℕ} (t r : List ℕ) → Here line at (t ++ r) → text_at line at (length t) ≡ t
  here_text t r h = ap (take (length t)) h.is ∙ take-append_seam t r

  pub here_byte : {at b : ℕ} {r : List ℕ} → Here line at (b ∷ r) → get_or line at 0 ≡ b
  here_byte {at} h = ap (λ (k : ℕ). get_or line k 0) (sym (add-zero at)) ∙ sym (get_or-drop at line 0 0) ∙ ap (λ (l : List ℕ). get_or l 0 0) h.is

  pub moved : {at : ℕ} (to : ℕ) {r : List ℕ} → Here line at r → at ≡ to → Here line to r
  moved to h q = record { is = ap (λ (k : ℕ). drop k line) (sym q) ∙ h.is }

  pub here_as : {at : ℕ} {r r' : List ℕ} → Here line at r → r ≡ r' → Here line at r'
  here_as h q = record { is = h.is ∙ q }

pub timestamp_plain : (t : Option Timestamp) (r : List ℕ) → TimestampOk t → timestamp_then t r ≡ timestamp_then t [] ++ r
timestamp_plain none r h = refl
timestamp_plain (some t) r h = full_reads.plain t r h

module _ (d : Division) where
  abbrev pub after_msgid : List ℕ
  after_msgid = 32 ∷ data_then d.elements (message_text d.message)

  abbrev pub after_procid : List ℕ
  after_procid = 32 ∷ (d.msgid ++ after_msgid)

  abbrev pub after_app : List ℕ
  after_app = 32 ∷ (d.procid ++ after_procid)

  abbrev pub after_host : List ℕ
  after_host = 32 ∷ (d.app_name ++ after_app)

  abbrev pub after_timestamp : List ℕ
  after_timestamp = 32 ∷ (d.hostname ++ after_host)

pub record Laid (line : List ℕ) (d : Division) : Type 0 where
  pub at_timestamp : Here line (timestamp_at d) (timestamp_then d.timestamp (after_timestamp d))
  pub at_host : Here line (hostname_at d) (d.hostname ++ after_host d)
  pub at_app : Here line (app_name_at d) (d.app_name ++ after_app d)
  pub at_procid : Here line (procid_at d) (d.procid ++ after_procid d)
  pub at_msgid : Here line (msgid_at d) (d.msgid ++ after_msgid d)
  pub host_is : text_at line (hostname_at d) (length d.hostname) ≡ d.hostname
  pub app_is : text_at line (app_name_at d) (length d.app_name) ≡ d.app_name
  pub procid_is : text_at line (procid_at d) (length d.procid) ≡ d.procid
  pub msgid_is : text_at line (msgid_at d) (length d.msgid) ≡ d.msgid
  pub at_data : Here line (data_at d) (data_then d.elements (message_text d.message))
  pub at_end_lem : Here line (data_end d) (message_text d.message)

pub laid : (line : List ℕ) (d : Division) → Derives line d → Laid line d
laid line d h =
    let a : Here line (0 + 1 + length d.prival + 1 + length d.version + 1) (timestamp_then d.timestamp (after_timestamp d)) =
    here_next (here_on d.version (here_next (here_on d.prival (here_next (here_all h.text))))) in
    let b : Here line (timestamp_at d) (timestamp_then d.timestamp (after_timestamp d)) = moved (timestamp_at d) a (omega arith) in
    let c = here_next (here_on (timestamp_then d.timestamp []) (here_as b (timestamp_plain d.timestamp (after_timestamp d) h.timestamp_ok))) in
    let e = here_next (here_on d.hostname c) in
    let f = here_next (here_on d.app_name e) in
    let g = here_next (here_on d.procid f) in
    let i = here_next (here_on d.msgid g) in
    record {
      at_timestamp = b;
      at_host = c;
      at_app = e;
      at_procid = f;
      at_msgid = g;
      host_is = here_text d.hostname _ c;
      app_is = here_text d.app_name _ e;
      procid_is = here_text d.procid _ f;
      msgid_is = here_text d.msgid _ g;
      at_data = i;
      at_end_lem = here_on (data_then d.elements []) (here_as i (data_reads.plain d.elements (message_text d.message) (h.elements_ok, h.ids_differ)));
    }
