-- The reading: each answer of the reader is the one that its contract names.
use Rattle.std.specs.Prelude as std
use Rattle.std.specs.Prelude.{if◌then◌else◌, Some, None, Result, Ok, Err}
use Prim.Native.Nat.{ℕ, ◌≤◌, ◌<◌}
use mathlib.Core.Path.{◌≡◌, refl, sym, ap, ap₂, ◌∙◌, subst}
use mathlib.Core.Bool.{Bool, true, false}
use mathlib.Core.List.{List, []}
use mathlib.Core.Option.{Option, none, some}
use native.Mathlib.Omega.{arith}
use lib.Dec.{ltb}
use lib.ListN.{length, drop}
use borrow.Author.Tests.{lt-ltb, le-ltb, ltb-true, ltb-false}
use Rattle.base.specs.Choose.{is_at}
use Rattle.base.specs.Fills.{filled}
use Rattle.base.proofs.Tests.{clash}
use Rattle.record.specs.Limits.{line_limit}
use Rattle.grammar.specs.Line.{Division, Element, data_then, message_text, Derives}
use Rattle.grammar.specs.Parse.{Parsed, parse, structured}
use Rattle.grammar.specs.Parse.Parsed.{failed, found}
use Rattle.grammar.specs.Reading.{StrictReads, record_of, data_at, param_count, element_rows, param_rows}
use Rattle.grammar.specs.Reading.StrictReads.{too_long, underivable, elements_over, params_over, accepted}
use Rattle.grammar.proofs.Readers.{text_over}
use Rattle.grammar.proofs.Header.{header_then, HeaderOk, header_reads}
use Rattle.grammar.proofs.Data.{data_reads}
use Rattle.grammar.proofs.Lines.{header_of, parse_sound, none_derived}
use Rattle.strict_data.specs.Filling.{elements_at, elements_of, Fillable}
use Rattle.record.specs.declared.StrictReading.{StrictReading}
use Rattle.record.specs.declared.StrictRecord.{StrictRecord}
use Rattle.record.specs.declared.Refusal.{Refusal}
use Rattle.record.specs.declared.Refusal.TheVariants.{LineTooLong, NoReading, TooManyElements, TooManyParams}
use Rattle.strict.specs.Scan.{scan_of, fitting, judged, reading_of, told, answered}
use Rattle.strict.specs.declared.Scan.{Scan}
use Rattle.strict.proofs.Scans.{header_size}

-- ---- what a scan says of the line

pub record Divided (line : List ℕ) (s : Scan) : Type 0 where
  pub into_fields : Division
  pub derived : Derives line into_fields
  pub record_is : s.reading ≡ record_of into_fields
  pub data_starts : s.at ≡ data_at into_fields
  pub data_len : s.len ≡ length (data_then into_fields.elements [])
  pub elements_counted : s.elements ≡ length into_fields.elements
  pub params_counted : s.params ≡ param_count into_fields.elements

none_scanned : (o : Parsed Division) (f : std.Option Scan) → f ≡ scan_of o → f ≡ None → o ≡ failed
none_scanned failed f e h = refl
none_scanned (found d n) f e h = let z : true ≡ false = cc in clash z

divided_is : (line : List ℕ) (o : Parsed Division) (f : std.Option Scan) (s : Scan) → parse line ≡ o → f ≡ scan_of o → f ≡ Some s → Divided line s
divided_is line failed f s q e h = let z : true ≡ false = cc in clash z
divided_is line (found d m) f s q e h =
    let z : ◌≡◌ {A = Scan} s (record { reading = record_of d; at = data_at d; len = length (data_then d.elements []); elements = length d.elements; params = param_count d.elements }) = cc in
    record {
      into_fields = d;
      derived = parse_sound line d m q;
      record_is = ap (λ (x : Scan). x.reading) z;
      data_starts = ap (λ (x : Scan). x.at) z;
      data_len = ap (λ (x : Scan). x.len) z;
      elements_counted = ap (λ (x : Scan). x.elements) z;
      params_counted = ap (λ (x : Scan). x.params) z;
    }

-- ---- the structured data of a line that divides

no_bracket : (m : Option (List ℕ)) → is_at (message_text m) 0 91 ≡ false
no_bracket none = refl
no_bracket (some m) = refl

pub header_ok : (line : List ℕ) (d : Division) → Derives line d → HeaderOk (header_of d)
header_ok line d h =
    ((h.prival_ok, h.version_ok), (h.timestamp_ok, (h.hostname_ok, (h.app_name_ok, (h.procid_ok, h.msgid_ok)))))

data_found : (line : List ℕ) (d : Division) → Derives line d → structured (drop (data_at d) line) ≡ found d.elements (length (data_then d.elements []))
data_found line d h =
    let t : List ℕ = data_then d.elements (message_text d.message) in
    let ok = header_ok line d h in
    let a : length (header_then (header_of d) []) ≡ data_at d = header_size (header_of d) d.elements d.message ok in
    let q : drop (data_at d) line ≡ t = ap₂ drop (sym a) h.text ∙ text_over header_reads (header_of d) t ok in
    ap structured q ∙ data_reads.complete d.elements (message_text d.message) (h.elements_ok, h.ids_differ) (no_bracket d.message)

-- ---- the answers

-- in the order in which they are checked
module _ (line : List ℕ) (e p : ℕ) where
  pub judge_long : line_limit < length line → Err LineTooLong ≡ judged line e p
  unfolding judged
  judge_long h = rw (lt-ltb line_limit (length line) h)

  module _ (short : length line ≤ line_limit) (f : std.Option Scan) (q : f ≡ scan_of (parse line)) where
    pub judge_none : f ≡ None → Err NoReading ≡ judged line e p
    unfolding judged
    judge_none h = rw (le-ltb line_limit (length line) short, ← q, h)

    module _ (s : Scan) (h : f ≡ Some s) where
      pub judge_elements : e < s.elements → Err TooManyElements ≡ judged line e p
      unfolding judged
      judge_elements l = rw (le-ltb line_limit (length line) short, ← q, h, lt-ltb e s.elements l)

      module _ (room : s.elements ≤ e) where
        pub judge_params : p < s.params → Err TooManyParams ≡ judged line e p
        unfolding judged
        judge_params l = rw (le-ltb line_limit (length line) short, ← q, h, le-ltb e s.elements room, lt-ltb p s.params l)

        pub judge_fits : s.params ≤ p → Ok s ≡ judged line e p
        unfolding judged
        judge_fits l = rw (le-ltb line_limit (length line) short, ← q, h, le-ltb e s.elements room, le-ltb p s.params l)

pub ruleset judge_laws = (judge_long, judge_none, judge_elements, judge_params, judge_fits)

-- no table at hand
module _ (line : List ℕ) (e p : ℕ) (j : Result Scan Refusal) (q : j ≡ judged line e p) where
  pub answer_refused : (x : Refusal) → j ≡ Err x → Err x ≡ answered line e p
  unfolding answered
  answer_refused x h = rw (← q, h)

  pub answer_read : (s : Scan) → j ≡ Ok s → (x : StrictReading) → x ≡ reading_of s → Ok x ≡ answered line e p
  unfolding answered
  answer_read s h x ex = rw (← q, h, ex)

-- what a judgement says of the line
record Fits (line : List ℕ) (e p : ℕ) (s : Scan) : Type 0 where
  short : length line ≤ line_limit
  division : Divided line s
  room : s.elements ≤ e
  space : s.params ≤ p

module _ (line : List ℕ) (e₀ p₀ : List (List ℕ)) where
  module _ (short : length line ≤ line_limit) (s : Scan) (w : Divided line s) where
    elements_refused : length e₀ < s.elements → StrictReads line e₀ p₀ (Err TooManyElements) e₀ p₀
    elements_refused l = elements_over w.into_fields short w.derived (rw w.elements_counted at l) refl refl refl

    params_refused : s.elements ≤ length e₀ → length p₀ < s.params → StrictReads line e₀ p₀ (Err TooManyParams) e₀ p₀
    params_refused room l = params_over w.into_fields short w.derived (rw w.elements_counted at room) (rw w.params_counted at l) refl refl refl

  -- a refusal leaves the tables
  module _ (x : Refusal) where
    abbrev Refuses : Type 0
    Refuses = StrictReads line e₀ p₀ (Err x) e₀ p₀

    refused_fitting : length line ≤ line_limit → (o : std.Option Scan) → o ≡ scan_of (parse line) → fitting o (length e₀) (length p₀) ≡ Err x → Refuses
    refused_fitting short None eo h =
        let q : x ≡ NoReading = cc in
        rw q (underivable short (none_derived line (none_scanned (parse line) None eo refl)) refl refl refl)
    refused_fitting short (Some s) eo h = go (ltb (length e₀) s.elements) (ltb (length p₀) s.params) refl refl h
      where
        go : (a b : Bool) → ltb (length e₀) s.elements ≡ a → ltb (length p₀) s.params ≡ b
            → ◌≡◌ {A = Result Scan Refusal} (if a then Err TooManyElements else if b then Err TooManyParams else Ok s) (Err x) → Refuses
        go true b ea eb g =
            let q : x ≡ TooManyElements = cc in
            rw q (elements_refused short s (divided_is line (parse line) (Some s) s refl eo refl) (ltb-true (length e₀) s.elements ea))
        go false true ea eb g =
            let q : x ≡ TooManyParams = cc in
            rw q (params_refused short s (divided_is line (parse line) (Some s) s refl eo refl) (ltb-false (length e₀) s.elements ea) (ltb-true (length p₀) s.params eb))
        go false false ea eb g = let z : ◌≡◌ {A = ℕ} 0 1 = cc in absurd (omega arith)

    pub read_refused : Err x ≡ judged line (length e₀) (length p₀) → Refuses
    unfolding judged
    read_refused h = go (ltb line_limit (length line)) refl (sym h)
      where
        go : (b : Bool) → ltb line_limit (length line) ≡ b → (if b then Err LineTooLong else fitting (scan_of (parse line)) (length e₀) (length p₀)) ≡ Err x → Refuses
        go true eb g = let q : x ≡ LineTooLong = cc in rw q (too_long (ltb-true line_limit (length line) eb) refl refl refl)
        go false eb g = refused_fitting (ltb-false line_limit (length line) eb) (scan_of (parse line)) refl g

  module _ (s : Scan) where
    fits_scan : length line ≤ line_limit → (o : std.Option Scan) → o ≡ scan_of (parse line) → fitting o (length e₀) (length p₀) ≡ Ok s → Fits line (length e₀) (length p₀) s
    fits_scan short None eo h = let z : ◌≡◌ {A = ℕ} 0 1 = cc in absurd (omega arith)
    fits_scan short (Some s') eo h = go (ltb (length e₀) s'.elements) (ltb (length p₀) s'.params) refl refl h
      where
        go : (a b : Bool) → ltb (length e₀) s'.elements ≡ a → ltb (length p₀) s'.params ≡ b
            → ◌≡◌ {A = Result Scan Refusal} (if a then Err TooManyElements else if b then Err TooManyParams else Ok s') (Ok s) → Fits line (length e₀) (length p₀) s
        go true b ea eb g = let z : ◌≡◌ {A = ℕ} 0 1 = cc in absurd (omega arith)
        go false true ea eb g = let z : ◌≡◌ {A = ℕ} 0 1 = cc in absurd (omega arith)
        go false false ea eb g =
            let same : s' ≡ s = cc in
            subst (Fits line (length e₀) (length p₀)) same (record {
              short = short;
              division = divided_is line (parse line) (Some s') s' refl eo refl;
              room = ltb-false (length e₀) s'.elements ea;
              space = ltb-false (length p₀) s'.params eb;
            })

    module _ (j : Ok s ≡ judged line (length e₀) (length p₀)) where
      fits : Fits line (length e₀) (length p₀) s
      unfolding judged
      fits = go (ltb line_limit (length line)) refl (sym j)
        where
          go : (b : Bool) → ltb line_limit (length line) ≡ b → (if b then Err LineTooLong else fitting (scan_of (parse line)) (length e₀) (length p₀)) ≡ Ok s → Fits line (length e₀) (length p₀) s
          go true eb g = let z : ◌≡◌ {A = ℕ} 0 1 = cc in absurd (omega arith)
          go false eb g = fits_scan (ltb-false line_limit (length line) eb) (scan_of (parse line)) refl g

      found_there : structured (drop s.at line) ≡ found fits.division.into_fields.elements s.len
      found_there =
          let w = fits.division in
          ap (λ (a : ℕ). structured (drop a line)) w.data_starts
          ∙ data_found line w.into_fields w.derived
          ∙ ap (found w.into_fields.elements) (sym w.data_len)

      same_elements : elements_at line s.at ≡ fits.division.into_fields.elements
      same_elements = ap elements_of found_there

      pub fill_there : Fillable line s.at s.len e₀ p₀
      fill_there =
          let c = fits in
          let w = c.division in
          record {
            data_found = found_there ∙ ap (λ (es : List Element). found es s.len) (sym same_elements);
            elements_room = rw (same_elements, ← w.elements_counted) c.room;
            params_room = rw (same_elements, ← w.params_counted) c.space;
          }

      pub read_done : (e₁ p₁ : List (List ℕ)) → e₁ ≡ filled (element_rows s.at (elements_at line s.at)) e₀ → p₁ ≡ filled (param_rows 0 s.at (elements_at line s.at)) p₀
          → StrictReads line e₀ p₀ (Ok (reading_of s)) e₁ p₁
      read_done e₁ p₁ ee ep =
          let c = fits in
          let w = c.division in
          let d = w.into_fields in
          accepted d c.short w.derived (rw w.elements_counted at c.room) (rw w.params_counted at c.space)
          (λ i. Ok (record { reading = w.record_is i; elements = w.elements_counted i; params = w.params_counted i }))
          (ee ∙ ap₂ (λ (a : ℕ) (es : List Element). filled (element_rows a es) e₀) w.data_starts same_elements)
          (ep ∙ ap₂ (λ (a : ℕ) (es : List Element). filled (param_rows 0 a es) p₀) w.data_starts same_elements)

-- What is answered with no table at hand is what a reading into tables of those sizes answers.
pub record Answers (line : List ℕ) (e₀ p₀ : List (List ℕ)) (r : Result StrictReading Refusal) : Type 0 where
  pub elements : List (List ℕ)
  pub params : List (List ℕ)
  pub reads : StrictReads line e₀ p₀ r elements params

pub answers : (line : List ℕ) (e₀ p₀ : List (List ℕ)) → Answers line e₀ p₀ (answered line (length e₀) (length p₀))
unfolding answered
answers line e₀ p₀ = go (judged line (length e₀) (length p₀)) refl
  where
    go : (j : Result Scan Refusal) → j ≡ judged line (length e₀) (length p₀) → Answers line e₀ p₀ (told j)
    go (Err x) q = record { elements = e₀; params = p₀; reads = read_refused line e₀ p₀ x q }
    go (Ok s) q =
        record {
          elements = filled (element_rows s.at (elements_at line s.at)) e₀;
          params = filled (param_rows 0 s.at (elements_at line s.at)) p₀;
          reads = read_done line e₀ p₀ s q _ _ refl refl;
        }
