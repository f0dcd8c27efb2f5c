-- The division of a line: its fields and its elements lie in the line, and its timestamp can be shown.
use Rattle.std.specs.Prelude.{Result, Ok, Err}
use Prim.Native.Nat.{ℕ, ◌+◌, ◌-◌, ◌/◌, ◌%◌, ◌^◌, ◌≤◌}
use mathlib.Core.Path.{◌≡◌, refl, ap}
use mathlib.Core.Bool.{true, false, ◌&&◌}
use mathlib.Core.List.{List, [], ◌∷◌, ◌++◌}
use mathlib.Core.Option.{Option, none, some}
use native.Mathlib.Nat.{mul-mod_left}
use native.Mathlib.Omega.{arith}
use lib.Dec.{ltb, eqb}
use lib.ListN.{length, length-append}
use borrow.Author.Tests.{le-leb, le-ltb}
use Rattle.base.specs.Choose.{is_at}
use Rattle.base.specs.Fills.{filled}
use Rattle.base.proofs.Runs.{run_none}
use Rattle.base.proofs.Tests.{by_if, clash}
use Rattle.digits.specs.Digits.{decimal}
use Rattle.digits.proofs.Fractions.{fraction_len_lem, fraction_text_lem}
use Rattle.calendar.specs.Calendar.{offset_limit, valid}
use Rattle.calendar.specs.Instant.{is_shown}
use Rattle.calendar.specs.declared.DateTime.{DateTime}
use Rattle.calendar.proofs.ThereAndBack.{back}
use Rattle.record.specs.Limits.{line_limit}
use Rattle.record.specs.declared.Place.{Place}
use Rattle.record.specs.declared.StrictRecord.{StrictRecord}
use Rattle.record.specs.declared.StrictReading.{StrictReading}
use Rattle.record.specs.declared.Refusal.{Refusal}
use Rattle.grammar.specs.Abnf.{is_digit}
use Rattle.grammar.specs.Line.{Param, Element, Timestamp, Division, Each, each_then, param_then, element_then, data_then, message_text, SecfracOk, TimestampOk, ParamOk, ElementOk, Derives}
use Rattle.grammar.specs.Reading.{hostname_at, app_name_at, procid_at, msgid_at, data_at, data_end, place_of, nanos_of, digits_of, offset_of, stamp_of, message_span, record_of, param_count, element_rows, rows_of_params, param_rows, StrictReads}
use Rattle.grammar.specs.Reading.StrictReads.{too_long, underivable, elements_over, params_over, accepted}
use Rattle.grammar.proofs.Readers.{text_length}
use Rattle.grammar.proofs.Header.{header_reads}
use Rattle.grammar.proofs.Data.{param_reads, element_reads, data_reads}
use Rattle.grammar.proofs.Lines.{header_of}
use Rattle.strict_header.proofs.Stamps.{four_digits}
use Rattle.strict_header.proofs.Callers.{offset_small}
use Rattle.strict_data.proofs.Filling.{params_length, param_length, elements_many, all_many}
use Rattle.strict.proofs.Scans.{header_size}
use Rattle.strict.proofs.Readings.{header_ok}
use Rattle.timestamp.proofs.Answers.{StampIn}
use Rattle.suits.specs.Suits.{suits}
use Rattle.suited.proofs.Tests.{RowsOf, RowsIn, rows_none, rows_more, Suited, suits_filled}
use Rattle.suited.proofs.Records.{stamp_suits_lem}

-- ---- the timestamp

nanos_to : (o : Option (List ℕ)) → SecfracOk o → nanos_of o ≤ 999999999
nanos_to none h = omega arith
nanos_to (some f) h =
    let l : length f ≤ 9 = omega (arith, h.at_most) in
    let e = fraction_text_lem 9 f [] h.all h.at_least l (run_none is_digit) in
    omega (arith, (fraction_len_lem 9 (f ++ []) _ _ e (omega arith)).3)

digits_to : (o : Option (List ℕ)) → SecfracOk o → digits_of o ≤ 9
digits_to none h = omega arith
digits_to (some f) h = omega (arith, h.at_most)

digits_show : (o : Option (List ℕ)) → nanos_of o % 10 ^ (9 - digits_of o) ≡ 0
digits_show none = refl
digits_show (some f) = mul-mod_left (decimal f) (10 ^ (9 - length f))

stamp_in_lem : (o : Option Timestamp) → TimestampOk o → StampIn offset_limit (stamp_of o)
unfolding valid
stamp_in_lem none h = tt
stamp_in_lem (some t) h =
    let clock : DateTime = record {
      year = decimal t.year;
      month = decimal t.month;
      day = decimal t.day;
      hour = decimal t.hour;
      minute = decimal t.minute;
      second = decimal t.second;
    } in
    let v : valid clock ≡ true = rw (le-leb _ _ (four_digits t.year _ h.year_digits refl), h.date, h.time) in
    record {
      nanos_to = nanos_to t.secfrac h.secfrac_ok;
      digits_to = digits_to t.secfrac h.secfrac_ok;
      digits_show = digits_show t.secfrac;
      offset_to = offset_small t.offset h.offset_ok;
      year_in = ap is_shown (back clock (offset_of t.offset) v);
    }

-- ---- the structured data, from position `at` on

module _ (line : List ℕ) where
  params_in_lem : (k at : ℕ) (ps : List Param) → Each ParamOk ps → at + length (each_then param_then ps []) ≤ length line → RowsOf line k (rows_of_params k at ps)
  params_in_lem k at [] h l = tt
  params_in_lem k at (p ∷ ps) h l =
      let here = param_length p in
      let far = text_length param_reads p (each_then param_then ps []) h.0 in (
        record { from = omega arith; below = omega arith; name_in = omega arith; value_in = omega arith },
        params_in_lem k (at + length (param_then p [])) ps h.1 (omega arith),
      )

  elements_in_lem : (k at : ℕ) (es : List Element) → Each ElementOk es → at + length (each_then element_then es []) ≤ length line
      → RowsIn line k (element_rows at es) (param_rows k at es)
  elements_in_lem k at [] h l = rows_none
  elements_in_lem k at (e ∷ es) h l =
      let far = text_length element_reads e (each_then element_then es []) h.0 in
      let id = length-append e.id (each_then param_then e.params (93 ∷ [])) in
      let params = params_length e.params (93 ∷ []) h.0.params_ok in
      rows_more _ (rows_of_params k (at + length e.id + 1) e.params) _ _ (omega arith)
      (params_in_lem k (at + length e.id + 1) e.params h.0.params_ok (omega arith))
      (elements_in_lem (k + 1) (at + length (element_then e [])) es h.1 (omega arith))

  data_in : (at : ℕ) (es : List Element) → Each ElementOk es → at + length (data_then es []) ≤ length line → RowsIn line 0 (element_rows at es) (param_rows 0 at es)
  data_in at [] h l = rows_none
  data_in at (e ∷ es) h l = elements_in_lem 0 at (e ∷ es) h l

  -- ---- the record

  place_in : (at : ℕ) (t : List ℕ) → at + length t ≤ length line → (place_of at t).start + (place_of at t).len ≤ length line
  place_in at t l = by_if (λ (p : Place). p.start + p.len ≤ length line) (eqb (length t) 1 && is_at t 0 45) _ _ (λ q. omega arith) (λ q. l)

  message_in : (at : ℕ) (m : Option (List ℕ)) → at + length (message_text m) ≤ length line → (message_span at m).start + (message_span at m).len ≤ length line
  message_in at none l = omega arith
  message_in at (some m) l = omega arith

  module _ (d : Division) (h : Derives line d) where
    -- the parts fill the line
    pub line_length : data_end d + length (message_text d.message) ≡ length line
    line_length =
        let text = data_then d.elements (message_text d.message) in
        let ok = header_ok line d h in
        let front = header_size (header_of d) d.elements d.message ok in
        let rest = text_length header_reads (header_of d) text ok in
        let rows = text_length data_reads d.elements (message_text d.message) (h.elements_ok, h.ids_differ) in
        omega (arith, ap length h.text)

    pub division_suits : Suited line (record_of d).common (element_rows (data_at d) d.elements) (param_rows 0 (data_at d) d.elements)
    unfolding record_of
    division_suits =
        record {
          of_record = record {
            facility_in = le-leb (decimal d.prival / 8) 23 (omega (arith, h.prival_ok.range));
            severity_in = le-leb (decimal d.prival % 8) 7 (omega arith);
            timestamp_in = stamp_suits_lem (stamp_of d.timestamp) (stamp_in_lem d.timestamp h.timestamp_ok);
            host_in = place_in (hostname_at d) d.hostname (omega (arith, line_length));
            app_in = place_in (app_name_at d) d.app_name (omega (arith, line_length));
            procid_in = place_in (procid_at d) d.procid (omega (arith, line_length));
            msgid_in = place_in (msgid_at d) d.msgid (omega (arith, line_length));
            message_in = message_in (data_end d) d.message (omega (arith, line_length));
          };
          of_tables = data_in (data_at d) d.elements h.elements_ok (omega (arith, line_length));
        }

-- ---- the reading

never : {A : Type 0} {s : StrictRecord} {e p : ℕ} (f : Refusal) → ◌≡◌ {A = Result StrictReading Refusal} (Ok (record { reading = s; elements = e; params = p })) (Err f) → A
never f h = absurd (cc)

same_reading : {r q : StrictReading} → ◌≡◌ {A = Result StrictReading Refusal} (Ok r) (Ok q) → r ≡ q
same_reading h = cc

-- the division of a line that was read
pub record Divided (line : List ℕ) (s : StrictRecord) (e p : ℕ) (e₀ p₀ e₁ p₁ : List (List ℕ)) : Type 0 where
  pub by : Division
  pub derives : Derives line by
  short : length line ≤ line_limit
  pub its : s ≡ record_of by
  pub elements_many : e ≡ length by.elements
  pub params_many : p ≡ param_count by.elements
  elements_are : e₁ ≡ filled (element_rows (data_at by) by.elements) e₀
  params_are : p₁ ≡ filled (param_rows 0 (data_at by) by.elements) p₀

divided_suits : {line : List ℕ} {s : StrictRecord} {e p : ℕ} {e₁ p₁ : List (List ℕ)} (e₀ p₀ : List (List ℕ)) (d : Division) → Derives line d
    → s ≡ record_of d → e ≡ length d.elements → p ≡ param_count d.elements
    → e₁ ≡ filled (element_rows (data_at d) d.elements) e₀ → p₁ ≡ filled (param_rows 0 (data_at d) d.elements) p₀ → suits line s.common e p e₁ p₁ ≡ true
divided_suits {line} e₀ p₀ d h q n m a b =
    let at = data_at d in
    let es = d.elements in
    rw (q, n, m, a, b, ← elements_many at es, ← all_many 0 at es)
    (suits_filled line (record_of d).common (element_rows at es) (param_rows 0 at es) e₀ p₀ (division_suits line d h))

module _ {line : List ℕ} {e₀ p₀ e₁ p₁ : List (List ℕ)} {s : StrictRecord} {e p : ℕ} where
  pub reading_divided : StrictReads line e₀ p₀ (Ok (record { reading = s; elements = e; params = p })) e₁ p₁ → Divided line s e p e₀ p₀ e₁ p₁
  reading_divided (too_long l a b c) = never _ a
  reading_divided (underivable l h a b c) = never _ a
  reading_divided (elements_over d l h m a b c) = never _ a
  reading_divided (params_over d l h k m a b c) = never _ a
  reading_divided (accepted d l h k m a b c) =
      let q = same_reading a in
      record {
        by = d;
        derives = h;
        short = l;
        its = ap (λ (x : StrictReading). x.reading) q;
        elements_many = ap (λ (x : StrictReading). x.elements) q;
        params_many = ap (λ (x : StrictReading). x.params) q;
        elements_are = b;
        params_are = c;
      }

  module _ (h : StrictReads line e₀ p₀ (Ok (record { reading = s; elements = e; params = p })) e₁ p₁) where
    pub reading_short : ltb line_limit (length line) ≡ false
    reading_short = le-ltb line_limit (length line) (reading_divided h).short

    pub reading_suits : suits line s.common e p e₁ p₁ ≡ true
    reading_suits =
        let d = reading_divided h in
        divided_suits e₀ p₀ d.by d.derives d.its d.elements_many d.params_many d.elements_are d.params_are
