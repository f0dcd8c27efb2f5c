-- What a record, counts and tables that suit a line tell a caller.
use Rattle.std.specs.Prelude.{Option, Some, None}
use Prim.Native.Nat.{ℕ, zero, suc, ◌+◌, ◌-◌, ◌%◌, ◌^◌, ◌≤◌, ◌<◌}
use mathlib.Core.Path.{◌≡◌, refl, sym}
use mathlib.Core.List.{List, [], ◌∷◌}
use mathlib.Core.Bool.{true}
use native.Mathlib.Omega.{arith}
use lib.Dec.{leb}
use lib.IntN.{nat_abs}
use lib.ListN.{length, get_or, take}
use lib.Seq.{get_or-take, length-take-le}
use borrow.Author.Tests.{leb-true, ltb-true, eqb-true}
use Rattle.base.proofs.Tests.{clash, both}
use Rattle.calendar.specs.Calendar.{offset_limit}
use Rattle.calendar.specs.Instant.{shown, is_shown}
use Rattle.calendar.specs.declared.DateTime.{DateTime}
use Rattle.record.specs.declared.Record.{Record}
use Rattle.record.specs.declared.Timestamp.{Timestamp}
use Rattle.suits.specs.Suits.{place_suits, level_suits, stamp_suits, record_suits, elements_suit, param_suits, params_suit, tables_suit, suits}

-- a timestamp that is there
pub record StampIn (t : Timestamp) : Type 0 where
  pub nanos_in : t.nanos ≤ 999999999
  pub digits_in : t.digits ≤ 9
  pub digits_show : t.nanos % 10 ^ (9 - t.digits) ≡ 0
  pub offset_in : nat_abs t.offset ≤ offset_limit
  pub clock : DateTime
  pub shows : shown t.seconds t.offset ≡ Some clock

pub stamp_in_lem : (t : Timestamp) → stamp_suits (Some t) ≡ true → StampIn t
stamp_in_lem t h =
    let b = both _ _ h in
    let n = both _ _ b.0 in
    let d = both _ _ n.0 in
    let l = both _ _ d.0 in
    at (leb-true t.nanos 999999999 l.0) (leb-true t.digits 9 l.1) (eqb-true _ _ d.1) (leb-true (nat_abs t.offset) offset_limit n.1)
    (shown t.seconds t.offset) refl b.1
  where
    at : t.nanos ≤ 999999999 → t.digits ≤ 9 → t.nanos % 10 ^ (9 - t.digits) ≡ 0 → nat_abs t.offset ≤ offset_limit
        → (s : Option DateTime) → shown t.seconds t.offset ≡ s → is_shown s ≡ true → StampIn t
    at n d w o None e i = clash (sym i)
    at n d w o (Some c) e i = record { nanos_in = n; digits_in = d; digits_show = w; offset_in = o; clock = c; shows = e }

-- a record's fields
pub record RecordIn (line : List ℕ) (r : Record) : Type 0 where
  pub facility_in : level_suits 23 r.facility ≡ true
  pub severity_in : level_suits 7 r.severity ≡ true
  pub timestamp_in : stamp_suits r.timestamp ≡ true
  pub host_in : r.host.start + r.host.len ≤ length line
  pub app_in : r.app.start + r.app.len ≤ length line
  pub procid_in : r.procid.start + r.procid.len ≤ length line
  pub msgid_in : r.msgid.start + r.msgid.len ≤ length line
  pub message_in : r.message.start + r.message.len ≤ length line

pub record_in_lem : (line : List ℕ) (r : Record) → record_suits line r ≡ true → RecordIn line r
unfolding record_suits
record_in_lem line r h =
    let message = both _ _ h in
    let msgid = both _ _ message.0 in
    let procid = both _ _ msgid.0 in
    let app = both _ _ procid.0 in
    let host = both _ _ app.0 in
    let timestamp = both _ _ host.0 in
    let levels = both _ _ timestamp.0 in
    record {
      facility_in = levels.0;
      severity_in = levels.1;
      timestamp_in = timestamp.1;
      host_in = leb-true _ _ host.1;
      app_in = leb-true _ _ app.1;
      procid_in = leb-true _ _ procid.1;
      msgid_in = leb-true _ _ msgid.1;
      message_in = leb-true _ _ message.1;
    }

-- a row of each table
abbrev pub IdIn : List ℕ → List ℕ → Type 0
IdIn line row = get_or row 0 0 + get_or row 1 0 ≤ length line

pub record ParamIn (line : List ℕ) (e low : ℕ) (row : List ℕ) : Type 0 where
  pub from : low ≤ get_or row 0 0
  pub below : get_or row 0 0 < e
  pub name_in : get_or row 1 0 + get_or row 2 0 ≤ length line
  pub value_in : get_or row 3 0 + get_or row 4 0 ≤ length line

param_in : (line : List ℕ) (e low : ℕ) (row : List ℕ) → param_suits line e low row ≡ true → ParamIn line e low row
param_in line e low row h =
    let value = both _ _ h in
    let name = both _ _ value.0 in
    let number = both _ _ name.0 in
    record {
      from = leb-true _ _ number.0;
      below = ltb-true _ _ number.1;
      name_in = leb-true _ _ name.1;
      value_in = leb-true _ _ value.1;
    }

-- the least number that row `i` may have, where the first may have `low`
abbrev pub least : ℕ → List (List ℕ) → ℕ → ℕ
least low rows zero = low
least low rows (suc i) = get_or (get_or rows i []) 0 0

least_take : (low : ℕ) (rows : List (List ℕ)) (n i : ℕ) → i < n → least low (take n rows) i ≡ least low rows i
least_take low rows n zero l = refl
least_take low rows n (suc i) l = rw (get_or-take n rows i [] (omega arith))

module _ (line : List ℕ) where
  ids_in_lem : (rows : List (List ℕ)) → elements_suit line rows ≡ true → (k : ℕ) → k < length rows → IdIn line (get_or rows k [])
  unfolding elements_suit
  ids_in_lem [] h k l = absurd (omega arith)
  ids_in_lem (row ∷ rows) h zero l = leb-true _ _ (both _ _ h).0
  ids_in_lem (row ∷ rows) h (suc k) l = ids_in_lem rows (both (place_suits line (get_or row 0 0) (get_or row 1 0)) _ h).1 k (omega arith)

  params_in_lem : (e low : ℕ) (rows : List (List ℕ)) → params_suit line e low rows ≡ true
      → (i : ℕ) → i < length rows → ParamIn line e (least low rows i) (get_or rows i [])
  unfolding params_suit
  params_in_lem e low [] h i l = absurd (omega arith)
  params_in_lem e low (row ∷ rows) h zero l = param_in line e low row (both _ _ h).0
  params_in_lem e low (row ∷ rows) h (suc zero) l = params_in_lem e (get_or row 0 0) rows (both (param_suits line e low row) _ h).1 zero (omega arith)
  params_in_lem e low (row ∷ rows) h (suc (suc i)) l = params_in_lem e (get_or row 0 0) rows (both (param_suits line e low row) _ h).1 (suc i) (omega arith)

-- the tables
record Parts (line : List ℕ) (e p : ℕ) (elements params : List (List ℕ)) : Type 0 where
  of_counts : (leb e (length elements) ≡ true) × (leb p (length params) ≡ true)
  of_elements : elements_suit line (take e elements) ≡ true
  of_params : params_suit line e 0 (take p params) ≡ true

module _ (line : List ℕ) (e p : ℕ) (elements params : List (List ℕ)) (h : tables_suit line e p elements params ≡ true) where
  parts : Parts line e p elements params
  unfolding tables_suit
  parts =
      let params = both _ _ h in
      let elements = both _ _ params.0 in
      record { of_counts = both _ _ elements.0; of_elements = elements.1; of_params = params.1 }

  pub elements_fit_lem : e ≤ length elements
  elements_fit_lem = leb-true e (length elements) parts.of_counts.0

  pub params_fit_lem : p ≤ length params
  params_fit_lem = leb-true p (length params) parts.of_counts.1

  pub id_suited : (k : ℕ) → k < e → IdIn line (get_or elements k [])
  id_suited k l =
      rw (← get_or-take e elements k [] l)
      (ids_in_lem line (take e elements) parts.of_elements k (rw (length-take-le e elements elements_fit_lem) l))

  pub param_suited : (i : ℕ) → i < p → ParamIn line e (least 0 params i) (get_or params i [])
  param_suited i l =
      rw (← get_or-take p params i [] l, ← least_take 0 params p i l)
      (params_in_lem line e 0 (take p params) parts.of_params i (rw (length-take-le p params params_fit_lem) l))

-- the whole
module _ (line : List ℕ) (r : Record) (e p : ℕ) (elements params : List (List ℕ)) (h : suits line r e p elements params ≡ true) where
  pub tables_suited : tables_suit line e p elements params ≡ true
  unfolding suits
  tables_suited = (both (record_suits line r) _ h).1
