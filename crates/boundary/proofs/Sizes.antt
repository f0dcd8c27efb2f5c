-- What the loose and the strict reader leave fits the layout, from the version that a line has.
use Rattle.std.specs.Prelude.{Option, Some, None}
use Prim.Native.Nat.{ℕ, ◌+◌, ◌*◌, ◌^◌, ◌≤◌, ◌<◌}
use mathlib.Core.List.{List}
use native.Mathlib.Nat.{pow-le-pow_right}
use native.Mathlib.Omega.{arith}
use lib.ListN.{length, take, drop, length-take}
use lib.IntN.{ℤ}
use Rattle.white.specs.Trim.{trimmed}
use Rattle.digits.proofs.Decimals.{decimal_lt}
use Rattle.record.specs.Limits.{line_limit}
use Rattle.record.specs.declared.Record.{Record}
use Rattle.pri.specs.Pri.{pri_at}
use Rattle.parsers.specs.Steps.{blanks_from, some_blanks_from, number_from, on_read}
use Rattle.timestamp.specs.Rfc3339.{rfc3339_from}
use Rattle.timestamp.specs.Timestamp.{rfc3164_from}
use Rattle.timestamp.proofs.Onward.{on_num_lem, on_pos_lem}
use Rattle.structured_data.specs.Data.{data_from}
use Rattle.structured_data.specs.declared.Rules.TheVariants.{Rfc3164Rules, Rfc5424Rules}
use Rattle.draft.specs.Outcome.{Outcome}
use Rattle.draft.specs.Outcome.Outcome.{no_reading, is_reading}
use Rattle.rfc3164.specs.Rfc3164 as rfc3164
use Rattle.rfc5424.specs.Rfc5424 as rfc5424
use Rattle.rfc5424.specs.declared.Start.{Start}
use Rattle.rfc5424.proofs.Lines.{on_start_lem, on_four_lem, on_data_lem}
use Rattle.loose.specs.Loose.{outcome_of}
use Rattle.loose.proofs.Variants.{of_variant}
use Rattle.loose.proofs.Answers.{whole_is}
use Rattle.grammar.specs.Line.{Division, Derives}
use Rattle.grammar.specs.Reading.{record_of}
use Rattle.layout.proofs.Back.{ProtocolIn}
use Rattle.suited.specs.Served.{Left}
use Rattle.suited.proofs.Frame.{Judged, reading_judged}
use Rattle.suited.proofs.Strict.{line_length, reading_divided}
use Rattle.boundary.proofs.Counts.{Few, data_few, division_few}
use Rattle.boundary.proofs.Outcomes.{NumIn, number_in}
use Rattle.record.specs.declared.Timestamp.{Timestamp}

abbrev StartIn : Option (Start × ℕ) → Type 0
StartIn None = Unit {0}
StartIn (Some x) = x.0.version < 4294967296

start_in : (s : List ℕ) (at : ℕ) → StartIn (rfc5424.start_from s at)
unfolding rfc5424.start_from
start_in s at =
    on_num_lem StartIn (number_from s at) _ _ tt λ v a e.
    on_pos_lem StartIn (some_blanks_from s a) _ _ tt λ b f.
    go v (rfc3339_from s b) (rw e at (number_in s at))
  where
    go : (v : ℕ) (r : Option (Option Timestamp × ℕ)) → v < 4294967296 → StartIn (rfc5424.start_of v r)
    go v None h = tt
    go v (Some x) h = h

abbrev OutcomeIn : Outcome → Type 0
OutcomeIn no_reading = Unit {0}
OutcomeIn (is_reading r at rows) = ProtocolIn r.protocol × Few line_limit rows

module _ (s : List ℕ) (short : length s ≤ line_limit) (start : ℕ) where
  rfc5424_in : OutcomeIn (rfc5424.rfc5424 s start)
  unfolding rfc5424.rfc5424 rfc5424.body_from
  rfc5424_in =
      let from = start + (pri_at (drop start s)).next in
      on_start_lem OutcomeIn (rfc5424.start_from s from) _ _ tt λ version stamp a e.
      on_four_lem OutcomeIn (rfc5424.four_from s a) _ _ tt λ host app procid msgid b f.
      on_data_lem OutcomeIn (data_from Rfc5424Rules s (blanks_from s b)) _ _ tt λ rows g.
      (rw e at (start_in s from), rw g at (data_few Rfc5424Rules s (blanks_from s b) short))

  rfc3164_in : (year : ℕ) (offset : ℤ) → OutcomeIn (rfc3164.rfc3164 year offset s start)
  unfolding rfc3164.rfc3164 rfc3164.body_from
  rfc3164_in year offset = go (rfc3164_from year offset s (blanks_from s (start + (pri_at (drop start s)).next)))
    where
      go : (g : Option (Option Timestamp × ℕ)) → OutcomeIn (on_read g no_reading (λ stamp a. rfc3164.body_from (pri_at (drop start s)) stamp s a))
      go None = tt
      go (Some x) = (tt, data_few Rfc3164Rules s _ short)

outcome_in : (line : List ℕ) → length line ≤ line_limit → (variant year : ℕ) (offset : ℤ) → OutcomeIn (outcome_of line variant year offset)
unfolding outcome_of
outcome_in line short variant year offset =
    let ends = trimmed line in
    let s = take ends.end line in
    let l : length s ≤ line_limit = omega (arith, length-take ends.end line) in
    of_variant OutcomeIn variant year offset s ends.start (rfc5424_in s l ends.start) (rfc3164_in s l ends.start year offset)

-- ---- the strict reader: a version has at most three digits

division_in : (line : List ℕ) (d : Division) → Derives line d → ProtocolIn (record_of d).common.protocol
unfolding record_of
division_in line d h =
    let v = h.version_ok.digits in
    let l : 10 ^ length d.version ≤ 10 ^ 3 = pow-le-pow_right (omega arith) {i = length d.version} {j = 3} v.at_most in
    omega (arith, decimal_lt d.version v.all)

-- ---- what a reader left

pub record Sized (r : Record) (e p : ℕ) : Type 0 where
  pub version_in : ProtocolIn r.protocol
  pub elements_to : e ≤ line_limit
  pub params_to : p ≤ line_limit * (line_limit + 1)

judged_sized : {o : Outcome} {r : Record} {e p : ℕ} → Judged o r e p → OutcomeIn o → Sized r e p
judged_sized j h =
    let (v, f) = rw j.outcome at h in
    record { version_in = v; elements_to = omega (arith, j.elements_many, f.elements_to); params_to = omega (arith, j.params_many, f.params_to) }

pub left_sized : {line : List ℕ} {r : Record} {e p : ℕ} {elements params : List (List ℕ)} → length line ≤ line_limit → Left line r e p elements params → Sized r e p
left_sized {line} {elements} {params} short (Left.by_loose {variant} {year} {offset} {e₀} {p₀} h) =
    judged_sized (reading_judged line e₀ p₀ elements params variant year offset h) (outcome_in line short variant year offset)
left_sized short (Left.by_whole h a b) = record { version_in = rw (whole_is h).is.alone tt; elements_to = omega (arith, a); params_to = omega (arith, b) }
left_sized {line} {e} {p} short (Left.by_strict h q) =
    let d = reading_divided h in
    let few = division_few d.by.elements d.derives.elements_ok in
    let all = line_length line d.by d.derives in
    record {
      version_in = rw (q, d.its) (division_in line d.by d.derives);
      elements_to = omega (arith, d.elements_many);
      params_to = omega (arith, d.params_many);
    }
