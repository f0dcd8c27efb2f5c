-- What a frame does to a tally, and the statements of specs/Frames.antt.
use Rattle.std.specs.Prelude.{if◌then◌else◌, Option, Result, Ok, Err}
use Prim.Native.Nat.{ℕ, suc, ◌≤◌}
use mathlib.Core.Path.{◌≡◌, refl, sym, ap, ◌∙◌}
use mathlib.Core.Bool.{true, false}
use mathlib.Core.List.{List, [], ◌∷◌}
use native.Mathlib.Omega.{arith}
use lib.ListN.{length}
use Rattle.base.proofs.Tests.{by_test, clash}
use Rattle.record.specs.declared.Refusal.{Refusal}
use Rattle.record.specs.declared.StrictReading.{StrictReading}
use Rattle.strict.proofs.Readings.{answers}
use Rattle.frames.specs.declared.Options.{Options}
use Rattle.frames.specs.declared.State.{State}
use Rattle.frames.specs.States.{start_of}
use Rattle.tally.specs.Tally.{Tally, row_of, column_of, addition, after}
use Rattle.tally.specs.Counts.{Additions, none, accepted}
use Rattle.tally.proofs.Sums.{counts_accepted}
use Rattle.tallier.specs.declared.Tallied.{Tallied}
use Rattle.tallier.specs.Frames.{told_of, reading_of, TalliesReading, Tallies, ReadAsListed, is_accepted, accept_count, is_refused, After, start, next, SumIsAccepted, Onward}

-- ---- frames one behind the other

-- a record that the tally refuses changes nothing
after_refused : (old new : Tally) (i j : ℕ) (a : Tallied) (d : Result (Unit {0}) Refusal) → a ≡ told_of d → new ≡ after d old i j → is_refused a ≡ true → new ≡ old
after_refused old new i j a (Ok tt) q l t = clash (sym t ∙ ap is_refused q)
after_refused old new i j a (Err f) q l t = l

refused_kept : (old new : Tally) (r : Result StrictReading Refusal) (a : Tallied) → TalliesReading old r a new → is_refused a ≡ true → new ≡ old
refused_kept old new (Ok x) a h t =
    after_refused old new (row_of x.reading.common.facility) (column_of x.reading.common.severity) a (addition old (row_of x.reading.common.facility) (column_of x.reading.common.severity)) h.told h.leaves t
refused_kept old new (Err f) a h t = h.leaves

pub onward_same : (t : Tally) → Onward t t
onward_same t = record { made = λ m. m }

pub onward_frame : (old new : Tally) (frame : List ℕ) (a : Tallied) → Tallies old frame a new → Onward old new
onward_frame old new frame a h =
    by_test (λ b. Onward old new) (is_refused a)
    (λ t. rw (refused_kept old new (reading_of frame) a h.tallies t) (onward_same old))
    (λ f. record { made = λ m. record { frames = frame ∷ m.frames; by_frames = next m.by_frames h f } })

-- a run up to a turn
pub record Running (line₀ chunk₀ : List ℕ) (tally₀ : Tally) (line chunk : List ℕ) (tally : Tally) (s : State) : Type 0 where
  pub line_same : length line ≡ length line₀
  pub chunk_same : length chunk ≡ length chunk₀
  pub got : s.got ≤ length chunk
  pub onward : Onward tally₀ tally

module _ (line₀ chunk₀ : List ℕ) (tally₀ : Tally) where
  pub run_starts : (o : Options) (s : State) → s ≡ start_of o → Running line₀ chunk₀ tally₀ line₀ chunk₀ tally₀ s
  run_starts o s e = record { line_same = refl; chunk_same = refl; got = rw e (omega arith); onward = onward_same tally₀ }

  module _ (line chunk : List ℕ) (tally : Tally) (s : State) (h : Running line₀ chunk₀ tally₀ line chunk tally s) where
    pub run_turns : (line' chunk' : List ℕ) (tally' : Tally) (r : State) → length line' ≡ length line → length chunk' ≡ length chunk
        → r.got ≤ length chunk → Onward tally tally' → Running line₀ chunk₀ tally₀ line' chunk' tally' r
    run_turns line' chunk' tally' r l c g o =
        record {
          line_same = l ∙ h.line_same;
          chunk_same = c ∙ h.chunk_same;
          got = omega (arith, g, c);
          onward = record { made = λ m. o.made (h.onward.made m) };
        }

pub ruleset run_laws = (onward_same, onward_frame, run_starts, run_turns)

-- ---- the statements

adds_one : (old new : Tally) (n : ℕ) (facility severity : Option ℕ) (a : Tallied) (d : Result (Unit {0}) Refusal) → d ≡ addition old (row_of facility) (column_of severity) → Additions old n → a ≡ told_of d
    → new ≡ after d old (row_of facility) (column_of severity) → is_refused a ≡ false → Additions new (suc n)
adds_one old new n facility severity a (Ok tt) q before e l t = accepted {facility = facility} {severity = severity} before (record { answers = q; leaves = l })
adds_one old new n facility severity a (Err f) q before e l t = clash (sym (ap is_refused e) ∙ t)

adds : (old new : Tally) (n : ℕ) (r : Result StrictReading Refusal) (a : Tallied) → Additions old n → TalliesReading old r a new → is_refused a ≡ false
    → Additions new (if is_accepted r then suc n else n)
adds old new n (Ok x) a before h t =
    adds_one old new n x.reading.common.facility x.reading.common.severity a (addition old (row_of x.reading.common.facility) (column_of x.reading.common.severity)) refl before h.told h.leaves t
adds old new n (Err f) a before h t = rw h.leaves before

additions_of : (frames : List (List ℕ)) (t : Tally) → After frames t → Additions t (accept_count frames)
unfolding accept_count
additions_of [] t start = none
additions_of (f ∷ fs) t (next {old = old} {a = a} before h q) = adds old t (accept_count fs) (reading_of f) a (additions_of fs old before) h.tallies q

pub sum_is_accepted : SumIsAccepted
sum_is_accepted frames t h = (counts_accepted t (accept_count frames) (additions_of frames t h)).all_rows

pub read_as_listed : ReadAsListed
read_as_listed frame e₀ p₀ l m =
    let x = answers frame e₀ p₀ in record { elements = x.elements; params = x.params; reads = rw (l, m) at x.reads }
