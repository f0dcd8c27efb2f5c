-- The walk from the end to the last record of a gate, and what is then answered.
use Rattle.std.specs.Prelude.{Option, Some, None, Result, Err}
use Prim.Native.Nat.{ℕ, ◌+◌, ◌-◌, ◌*◌, ◌/◌, ◌%◌, ◌^◌, ◌≤◌, ◌<◌}
use mathlib.Core.Path.{◌≡◌, refl, sym, ap, ◌∙◌}
use mathlib.Core.List.{List}
use native.Mathlib.Decide.{dec_le}
use native.Mathlib.Omega.{arith}
use lib.ListN.{length, get_or, take, drop, length-drop}
use lib.Seq.{get_or-take, get_or-drop, length-take-le}
use mir.Syntax.{w64}
use mir.Val.{Fits}
use Rattle.base.proofs.Texts.{part_text_lem}
use Rattle.record.specs.declared.Refusal.TheVariants.{NotFound, BadLength}
use Rattle.settings.specs.File.{IsWhole, record_count, record_at, gate_of, Chosen, Reads}
use Rattle.settings.specs.File.Reads.{bad_length, no_record, unknown_version, bad_field, taken}
use Rattle.settings.specs.Steps.{pair_number, PairAt, Seeks, Takes}
use Rattle.settings.specs.Steps.Takes.{unknown, bad, takes}
use Rattle.record.specs.declared.Refusal.{Refusal}
use Rattle.settings.specs.declared.Settings.{Settings}

-- the gate of record `i`, by its place in the file
pub gate_at : (file : List ℕ) (i : ℕ) → gate_of (record_at file i) ≡ pair_number file (i * 32 + 6)
gate_at file i =
    let e : i * 32 + 7 ≡ i * 32 + 6 + 1 = omega arith in
    let a : get_or (record_at file i) 6 0 ≡ get_or file (i * 32 + 6) 0 = get_or-take 32 (drop (i * 32) file) 6 0 (omega arith) ∙ get_or-drop (i * 32) file 6 0 in
    let b : get_or (record_at file i) 7 0 ≡ get_or file (i * 32 + 6 + 1) 0 =
    get_or-take 32 (drop (i * 32) file) 7 0 (omega arith) ∙ get_or-drop (i * 32) file 7 0 ∙ ap (λ (k : ℕ). get_or file k 0) e in
    rw (a, b)

-- No record from `i` on is the gate's.
pub record Sought (gate : ℕ) (file : List ℕ) (i : ℕ) : Type 0 where
  pub whole : IsWhole file
  pub inside : i ≤ record_count file
  pub none_behind : (k : ℕ) → i ≤ k → k < record_count file → gate_of (record_at file k) ≡ gate → ⊥

module _ (gate : ℕ) (file : List ℕ) where
  pub sought_start : IsWhole file → Sought gate file (length file / 32)
  sought_start h = record { whole = h; inside = omega arith; none_behind = λ k l m e. omega arith }

  pub sought_none : (i : ℕ) → Sought gate file i → i ≤ 0 → Seeks gate file None
  sought_none i w z = record { is = record { whole = w.whole; none = λ k l. w.none_behind k (omega arith) l } }

  module _ (i : ℕ) (w : Sought gate file i) (p : 0 < i) where
    pub sought_inside : (i - 1) * 32 + 6 + 2 ≤ length file
    sought_inside = omega (arith, w.inside)

    module _ (n : ℕ) (q : PairAt file ((i - 1) * 32 + 6) n) where
      pub sought_at : n ≡ gate → Seeks gate file (Some (i - 1))
      sought_at e =
          record {
            is = record {
              whole = w.whole;
              inside = omega (arith, w.inside);
              own = gate_at file (i - 1) ∙ sym q.is ∙ e;
              last = λ k l m. w.none_behind k (omega arith) m;
            };
          }

      pub sought_on : (n ≡ gate → ⊥) → Sought gate file (i - 1)
      sought_on e =
          record {
            whole = w.whole;
            inside = omega (arith, w.inside);
            none_behind = λ k l m g. next k l m g (dec_le i k);
          }
        where
          next : (k : ℕ) → i - 1 ≤ k → k < record_count file → gate_of (record_at file k) ≡ gate → Dec (i ≤ k) → ⊥
          next k l m g (yes z) = w.none_behind k z m g
          next k l m g (no z) =
              let s : i - 1 ≡ k = omega arith in
              e (q.is ∙ sym (gate_at file (i - 1)) ∙ ap (λ (j : ℕ). gate_of (record_at file j)) s ∙ g)

pub ruleset sought_laws = (sought_start, sought_none, sought_inside, sought_at, sought_on)

-- ---- the answer

pub read_length : (greatest : ℕ) (file : List ℕ) (gate : ℕ) → (length file % 32 ≡ 0 → ⊥) → Reads greatest file gate (Err BadLength)
read_length greatest file gate h = bad_length h refl

pub read_none : (greatest : ℕ) (file : List ℕ) (gate : ℕ) (f : Option ℕ) → Seeks gate file f → f ≡ None → Reads greatest file gate (Err NotFound)
read_none greatest file gate f w e = no_record (rw e at w.is) refl

module _ (greatest : ℕ) (file : List ℕ) (gate : ℕ) (f : Option ℕ) (w : Seeks gate file f) (i : ℕ) (e : f ≡ Some i) where
  chosen : Chosen gate file i
  chosen = rw e at w.is

  pub chosen_inside : i * 32 + 32 ≤ length file
  chosen_inside = omega (arith, chosen.inside)

  module _ (l : length file < 2 ^ 64) where
    pub chosen_start : Fits w64 (i * 32)
    chosen_start = record { fits = omega (arith, chosen_inside) }

    pub chosen_end : Fits w64 (i * 32 + 32)
    chosen_end = record { fits = omega (arith, chosen_inside) }

    pub chosen_small : i * 32 + 32 < 2 ^ 64
    chosen_small = omega (arith, chosen_inside)

  pub chosen_length : length (take (i * 32 + 32 - i * 32) (drop (i * 32) file)) ≡ 32
  chosen_length = rw (part_text_lem file (i * 32) 32) (length-take-le 32 (drop (i * 32) file) (omega (arith, chosen_inside, length-drop (i * 32) file)))

  pub read_chosen : (r : Result Settings Refusal) → Takes greatest (take (i * 32 + 32 - i * 32) (drop (i * 32) file)) (i * 32) r → Reads greatest file gate r
  read_chosen r t = go (rw (part_text_lem file (i * 32) 32) at t)
    where
      go : Takes greatest (record_at file i) (i * 32) r → Reads greatest file gate r
      go (unknown v q) = unknown_version i chosen v q
      go (bad v n q) = bad_field i chosen v n q
      go (takes m v h q) = taken i m chosen v h q

pub ruleset read_laws = (read_length, read_none, chosen_inside, chosen_start, chosen_end, chosen_small, chosen_length, read_chosen)
