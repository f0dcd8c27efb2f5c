-- A line: behind the timestamp, and from its start; by what decides each, and the rows of a reading.
use Rattle.std.specs.Prelude.{Option, Some, None}
use Prim.Native.Nat.{ℕ, ◌+◌, ◌-◌, ◌^◌, ◌≤◌, ◌<◌}
use mathlib.Core.Path.{◌≡◌, refl, sym, ◌∙◌}
use mathlib.Core.List.{List}
use native.Mathlib.Omega.{arith}
use lib.ListN.{length, drop, length-drop}
use mir.Syntax.{w64}
use mir.Val.{Fits}
use Rattle.record.specs.declared.Place.{Place}
use Rattle.record.specs.declared.Protocol.TheVariants.{Rfc5424}
use Rattle.pri.specs.Pri.{pri_at}
use Rattle.pri.specs.declared.Pri.{Pri}
use Rattle.pri.proofs.Readers.{pri_next}
use Rattle.parsers.specs.Steps.{blanks_from}
use Rattle.parsers.proofs.Steps.{blanks_within}
use Rattle.structured_data.specs.Data.{Rows, Data, data_from}
use Rattle.structured_data.specs.Data.Data.{no_data, is_data}
use Rattle.structured_data.specs.Tables.{counts_of}
use Rattle.structured_data.specs.declared.Rules.TheVariants.{Rfc5424Rules}
use Rattle.structured_data.specs.declared.Counts.{Counts}
use Rattle.draft.specs.Outcome.{Outcome}
use Rattle.draft.specs.Outcome.Outcome.{no_reading}
use Rattle.draft.specs.Drafts.{draft_of}
use Rattle.draft.specs.declared.Draft.{Draft}
use Rattle.draft.proofs.Outcomes.{RowsIn}
use Rattle.rfc5424.specs.Rfc5424.{start_from, on_start, four_from, on_four, on_data, body_from, rfc5424}
use Rattle.rfc5424.specs.declared.Start.{Start}
use Rattle.rfc5424.specs.declared.Four.{Four}
use Rattle.structured_data.proofs.Within.{rows_within}
use Rattle.rfc5424.proofs.Headers.{start_within, four_within}
use Rattle.record.specs.declared.Timestamp.{Timestamp}

-- the rows that were counted
counted : {P : Type 0} (d : Data) (c : Counts) → Some c ≡ counts_of d
    → ((rows : Rows) → d ≡ is_data rows → c ≡ record { elements = length rows.elements; params = length rows.params; next = rows.next } → P) → P
counted no_data c e k = let z : ◌≡◌ {A = ℕ} 0 1 = cc in absurd (omega arith)
counted (is_data rows) c e k = k rows refl (cc)

-- Behind the timestamp
module _ (pri : Pri) (version : ℕ) (stamp : Option Timestamp) (s : List ℕ) (at : ℕ) (f : Option (Four × ℕ)) (e : f ≡ four_from s at) where
  pub body_no_four : f ≡ None → None ≡ draft_of (body_from pri version stamp s at)
  unfolding body_from
  body_no_four z = rw (← e, z)

  module _ (host app procid msgid : Place) (a : ℕ) (z : f ≡ Some (record { host = host; app = app; procid = procid; msgid = msgid }, a)) (b : ℕ) (eb : b ≡ blanks_from s a)
      (c : Option Counts) (ec : c ≡ counts_of (data_from Rfc5424Rules s b)) where
    pub body_no_data : c ≡ None → None ≡ draft_of (body_from pri version stamp s at)
    unfolding body_from
    body_no_data q = rw (← e, z, ← eb) (go (data_from Rfc5424Rules s b) _ (sym q ∙ ec))
      where
        go : (d : Data) (k : Rows → Outcome) → None ≡ counts_of d → None ≡ draft_of (on_data d no_reading k)
        go no_data k q = refl
        go (is_data rows) k q = let m : ◌≡◌ {A = ℕ} 0 1 = cc in absurd (omega arith)

    module _ (x : Counts) (q : c ≡ Some x) where
      pub body_data : x.next ≤ length s
      body_data =
          counted (data_from Rfc5424Rules s b) x (sym q ∙ ec)
          (λ rows ed ex. rw ex (rows_within Rfc5424Rules s b rows ed (blanks_within s a b eb (four_within s at f e host app procid msgid a z))))

      pub body_is : (message : ℕ) → message ≡ blanks_from s x.next
          → Some (record {
            rules = Rfc5424Rules;
            read = record {
              protocol = Rfc5424 version;
              facility = pri.facility;
              severity = pri.severity;
              timestamp = stamp;
              host = host;
              app = app;
              procid = procid;
              msgid = msgid;
              message = record { start = message; len = length s - message };
            };
            at = b;
            elements = x.elements;
            params = x.params;
          })
          ≡ draft_of (body_from pri version stamp s at)
      unfolding body_from
      body_is message em =
          counted (data_from Rfc5424Rules s b) x (sym q ∙ ec)
          (λ rows ed ex. rw (← e, z, ← eb, ed, em, ex))

pub ruleset body_laws = (body_no_four, body_no_data, body_data, body_is, four_within, blanks_within)

-- From the start
module _ (s : List ℕ) (start : ℕ) (h : start ≤ length s) (p : List ℕ) (ep : p ≡ drop start s) (pri : Pri) (e : pri ≡ pri_at p) where
  pub line_pri : start + pri.next ≤ length s
  line_pri = rw (e, ep) (omega (arith, pri_next (drop start s), length-drop start s))

  pub line_fits : length s < 2 ^ 64 → Fits w64 (start + pri.next)
  line_fits l = record { fits = omega (arith, line_pri) }

  module _ (g : Option (Start × ℕ)) (eg : g ≡ start_from s (start + pri.next)) where
    pub line_no_start : g ≡ None → None ≡ draft_of (rfc5424 s start)
    unfolding rfc5424
    line_no_start z = rw (← ep, ← e, ← eg, z)

    pub line_is : (version : ℕ) (stamp : Option Timestamp) (a : ℕ) → g ≡ Some (record { version = version; timestamp = stamp }, a)
        → (d : Option Draft) → d ≡ draft_of (body_from pri version stamp s a) → d ≡ draft_of (rfc5424 s start)
    unfolding rfc5424
    line_is version stamp a z d q = q ∙ rw (← ep, ← e, ← eg, z)

pub ruleset line_laws = (line_pri, line_fits, line_no_start, line_is, start_within)

-- What holds of a failure, and of whatever a step's answer leads to, holds of the whole.
module _ (P : Outcome → Type 0) where
  pub on_start_lem : (x : Option (Start × ℕ)) (r : Outcome) (k : ℕ → Option Timestamp → ℕ → Outcome) → P r
      → ((v : ℕ) (t : Option Timestamp) (n : ℕ) → x ≡ Some (record { version = v; timestamp = t }, n) → P (k v t n)) → P (on_start x r k)
  on_start_lem None r k a b = a
  on_start_lem (Some x) r k a b = b x.0.version x.0.timestamp x.1 refl

  pub on_four_lem : (x : Option (Four × ℕ)) (r : Outcome) (k : Place → Place → Place → Place → ℕ → Outcome) → P r
      → ((h a p m : Place) (n : ℕ) → x ≡ Some (record { host = h; app = a; procid = p; msgid = m }, n) → P (k h a p m n)) → P (on_four x r k)
  on_four_lem None r k a b = a
  on_four_lem (Some x) r k a b = b x.0.host x.0.app x.0.procid x.0.msgid x.1 refl

  pub on_data_lem : (x : Data) (r : Outcome) (k : Rows → Outcome) → P r → ((rows : Rows) → x ≡ is_data rows → P (k rows)) → P (on_data x r k)
  on_data_lem no_data r k a b = a
  on_data_lem (is_data rows) r k a b = b rows refl

body_rows : (pri : Pri) (version : ℕ) (stamp : Option Timestamp) (s : List ℕ) (at : ℕ) → RowsIn s (body_from pri version stamp s at)
unfolding body_from
body_rows pri version stamp s at =
    on_four_lem (RowsIn s) (four_from s at) _ _ tt λ host app procid msgid a e.
    on_data_lem (RowsIn s) (data_from Rfc5424Rules s (blanks_from s a)) _ _ tt λ rows f.
    rw f

pub line_rows : (s : List ℕ) (start : ℕ) → RowsIn s (rfc5424 s start)
unfolding rfc5424
line_rows s start =
    on_start_lem (RowsIn s) (start_from s (start + (pri_at (drop start s)).next)) _ _ tt λ version stamp a e.
    body_rows (pri_at (drop start s)) version stamp s a
