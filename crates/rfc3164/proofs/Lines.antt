-- A line, step by step.
use Rattle.std.specs.Prelude.{Option, Some, None}
use Prim.Native.Nat.{ℕ, ◌+◌, ◌-◌, ◌^◌, ◌≤◌, ◌<◌}
use mathlib.Core.Path.{◌≡◌, refl, sym, ◌∙◌}
use mathlib.Core.List.{List}
use native.Mathlib.Omega.{arith}
use lib.ListN.{length, drop, length-drop}
use lib.IntN.{ℤ}
use mir.Syntax.{w32, w64}
use mir.Val.{Fits, SFits, to_z, of_z}
use mir.ValLaws.{to_z-of_z}
use Rattle.record.specs.Places.{absent}
use Rattle.record.specs.declared.Place.{Place}
use Rattle.record.specs.declared.Span.{Span}
use Rattle.record.specs.declared.Protocol.TheVariants.{Rfc3164}
use Rattle.record.specs.declared.Record.{Record}
use Rattle.pri.specs.Pri.{pri_at}
use Rattle.pri.specs.declared.Pri.{Pri}
use Rattle.pri.proofs.Readers.{pri_next}
use Rattle.parsers.specs.Steps.{blanks_from, colon_from, on_read}
use Rattle.parsers.proofs.Steps as steps
use Rattle.parsers.proofs.Steps.{blanks_within}
use Rattle.timestamp.specs.Timestamp.{rfc3164_from}
use Rattle.timestamp.proofs.Answers.{rfc3164_within}
use Rattle.structured_data.specs.Data.{Data, data_from, rows_or}
use Rattle.structured_data.specs.Data.Data.{no_data, is_data}
use Rattle.structured_data.specs.Tables.{counts_of}
use Rattle.structured_data.specs.declared.Rules.TheVariants.{Rfc3164Rules}
use Rattle.structured_data.specs.declared.Counts.{Counts}
use Rattle.draft.specs.Outcome.Outcome.{no_reading}
use Rattle.draft.specs.Drafts.{draft_of}
use Rattle.draft.specs.declared.Draft.{Draft}
use Rattle.draft.proofs.Outcomes.{RowsIn}
use Rattle.rfc3164.specs.Names.{no_names, host_and_tag}
use Rattle.rfc3164.specs.Rfc3164.{spaced_host, spaced_tag, behind_field, tag_end, tagged_from, header_from, body_from, rfc3164}
use Rattle.rfc3164.specs.Steps.{rest_of, rest_from, record_of}
use Rattle.rfc3164.specs.declared.Names.{Names}
use Rattle.rfc3164.specs.declared.Header.{Header}
use Rattle.rfc3164.specs.declared.Rest.{Rest}
use Rattle.rfc3164.proofs.Spaced.{behind_tag, behind_host}
use Rattle.structured_data.proofs.Within.{data_within}
use Rattle.record.specs.declared.Timestamp.{Timestamp}

-- behind the tag
module _ (s : List ℕ) (at a b : ℕ) (ea : a ≡ blanks_from s at) (eb : b ≡ colon_from s a) where
  pub colon_within : at ≤ length s → b ≤ length s
  colon_within h = rw eb (steps.colon_within s a (blanks_within s at a ea h))

  pub tag_end_is : (n : ℕ) → n ≡ blanks_from s b → n ≡ tag_end s at
  unfolding tag_end
  tag_end_is n e = e ∙ rw (eb, ea)

pub ruleset end_laws = (colon_within, tag_end_is)

pub end_within : (s : List ℕ) (at : ℕ) → at ≤ length s → (n : ℕ) → n ≡ tag_end s at → n ≤ length s
unfolding tag_end
end_within s at h n e = blanks_within s _ n e (colon_within s at _ _ refl refl h)

-- host and tag
pub tagged_is : (s : List ℕ) (at : ℕ) (host : Place) (tag : Option (Place × ℕ)) → tag ≡ spaced_tag s at → (a : ℕ) → a ≡ behind_field at tag
    → (names : Names) → names ≡ host_and_tag s host tag → record { names = names; next = a } ≡ tagged_from s host at
tagged_is s at host tag et a ea names e = rw (e, ea, et)

module _ (s : List ℕ) (at : ℕ) where
  module _ (f : Option (Place × ℕ)) (ef : f ≡ spaced_host s at) where
    pub header_none : f ≡ None → (names : Names) → names ≡ no_names → record { names = names; next = at } ≡ header_from s at
    unfolding header_from
    header_none z names e = rw (e, ← ef, z)

    pub header_is : (host : Place) (a : ℕ) → f ≡ Some (host, a) → (r : Header) → r ≡ tagged_from s host a → r ≡ header_from s at
    unfolding header_from
    header_is host a z r e = e ∙ rw (← ef, z)

  -- a case at the host
  pub by_header : (P : Header → Type 0) → (spaced_host s at ≡ None → P (record { names = no_names; next = at }))
      → ((host : Place) (a : ℕ) → spaced_host s at ≡ Some (host, a) → P (tagged_from s host a)) → P (header_from s at)
  unfolding header_from
  by_header P none some = go (spaced_host s at) refl
    where
      go : (f : Option (Place × ℕ)) → spaced_host s at ≡ f → P (on_read f (record { names = no_names; next = at }) (λ host a. tagged_from s host a))
      go None z = none z
      go (Some x) z = some x.0 x.1 z

  header_next_lem : at ≤ length s → (header_from s at).next ≤ length s
  header_next_lem h =
      by_header (λ r. r.next ≤ length s) (λ z. h) λ host a z.
      behind_tag s a (spaced_tag s a) refl (behind_host s at (spaced_host s at) refl host a z) (behind_field a (spaced_tag s a)) refl

  pub header_within : at ≤ length s → (r : Header) → r ≡ header_from s at → r.next ≤ length s
  header_within h r e = rw e (header_next_lem h)

pub ruleset header_laws = (header_none, header_is)

-- structured data and message
module _ (s : List ℕ) (at : ℕ) (g : Option Counts) (eg : g ≡ counts_of (data_from Rfc3164Rules s at)) where
  pub rest_none : g ≡ None → (m : ℕ) → m ≡ blanks_from s at → record { elements = 0; params = 0; message = m } ≡ rest_from s at
  rest_none z m em = rw em (go (data_from Rfc3164Rules s at) (sym eg ∙ z))
    where
      go : (d : Data) → counts_of d ≡ None → record { elements = 0; params = 0; message = blanks_from s at } ≡ rest_of s (rows_or at d)
      go no_data q = refl
      go (is_data rows) q = let m : ◌≡◌ {A = ℕ} 0 1 = cc in absurd (omega arith)

  module _ (c : Counts) (z : g ≡ Some c) where
    pub rest_some : (m : ℕ) → m ≡ blanks_from s c.next → record { elements = c.elements; params = c.params; message = m } ≡ rest_from s at
    rest_some m em = rw em (go (data_from Rfc3164Rules s at) (sym eg ∙ z))
      where
        go : (d : Data) → counts_of d ≡ Some c → record { elements = c.elements; params = c.params; message = blanks_from s c.next } ≡ rest_of s (rows_or at d)
        go no_data q = let m : ◌≡◌ {A = ℕ} 0 1 = cc in absurd (omega arith)
        go (is_data rows) q =
            let k : ◌≡◌ {A = Counts} c (record { elements = length rows.elements; params = length rows.params; next = rows.next }) = cc in
            rw k refl

    pub rest_within : at ≤ length s → c.next ≤ length s
    rest_within h = data_within Rfc3164Rules s at h g eg c z

pub ruleset rest_laws = (rest_none, rest_some, rest_within)

pub message_within : (s : List ℕ) (at : ℕ) → at ≤ length s → (r : Rest) → r ≡ rest_from s at → r.message ≤ length s
message_within s at h r e = rw e (go (data_from Rfc3164Rules s at) (λ c z. data_within Rfc3164Rules s at h _ refl c z))
  where
    go : (d : Data) → ((c : Counts) → counts_of d ≡ Some c → c.next ≤ length s) → (rest_of s (rows_or at d)).message ≤ length s
    go no_data i = blanks_within s at _ refl h
    go (is_data rows) i = blanks_within s rows.next _ refl (i _ refl)

-- behind the timestamp
pub record_is : (pri : Pri) (stamp : Option Timestamp) (names : Names) (message : Span) (n : Place) → n ≡ absent
    → record {
      protocol = Rfc3164;
      facility = pri.facility;
      severity = pri.severity;
      timestamp = stamp;
      host = names.host;
      app = names.app;
      procid = names.procid;
      msgid = n;
      message = message;
    }
    ≡ record_of pri stamp names message
record_is pri stamp names message n e = rw e

pub body_is : (pri : Pri) (stamp : Option Timestamp) (s : List ℕ) (at : ℕ) (h : Header) → h ≡ header_from s at → (b : ℕ) → b ≡ tag_end s h.next → (r : Rest) → r ≡ rest_from s b
    → (x : Record) → x ≡ record_of pri stamp h.names (record { start = r.message; len = length s - r.message })
    → Some (record { rules = Rfc3164Rules; read = x; at = b; elements = r.elements; params = r.params }) ≡ draft_of (body_from pri stamp s at)
unfolding body_from
body_is pri stamp s at h eh b eb r er x ex = rw (ex, er, eb, eh)

pub ruleset body_laws = (header_within, end_within, message_within, body_is)

-- the whole line
module _ (year : ℕ) (o : ℤ) (s : List ℕ) (start : ℕ) (u : List ℕ) (eu : u ≡ drop start s) (pri : Pri) (ep : pri ≡ pri_at u) where
  pub pri_within : start ≤ length s → start + pri.next ≤ length s
  pri_within h = rw (ep, eu) (omega (arith, pri_next (drop start s), length-drop start s))

  pub pri_fits : start ≤ length s → length s < 2 ^ 64 → Fits w64 (start + pri.next)
  pri_fits h l = record { fits = omega (arith, pri_within h) }

  module _ (n : ℕ) (en : n ≡ blanks_from s (start + pri.next)) where
    pub stamp_at_lem : start ≤ length s → n ≤ length s
    stamp_at_lem h = blanks_within s _ n en (pri_within h)

    module _ (f : SFits w32 o) (g : Option (Option Timestamp × ℕ)) (eg : g ≡ rfc3164_from year (to_z w32 (of_z w32 o)) s n) where
      stamping : g ≡ rfc3164_from year o s n
      stamping = eg ∙ rw (to_z-of_z w32 o f)

      pub line_none : g ≡ None → None ≡ draft_of (rfc3164 year o s start)
      unfolding rfc3164
      line_none z = rw (← eu, ← ep, ← en, ← stamping, z)

      module _ (t : Option Timestamp) (a : ℕ) (z : g ≡ Some (t, a)) where
        pub stamp_within : a ≤ length s
        stamp_within = rfc3164_within s n g t a z year o stamping

        pub line_is : (r : Option Draft) → r ≡ draft_of (body_from pri t s a) → r ≡ draft_of (rfc3164 year o s start)
        unfolding rfc3164
        line_is r e = e ∙ rw (← eu, ← ep, ← en, ← stamping, z)

pub ruleset line_laws = (pri_within, pri_fits, stamp_at_lem, line_none, stamp_within, line_is)

-- the rows of a reading
pub line_rows : (year : ℕ) (o : ℤ) (s : List ℕ) (start : ℕ) → RowsIn s (rfc3164 year o s start)
unfolding rfc3164 body_from
line_rows year o s start = go (rfc3164_from year o s (blanks_from s (start + (pri_at (drop start s)).next)))
  where
    go : (g : Option (Option Timestamp × ℕ)) → RowsIn s (on_read g no_reading (λ stamp a. body_from (pri_at (drop start s)) stamp s a))
    go None = tt
    go (Some x) = refl
