-- What is read lies in the line: its places, and the position of the structured data.
use Rattle.std.specs.Prelude.{Option, Some, None}
use Prim.Native.Nat.{ℕ, ◌+◌, ◌≤◌}
use mathlib.Core.Path.{◌≡◌, refl}
use mathlib.Core.List.{List}
use native.Mathlib.Omega.{arith}
use lib.ListN.{length}
use Rattle.base.proofs.Tests.{by_if}
use Rattle.record.specs.declared.Place.{Place}
use Rattle.record.specs.declared.Record.{Record}
use Rattle.pri.specs.declared.Pri.{Pri}
use Rattle.draft.specs.Outcome.{Outcome}
use Rattle.draft.specs.Outcome.Outcome.{no_reading, is_reading}
use Rattle.rfc3164.specs.Names.{split_of, no_names, with_tag, only_field, host_and_tag}
use Rattle.rfc3164.specs.Rfc3164.{spaced_host, spaced_tag, tag_end, header_from, body_from}
use Rattle.rfc3164.specs.Steps.{FieldWithin, rest_from}
use Rattle.rfc3164.specs.declared.Names.{Names}
use Rattle.rfc3164.proofs.Splits.{parts_within}
use Rattle.rfc3164.proofs.Spaced.{host_within, tag_within}
use Rattle.rfc3164.proofs.Lines.{by_header, header_within, end_within, message_within}
use Rattle.record.specs.declared.Timestamp.{Timestamp}

abbrev pub PlaceIn : ℕ → Place → Type 0
PlaceIn n p = p.start + p.len ≤ n

-- host and tag
record NamesIn (n : ℕ) (x : Names) : Type 0 where
  host_in : PlaceIn n x.host
  app_in : PlaceIn n x.app
  procid_in : PlaceIn n x.procid

none_in : (n : ℕ) → NamesIn n no_names
none_in n = record { host_in = omega arith; app_in = omega arith; procid_in = omega arith }

module _ (s : List ℕ) where
  tagged_in : (host tag : Place) → PlaceIn (length s) host → PlaceIn (length s) tag → (g : Option (ℕ × ℕ)) → g ≡ split_of s tag → NamesIn (length s) (with_tag host tag g)
  tagged_in host tag h t None e = record { host_in = h; app_in = t; procid_in = omega arith }
  tagged_in host tag h t (Some x) e =
      let l = parts_within s tag (Some (x.0, x.1)) e x.0 x.1 refl t in
      record { host_in = h; app_in = omega arith; procid_in = omega arith }

  only_in : (f : Place) → PlaceIn (length s) f → (g : Option (ℕ × ℕ)) → g ≡ split_of s f → NamesIn (length s) (only_field f g)
  only_in f h None e = record { host_in = h; app_in = omega arith; procid_in = omega arith }
  only_in f h (Some x) e =
      let l = parts_within s f (Some (x.0, x.1)) e x.0 x.1 refl h in
      record { host_in = omega arith; app_in = omega arith; procid_in = omega arith }

  names_in : (host : Place) (tag : Option (Place × ℕ)) → PlaceIn (length s) host → FieldWithin s tag → NamesIn (length s) (host_and_tag s host tag)
  unfolding host_and_tag
  names_in h (Some x) a b = by_if (NamesIn (length s)) x.0.present _ _ (λ q. tagged_in h x.0 a b (split_of s x.0) refl) (λ q. none_in (length s))
  names_in h None a b = by_if (NamesIn (length s)) h.present _ _ (λ q. only_in h a (split_of s h) refl) (λ q. none_in (length s))

  header_in : (at : ℕ) → NamesIn (length s) (header_from s at).names
  header_in at =
      by_header s at (λ r. NamesIn (length s) r.names) (λ z. none_in (length s)) λ host a z.
      names_in host (spaced_tag s a) (host_within s at (spaced_host s at) refl host a z) (tag_within s a (spaced_tag s a) refl)

-- A record that is read from a line of `n` bytes, and the position of its structured data
pub record RecordIn (n : ℕ) (r : Record) (at : ℕ) : Type 0 where
  pub data_in : at ≤ n
  pub host_in : PlaceIn n r.host
  pub app_in : PlaceIn n r.app
  pub procid_in : PlaceIn n r.procid
  pub msgid_in : PlaceIn n r.msgid
  pub message_in : r.message.start + r.message.len ≤ n

abbrev OutcomeIn : ℕ → Outcome → Type 0
OutcomeIn n no_reading = Unit {0}
OutcomeIn n (is_reading r at rows) = RecordIn n r at

pub body_in : (pri : Pri) (stamp : Option Timestamp) (s : List ℕ) (at : ℕ) → at ≤ length s → OutcomeIn (length s) (body_from pri stamp s at)
unfolding body_from
body_in pri stamp s at h =
    let names = header_in s at in
    let b = tag_end s (header_from s at).next in
    let «data» = end_within s (header_from s at).next (header_within s at h (header_from s at) refl) b refl in
    let message = message_within s b «data» (rest_from s b) refl in
    record {
      data_in = «data»;
      host_in = names.host_in;
      app_in = names.app_in;
      procid_in = names.procid_in;
      msgid_in = omega arith;
      message_in = omega arith;
    }
