-- The readings of both protocols: each text is whole characters.
use Rattle.std.specs.Prelude.{Option, Some, None}
use Prim.Native.Nat.{ℕ, ◌+◌, ◌-◌, ◌<◌}
use mathlib.Core.Path.{◌≡◌, refl, sym, ap, ◌∙◌}
use mathlib.Core.List.{List}
use mathlib.Core.Bool.{true, ◌&&◌}
use native.Mathlib.Omega.{arith}
use lib.Dec.{leb, eqb}
use lib.ListN.{length, take, drop, length-take}
use lib.IntN.{ℤ}
use lib.Seq.{get_or-take}
use Rattle.base.specs.Choose.{is_at}
use Rattle.base.specs.Runs.{run}
use Rattle.base.proofs.Tests.{both, by_if}
use Rattle.utf8.specs.Lead.{is_utf8}
use Rattle.record.specs.Places.{absent}
use Rattle.record.specs.declared.Place.{Place}
use Rattle.record.specs.declared.Record.{Record}
use Rattle.pri.specs.Pri.{pri_at}
use Rattle.pri.specs.declared.Pri.{Pri}
use Rattle.parsers.specs.Steps.{blanks_from, some_blanks_from, byte_from, number_from, host_from, plain_from, tag_from, on_some, on_read}
use Rattle.parsers.proofs.Steps.{at_there}
use Rattle.timestamp.specs.Rfc3339.{rfc3339_from}
use Rattle.timestamp.specs.Timestamp.{rfc3164_from}
use Rattle.timestamp.proofs.Onward.{on_num_lem, on_pos_lem}
use Rattle.structured_data.specs.Data.{data_from}
use Rattle.draft.specs.Outcome.{Outcome}
use Rattle.draft.specs.Outcome.Outcome.{no_reading, is_reading}
use Rattle.parsers.specs.Steps.{is_inside}
use Rattle.structured_data.specs.declared.Rules.TheVariants.{Rfc3164Rules, Rfc5424Rules}
use Rattle.rfc3164.specs.Names.{is_app, split_at, split_of, no_names, with_tag, only_field, host_and_tag}
use Rattle.rfc3164.specs.Rfc3164 as rfc3164
use Rattle.rfc3164.specs.declared.Names.{Names}
use Rattle.rfc3164.proofs.Lines.{by_header}
use Rattle.rfc5424.specs.Rfc5424 as rfc5424
use Rattle.rfc5424.specs.declared.Start.{Start}
use Rattle.rfc5424.specs.declared.Four.{Four}
use Rattle.rfc5424.proofs.Lines.{on_start_lem, on_four_lem, on_data_lem}
use Rattle.texts.proofs.Cuts.{Cut, Between, blanks_on, at_start, at_end_lem}
use Rattle.texts.proofs.Steps.{PosCut, StampCut, PlaceCut, FieldCut, some_cut, byte_cut, before_part, after_part, plain_cut, host_cut, tag_cut, colon_cut, rfc3339_cut, rfc3164_cut}
use Rattle.texts.proofs.Data.{RowsCut, data_cut, rows_cut}
use Rattle.record.specs.declared.Timestamp.{Timestamp}

pub record RecordCut (s : List ℕ) (r : Record) : Type 0 where
  pub host : PlaceCut s r.host
  pub app : PlaceCut s r.app
  pub procid : PlaceCut s r.procid
  pub msgid : PlaceCut s r.msgid
  pub message : Between s r.message.start r.message.len

abbrev pub OutcomeCut : List ℕ → Outcome → Type 0
OutcomeCut s no_reading = Unit {0}
OutcomeCut s (is_reading r at rows) = RecordCut s r × RowsCut s rows

-- the four fields of RFC 5424, and the position after them
record Places (s : List ℕ) (h a p m : Place) (n : ℕ) : Type 0 where
  host : PlaceCut s h
  app : PlaceCut s a
  procid : PlaceCut s p
  msgid : PlaceCut s m
  to : Cut s n

-- the names of RFC 3164
record NamesCut (s : List ℕ) (x : Names) : Type 0 where
  host : PlaceCut s x.host
  app : PlaceCut s x.app
  procid : PlaceCut s x.procid

-- a byte of a place
at_place : (s : List ℕ) (start len i b : ℕ) → 0 < b → is_at (take len (drop start s)) i b ≡ true → is_at (drop start s) i b ≡ true
at_place s start len i b p h =
    let l = at_there (take len (drop start s)) i b p h in
    let k : i < len = omega (arith, length-take len (drop start s)) in
    ap (λ (x : ℕ). eqb x b) (sym (get_or-take len (drop start s) i 0 k)) ∙ h

module _ (s : List ℕ) (u : is_utf8 s ≡ true) where
  pub absent_cut : PlaceCut s absent
  absent_cut = record { from = at_start s u; to = at_start s u }

  -- what follows a cut is the message
  message_cut : (at : ℕ) → Cut s at → Between s at (length s - at)
  message_cut at c = let e : length s ≡ at + (length s - at) = omega (arith, c.inside) in record { from = c; to = rw e at (at_end_lem s u) }

  -- ---- RFC 5424

  spaced : (x : Option ℕ) (read : ℕ → Option (Place × ℕ)) → PosCut s x → ((a : ℕ) → Cut s a → FieldCut s (read a)) → FieldCut s (on_some x None read)
  spaced None read h k = tt
  spaced (Some a) read h k = k a h

  blank_host_cut : (at : ℕ) → Cut s at → FieldCut s (rfc5424.blank_host s at)
  unfolding rfc5424.blank_host
  blank_host_cut at c = spaced (some_blanks_from s at) (host_from s) (some_cut s at c) (host_cut s u)

  blank_plain_cut : (at : ℕ) → Cut s at → FieldCut s (rfc5424.blank_plain s at)
  unfolding rfc5424.blank_plain
  blank_plain_cut at c = spaced (some_blanks_from s at) (plain_from s) (some_cut s at c) (plain_cut s u)

  on_field_lem : {R : Type 0} (P : R → Type 0) (x : Option (Place × ℕ)) (r : R) (k : Place → ℕ → R) → P r → FieldCut s x → ((p : Place) (n : ℕ) → PlaceCut s p → Cut s n → P (k p n))
      → P (on_read x r k)
  on_field_lem P None r k a h b = a
  on_field_lem P (Some x) r k a h b = b x.0 x.1 h.0 h.1

  abbrev FourCut : Option (Four × ℕ) → Type 0
  FourCut None = Unit {0}
  FourCut (Some x) = Places s x.0.host x.0.app x.0.procid x.0.msgid x.1

  four_cut : (at : ℕ) → Cut s at → FourCut (rfc5424.four_from s at)
  unfolding rfc5424.four_from
  four_cut at c =
      on_field_lem FourCut (rfc5424.blank_host s at) _ _ tt (blank_host_cut at c) λ host a h1 c1.
      on_field_lem FourCut (rfc5424.blank_plain s a) _ _ tt (blank_plain_cut a c1) λ app b h2 c2.
      on_field_lem FourCut (rfc5424.blank_plain s b) _ _ tt (blank_plain_cut b c2) λ procid d h3 c3.
      on_field_lem FourCut (rfc5424.blank_plain s d) _ _ tt (blank_plain_cut d c3) λ msgid n h4 c4.
      record { host = h1; app = h2; procid = h3; msgid = h4; to = c4 }

  abbrev StartCut : Option (Start × ℕ) → Type 0
  StartCut None = Unit {0}
  StartCut (Some x) = Cut s x.1

  start_cut : (at : ℕ) → StartCut (rfc5424.start_from s at)
  unfolding rfc5424.start_from
  start_cut at =
      on_num_lem StartCut (number_from s at) _ _ tt λ version a e1.
      on_pos_lem StartCut (some_blanks_from s a) _ _ tt λ b e2.
      go version (rfc3339_from s b) (rfc3339_cut s u b)
    where
      go : (v : ℕ) (x : Option (Option Timestamp × ℕ)) → StampCut s x → StartCut (rfc5424.start_of v x)
      go v None h = tt
      go v (Some x) h = h

  pub rfc5424_cut : (start : ℕ) → OutcomeCut s (rfc5424.rfc5424 s start)
  unfolding rfc5424.rfc5424 rfc5424.body_from
  rfc5424_cut start =
      on_start_lem (OutcomeCut s) (rfc5424.start_from s (start + (pri_at (drop start s)).next)) _ _ tt λ version stamp a e1.
      on_four_lem (OutcomeCut s) (rfc5424.four_from s a) _ _ tt λ host app procid msgid b e2.
      on_data_lem (OutcomeCut s) (data_from Rfc5424Rules s (blanks_from s b)) _ _ tt λ rows e3.
      let four = rw e2 at (four_cut a (rw e1 at (start_cut (start + (pri_at (drop start s)).next)))) in
      let «data» = rw e3 at (data_cut s u Rfc5424Rules (blanks_from s b) (blanks_on s b four.to)) in (
        record {
          host = four.host;
          app = four.app;
          procid = four.procid;
          msgid = four.msgid;
          message = message_cut _ (blanks_on s rows.next «data».to);
        },
        «data»,
      )

  -- ---- RFC 3164

  abbrev SplitCut : Place → Option (ℕ × ℕ) → Type 0
  SplitCut f None = Unit {0}
  SplitCut f (Some x) = Between s f.start x.0 × Between s (f.start + x.0 + 1) x.1

  split_cut : (f : Place) → PlaceCut s f → SplitCut f (split_of s f)
  unfolding split_of split_at
  split_cut f h =
      let t = take f.len (drop f.start s) in
      let a = run is_app t in
      let p = run is_inside (drop (a + 1) t) in
      by_if (SplitCut f) (is_at t a 91 && leb 1 p && is_at t (a + 1 + p) 93 && eqb (a + p + 2) (length t)) _ _
      (λ q.
      let (q₂, fills) = both (is_at t a 91 && leb 1 p && is_at t (a + 1 + p) 93) (eqb (a + p + 2) (length t)) q in
      let (q₁, closes) = both (is_at t a 91 && leb 1 p) (is_at t (a + 1 + p) 93) q₂ in
      let (opens, some) = both (is_at t a 91) (leb 1 p) q₁ in
      let there = at_place s f.start f.len a 91 (omega arith) opens in
      let last = at_place s f.start f.len (a + 1 + p) 93 (omega arith) closes in
      let e : f.start + (a + 1 + p) ≡ f.start + a + 1 + p = omega arith in (
        record { from = h.from; to = before_part s u f.start a 91 refl there },
        record {
          from = after_part s u f.start a 91 refl there;
          to = rw e at (before_part s u f.start (a + 1 + p) 93 refl last);
        },
      ))
      (λ q. tt)

  none_cut : NamesCut s no_names
  none_cut = record { host = absent_cut; app = absent_cut; procid = absent_cut }

  tagged_cut : (host tag : Place) → PlaceCut s host → PlaceCut s tag → (g : Option (ℕ × ℕ)) → SplitCut tag g → NamesCut s (with_tag host tag g)
  tagged_cut host tag h t None q = record { host = h; app = t; procid = absent_cut }
  tagged_cut host tag h t (Some x) q = record { host = h; app = q.0; procid = q.1 }

  only_cut : (f : Place) → PlaceCut s f → (g : Option (ℕ × ℕ)) → SplitCut f g → NamesCut s (only_field f g)
  only_cut f h None q = record { host = h; app = absent_cut; procid = absent_cut }
  only_cut f h (Some x) q = record { host = absent_cut; app = q.0; procid = q.1 }

  names_cut : (host : Place) (tag : Option (Place × ℕ)) → PlaceCut s host → FieldCut s tag → NamesCut s (host_and_tag s host tag)
  unfolding host_and_tag
  names_cut h (Some x) a b = by_if (NamesCut s) x.0.present _ _ (λ q. tagged_cut h x.0 a b.0 (split_of s x.0) (split_cut x.0 b.0)) (λ q. none_cut)
  names_cut h None a b = by_if (NamesCut s) h.present _ _ (λ q. only_cut h a (split_of s h) (split_cut h a)) (λ q. none_cut)

  space_cut : (at : ℕ) → PosCut s (byte_from s at 32)
  space_cut at = byte_cut s u at 32 refl

  spaced_host_cut : (at : ℕ) → FieldCut s (rfc3164.spaced_host s at)
  unfolding rfc3164.spaced_host
  spaced_host_cut at = spaced (byte_from s at 32) (host_from s) (space_cut at) (host_cut s u)

  spaced_tag_cut : (at : ℕ) → FieldCut s (rfc3164.spaced_tag s at)
  unfolding rfc3164.spaced_tag
  spaced_tag_cut at = spaced (byte_from s at 32) (tag_from s) (space_cut at) (tag_cut s u)

  after_cut : (at : ℕ) (f : Option (Place × ℕ)) → Cut s at → FieldCut s f → Cut s (rfc3164.behind_field at f)
  after_cut at None c h = c
  after_cut at (Some x) c h = h.1

  tag_end_cut : (at : ℕ) → Cut s at → Cut s (rfc3164.tag_end s at)
  unfolding rfc3164.tag_end
  tag_end_cut at c = blanks_on s _ (colon_cut s u _ (blanks_on s at c))

  header_cut : (at : ℕ) → Cut s at → NamesCut s (rfc3164.header_from s at).names × Cut s (rfc3164.header_from s at).next
  header_cut at c =
      by_header s at (λ r. NamesCut s r.names × Cut s r.next) (λ z. (none_cut, c)) λ host a z.
      let h : FieldCut s (Some (host, a)) = rw z at (spaced_host_cut at) in
      let tag = rfc3164.spaced_tag s a in
      (names_cut host tag h.0 (spaced_tag_cut a), after_cut a tag h.1 (spaced_tag_cut a))

  body_cut : (pri : Pri) (stamp : Option Timestamp) (at : ℕ) → Cut s at → OutcomeCut s (rfc3164.body_from pri stamp s at)
  unfolding rfc3164.body_from
  body_cut pri stamp at c =
      let (names, next) = header_cut at c in
      let «data» = rows_cut s u Rfc3164Rules (rfc3164.tag_end s (rfc3164.header_from s at).next) (tag_end_cut _ next) in (
        record {
          host = names.host;
          app = names.app;
          procid = names.procid;
          msgid = absent_cut;
          message = message_cut _ (blanks_on s _ «data».to);
        },
        «data»,
      )

  pub rfc3164_reading_cut : (year : ℕ) (o : ℤ) (start : ℕ) → OutcomeCut s (rfc3164.rfc3164 year o s start)
  unfolding rfc3164.rfc3164
  rfc3164_reading_cut year o start = go (rfc3164_from year o s from) (rfc3164_cut s u year o from)
    where
      pri : Pri
      pri = pri_at (drop start s)

      from : ℕ
      from = blanks_from s (start + pri.next)

      go : (g : Option (Option Timestamp × ℕ)) → StampCut s g → OutcomeCut s (on_read g no_reading (λ stamp a. rfc3164.body_from pri stamp s a))
      go None h = tt
      go (Some x) h = body_cut pri x.0 x.1 h
