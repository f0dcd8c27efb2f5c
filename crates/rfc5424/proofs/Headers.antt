-- The header: version and timestamp, and the four fields, by what decides each; and that they and the positions behind them lie in the line.
use Rattle.std.specs.Prelude.{Option, Some, None}
use Prim.Native.Nat.{ℕ, ◌+◌, ◌≤◌}
use mathlib.Core.Path.{◌≡◌, refl, ◌∙◌}
use mathlib.Core.List.{List}
use native.Mathlib.Omega.{arith}
use lib.ListN.{length}
use Rattle.calendar.specs.Calendar.{offset_limit}
use Rattle.record.specs.declared.Place.{Place}
use Rattle.parsers.specs.Steps.{some_blanks_from, number_from, host_from, plain_from, on_some, on_read}
use Rattle.parsers.proofs.Steps.{some_within, number_within}
use Rattle.parsers.proofs.Fields.{FieldIn, host_place_lem, plain_place}
use Rattle.timestamp.specs.Rfc3339.{rfc3339_from}
use Rattle.timestamp.proofs.Onward.{on_num_lem, on_pos_lem}
use Rattle.timestamp.proofs.Answers.{StampIn, rfc3339_within, rfc3339_stamp}
use Rattle.rfc5424.specs.Rfc5424.{blank_host, blank_plain, start_of, start_from, four_from}
use Rattle.rfc5424.specs.declared.Start.{Start}
use Rattle.rfc5424.specs.declared.Four.{Four}
use Rattle.record.specs.declared.Timestamp.{Timestamp}

-- Blanks and a field
module _ (s : List ℕ) (at : ℕ) (g : Option ℕ) (e : g ≡ some_blanks_from s at) where
  pub host_joined : g ≡ None → None ≡ blank_host s at
  unfolding blank_host
  host_joined z = rw (← e, z)

  pub plain_joined : g ≡ None → None ≡ blank_plain s at
  unfolding blank_plain
  plain_joined z = rw (← e, z)

  module _ (a : ℕ) (z : g ≡ Some a) (f : Option (Place × ℕ)) where
    pub host_behind : f ≡ host_from s a → f ≡ blank_host s at
    unfolding blank_host
    host_behind q = q ∙ rw (← e, z)

    pub plain_behind : f ≡ plain_from s a → f ≡ blank_plain s at
    unfolding blank_plain
    plain_behind q = q ∙ rw (← e, z)

pub ruleset blank_laws = (host_joined, plain_joined, host_behind, plain_behind, some_within)

-- Version and timestamp
module _ (s : List ℕ) (at : ℕ) (v : Option (ℕ × ℕ)) (e : v ≡ number_from s at) where
  pub start_unversioned : v ≡ None → None ≡ start_from s at
  unfolding start_from
  start_unversioned z = rw (← e, z)

  module _ (version a : ℕ) (z : v ≡ Some (version, a)) (g : Option ℕ) (eg : g ≡ some_blanks_from s a) where
    pub start_joined : g ≡ None → None ≡ start_from s at
    unfolding start_from
    start_joined q = rw (← e, z, ← eg, q)

    module _ (b : ℕ) (q : g ≡ Some b) (t : Option (Option Timestamp × ℕ)) (et : t ≡ rfc3339_from s b) where
      pub start_unstamped : t ≡ None → None ≡ start_from s at
      unfolding start_from
      start_unstamped p = rw (← e, z, ← eg, q, ← et, p)

      pub start_is : (stamp : Option Timestamp) (next : ℕ) → t ≡ Some (stamp, next) → Some (record { version = version; timestamp = stamp }, next) ≡ start_from s at
      unfolding start_from
      start_is stamp next p = rw (← e, z, ← eg, q, ← et, p)

pub ruleset start_laws = (start_unversioned, start_joined, start_unstamped, start_is, number_within, some_within)

-- What is read lies in the line, and so do the positions behind it; the timestamp is one that can be shown
abbrev FieldWithin : ℕ → Option (Place × ℕ) → Type 0
FieldWithin n None = Unit {0}
FieldWithin n (Some x) = FieldIn n x.0 x.1

abbrev StartWithin : ℕ → Option (Start × ℕ) → Type 0
StartWithin n None = Unit {0}
StartWithin n (Some x) = StampIn offset_limit x.0.timestamp × (x.1 ≤ n)

pub record FourIn (n : ℕ) (h a p m : Place) (k : ℕ) : Type 0 where
  pub host_in : h.start + h.len ≤ n
  pub app_in : a.start + a.len ≤ n
  pub procid_in : p.start + p.len ≤ n
  pub msgid_in : m.start + m.len ≤ n
  pub within_line : k ≤ n

abbrev FourWithin : ℕ → Option (Four × ℕ) → Type 0
FourWithin n None = Unit {0}
FourWithin n (Some x) = FourIn n x.0.host x.0.app x.0.procid x.0.msgid x.1

on_field_lem : {R : Type 0} (P : R → Type 0) (x : Option (Place × ℕ)) (r : R) (k : Place → ℕ → R) → P r → ((p : Place) (n : ℕ) → x ≡ Some (p, n) → P (k p n)) → P (on_read x r k)
on_field_lem P None r k a b = a
on_field_lem P (Some x) r k a b = b x.0 x.1 refl

module _ (s : List ℕ) (at : ℕ) where
  -- whatever is read behind blanks
  blank_in : (read : ℕ → Option (Place × ℕ)) → ((a : ℕ) (p : Place) (n : ℕ) → read a ≡ Some (p, n) → FieldIn (length s) p n)
      → FieldWithin (length s) (on_some (some_blanks_from s at) None read)
  blank_in read h = on_pos_lem (FieldWithin (length s)) (some_blanks_from s at) _ _ tt (λ a e. go (read a) (h a))
    where
      go : (f : Option (Place × ℕ)) → ((p : Place) (n : ℕ) → f ≡ Some (p, n) → FieldIn (length s) p n) → FieldWithin (length s) f
      go None h = tt
      go (Some x) h = h x.0 x.1 refl

  start_in : StartWithin (length s) (start_from s at)
  unfolding start_from
  start_in =
      on_num_lem (StartWithin (length s)) (number_from s at) _ _ tt λ v a e.
      on_pos_lem (StartWithin (length s)) (some_blanks_from s a) _ _ tt λ b f.
      go v (rfc3339_from s b) (λ t n z. (rfc3339_stamp s b _ t n z refl, rfc3339_within s b _ t n z refl))
    where
      go : (v : ℕ) (r : Option (Option Timestamp × ℕ)) → ((t : Option Timestamp) (n : ℕ) → r ≡ Some (t, n) → StampIn offset_limit t × (n ≤ length s)) → StartWithin (length s) (start_of v r)
      go v None h = tt
      go v (Some x) h = h x.0 x.1 refl

  module _ (g : Option (Start × ℕ)) (e : g ≡ start_from s at) (v : ℕ) (t : Option Timestamp) (n : ℕ) (z : g ≡ Some (record { version = v; timestamp = t }, n)) where
    pub start_stamp : StampIn offset_limit t
    start_stamp = (rw (← e, z) at start_in).0

    pub start_within : n ≤ length s
    start_within = (rw (← e, z) at start_in).1

  module _ (g : Option (Place × ℕ)) (p : Place) (n : ℕ) (z : g ≡ Some (p, n)) where
    blank_host_place : g ≡ blank_host s at → FieldIn (length s) p n
    unfolding blank_host
    blank_host_place e = rw (← e, z) at (blank_in (host_from s) (λ a q m f. host_place_lem s a (host_from s a) q m f refl))

    blank_plain_place : g ≡ blank_plain s at → FieldIn (length s) p n
    unfolding blank_plain
    blank_plain_place e = rw (← e, z) at (blank_in (plain_from s) (λ a q m f. plain_place s a (plain_from s a) q m f refl))

    pub blank_host_within : g ≡ blank_host s at → n ≤ length s
    blank_host_within e = (blank_host_place e).within_line

    pub blank_plain_within : g ≡ blank_plain s at → n ≤ length s
    blank_plain_within e = (blank_plain_place e).within_line

module _ (s : List ℕ) (at : ℕ) where
  four_in : FourWithin (length s) (four_from s at)
  unfolding four_from
  four_in =
      on_field_lem (FourWithin (length s)) (blank_host s at) _ _ tt λ host a e1.
      on_field_lem (FourWithin (length s)) (blank_plain s a) _ _ tt λ app b e2.
      on_field_lem (FourWithin (length s)) (blank_plain s b) _ _ tt λ procid c e3.
      on_field_lem (FourWithin (length s)) (blank_plain s c) _ _ tt λ msgid d e4.
      let i1 = blank_host_place s at (blank_host s at) host a e1 refl in
      let i2 = blank_plain_place s a (blank_plain s a) app b e2 refl in
      let i3 = blank_plain_place s b (blank_plain s b) procid c e3 refl in
      let i4 = blank_plain_place s c (blank_plain s c) msgid d e4 refl in
      record {
        host_in = omega (arith, i1);
        app_in = omega (arith, i2);
        procid_in = omega (arith, i3);
        msgid_in = omega (arith, i4);
        within_line = i4.within_line;
      }

  module _ (g : Option (Four × ℕ)) (e : g ≡ four_from s at) (h a p m : Place) (n : ℕ) (z : g ≡ Some (record { host = h; app = a; procid = p; msgid = m }, n)) where
    pub four_places : FourIn (length s) h a p m n
    four_places = rw (← e, z) at four_in

    pub four_within : n ≤ length s
    four_within = four_places.within_line

-- The four fields
module _ (s : List ℕ) (at : ℕ) (f : Option (Place × ℕ)) (e : f ≡ blank_host s at) where
  pub four_no_host : f ≡ None → None ≡ four_from s at
  unfolding four_from
  four_no_host z = rw (← e, z)

  module _ (host : Place) (a : ℕ) (z : f ≡ Some (host, a)) (g : Option (Place × ℕ)) (eg : g ≡ blank_plain s a) where
    pub four_no_app : g ≡ None → None ≡ four_from s at
    unfolding four_from
    four_no_app q = rw (← e, z, ← eg, q)

    module _ (app : Place) (b : ℕ) (y : g ≡ Some (app, b)) (h : Option (Place × ℕ)) (eh : h ≡ blank_plain s b) where
      pub four_no_procid : h ≡ None → None ≡ four_from s at
      unfolding four_from
      four_no_procid q = rw (← e, z, ← eg, y, ← eh, q)

      module _ (procid : Place) (c : ℕ) (x : h ≡ Some (procid, c)) (k : Option (Place × ℕ)) (ek : k ≡ blank_plain s c) where
        pub four_no_msgid : k ≡ None → None ≡ four_from s at
        unfolding four_from
        four_no_msgid q = rw (← e, z, ← eg, y, ← eh, x, ← ek, q)

        pub four_is : (msgid : Place) (d : ℕ) → k ≡ Some (msgid, d) → Some (record { host = host; app = app; procid = procid; msgid = msgid }, d) ≡ four_from s at
        unfolding four_from
        four_is msgid d q = rw (← e, z, ← eg, y, ← eh, x, ← ek, q)

pub ruleset four_laws = (four_no_host, four_no_app, four_no_procid, four_no_msgid, four_is, blank_host_within, blank_plain_within)
