-- A claimed timestamp, test by test.
use Rattle.std.specs.Prelude.{if◌then◌else◌, Option, Some, None}
use Prim.Native.Nat.{ℕ, ◌+◌, ◌^◌, ◌≤◌, ◌<◌}
use mathlib.Core.Path.{◌≡◌, refl, sym, ap, ◌∙◌}
use mathlib.Core.Bool.{Bool, true, false, not, ◌&&◌}
use mathlib.Core.List.{List, []}
use native.Mathlib.Omega.{arith}
use lib.Dec.{leb, eqb}
use lib.IntN.{nat_abs}
use lib.ListN.{length, get_or}
use mir.Syntax.{w32, w64}
use mir.Val.{SFits, to_z, of_z}
use mir.ValLaws.{to_z-of_z}
use borrow.Author.Tests.{lt-leb, le-leb, ne_eqb, eq-eqb, eqb-true, not-true, not-false}
use Rattle.base.specs.Choose.{is_at}
use Rattle.base.proofs.Tests.{clash, both, told}
use Rattle.calendar.specs.Calendar.{offset_limit}
use Rattle.calendar.specs.Instant.{shown}
use Rattle.calendar.specs.declared.DateTime.{DateTime}
use Rattle.record.specs.Limits.{line_limit}
use Rattle.record.specs.declared.Place.{Place}
use Rattle.record.specs.declared.Timestamp.{Timestamp}
use Rattle.grammar.specs.Line.{offset_then, timestamp_then}
use Rattle.suits.specs.Suits.{stamp_suits}
use Rattle.suits.proofs.Suited.{stamp_in_lem}
use Rattle.message_stamp.specs.Stamps.{clock_text, fraction_text}
use Rattle.claims.specs.Texts.{clock_in, fraction_len, zone_by, zone_at, written_stamp}
use Rattle.claims.specs.Holds.{byte_next, stands_at, sign_holds, stamp_holds, stamp_next}
use Rattle.claims.proofs.Bytes.{byte_inside}
use Rattle.claim_header.specs.Zones.{zone_len, zone_holds, Standing, stamp_stands}
use Rattle.claim_header.proofs.Zones.{whole_size, whole_stands}

-- the sign in front of the texts
sign_first : (a b s z : Bool) → (a && b && (s && z)) ≡ (s && (a && (b && z)))
sign_first true true s z = refl
sign_first true false true z = refl
sign_first true false false z = refl
sign_first false b true z = refl
sign_first false b false z = refl

-- ---- the text

module _ (line : List ℕ) (at zone : ℕ) (t : Timestamp) (w : Standing line at zone t) where
  module _ (fs : SFits w64 t.seconds) (fo : SFits w32 t.offset) (v : Option DateTime) (ev : v ≡ shown (to_z w64 (of_z w64 t.seconds)) (to_z w32 (of_z w32 t.offset))) where
    shown_is : v ≡ shown t.seconds t.offset
    shown_is = rw (to_z-of_z w64 t.seconds fs, to_z-of_z w32 t.offset fo) at ev

    pub stamp_outside : v ≡ None → false ≡ stamp_stands line at t
    stamp_outside q = absurd (go (sym q ∙ shown_is ∙ (stamp_in_lem t w.fits).shows))
      where
        go : {c : DateTime} → None ≡ Some c → ⊥
        go h = let z : true ≡ false = cc in clash z

    pub stamp_told : (c : DateTime) → v ≡ Some c → (x y z : Bool) → x ≡ stands_at line at (clock_text c) → y ≡ stands_at line (at + 19) (fraction_text t.digits t.nanos)
        → z ≡ zone_holds line zone t.offset → (x && y && z) ≡ stamp_stands line at t
    unfolding zone_holds
    stamp_told c q x y z ex ey ez =
        let sh : shown t.seconds t.offset ≡ Some c = sym shown_is ∙ q in
        let k = t.digits in
        let b = get_or line (zone_at at k) 0 in
        let f = stands_at line at (clock_text c) in
        let g = stands_at line (at + 19) (fraction_text k t.nanos) in
        let h = stands_at line (zone_at at k) (offset_then (zone_by b (nat_abs t.offset)) []) in
        let st : stands_at line at (timestamp_then (written_stamp line at (Some t)) []) ≡ (f && (g && h)) = rw sh (whole_stands line at c k t.nanos (nat_abs t.offset)) in
        let r : (x && y && z) ≡ (f && g && (sign_holds b t.offset && h)) = rw (ex, ey, ez, w.is_zone) in
        r ∙ sign_first f g (sign_holds b t.offset) h ∙ rw st

  pub clock_room : at + 19 ≤ length line
  clock_room = omega (arith, w.is_zone, w.inside)

  pub fraction_room : at + 19 + fraction_len t.digits ≤ length line
  fraction_room = omega (arith, w.is_zone, w.inside)

  pub zone_inside : zone + zone_len line zone ≤ length line
  zone_inside = w.inside

  pub offset_in : nat_abs t.offset ≤ offset_limit
  offset_in = (stamp_in_lem t w.fits).offset_in

pub ruleset stands_laws = (stamp_outside, stamp_told, clock_room, fraction_room, zone_inside, offset_in)

-- ---- where it is claimed to stand

few_len : (d f : ℕ) → f ≡ fraction_len d → d ≤ 6 → f ≤ 7
few_len d f e l = go (eqb d 0) e
  where
    go : (b : Bool) → f ≡ (if b then 0 else d + 1) → f ≤ 7
    go true e = omega arith
    go false e = omega arith

zone_few : (line : List ℕ) (at z : ℕ) → z ≡ zone_len line at → z ≤ 6
zone_few line at z e = go (is_at line at 90) e
  where
    go : (b : Bool) → z ≡ (if b then 1 else 6) → z ≤ 6
    go true e = omega arith
    go false e = omega arith

module _ (line : List ℕ) (at : ℕ) (p : Place) (t : Timestamp) (s : stamp_suits (Some t) ≡ true) where
  pub stamp_many : 6 < t.digits → false ≡ stamp_holds line at p (Some t)
  stamp_many h = rw (s, lt-leb t.digits 6 h)

  module _ (few : t.digits ≤ 6) where
    pub stamp_absent : not p.present ≡ true → false ≡ stamp_holds line at p (Some t)
    stamp_absent q = rw (s, le-leb t.digits 6 few, not-true p.present q)

    module _ (qp : not p.present ≡ false) where
      pub stamp_elsewhere : (p.start ≡ at → ⊥) → false ≡ stamp_holds line at p (Some t)
      stamp_elsewhere n = rw (s, le-leb t.digits 6 few, not-false p.present qp, ne_eqb p.start at n)

      module _ (es : p.start ≡ at) (f : ℕ) (ef : f ≡ fraction_len t.digits) (z : ℕ) (ez : z ≡ zone_len line (at + (19 + f))) where
        size_is : 19 + f + z ≡ length (timestamp_then (written_stamp line at (Some t)) [])
        size_is = rw (whole_size line at (clock_in (shown t.seconds t.offset)) t.digits t.nanos (nat_abs t.offset), ez, ef)

        pub stamp_length : (p.len ≡ 19 + f + z → ⊥) → false ≡ stamp_holds line at p (Some t)
        stamp_length n = rw (s, le-leb t.digits 6 few, not-false p.present qp, eq-eqb p.start at es, ne_eqb p.len _ (λ e. n (e ∙ sym size_is)))

        module _ (el : p.len ≡ 19 + f + z) where
          pub stamp_here : (r : Bool) → r ≡ stamp_stands line at t → r ≡ stamp_holds line at p (Some t)
          stamp_here r er = er ∙ rw (s, le-leb t.digits 6 few, not-false p.present qp, eq-eqb p.start at es, eq-eqb p.len _ (el ∙ size_is))

pub stamp_ready : (line : List ℕ) (at : ℕ) (p : Place) (t : Timestamp) → stamp_suits (Some t) ≡ true → p.start + p.len ≤ length line → p.start ≡ at
    → (f : ℕ) → f ≡ fraction_len t.digits → (z : ℕ) → z ≡ zone_len line (at + (19 + f)) → p.len ≡ 19 + f + z → Standing line at (at + (19 + f)) t
stamp_ready line at p t s l es f ef z ez el = record { fits = s; is_zone = ap (λ (n : ℕ). at + (19 + n)) ef; inside = omega arith }

module _ (d f : ℕ) (ef : f ≡ fraction_len d) (few : d ≤ 6) where
  pub front_fits : 19 + f < 2 ^ 64
  front_fits = omega (arith, few_len d f ef few)

  pub zone_fits : (line : List ℕ) (p : Place) (at : ℕ) → length line ≤ line_limit → p.start + p.len ≤ length line → p.start ≡ at → at + (19 + f) < 2 ^ 64
  zone_fits line p at short l es = omega (arith, few_len d f ef few)

  pub size_fits : (line : List ℕ) (at z : ℕ) → z ≡ zone_len line at → 19 + f + z < 2 ^ 64
  size_fits line at z ez = omega (arith, few_len d f ef few, zone_few line at z ez)

pub few_nine : (d : ℕ) → d ≤ 6 → d ≤ 9
few_nine d h = omega arith

pub ruleset stamp_laws = (stamp_many, stamp_absent, stamp_elsewhere, stamp_length, stamp_here, front_fits, zone_fits, size_fits, few_nine)

-- ---- and the space behind it

module _ (line : List ℕ) (at : ℕ) (p : Place) where
  pub no_stamp_given : p.present ≡ true → None ≡ stamp_next line at p None
  unfolding stamp_next
  no_stamp_given e = rw e

  module _ (e : p.present ≡ false) (d : Bool) (ed : d ≡ is_at line at 45) where
    pub no_stamp_other : not (eqb p.start 0 && eqb p.len 0 && d) ≡ true → None ≡ stamp_next line at p None
    unfolding stamp_next
    no_stamp_other q = rw (e, ← ed, not-true (eqb p.start 0 && eqb p.len 0 && d) q)

    module _ (q : not (eqb p.start 0 && eqb p.len 0 && d) ≡ false) where
      pub no_stamp_dash : (r : Option ℕ) → r ≡ byte_next line (at + 1) 32 → r ≡ stamp_next line at p None
      unfolding stamp_next
      no_stamp_dash r er = er ∙ rw (e, ← ed, not-false (eqb p.start 0 && eqb p.len 0 && d) q)

      pub no_stamp_fits : length line < 2 ^ 64 → at + 1 < 2 ^ 64
      no_stamp_fits l =
          let (a, b) = both (eqb p.start 0 && eqb p.len 0) d (not-false (eqb p.start 0 && eqb p.len 0 && d) q) in
          omega (arith, byte_inside line at 45 (omega arith) (sym ed ∙ b))

  module _ (s : Option Timestamp) where
    pub stamp_none : s ≡ None → (r : Option ℕ) → r ≡ stamp_next line at p None → r ≡ stamp_next line at p s
    stamp_none e r er = er ∙ ap (stamp_next line at p) (sym e)

    module _ (t : Timestamp) (e : s ≡ Some t) where
      pub stamp_suits_lem : stamp_suits s ≡ true → stamp_suits (Some t) ≡ true
      stamp_suits_lem h = ap stamp_suits (sym e) ∙ h

      module _ (b : Bool) (eb : b ≡ stamp_holds line at p (Some t)) where
        pub stamp_other : not b ≡ true → None ≡ stamp_next line at p s
        unfolding stamp_next
        stamp_other q = rw (e, ← eb, not-true b q)

        module _ (q : not b ≡ false) (h : stamp_suits s ≡ true) where
          there : (p.present ≡ true) × (p.start ≡ at)
          there =
              let text = timestamp_then (written_stamp line at (Some t)) [] in
              let w = stamp_suits (Some t) in
              let u1 = both (w && leb t.digits 6 && p.present && eqb p.start at && eqb p.len (length text) && sign_holds (get_or line (zone_at at t.digits) 0) t.offset) (stands_at line at text) (told b _ eb q) in
              let u2 = both (w && leb t.digits 6 && p.present && eqb p.start at && eqb p.len (length text)) (sign_holds (get_or line (zone_at at t.digits) 0) t.offset) u1.0 in
              let u3 = both (w && leb t.digits 6 && p.present && eqb p.start at) (eqb p.len (length text)) u2.0 in
              let u4 = both (w && leb t.digits 6 && p.present) (eqb p.start at) u3.0 in
              let u5 = both (w && leb t.digits 6) p.present u4.0 in
              (u5.1, eqb-true p.start at u4.1)

          pub stamp_fits : p.start + p.len ≤ length line → length line < 2 ^ 64 → at + p.len < 2 ^ 64
          stamp_fits l m = omega (arith, there.1)

          pub stamp_space : (r : Option ℕ) → r ≡ byte_next line (at + p.len) 32 → r ≡ stamp_next line at p s
          unfolding stamp_next
          stamp_space r er = er ∙ rw (e, ← eb, not-false b q, there.0)

pub ruleset stamp_next_laws = (no_stamp_given, no_stamp_other, no_stamp_dash, no_stamp_fits, stamp_none, stamp_suits_lem, stamp_other, stamp_fits, stamp_space)
