-- A claimed text, test by test, and the header.
use Rattle.std.specs.Prelude.{if◌then◌else◌, Option, Some, None}
use Prim.Native.Nat.{ℕ, ◌+◌, ◌-◌, ◌^◌, ◌≤◌, ◌<◌}
use mathlib.Core.Path.{◌≡◌, ap, ◌∙◌}
use mathlib.Core.Bool.{Bool, true, false, not, ◌&&◌}
use mathlib.Core.List.{List}
use native.Mathlib.Omega.{arith}
use lib.Dec.{leb, eqb}
use lib.ListN.{length, take, drop}
use borrow.Author.Tests.{le-leb, ne_eqb, eq-eqb, eqb-true, not-true, not-false}
use Rattle.base.specs.Choose.{within, is_at}
use Rattle.base.specs.Texts.{text_at}
use Rattle.base.proofs.Tests.{both, by_test, told}
use Rattle.base.proofs.Texts.{part_text_lem}
use Rattle.record.specs.declared.Place.{Place}
use Rattle.record.specs.declared.StrictRecord.{StrictRecord}
use Rattle.grammar.specs.Abnf.{print_us_ascii}
use Rattle.suits.specs.Suits.{stamp_suits, record_suits}
use Rattle.suits.proofs.Suited.{record_in_lem}
use Rattle.claims.specs.Holds.{on_next, byte_next, every, head_next, stamp_next, len_of, text_holds, text_next, names_next, header_next}
use Rattle.claims.proofs.Bytes.{byte_inside}

-- ---- the tests of a text

module _ (line : List ℕ) (most at : ℕ) (p : Place) where
  pub holds_absent : not p.present ≡ true → (x : Bool) → x ≡ is_at line at 45 → (eqb p.start 0 && eqb p.len 0 && x) ≡ text_holds line most at p
  holds_absent q x e = rw (not-true p.present q, e)

  module _ (q : not p.present ≡ false) where
    pub holds_start : (p.start ≡ at → ⊥) → false ≡ text_holds line most at p
    holds_start n = rw (not-false p.present q, ne_eqb p.start at n)

    module _ (s : p.start ≡ at) where
      pub holds_length : not (leb 1 p.len && leb p.len most) ≡ true → false ≡ text_holds line most at p
      holds_length n = rw (not-false p.present q, eq-eqb p.start at s, not-true (within 1 most p.len) n)

      module _ (n : not (leb 1 p.len && leb p.len most) ≡ false) (room : p.start + p.len ≤ length line) where
        pub text_room : at + p.len ≤ length line
        text_room = omega arith

        module _ (t : Bool) (e : t ≡ every print_us_ascii (take (at + p.len - at) (drop at line))) where
          bytes : t ≡ every print_us_ascii (text_at line at p.len)
          bytes = e ∙ ap (every print_us_ascii) (part_text_lem line at p.len)

          inside : leb (at + p.len) (length line) ≡ true
          inside = le-leb (at + p.len) (length line) (omega arith)

          pub holds_other : not t ≡ true → false ≡ text_holds line most at p
          holds_other m = rw (not-false p.present q, eq-eqb p.start at s, not-false (within 1 most p.len) n, inside, ← bytes, not-true t m)

          pub holds_given : not t ≡ false → (x : Bool) → x ≡ is_at line at 45 → not (eqb p.len 1 && x) ≡ text_holds line most at p
          holds_given m x ex = rw (not-false p.present q, eq-eqb p.start at s, not-false (within 1 most p.len) n, inside, ← bytes, not-false t m, ex)

pub ruleset text_laws = (holds_absent, holds_start, holds_length, text_room, holds_other, holds_given)

-- ---- and the space behind it

module _ (line : List ℕ) (most at : ℕ) (p : Place) (room : p.start + p.len ≤ length line) (b : Bool) (eb : b ≡ text_holds line most at p) where
  pub text_other : not b ≡ true → None ≡ text_next line most at p
  unfolding text_next
  text_other q = rw (← eb, not-true b q)

  module _ (q : not b ≡ false) (n : ℕ) (en : n ≡ len_of p) where
    -- it ends within the line
    text_inside : at + len_of p ≤ length line
    text_inside =
        by_test
        (λ t. (if t then eqb p.start at && (within 1 most p.len && leb (at + p.len) (length line) && every print_us_ascii (text_at line at p.len)) && not (eqb p.len 1 && is_at line at 45)
        else eqb p.start 0 && eqb p.len 0 && is_at line at 45) ≡ true → at + (if t then p.len else 1) ≤ length line)
        p.present
        (λ _ h.
        let u1 = both (eqb p.start at && (within 1 most p.len && leb (at + p.len) (length line) && every print_us_ascii (text_at line at p.len))) (not (eqb p.len 1 && is_at line at 45)) h in
        let u2 = both (eqb p.start at) (within 1 most p.len && leb (at + p.len) (length line) && every print_us_ascii (text_at line at p.len)) u1.0 in
        omega (arith, eqb-true p.start at u2.0))
        (λ _ h.
        let u = both (eqb p.start 0 && eqb p.len 0) (is_at line at 45) h in
        omega (arith, byte_inside line at 45 (omega arith) u.1))
        (told b _ eb q)

    pub text_fits_lem : length line < 2 ^ 64 → at + n < 2 ^ 64
    text_fits_lem l = omega (arith, text_inside)

    pub text_space : (r : Option ℕ) → r ≡ byte_next line (at + n) 32 → r ≡ text_next line most at p
    unfolding text_next
    text_space r er = er ∙ rw (en, ← eb, not-false b q)

pub ruleset text_next_laws = (text_other, text_fits_lem, text_space)

-- ---- one field after another

module _ (x : Option ℕ) (f : ℕ → Option ℕ) (y : Option ℕ) (e : y ≡ x) where
  pub next_off : y ≡ None → None ≡ on_next x f
  next_off h = rw (← e, h)

  pub next_on : (a : ℕ) → y ≡ Some a → (r : Option ℕ) → r ≡ f a → r ≡ on_next x f
  next_on a h r q = q ∙ rw (← e, h)

module _ (line : List ℕ) (at : ℕ) (app procid msgid : Place) (x : Option ℕ) (ex : x ≡ text_next line 48 at app) where
  pub names_app : x ≡ None → None ≡ names_next line at app procid msgid
  names_app h = next_off (text_next line 48 at app) _ x ex h

  module _ (b : ℕ) (hb : x ≡ Some b) (y : Option ℕ) (ey : y ≡ text_next line 128 b procid) where
    pub names_procid : y ≡ None → None ≡ names_next line at app procid msgid
    names_procid h = rw (← ex, hb, ← ey, h)

    pub names_msgid : (c : ℕ) → y ≡ Some c → (r : Option ℕ) → r ≡ text_next line 32 c msgid → r ≡ names_next line at app procid msgid
    names_msgid c h r er = er ∙ rw (← ex, hb, ← ey, h)

pub ruleset names_laws = (names_app, names_procid, names_msgid)

module _ (line : List ℕ) (r : StrictRecord) (x : Option ℕ) (ex : x ≡ head_next line r.common.facility r.common.severity r.common.protocol) where
  pub header_head : x ≡ None → None ≡ header_next line r
  header_head h = rw (← ex, h)

  module _ (a : ℕ) (ha : x ≡ Some a) (y : Option ℕ) (ey : y ≡ stamp_next line a r.timestamp_text r.common.timestamp) where
    pub header_stamp : y ≡ None → None ≡ header_next line r
    header_stamp h = rw (← ex, ha, ← ey, h)

    module _ (b : ℕ) (hb : y ≡ Some b) (z : Option ℕ) (ez : z ≡ text_next line 255 b r.common.host) where
      pub header_host : z ≡ None → None ≡ header_next line r
      header_host h = rw (← ex, ha, ← ey, hb, ← ez, h)

      pub header_names : (d : ℕ) → z ≡ Some d → (n : Option ℕ) → n ≡ names_next line d r.common.app r.common.procid r.common.msgid → n ≡ header_next line r
      header_names d h n en = en ∙ rw (← ex, ha, ← ey, hb, ← ez, h)

-- what is asked of each field
module _ (line : List ℕ) (r : StrictRecord) (h : record_suits line r.common ≡ true) where
  pub asked_stamp : stamp_suits r.common.timestamp ≡ true
  asked_stamp = (record_in_lem line r.common h).timestamp_in

  pub asked_host : r.common.host.start + r.common.host.len ≤ length line
  asked_host = (record_in_lem line r.common h).host_in

  pub asked_app : r.common.app.start + r.common.app.len ≤ length line
  asked_app = (record_in_lem line r.common h).app_in

  pub asked_procid : r.common.procid.start + r.common.procid.len ≤ length line
  asked_procid = (record_in_lem line r.common h).procid_in

  pub asked_msgid : r.common.msgid.start + r.common.msgid.len ≤ length line
  asked_msgid = (record_in_lem line r.common h).msgid_in

pub ruleset header_laws = (header_head, header_stamp, header_host, header_names, asked_stamp, asked_host, asked_app, asked_procid, asked_msgid)
