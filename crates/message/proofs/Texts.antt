-- The texts of head and names: what their tests say, their places and their lengths.
use Prim.Native.Nat.{ℕ, ◌+◌, ◌-◌, ◌*◌, ◌≤◌}
use mathlib.Core.Path.{◌≡◌, refl, sym, ap, ◌∙◌}
use mathlib.Core.Bool.{Bool, true, false, not}
use mathlib.Core.List.{List, [], ◌∷◌, ◌++◌, append_assoc}
use native.Mathlib.Omega.{arith}
use lib.ListN.{length, take, drop, length-append, length-take, length-drop}
use borrow.Author.Tests.{not-true, not-false}
use mir.Syntax.{w64}
use mir.Val.{Fits}
use Rattle.base.specs.Texts.{text_at}
use Rattle.record.specs.Limits.{line_limit}
use Rattle.record.specs.declared.Place.{Place}
use Rattle.record.specs.declared.Protocol.{Protocol}
use Rattle.record.specs.declared.Protocol.TheVariants.{Rfc3164, Rfc5424}
use Rattle.record.specs.declared.Record.{Record}
use Rattle.suits.specs.Suits.{record_suits, stamp_suits}
use Rattle.suits.proofs.Suited.{record_in_lem}
use Rattle.output.specs.Fits.{Sized}
use Rattle.output.specs.Numerals.{width, numeral}
use Rattle.output.proofs.Numerals.{length_fixed, width_le}
use Rattle.output.proofs.Pieces.{Starts}
use Rattle.message_stamp.specs.Stamps.{stamp_text}
use Rattle.message.specs.Message.{level_or, pri_text, version_text, place_text, field_text, tag_text, names_text, head_text}

-- what `&line[start..end]` lends
pub part_is : (line : List ℕ) (start len : ℕ) → take (start + len - start) (drop start line) ≡ text_at line start len
part_is line start len = let e : start + len - start ≡ len = omega arith in ap (λ (n : ℕ). take n (drop start line)) e

-- what suits of a record's places
module _ (line : List ℕ) (r : Record) (s : record_suits line r ≡ true) where
  pub stamp_in_lem : stamp_suits r.timestamp ≡ true
  stamp_in_lem = (record_in_lem line r s).timestamp_in

  pub host_in : r.host.start + r.host.len ≤ length line
  host_in = (record_in_lem line r s).host_in

  pub app_in : r.app.start + r.app.len ≤ length line
  app_in = (record_in_lem line r s).app_in

  pub procid_in : r.procid.start + r.procid.len ≤ length line
  procid_in = (record_in_lem line r s).procid_in

  pub msgid_in : r.msgid.start + r.msgid.len ≤ length line
  msgid_in = (record_in_lem line r s).msgid_in

  pub message_in : r.message.start + r.message.len ≤ length line
  message_in = (record_in_lem line r s).message_in

pub ruleset places_in = (stamp_in_lem, host_in, app_in, procid_in, msgid_in)

-- `<p>`, its number found
module _ (r : Record) (p : ℕ) (e : p ≡ level_or 5 r.facility * 8 + level_or 7 r.severity) where
  pub pri_is : 60 ∷ numeral p ++ 62 ∷ [] ≡ pri_text r
  unfolding pri_text
  pri_is = rw e

  pub pri_starts : Starts (60 ∷ numeral p) (pri_text r)
  pri_starts = record { others = 62 ∷ []; is = pri_is }

  module _ (k : ℕ) (ek : k ≡ width p) where
    pub pri_sized : Sized (pri_text r) 12 (2 + k)
    pri_sized = record { is = ap (λ (n : ℕ). 2 + n) ek ∙ size ∙ ap length pri_is; to = omega (arith, width_le 9 p) }
      where
        size : 2 + width p ≡ length (60 ∷ numeral p ++ 62 ∷ [])
        size = simp (length-append, length_fixed) (omega arith)

    pub pri_small : Fits w64 (2 + k)
    pri_small = record { fits = omega (arith, width_le 9 p) }

-- version or nothing
module _ (p : Protocol) where
  pub version_none : p ≡ Rfc3164 → [] ≡ version_text p
  version_none e = rw e

  pub version_none_sized : p ≡ Rfc3164 → Sized (version_text p) 10 0
  version_none_sized e = rw e (record { is = refl; to = omega arith })

  module _ (v : ℕ) (e : p ≡ Rfc5424 v) where
    pub version_is : numeral v ≡ version_text p
    version_is = rw e

    pub version_sized : (k : ℕ) → k ≡ width v → Sized (version_text p) 10 k
    version_sized k ek = rw e (record { is = ek ∙ sym (length_fixed (width v) v); to = omega (arith, width_le 9 v) })

pub ruleset version_laws = (version_none, version_none_sized, version_is, version_sized)

-- a text or `-`
module _ (line : List ℕ) (p : Place) where
  pub place_none : p.present ≡ false → 45 ∷ [] ≡ place_text line p
  place_none e = rw e

  module _ (e : p.present ≡ true) where
    pub place_is : text_at line p.start p.len ≡ place_text line p
    place_is = rw e

    pub place_sized : length line ≤ line_limit → (t : List ℕ) → t ≡ text_at line p.start p.len → Sized (place_text line p) line_limit (length t)
    place_sized h t et =
        let l : length (text_at line p.start p.len) ≤ length line = simp (length-take, length-drop) (omega arith) in
        record { is = ap length (et ∙ place_is); to = omega (arith, ap length et) }

pub ruleset place_laws = (place_none, place_is, place_sized)

pub head_sized : (line : List ℕ) (r : Record) (a b c d : ℕ) → Sized (pri_text r) 12 a → Sized (version_text r.protocol) 10 b
    → Sized (stamp_text r.timestamp) 35 c → Sized (place_text line r.host) line_limit d → Sized (head_text line r) (line_limit + 60) (a + b + c + d + 3)
unfolding head_text field_text
head_sized line r a b c d p v s h = record { is = simp length-append (omega (arith, p.is, v.is, s.is, h.is)); to = omega (arith, p.to, v.to, s.to, h.to) }

-- app and process id, by their presence
module _ (line : List ℕ) (app procid : Place) where
  pub tag_none : not app.present ≡ true → 58 ∷ 32 ∷ [] ≡ tag_text line app procid
  tag_none e = rw (not-true app.present e)

  pub tag_none_sized : not app.present ≡ true → Sized (tag_text line app procid) (2 * line_limit + 4) 2
  tag_none_sized e = record { is = ap length (tag_none e); to = omega arith }

  module _ (e : not app.present ≡ false) where
    pub tag_app : not procid.present ≡ true → place_text line app ++ (58 ∷ 32 ∷ []) ≡ tag_text line app procid
    tag_app f = rw (not-false app.present e, not-true procid.present f)

    pub tag_pid : not procid.present ≡ false → place_text line app ++ (91 ∷ place_text line procid ++ (93 ∷ 58 ∷ 32 ∷ [])) ≡ tag_text line app procid
    tag_pid f = rw (not-false app.present e, not-false procid.present f) (simp append_assoc)

    pub tag_starts : Starts (place_text line app) (tag_text line app procid)
    tag_starts = by_cases (not procid.present) refl
      where
        by_cases : (b : Bool) → not procid.present ≡ b → Starts (place_text line app) (tag_text line app procid)
        by_cases true f = record { others = _; is = tag_app f }
        by_cases false f = record { others = _; is = tag_pid f }

    module _ (a : ℕ) (s : Sized (place_text line app) line_limit a) where
      pub tag_app_sized : not procid.present ≡ true → Sized (tag_text line app procid) (2 * line_limit + 4) (a + 2)
      tag_app_sized f = rw (← tag_app f) (record { is = simp length-append (omega (arith, s.is)); to = omega (arith, s.to) })

      pub tag_pid_sized : not procid.present ≡ false → (b : ℕ) → Sized (place_text line procid) line_limit b → Sized (tag_text line app procid) (2 * line_limit + 4) (a + b + 4)
      tag_pid_sized f b t = rw (← tag_pid f) (record { is = simp length-append (omega (arith, s.is, t.is)); to = omega (arith, s.to, t.to) })

pub ruleset tag_laws = (tag_none, tag_app, tag_pid)

pub ruleset tag_sizes = (tag_none_sized, tag_app_sized, tag_pid_sized)

-- the names, by the protocol
module _ (line : List ℕ) (r : Record) (p : Protocol) where
  module _ (e : p ≡ Rfc3164) where
    pub names_tag : tag_text line r.app r.procid ≡ names_text line r p
    names_tag = rw e

    pub names_tag_sized : (n : ℕ) → Sized (tag_text line r.app r.procid) (2 * line_limit + 4) n → Sized (names_text line r p) (3 * line_limit + 3) n
    names_tag_sized n s = rw e (record { is = s.is; to = omega (arith, s.to) })

  module _ (v : ℕ) (e : p ≡ Rfc5424 v) where
    pub names_ids : field_text line r.app ++ field_text line r.procid ++ field_text line r.msgid ≡ names_text line r p
    names_ids = rw e

    pub names_ids_sized : (a b c : ℕ) → Sized (place_text line r.app) line_limit a → Sized (place_text line r.procid) line_limit b → Sized (place_text line r.msgid) line_limit c
        → Sized (names_text line r p) (3 * line_limit + 3) (a + b + c + 3)
    unfolding field_text
    names_ids_sized a b c s t u = rw e (record { is = simp length-append (omega (arith, s.is, t.is, u.is)); to = omega (arith, s.to, t.to, u.to) })

pub ruleset names_laws = (names_tag, names_ids)

pub ruleset names_sizes = (names_tag_sized, names_ids_sized)
