-- The front of the line: its lengths, and what its tests say at their returns.
use Rattle.std.specs.Prelude.{Option}
use Prim.Native.Nat.{ℕ, ◌+◌, ◌≤◌}
use mathlib.Core.Path.{◌≡◌, refl, sym, ap, ◌∙◌}
use mathlib.Core.Bool.{true, ◌&&◌}
use mathlib.Core.List.{List, [], ◌∷◌, ◌++◌}
use mathlib.Core.Option.{some}
use native.Mathlib.Omega.{arith}
use lib.ListN.{length, length-append}
use borrow.Author.Tests.{ne_eqb}
use Rattle.base.specs.Texts.{text_at}
use Rattle.base.proofs.Tests.{both}
use Rattle.suits.specs.Suits.{record_suits, stamp_suits}
use Rattle.suits.proofs.Suited.{record_in_lem}
use Rattle.output.specs.Fits.{Sized}
use Rattle.output.specs.Numerals.{width, numeral}
use Rattle.output.proofs.Numerals.{length_fixed, width_le}
use Rattle.output.proofs.Pieces.{Starts}
use Rattle.grammar.specs.Line.{message_text}
use Rattle.message_stamp.specs.Stamps.{stamp_text}
use Rattle.writes.specs.declared.Part.{Part}
use Rattle.writes.specs.declared.Handed.{Handed}
use Rattle.writes.specs.Fits.{text_fits, message_fits}
use Rattle.writes.specs.Writes.{part_in, stamp_in, record_in}
use Rattle.writes.proofs.Fits.{text_sound}
use Rattle.fitting.specs.Heads.{numbers_fit, names_fit, head_fits}
use Rattle.writer_header.specs.Fronts.{part_text, names_text, front_text}
use Rattle.record.specs.declared.Timestamp.{Timestamp}

-- ---- a text or `-`

module _ (text : List ℕ) (p : Part) where
  pub part_none : p.present ≡ 0 → 45 ∷ [] ≡ part_text text p
  part_none e = rw e

  pub part_none_sized : (most : ℕ) → 1 ≤ most → p.present ≡ 0 → Sized (part_text text p) most 1
  part_none_sized most l e = rw e (record { is = refl; to = l })

  pub message_none : p.present ≡ 0 → [] ≡ message_text (part_in text p)
  message_none e = rw e

  pub message_starts : (p.present ≡ 0 → ⊥) → Starts (32 ∷ []) (message_text (part_in text p))
  message_starts h = record { others = text_at text p.start p.len; is = rw (ne_eqb p.present 0 h) }

  module _ (h : p.present ≡ 0 → ⊥) (t : List ℕ) (e : t ≡ text_at text p.start p.len) where
    pub part_is : t ≡ part_text text p
    part_is = rw (ne_eqb p.present 0 h) e

    pub part_sized : (most : ℕ) → text_fits most (part_in text p) ≡ true → Sized (part_text text p) most (length t)
    part_sized most f =
        let g : text_fits most (some (text_at text p.start p.len)) ≡ true = rw (ne_eqb p.present 0 h) at f in
        record { is = ap length part_is; to = omega (arith, ap length e, (text_sound most (some (text_at text p.start p.len)) g).bytes.at_most) }

    pub message_is : (32 ∷ []) ++ t ≡ message_text (part_in text p)
    message_is = rw (ne_eqb p.present 0 h, e)

pub ruleset part_laws = (part_none, part_is)

pub ruleset part_sizes = (part_none_sized, part_sized)

-- ---- what fits

module _ (text : List ℕ) (h : Handed) (f : head_fits text h ≡ true) where
  names_fit_lem : names_fit text h ≡ true
  unfolding head_fits
  names_fit_lem = (both (numbers_fit h) (names_fit text h) (both (numbers_fit h && names_fit text h) (message_fits (part_in text h.message)) f).0).1

  pub msgid_fits : text_fits 32 (part_in text h.msgid) ≡ true
  msgid_fits = (both (text_fits 255 (part_in text h.host) && text_fits 48 (part_in text h.app) && text_fits 128 (part_in text h.procid)) (text_fits 32 (part_in text h.msgid)) names_fit_lem).1

  first_three : (text_fits 255 (part_in text h.host) && text_fits 48 (part_in text h.app) && text_fits 128 (part_in text h.procid)) ≡ true
  first_three = (both (text_fits 255 (part_in text h.host) && text_fits 48 (part_in text h.app) && text_fits 128 (part_in text h.procid)) (text_fits 32 (part_in text h.msgid)) names_fit_lem).0

  pub procid_fits : text_fits 128 (part_in text h.procid) ≡ true
  procid_fits = (both (text_fits 255 (part_in text h.host) && text_fits 48 (part_in text h.app)) (text_fits 128 (part_in text h.procid)) first_three).1

  first_two : (text_fits 255 (part_in text h.host) && text_fits 48 (part_in text h.app)) ≡ true
  first_two = (both (text_fits 255 (part_in text h.host) && text_fits 48 (part_in text h.app)) (text_fits 128 (part_in text h.procid)) first_three).0

  pub app_fits : text_fits 48 (part_in text h.app) ≡ true
  app_fits = (both (text_fits 255 (part_in text h.host)) (text_fits 48 (part_in text h.app)) first_two).1

  pub host_fits : text_fits 255 (part_in text h.host) ≡ true
  host_fits = (both (text_fits 255 (part_in text h.host)) (text_fits 48 (part_in text h.app)) first_two).0

pub ruleset names_fits = (host_fits, app_fits, procid_fits, msgid_fits)

-- ---- the timestamp

module _ (h : Handed) (t : Option Timestamp) (e : t ≡ stamp_in h) where
  pub stamp_suits_lem : (text : List ℕ) → record_suits text (record_in h) ≡ true → stamp_suits t ≡ true
  stamp_suits_lem text s = rw e (record_in_lem text (record_in h) s).timestamp_in

  pub stamp_sized : (n : ℕ) → Sized (stamp_text t) 35 n → Sized (stamp_text (stamp_in h)) 35 n
  stamp_sized n s = rw (← e) s

  pub stamp_named : stamp_text t ≡ stamp_text (stamp_in h)
  stamp_named = ap stamp_text e

-- ---- lengths

pub names_sized : (text : List ℕ) (h : Handed) (a b c d : ℕ) → Sized (part_text text h.host) 255 a → Sized (part_text text h.app) 48 b
    → Sized (part_text text h.procid) 128 c → Sized (part_text text h.msgid) 32 d → Sized (names_text text h) 467 (a + b + c + d + 4)
names_sized text h a b c d s t u v =
    record { is = simp length-append (omega (arith, s.is, t.is, u.is, v.is)); to = omega (arith, s.to, t.to, u.to, v.to) }

pub number_sized : (n k : ℕ) → k ≡ width n → Sized (numeral n) 10 k
number_sized n k e = record { is = e ∙ sym (length_fixed (width n) n); to = omega (arith, width_le 9 n) }

pub front_sized : (text : List ℕ) (h : Handed) (a b c d : ℕ) → Sized (numeral h.priority) 10 a → Sized (numeral h.version) 10 b
    → Sized (stamp_text (stamp_in h)) 35 c → Sized (names_text text h) 467 d → Sized (front_text text h) 526 (a + b + c + d + 4)
unfolding front_text
front_sized text h a b c d p v s t =
    record {
      is = simp length-append (omega (arith, p.is, v.is, s.is, t.is, names));
      to = omega (arith, p.to, v.to, s.to, t.to);
    }
  where
    names : length (names_text text h) ≡ length (part_text text h.host) + 1 + (length (part_text text h.app) + 1) + (length (part_text text h.procid) + 1 + (length (part_text text h.msgid) + 1))
    names = simp length-append (omega arith)
