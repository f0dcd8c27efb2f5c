-- What each test of refusal 17 says at its returns.
use Rattle.std.specs.Prelude.{Some, None}
use Prim.Native.Nat.{ℕ, ◌+◌, ◌≤◌, ◌<◌}
use mathlib.Core.Path.{◌≡◌, refl, sym, ◌∙◌}
use mathlib.Core.Bool.{Bool, true, false, not, ◌&&◌, ◌||◌, and-true}
use mathlib.Core.List.{List}
use lib.Dec.{leb, eqb}
use lib.ListN.{length, get_or}
use borrow.Author.Tests.{not-true, not-false, ne_eqb}
use mir.Syntax.{w32, w64}
use mir.Val.{SFits, to_z, of_z}
use mir.ValLaws.{to_z-of_z}
use Rattle.base.proofs.Runs.{Runs, runs_start, runs_out, runs_yes, runs_no}
use Rattle.suits.specs.Suits.{record_suits}
use Rattle.suits.proofs.Suited.{record_in_lem}
use Rattle.writes.specs.declared.Handed.{Handed}
use Rattle.writes.specs.Writes.{stamp_in, record_in}
use Rattle.fitting.specs.Heads.{byte_of}

-- ---- a run of a class

byte_is : (name : Bool) (b : ℕ) → (leb 33 b && leb b 126 && not (name && (eqb b 61 || eqb b 93 || eqb b 34))) ≡ byte_of name b
byte_is true b = refl
byte_is false b = and-true (leb 33 b && leb b 126)

module _ (name : Bool) (s : List ℕ) (n i : ℕ) (w : Runs (byte_of name) s n i) (h : i < length s) where
  pub class_on : not (leb 33 (get_or s i 0) && leb (get_or s i 0) 126 && not (name && (eqb (get_or s i 0) 61 || eqb (get_or s i 0) 93 || eqb (get_or s i 0) 34))) ≡ false → Runs (byte_of name) s n (i + 1)
  class_on q = runs_yes (byte_of name) s n i w h (sym (byte_is name (get_or s i 0)) ∙ not-false _ q)

  pub class_off : not (leb 33 (get_or s i 0) && leb (get_or s i 0) 126 && not (name && (eqb (get_or s i 0) 61 || eqb (get_or s i 0) 93 || eqb (get_or s i 0) 34))) ≡ true → i ≡ n
  class_off q = runs_no (byte_of name) s n i w h (sym (byte_is name (get_or s i 0)) ∙ not-true _ q)

pub ruleset run_laws = (runs_start, runs_out, class_on, class_off)

-- ---- the timestamp

module _ (h : Handed) where
  pub stamp_absent : h.stamped ≡ 0 → None ≡ stamp_in h
  stamp_absent e = rw e

  module _ (e : h.stamped ≡ 0 → ⊥) where
    pub stamp_given : SFits w64 h.seconds → SFits w32 h.offset
        → Some (record { seconds = to_z w64 (of_z w64 h.seconds); nanos = h.nanos; digits = h.digits; offset = to_z w32 (of_z w32 h.offset) }) ≡ stamp_in h
    stamp_given s o = rw (to_z-of_z w64 h.seconds s, to_z-of_z w32 h.offset o, ne_eqb h.stamped 0 e)

pub ruleset stamp_laws = (stamp_absent, stamp_given)

-- ---- the places

module _ (text : List ℕ) (h : Handed) (s : record_suits text (record_in h) ≡ true) where
  pub host_in : h.host.start + h.host.len ≤ length text
  host_in = (record_in_lem text (record_in h) s).host_in

  pub app_in : h.app.start + h.app.len ≤ length text
  app_in = (record_in_lem text (record_in h) s).app_in

  pub procid_in : h.procid.start + h.procid.len ≤ length text
  procid_in = (record_in_lem text (record_in h) s).procid_in

  pub msgid_in : h.msgid.start + h.msgid.len ≤ length text
  msgid_in = (record_in_lem text (record_in h) s).msgid_in

  pub message_in : h.message.start + h.message.len ≤ length text
  message_in = (record_in_lem text (record_in h) s).message_in

pub ruleset places_in = (host_in, app_in, procid_in, msgid_in, message_in)
