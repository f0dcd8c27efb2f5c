-- The laws of specs/Laws.antt that are of readers alone: one answer, and the reader of version 1. The others are in Back.
use Rattle.std.specs.Prelude.{Result, Ok, Err}
use Prim.Native.Nat.{ℕ, ◌+◌, ◌*◌, ◌≤◌}
use mathlib.Core.Path.{◌≡◌, refl, sym, ap, subst, ◌∙◌}
use mathlib.Core.Bool.{true, false}
use mathlib.Core.List.{List}
use native.Mathlib.Decide.{dec_le}
use native.Mathlib.Omega.{arith}
use borrow.Author.Tests.{le-leb}
use Rattle.base.proofs.Ranges.{orders}
use Rattle.base.proofs.Tests.{clash, by_test}
use Rattle.record.specs.declared.Refusal.TheVariants.{NotFound, BadLength, UnknownVersion}
use Rattle.output.specs.Output.{output_after}
use Rattle.settings.specs.Record.{Meaning, last_version, is_version, record_size, record_of, Holds}
use Rattle.settings.specs.File.{IsWhole, record_at, version_of, NoneOf, Chosen, host_place, settings_of, Reads}
use Rattle.settings.specs.File.Reads.{bad_length, no_record, unknown_version, bad_field, taken}
use Rattle.settings.specs.Laws.{OneAnswer, OneResult, OldAs, OldReader}
use Rattle.settings.specs.Laws.OldAs.{same, newer}
use Rattle.settings.specs.Steps.{Takes}
use Rattle.settings.specs.Steps.Takes.{unknown, bad, takes}
use Rattle.settings.proofs.Fields.{holds_meaning, holds_one}
use Rattle.record.specs.declared.Refusal.{Refusal}
use Rattle.settings.specs.declared.Settings.{Settings}

-- ---- one answer

holds_version : (b : List ℕ) (m : Meaning) → Holds b m → version_of b ≡ m.version
holds_version b m h = sym (ap (λ (x : Meaning). x.version) (holds_meaning b m h))

module _ (greatest : ℕ) (b : List ℕ) (start : ℕ) where
  known_by : (m : Meaning) → Holds b m → is_version greatest m.version ≡ true → is_version greatest (version_of b) ≡ true
  known_by m h v = rw (holds_version b m h) v

  takes_one : {r r' : (Result Settings Refusal)} → Takes greatest b start r → Takes greatest b start r' → r ≡ r'
  takes_one (unknown v q) (unknown v' q') = q ∙ sym q'
  takes_one (unknown v q) (bad v' n' q') = clash (sym v' ∙ v)
  takes_one (unknown v q) (takes m v' h q') = clash (sym (known_by m h v') ∙ v)
  takes_one (bad v n q) (unknown v' q') = clash (sym v ∙ v')
  takes_one (bad v n q) (bad v' n' q') = q ∙ sym q'
  takes_one (bad v n q) (takes m v' h q') = absurd (n m h)
  takes_one (takes m v h q) (unknown v' q') = clash (sym (known_by m h v) ∙ v')
  takes_one (takes m v h q) (bad v' n' q') = absurd (n' m h)
  takes_one (takes m v h q) (takes m' v' h' q') = q ∙ ap (λ (x : Meaning). Ok (settings_of x (start + host_place))) (holds_one b m m' h h') ∙ sym q'

-- the answer by the record that is chosen
data Goes (greatest : ℕ) (file : List ℕ) (gate : ℕ) (r : Result Settings Refusal) : Type 0 where
  uneven : (IsWhole file → ⊥) → r ≡ Err BadLength → Goes greatest file gate r
  nowhere : NoneOf gate file → r ≡ Err NotFound → Goes greatest file gate r
  by_record : (i : ℕ) → Chosen gate file i → Takes greatest (record_at file i) (i * record_size) r → Goes greatest file gate r

goes : {greatest : ℕ} {file : List ℕ} {gate : ℕ} {r : (Result Settings Refusal)} → Reads greatest file gate r → Goes greatest file gate r
goes (bad_length h q) = Goes.uneven h q
goes (no_record n q) = Goes.nowhere n q
goes (unknown_version i c v q) = Goes.by_record i c (unknown v q)
goes (bad_field i c v n q) = Goes.by_record i c (bad v n q)
goes (taken i m c v h q) = Goes.by_record i c (takes m v h q)

comes : {greatest : ℕ} {file : List ℕ} {gate : ℕ} {r : (Result Settings Refusal)} (i : ℕ) → Chosen gate file i → Takes greatest (record_at file i) (i * record_size) r → Reads greatest file gate r
comes i c (unknown v q) = unknown_version i c v q
comes i c (bad v n q) = bad_field i c v n q
comes i c (takes m v h q) = taken i m c v h q

module _ {gate : ℕ} {file : List ℕ} where
  chosen_one : (i k : ℕ) → Chosen gate file i → Chosen gate file k → i ≡ k
  chosen_one i k c d = go (dec_le i k) (dec_le k i)
    where
      go : Dec (i ≤ k) → Dec (k ≤ i) → i ≡ k
      go (yes p) (yes q) = omega arith
      go (no p) q = absurd (d.last i (omega arith) c.inside c.own)
      go (yes p) (no q) = absurd (c.last k (omega arith) d.inside d.own)

  goes_one : {greatest : ℕ} {r r' : (Result Settings Refusal)} → Goes greatest file gate r → Goes greatest file gate r' → r ≡ r'
  goes_one (Goes.uneven h q) (Goes.uneven h' q') = q ∙ sym q'
  goes_one (Goes.uneven h q) (Goes.nowhere n q') = absurd (h n.whole)
  goes_one (Goes.uneven h q) (Goes.by_record i c t) = absurd (h c.whole)
  goes_one (Goes.nowhere n q) (Goes.uneven h q') = absurd (h n.whole)
  goes_one (Goes.nowhere n q) (Goes.nowhere n' q') = q ∙ sym q'
  goes_one (Goes.nowhere n q) (Goes.by_record i c t) = absurd (n.none i c.inside c.own)
  goes_one (Goes.by_record i c t) (Goes.uneven h q') = absurd (h c.whole)
  goes_one (Goes.by_record i c t) (Goes.nowhere n q') = absurd (n.none i c.inside c.own)
  goes_one {greatest} {r} {r'} (Goes.by_record i c t) (Goes.by_record k d u) =
      takes_one greatest (record_at file i) (i * record_size) t (subst (λ (j : ℕ). Takes greatest (record_at file j) (j * record_size) r') (sym (chosen_one i k c d)) u)

pub one_answer : OneAnswer
one_answer greatest file gate r r' h k = goes_one (goes h) (goes k)

pub one_result : OneResult
one_result m old new new' w w' h k =
    let e : w ≡ w' = h.answer ∙ sym k.answer in
    (e, h.output ∙ ap (λ (x : Result ℕ Refusal). output_after x (record_of m) old) e ∙ sym k.output)

-- ---- the reader of version 1

unknown_older : (v : ℕ) → is_version last_version v ≡ false → is_version 1 v ≡ false
unknown_older v e = by_test (λ t. is_version 1 v ≡ t → t ≡ false) (is_version 1 v) (λ _ q. clash (sym (newer_known q) ∙ e)) (λ _ q. refl) refl
  where
    newer_known : is_version 1 v ≡ true → is_version last_version v ≡ true
    newer_known q = let (x, y) = orders 1 1 v q in rw (le-leb 1 v x, le-leb v last_version (omega arith))

version_2 : (v : ℕ) → is_version last_version v ≡ true → is_version 1 v ≡ false → v ≡ 2
version_2 v k e = let (x, y) = orders 1 last_version v k in go x y (dec_le v 1)
  where
    go : 1 ≤ v → v ≤ 2 → Dec (v ≤ 1) → v ≡ 2
    go x y (yes z) = clash (sym (rw (le-leb 1 v x, le-leb v 1 z)) ∙ e)
    go x y (no z) = omega arith

module _ (file : List ℕ) (gate : ℕ) (old new : Result Settings Refusal) (h : Reads 1 file gate old) where
  as_it_does : Reads 1 file gate new → OldAs file gate old new
  as_it_does k = same (one_answer 1 file gate old new h k)

  not_known : (i : ℕ) → Chosen gate file i → is_version last_version (version_of (record_at file i)) ≡ true → is_version 1 (version_of (record_at file i)) ≡ false → OldAs file gate old new
  not_known i c v e = newer i c (version_2 _ v e) (one_answer 1 file gate old (Err UnknownVersion) h (unknown_version i c e refl))

  old_as : Reads last_version file gate new → OldAs file gate old new
  old_as (bad_length x q) = as_it_does (bad_length x q)
  old_as (no_record n q) = as_it_does (no_record n q)
  old_as (unknown_version i c v q) = as_it_does (unknown_version i c (unknown_older (version_of (record_at file i)) v) q)
  old_as (bad_field i c v n q) =
      by_test (λ _. OldAs file gate old new) (is_version 1 (version_of (record_at file i))) (λ e. as_it_does (bad_field i c e n q)) (λ e. not_known i c v e)
  old_as (taken i m c v k q) =
      let w = holds_version (record_at file i) m k in
      by_test (λ _. OldAs file gate old new) (is_version 1 m.version) (λ e. as_it_does (taken i m c e k q)) (λ e. not_known i c (rw w v) (rw w e))

pub old_reader : OldReader
old_reader file gate old new h k = old_as file gate old new h k
