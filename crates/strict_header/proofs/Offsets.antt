-- Offsets from UTC.
use Rattle.std.specs.Prelude.{if◌then◌else◌, Option, Some, None}
use Prim.Native.Nat.{ℕ, zero, suc, ◌+◌, ◌-◌, ◌*◌, ◌≤◌}
use mathlib.Core.Path.{◌≡◌, refl, sym, ap, ◌∙◌}
use mathlib.Core.Bool.{Bool, true, false, not, ◌&&◌, ◌||◌}
use mathlib.Core.List.{List}
use native.Mathlib.Decide.{dec_le}
use native.Mathlib.Omega.{arith}
use lib.Dec.{leb}
use lib.IntN.{ℤ, pos, negsuc, neg_ℤ, sub_ℕ}
use lib.ListN.{length, drop}
use mir.Syntax.{w32, w64}
use mir.Val.{Fits, SFits, to_z, of_z}
use mir.ValLaws.{to_z-of_z}
use borrow.Author.Tests.{leb-true, not-true, not-false}
use Rattle.base.specs.Choose.{is_at}
use Rattle.base.proofs.Tests.{clash, both, by_test}
use Rattle.base.proofs.Parts.{at_below}
use Rattle.base.proofs.Diffs.{sub_ge, sub_lt}
use Rattle.calendar.specs.Calendar.{offset_limit}
use Rattle.digits.specs.Digits.{decimal, fixed_at}
use Rattle.grammar.specs.Line.{Offset}
use Rattle.grammar.specs.Parse.{always, never, choose, behind, ◌next◌, into, fixed, two, is_zone, zone, east_of, west_of, offset}
use Rattle.grammar.specs.Reading.{offset_of}
use Rattle.grammar.proofs.Header.{zone_reads}
use Rattle.strict_header.specs.Pieces.{value_of, plain_to, minutes_of, pair, triple, ending, ids_at, names_at, text_at}
use Rattle.strict_header.proofs.Steps.{sum_fits, Fails, Finds, finds_so, finds_within, finds_ok, only_failed, only_not, only_found, into_failed, into_found, next_failed, next_not, next_found, first_failed, first_found, other_failed, other_found, never_failed}
use Rattle.strict_header.proofs.Answers.{value_found, value_none, value_some, failed_answer, Pair}
use Rattle.strict_header.proofs.Numbers.{fixed_of}
use Rattle.strict_header.proofs.Dates.{two_within, fixed_within}

-- ---- the hour and the minute

module _ (s : List ℕ) (f : Option (ℕ × ℕ)) (ef : f ≡ fixed_at 2 s) where
  pub zone_no_hour : f ≡ None → None ≡ value_of minutes_of (zone s)
  unfolding zone
  zone_no_hour e = failed_answer (value_of minutes_of) (only_failed (next_failed (value_none decimal (ef ∙ fixed_of 2 s) e) (two 58)) is_zone)

  module _ (h m : ℕ) (ev : f ≡ Some (h, m)) (r : List ℕ) (er : r ≡ drop m s) (g : Option (ℕ × ℕ)) (eg : g ≡ value_of decimal (two 58 r)) where
    pub zone_no_minute : g ≡ None → None ≡ value_of minutes_of (zone s)
    unfolding zone
    zone_no_minute e = failed_answer (value_of minutes_of) (only_failed (next_not (value_some decimal (ef ∙ fixed_of 2 s) ev) er (value_none decimal eg e)) is_zone)

    module _ (k n : ℕ) (eh : g ≡ Some (k, n)) where
      all : Finds (Pair h k) (m + n) (fixed 2 next two 58) s
      all = next_found (value_some decimal (ef ∙ fixed_of 2 s) ev) er (value_some decimal eg eh)

      tested : (a : List ℕ × List ℕ) → Pair h k a → (leb h 23 && leb k 59) ≡ is_zone a
      tested a w = rw (w.0, w.1)

      pub zone_not : not (leb h 23 && leb k 59) ≡ true → None ≡ value_of minutes_of (zone s)
      unfolding zone
      zone_not t = failed_answer (value_of minutes_of) (only_not all is_zone (λ a w. sym (tested a w) ∙ not-true _ t))

      pub zone_is : not (leb h 23 && leb k 59) ≡ false → Some (h * 60 + k, m + n) ≡ value_of minutes_of (zone s)
      unfolding zone
      zone_is t = value_found minutes_of (finds_so (only_found all is_zone (λ a w. sym (tested a w) ∙ not-false _ t)) (λ a w. rw (w.0, w.1)))

module _ (h k : ℕ) (t : not (leb h 23 && leb k 59) ≡ false) where
  small : (h ≤ 23) × (k ≤ 59)
  small = let u = both (leb h 23) (leb k 59) (not-false _ t) in (leb-true h 23 u.0, leb-true k 59 u.1)

  pub hours_fit : Fits w32 (h * 60)
  hours_fit = record { fits = omega (arith, small) }

  pub minutes_fit : Fits w32 (h * 60 + k)
  minutes_fit = record { fits = omega (arith, small) }

pub ruleset zone_laws = (two_within, fixed_within, sum_fits, hours_fit, minutes_fit, zone_no_hour, zone_no_minute, zone_not, zone_is)

-- ---- a sign and what it signs

abbrev signed : Bool → ℕ → ℤ
signed east v = if east then pos v else neg_ℤ (pos v)

module _ (u d : ℕ) (j : ℤ) (fj : SFits w64 j) (ej : j ≡ sub_ℕ u d) where
  pub narrow_fits : u ≤ offset_limit → d ≤ offset_limit → SFits w32 (to_z w64 (of_z w64 j))
  narrow_fits h k = rw (to_z-of_z w64 j fj, ej) (go (dec_le d u))
    where
      go : Dec (d ≤ u) → SFits w32 (sub_ℕ u d)
      go (yes p) = rw (sub_ge u d p) (record { sfits = omega arith })
      go (no p) = rw (sub_lt u d (omega arith)) (record { sfits = omega arith })

  module _ (r : ℤ) (fr : SFits w32 r) (er : r ≡ to_z w64 (of_z w64 j)) (east : Bool) where
    narrowed : to_z w32 (of_z w32 r) ≡ sub_ℕ u d
    narrowed = to_z-of_z w32 r fr ∙ er ∙ to_z-of_z w64 j fj ∙ ej

    pub minutes_east : east ≡ true → d ≡ 0 → to_z w32 (of_z w32 r) ≡ signed east u
    minutes_east t z = let q : u - d ≡ u = omega arith in rw t (narrowed ∙ sub_ge u d (omega arith) ∙ ap pos q)

    pub minutes_west : east ≡ false → u ≡ 0 → to_z w32 (of_z w32 r) ≡ signed east d
    minutes_west t z = rw t (narrowed ∙ ap (λ (k : ℕ). sub_ℕ k d) z ∙ none_less d)
      where
        none_less : (v : ℕ) → sub_ℕ 0 v ≡ neg_ℤ (pos v)
        none_less zero = sub_ge 0 0 (omega arith)
        none_less (suc v) = let q : suc v - 1 ≡ v = omega arith in sub_lt 0 (suc v) (omega arith) ∙ ap negsuc q

pub ruleset minutes_laws = (narrow_fits, minutes_east, minutes_west)

module _ (s : List ℕ) (f : Option (ℕ × ℕ)) (ef : f ≡ value_of minutes_of (zone s)) (v n : ℕ) (ev : f ≡ Some (v, n)) where
  pub zone_within : n ≤ length s
  zone_within = finds_within (value_some minutes_of ef ev) zone_reads

  pub zone_small : v ≤ offset_limit
  zone_small = let w = finds_ok (value_some minutes_of ef ev) zone_reads in omega (arith, w.has.0, w.has.1)

neither : (a b : Bool) → not (a || b) ≡ true → (a ≡ false) × (b ≡ false)
neither true b q = clash (sym q)
neither false b q = (refl, not-true b q)

second : (a b : Bool) → not (a || b) ≡ false → a ≡ false → b ≡ true
second true b q e = clash e
second false b q e = not-false b q

pub sign_there : (s : List ℕ) (e w : Bool) → e ≡ is_at s 0 43 → w ≡ is_at s 0 45 → not (e || w) ≡ false → 1 ≤ length s
sign_there s e w ee ew k = by_test (λ _. 1 ≤ length s) e (λ t. at_below s 0 42 (sym ee ∙ t)) (λ t. at_below s 0 44 (sym ew ∙ second e w k t))

module _ (s : List ℕ) (z : Bool) (ez : z ≡ is_at s 0 90) where
  pub offset_utc : z ≡ true → Some ((pos 0), 1) ≡ value_of offset_of (offset s)
  unfolding offset
  offset_utc h = value_found offset_of (first_found 90 (always Offset.utc) _ (sym ez ∙ h) refl (record { value = Offset.utc; is = refl; has = refl }))

  module _ (h : z ≡ false) (e w : Bool) (ee : e ≡ is_at s 0 43) (ew : w ≡ is_at s 0 45) where
    pub offset_no : not (e || w) ≡ true → None ≡ value_of offset_of (offset s)
    unfolding offset
    offset_no k =
        let u = neither e w k in
        failed_answer (value_of offset_of)
        (other_failed 90 (always Offset.utc) _ (sym ez ∙ h)
        (other_failed 43 (into east_of zone) _ (sym ee ∙ u.0) (other_failed 45 (into west_of zone) never (sym ew ∙ u.1) (never_failed s))))

    module _ (k : not (e || w) ≡ false) (r : List ℕ) (er : r ≡ drop 1 s) (f : Option (ℕ × ℕ)) (ef : f ≡ value_of minutes_of (zone r)) where
      pub offset_bad : f ≡ None → None ≡ value_of offset_of (offset s)
      unfolding offset
      offset_bad q =
          let x = value_none minutes_of ef q in
          failed_answer (value_of offset_of)
          (other_failed 90 (always Offset.utc) _ (sym ez ∙ h)
          (by_test (λ _. Fails (choose 43 (into east_of zone) (behind 45 (into west_of zone))) s) e
          (λ t. first_failed 43 (into east_of zone) _ (sym ee ∙ t) er (into_failed x east_of))
          (λ t. other_failed 43 (into east_of zone) _ (sym ee ∙ t) (first_failed 45 (into west_of zone) never (sym ew ∙ second e w k t) er (into_failed x west_of)))))

      module _ (v n : ℕ) (ev : f ≡ Some (v, n)) where
        pub offset_is : (m : ℤ) → SFits w32 m → m ≡ signed e v → Some ((to_z w32 (of_z w32 m)), (n + 1)) ≡ value_of offset_of (offset s)
        unfolding offset
        offset_is m fm em =
            let x = value_some minutes_of ef ev in
            rw (to_z-of_z w32 m fm, em)
            (value_found offset_of
            (other_found 90 (always Offset.utc) _ (sym ez ∙ h)
            (by_test (λ b. Finds (λ o. offset_of o ≡ signed b v) (n + 1) (choose 43 (into east_of zone) (behind 45 (into west_of zone))) s) e
            (λ t. first_found 43 (into east_of zone) _ (sym ee ∙ t) er (into_found x east_of (λ a q. ap pos q)))
            (λ t.
            other_found 43 (into east_of zone) _ (sym ee ∙ t)
            (first_found 45 (into west_of zone) never (sym ew ∙ second e w k t) er (into_found x west_of (λ a q. ap (λ (i : ℕ). neg_ℤ (pos i)) q)))))))

pub ruleset offset_laws = (zone_small, offset_utc, offset_no, offset_bad, offset_is)
