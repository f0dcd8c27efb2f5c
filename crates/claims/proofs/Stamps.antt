-- The test of the timestamp, both ways.
use Rattle.std.specs.Prelude.{if◌then◌else◌, Some, None}
use Prim.Native.Nat.{ℕ, zero, suc, ◌+◌, ◌-◌, ◌*◌, ◌/◌, ◌%◌, ◌^◌, ◌≤◌}
use mathlib.Core.Path.{◌≡◌, refl, sym, ap, ◌∙◌, subst}
use mathlib.Core.Bool.{Bool, true, false, not, ◌&&◌}
use mathlib.Core.List.{List, [], ◌∷◌}
use Rattle.std.specs.Prelude as std
use mathlib.Core.Option.{Option, none, some}
use native.Mathlib.Omega.{arith}
use lib.Dec.{leb, eqb}
use lib.IntN.{ℤ, pos, negsuc, neg_ℤ, nat_abs}
use lib.ListN.{length, get_or}
use borrow.Author.Tests.{le-leb, leb-true, eqb-true, eq-eqb, ne_eqb, not-true}
use Rattle.base.specs.Choose.{is_at}
use Rattle.base.proofs.Tests.{both, by_test}
use Rattle.digits.specs.Digits.{is_digit, decimal}
use Rattle.calendar.specs.Instant.{shown, is_shown}
use Rattle.calendar.proofs.ThereAndBack.{back, shown_seconds}
use Rattle.output.specs.Numerals.{fixed}
use Rattle.record.specs.Places.{absent, place}
use Rattle.record.specs.declared.Place.{Place}
use Rattle.record.specs.declared.Timestamp as stamped
use Rattle.grammar.specs.Abnf.{Repeat}
use Rattle.grammar.specs.Line.{Offset, Timestamp, secfrac_then, offset_then, time_then, timestamp_then, SecfracOk, OffsetOk, FullOk, TimestampOk}
use Rattle.grammar.specs.Reading.{offset_of, digits_of, stamp_of}
use Rattle.suits.specs.Suits.{fraction_suits, stamp_suits}
use Rattle.claims.specs.Texts.{secfrac_of, fraction_len, zone_by, zone_at, written_stamp}
use Rattle.claims.specs.Holds.{byte_next, stands_at, sign_holds, stamp_holds, len_of, stamp_next}
use Rattle.claims.proofs.Numbers.{digits_again}
use Rattle.claims.proofs.Moments.{Seen, seen, clock_of, clock_said, texts_ok, zone_minutes, zone_numbers, frac_said, frac_digits, frac_ok, frac_few, frac_nanos, frac_exact, frac_again, hour_again, minute_again, offset_small, full_valid, shows_again}
use Rattle.claims.proofs.Places.{Here, here_next, here_on, here_byte, here_as, moved, timestamp_plain}
use Rattle.claims.proofs.Tests.{all_both, if_next, byte_stands, byte_step, byte_taken, byte_then, text_then, text_stands}

-- ---- what stands in the line, written again

abs_neg : (n : ℕ) → nat_abs (neg_ℤ (pos n)) ≡ n
abs_neg zero = refl
abs_neg (suc n) = refl

-- the offset, by the byte that stands there
zone_again : (line : List ℕ) (at : ℕ) (o : Offset) (r : List ℕ) → OffsetOk o → Here line at (offset_then o r) → zone_by (get_or line at 0) (nat_abs (offset_of o)) ≡ o
zone_again line at Offset.utc r k h = rw (here_byte h)
zone_again line at (Offset.east a b) r k h = rw (here_byte h, hour_again a b k, minute_again a b k)
zone_again line at (Offset.west a b) r k h = rw (here_byte h, abs_neg (decimal a * 60 + decimal b), hour_again a b k, minute_again a b k)

exact : (k : ℕ) (t : List ℕ) → Repeat k k is_digit t → length t ≡ k
exact k t h = omega (arith, h.at_least, h.at_most)

fraction_past : (line : List ℕ) (at : ℕ) (f : Option (List ℕ)) (r : List ℕ) → SecfracOk f → Here line at (secfrac_then f r) → Here line (at + fraction_len (digits_of f)) r
fraction_past line at none r k h = moved (at + 0) h (omega arith)
fraction_past line at (some f) r k h =
    let n : eqb (length f) 0 ≡ false = ne_eqb (length f) 0 (λ e. omega (arith, k.at_least)) in
    moved (at + (if eqb (length f) 0 then 0 else length f + 1)) (here_on f (here_next h)) (rw n (omega arith))

module _ (line : List ℕ) (at : ℕ) (t : Timestamp) (r : List ℕ) (k : FullOk t) (h : Here line at (timestamp_then (some t) r)) where
  clock_past : Here line (at + 19) (secfrac_then t.secfrac (offset_then t.offset r))
  clock_past =
      let a : Here line (at + length t.year + 1 + length t.month + 1 + length t.day + 1) (time_then t r) =
      here_next (here_on t.day (here_next (here_on t.month (here_next (here_on t.year h))))) in
      let b : Here line (at + length t.year + 1 + length t.month + 1 + length t.day + 1 + length t.hour + 1 + length t.minute + 1 + length t.second)
      (secfrac_then t.secfrac (offset_then t.offset r)) =
      here_on t.second (here_next (here_on t.minute (here_next (here_on t.hour a)))) in
      moved (at + 19) b
      (omega (
        arith,
        exact 4 t.year k.year_digits,
        exact 2 t.month k.month_digits,
        exact 2 t.day k.day_digits,
        exact 2 t.hour k.hour_digits,
        exact 2 t.minute k.minute_digits,
        exact 2 t.second k.second_digits,
      ))

  zone_here : Here line (zone_at at (digits_of t.secfrac)) (offset_then t.offset r)
  zone_here = moved _ (fraction_past line (at + 19) t.secfrac (offset_then t.offset r) k.secfrac_ok clock_past) (omega arith)

  stamp_told : written_stamp line at (stamp_of (some t)) ≡ some t
  stamp_told =
      rw (
        shows_again t k,
        digits_again 4 t.year k.year_digits,
        digits_again 2 t.month k.month_digits,
        digits_again 2 t.day k.day_digits,
        digits_again 2 t.hour k.hour_digits,
        digits_again 2 t.minute k.minute_digits,
        digits_again 2 t.second k.second_digits,
        frac_again t.secfrac k.secfrac_ok,
        zone_again line _ t.offset r k.offset_ok zone_here,
      )

-- ---- the form that a byte chooses

zone_ok : (b n : ℕ) → n ≤ 1439 → OffsetOk (zone_by b n)
zone_ok b n h =
    by_test (λ t. OffsetOk (if t then Offset.utc else if eqb b 45 then Offset.west (fixed 2 (n / 60)) (fixed 2 (n % 60)) else Offset.east (fixed 2 (n / 60)) (fixed 2 (n % 60)))) (eqb b 90)
    (λ e. tt)
    (λ e. by_test (λ t. OffsetOk (if t then Offset.west (fixed 2 (n / 60)) (fixed 2 (n % 60)) else Offset.east (fixed 2 (n / 60)) (fixed 2 (n % 60)))) (eqb b 45)
    (λ q. zone_numbers n h) (λ q. zone_numbers n h))

east_is : (n : ℕ) → n ≤ 1439 → offset_of (Offset.east (fixed 2 (n / 60)) (fixed 2 (n % 60))) ≡ pos n
east_is n h = ap pos (zone_minutes n h)

west_is : (n : ℕ) → n ≤ 1439 → offset_of (Offset.west (fixed 2 (n / 60)) (fixed 2 (n % 60))) ≡ neg_ℤ (pos n)
west_is n h = ap (λ (k : ℕ). neg_ℤ (pos k)) (zone_minutes n h)

zone_is : (b : ℕ) (o : ℤ) → nat_abs o ≤ 1439 → sign_holds b o ≡ true → offset_of (zone_by b (nat_abs o)) ≡ o
zone_is b (pos zero) h s =
    by_test (λ t. offset_of (if t then Offset.utc else if eqb b 45 then Offset.west (fixed 2 (0 / 60)) (fixed 2 (0 % 60)) else Offset.east (fixed 2 (0 / 60)) (fixed 2 (0 % 60))) ≡ pos 0) (eqb b 90)
    (λ e. refl)
    (λ e. by_test (λ t. offset_of (if t then Offset.west (fixed 2 (0 / 60)) (fixed 2 (0 % 60)) else Offset.east (fixed 2 (0 / 60)) (fixed 2 (0 % 60))) ≡ pos 0) (eqb b 45)
    (λ q. west_is 0 h) (λ q. east_is 0 h))
zone_is b (pos (suc n)) h s =
    let u = both (not (eqb b 90)) (not (eqb b 45)) s in
    rw (not-true (eqb b 90) u.0, not-true (eqb b 45) u.1) (east_is (suc n) h)
zone_is b (negsuc n) h s =
    let u = both (not (eqb b 90)) (eqb b 45) s in
    rw (not-true (eqb b 90) u.0, u.1) (west_is (suc n) h)

-- ---- told yes: a timestamp of the grammar

-- the place of a timestamp's text
abbrev pub place_for : ℕ → Option Timestamp → Place
place_for at none = absent
place_for at (some t) = place at (length (timestamp_then (some t) []))

module _ (line : List ℕ) (at : ℕ) where
  record StampHere (p : Place) (s : std.Option stamped.Timestamp) : Type 0 where
    pub ok : TimestampOk (written_stamp line p.start s)
    pub is_stamp : stamp_of (written_stamp line p.start s) ≡ s
    pub is_place : place_for at (written_stamp line p.start s) ≡ p
    pub size : length (timestamp_then (written_stamp line p.start s) []) ≡ len_of p
    pub here : (r : List ℕ) → Here line (at + len_of p) r → Here line at (timestamp_then (written_stamp line p.start s) r)

  no_place : (b : Bool) (s n : ℕ) → b ≡ false → s ≡ 0 → n ≡ 0 → absent ≡ record { present = b; start = s; len = n }
  no_place b s n e f g = rw (e, f, g)

  the_place : (b : Bool) (s n k : ℕ) → b ≡ true → s ≡ at → n ≡ k → place at k ≡ record { present = b; start = s; len = n }
  the_place b s n k e f g = rw (e, f, g)

  module _ (t : stamped.Timestamp) (few : t.digits ≤ 6) (nanos : t.nanos ≤ 999999999) (exact : t.nanos % 10 ^ (9 - t.digits) ≡ 0)
      (zone : nat_abs t.offset ≤ 1439) (shows : is_shown (shown t.seconds t.offset) ≡ true)
      (sign : sign_holds (get_or line (zone_at at t.digits) 0) t.offset ≡ true)
      (stands : stands_at line at (timestamp_then (written_stamp line at (Some t)) []) ≡ true) where
    sight : Seen t.seconds t.offset
    sight = seen t.seconds t.offset shows

    full : TimestampOk (written_stamp line at (Some t))
    full =
        rw sight.shows
        (texts_ok sight.clock sight.is_valid (secfrac_of t.digits t.nanos) (frac_ok t.digits t.nanos few) _ (zone_ok (get_or line (zone_at at t.digits) 0) (nat_abs t.offset) zone))

    stamp_here : StampHere (place at (length (timestamp_then (written_stamp line at (Some t)) []))) (Some t)
    stamp_here =
        record {
          ok = full;
          is_stamp =
              rw (
                sight.shows,
                clock_said sight.clock sight.is_valid none Offset.utc,
                zone_is (get_or line (zone_at at t.digits) 0) t.offset zone sign,
                frac_said t.digits t.nanos (omega arith) nanos exact,
                frac_digits t.digits t.nanos,
                shown_seconds t.seconds t.offset sight.clock sight.shows,
              );
          is_place = refl;
          size = refl;
          here = λ r g.
              here_as (text_then line at (timestamp_then (written_stamp line at (Some t)) []) r stands g)
              (sym (timestamp_plain (written_stamp line at (Some t)) r full));
        }

  stamp_sound : (b : Bool) (start len : ℕ) (s : std.Option stamped.Timestamp) → stamp_holds line at (record { present = b; start = start; len = len }) s ≡ true
      → StampHere (record { present = b; start = start; len = len }) s
  stamp_sound b start len None h =
      let u1 = both (not b && eqb start 0 && eqb len 0) (is_at line at 45) h in
      let u2 = both (not b && eqb start 0) (eqb len 0) u1.0 in
      let u3 = both (not b) (eqb start 0) u2.0 in
      let e = not-true b u3.0 in
      record {
        ok = tt;
        is_stamp = refl;
        is_place = no_place b start len e (eqb-true start 0 u3.1) (eqb-true len 0 u2.1);
        size = rw e refl;
        here = λ r g. byte_then line at 44 r u1.1 (moved (at + 1) g (rw e refl));
      }
  stamp_sound b start len (Some t) h =
      let text = timestamp_then (written_stamp line at (Some t)) [] in
      let g = sign_holds (get_or line (zone_at at t.digits) 0) t.offset in
      let w = stamp_suits (Some t) in
      let u1 = both (w && leb t.digits 6 && b && eqb start at && eqb len (length text) && g) (stands_at line at text) h in
      let u2 = both (w && leb t.digits 6 && b && eqb start at && eqb len (length text)) g u1.0 in
      let u3 = both (w && leb t.digits 6 && b && eqb start at) (eqb len (length text)) u2.0 in
      let u4 = both (w && leb t.digits 6 && b) (eqb start at) u3.0 in
      let u5 = both (w && leb t.digits 6) b u4.0 in
      let u6 = both w (leb t.digits 6) u5.0 in
      let x = t.nanos % 10 ^ (9 - t.digits) in
      let v1 = both (fraction_suits t.nanos t.digits && leb (nat_abs t.offset) 1439) (is_shown (shown t.seconds t.offset)) u6.0 in
      let v2 = both (fraction_suits t.nanos t.digits) (leb (nat_abs t.offset) 1439) v1.0 in
      let v3 = both (leb t.nanos 999999999 && leb t.digits 9) (eqb x 0) v2.0 in
      let v4 = both (leb t.nanos 999999999) (leb t.digits 9) v3.0 in
      let z = stamp_here t (leb-true t.digits 6 u6.1) (leb-true t.nanos 999999999 v4.0) (eqb-true x 0 v3.1) (leb-true (nat_abs t.offset) 1439 v2.1) v1.1 u2.1 u1.1 in
      subst (λ (p : Place). StampHere p (Some t)) (the_place b start len (length text) u5.1 (eqb-true start at u4.1) (eqb-true len (length text) u3.1)) z

  pub record StampStep (p : Place) (s : std.Option stamped.Timestamp) (next : ℕ) : Type 0 where
    pub ok : TimestampOk (written_stamp line p.start s)
    pub is_stamp : stamp_of (written_stamp line p.start s) ≡ s
    pub is_place : place_for at (written_stamp line p.start s) ≡ p
    pub ends : next ≡ at + length (timestamp_then (written_stamp line p.start s) []) + 1
    pub here : (r : List ℕ) → Here line next r → Here line at (timestamp_then (written_stamp line p.start s) (32 ∷ r))

  pub stamp_step : (p : Place) (s : std.Option stamped.Timestamp) (next : ℕ) → stamp_next line at p s ≡ Some next → StampStep p s next
  unfolding stamp_next
  stamp_step p s next h =
      let (t, g) = if_next (stamp_holds line at p s) (byte_next line (at + len_of p) 32) next h in
      let (b, e) = byte_step line (at + len_of p) 31 next g in
      let w = stamp_sound p.present p.start p.len s t in
      record {
        ok = w.ok;
        is_stamp = w.is_stamp;
        is_place = w.is_place;
        ends = omega (arith, w.size);
        here = λ r g. w.here (32 ∷ r) (byte_then line (at + len_of p) 31 r b (moved (at + len_of p + 1) g (sym e)));
      }

-- ---- a timestamp of the grammar is told yes

sign_stands : (line : List ℕ) (at : ℕ) (o : Offset) (r : List ℕ) → Here line at (offset_then o r) → sign_holds (get_or line at 0) (offset_of o) ≡ true
sign_stands line at Offset.utc r h = refl
sign_stands line at (Offset.east a b) r h = rw (here_byte h) (go (decimal a * 60 + decimal b))
  where
    go : (n : ℕ) → sign_holds 43 (pos n) ≡ true
    go zero = refl
    go (suc n) = refl
sign_stands line at (Offset.west a b) r h = rw (here_byte h) (go (decimal a * 60 + decimal b))
  where
    go : (n : ℕ) → sign_holds 45 (neg_ℤ (pos n)) ≡ true
    go zero = refl
    go (suc n) = refl

suits_complete : (t : Timestamp) → FullOk t → stamp_suits (stamp_of (some t)) ≡ true
suits_complete t k =
    all_both _ _ (all_both _ _ (all_both _ _ (all_both _ _
    (le-leb _ 999999999 (frac_nanos t.secfrac k.secfrac_ok))
    (le-leb (digits_of t.secfrac) 9 (omega (arith, frac_few t.secfrac k.secfrac_ok))))
    (eq-eqb _ 0 (frac_exact t.secfrac)))
    (le-leb _ 1439 (offset_small t.offset k.offset_ok)))
    (ap is_shown (back (clock_of t) (offset_of t.offset) (full_valid t k)))

module _ (line : List ℕ) (at : ℕ) where
  stamp_complete : (t : Option Timestamp) (r : List ℕ) → TimestampOk t → Here line at (timestamp_then t r)
      → (stamp_holds line at (place_for at t) (stamp_of t) ≡ true) × (len_of (place_for at t) ≡ length (timestamp_then t []))
  stamp_complete none r k h = (byte_stands line h, refl)
  stamp_complete (some t) r k h =
      let q = stamp_told line at t r k h in
      let n = length (timestamp_then (some t) []) in (
        all_both _ _ (all_both _ _ (all_both _ _ (all_both _ _ (all_both _ _ (all_both _ _
            (suits_complete t k)
            (le-leb _ 6 (frac_few t.secfrac k.secfrac_ok)))
            refl)
            (eq-eqb at at refl))
            (ap (λ (x : Option Timestamp). eqb n (length (timestamp_then x []))) q ∙ eq-eqb n n refl))
            (sign_stands line _ t.offset r (zone_here line at t r k h)))
            (ap (λ (x : Option Timestamp). stands_at line at (timestamp_then x [])) q
            ∙ text_stands line at (timestamp_then (some t) []) r (here_as h (timestamp_plain (some t) r k))),
        refl,
      )

  pub stamp_taken : (t : Option Timestamp) (r : List ℕ) → TimestampOk t → Here line at (timestamp_then t (32 ∷ r))
      → stamp_next line at (place_for at t) (stamp_of t) ≡ Some (at + length (timestamp_then t []) + 1)
  unfolding stamp_next
  stamp_taken t r k h =
      let (a, b) = stamp_complete t (32 ∷ r) k h in
      rw (a, b, byte_taken line (at + length (timestamp_then t [])) 32 r (here_on (timestamp_then t []) (here_as h (timestamp_plain t (32 ∷ r) k))))
