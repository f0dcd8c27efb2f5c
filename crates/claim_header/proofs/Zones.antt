-- The pieces of a timestamp's text, and the text whole.
use Rattle.std.specs.Prelude.{if◌then◌else◌}
use Prim.Native.Nat.{ℕ, zero, suc, ◌+◌, ◌-◌, ◌/◌, ◌%◌, ◌^◌, ◌≤◌, ◌<◌}
use mathlib.Core.Path.{◌≡◌, refl, sym, ap, ◌∙◌}
use mathlib.Core.Bool.{Bool, true, false, ◌&&◌, and-true}
use mathlib.Core.List.{List, [], ◌∷◌, ◌++◌, append_assoc, append-nil}
use mathlib.Core.Option.{some}
use native.Mathlib.Omega.{arith}
use lib.Dec.{eqb}
use lib.IntN.{ℤ, pos, negsuc, nat_abs}
use lib.ListN.{length, get_or, length-append}
use mir.Syntax.{w32, w64}
use mir.Val.{SFits, to_z, of_z}
use mir.ValLaws.{to_z-of_z}
use borrow.Author.Tests.{eq-eqb, ne_eqb}
use Rattle.base.specs.Choose.{is_at}
use Rattle.base.specs.Diff.{up, down, diff_of}
use Rattle.base.specs.declared.Diff.{Diff}
use Rattle.base.proofs.Tests.{by_test}
use Rattle.digits.proofs.Fractions.{unit_some}
use Rattle.calendar.specs.Calendar.{offset_limit}
use Rattle.calendar.specs.declared.DateTime.{DateTime}
use Rattle.output.specs.Numerals.{fixed}
use Rattle.output.proofs.Numerals.{length_fixed}
use Rattle.grammar.specs.Line.{Offset, secfrac_then, offset_then, timestamp_then}
use Rattle.message_stamp.specs.Stamps.{date_text, time_text, clock_text, fraction_text}
use Rattle.message_stamp.proofs.Texts.{fraction_none, fraction_some}
use Rattle.claims.specs.Texts.{secfrac_of, fraction_len, zone_by, clock_texts}
use Rattle.claims.specs.Holds.{stands_at, sign_holds}
use Rattle.claims.proofs.Bytes.{byte_inside}
use Rattle.claim_header.specs.Zones.{hours_text, zone_len, sign_at, zone_holds}
use Rattle.claim_header.proofs.Stands.{stands_then, stands_byte, stands_cons, stands_two, stands_three}

-- ---- date, clock, fraction, hours

date_size : (t : DateTime) → length (date_text t) ≡ 10
unfolding date_text
date_size t = simp (length-append, length_fixed) (omega arith)

module _ (line : List ℕ) (at : ℕ) (x y : Bool) where
  module _ (t : DateTime) where
    pub date_is : (z : Bool) → x ≡ stands_at line at (fixed 4 t.year) → y ≡ stands_at line (at + 4) (45 ∷ fixed 2 t.month) → z ≡ stands_at line (at + 7) (45 ∷ fixed 2 t.day)
        → (x && y && z) ≡ stands_at line at (date_text t)
    unfolding date_text
    date_is z p q r =
        stands_three line at (fixed 4 t.year) (45 ∷ fixed 2 t.month) (at + 4) (omega (arith, length_fixed 4 t.year)) x y p
        (45 ∷ fixed 2 t.day) (at + 7) (omega (arith, length_fixed 2 t.month)) z q r

    pub time_is : (z : Bool) → x ≡ stands_at line at (84 ∷ fixed 2 t.hour) → y ≡ stands_at line (at + 3) (58 ∷ fixed 2 t.minute) → z ≡ stands_at line (at + 6) (58 ∷ fixed 2 t.second)
        → (x && y && z) ≡ stands_at line at (time_text t)
    unfolding time_text
    time_is z p q r =
        stands_three line at (84 ∷ fixed 2 t.hour) (58 ∷ fixed 2 t.minute) (at + 3) (omega (arith, length_fixed 2 t.hour)) x y p
        (58 ∷ fixed 2 t.second) (at + 6) (omega (arith, length_fixed 2 t.minute)) z q r

    pub clock_is : x ≡ stands_at line at (date_text t) → y ≡ stands_at line (at + 10) (time_text t) → (x && y) ≡ stands_at line at (clock_text t)
    unfolding clock_text
    clock_is p q = stands_two line at (date_text t) (time_text t) (at + 10) (ap (λ (n : ℕ). at + n) (date_size t)) x y p q

  pub hours_is : (n : ℕ) → x ≡ stands_at line at (fixed 2 (n / 60)) → y ≡ stands_at line (at + 2) (58 ∷ fixed 2 (n % 60)) → (x && y) ≡ stands_at line at (hours_text n)
  unfolding hours_text
  hours_is n p q = stands_two line at (fixed 2 (n / 60)) (58 ∷ fixed 2 (n % 60)) (at + 2) (ap (λ (k : ℕ). at + k) (length_fixed 2 (n / 60))) x y p q

pub ruleset piece_laws = (date_is, time_is, clock_is, hours_is)

module _ (d : ℕ) where
  pub no_digits : d ≡ 0 → 0 ≡ fraction_len d
  no_digits e = rw (eq-eqb d 0 e)

  pub some_digits : (d ≡ 0 → ⊥) → d + 1 ≡ fraction_len d
  some_digits z = rw (ne_eqb d 0 z)

  module _ (line : List ℕ) (at n : ℕ) where
    pub fraction_empty : d ≡ 0 → true ≡ stands_at line at (fraction_text d n)
    fraction_empty e = rw (← fraction_none d n e)

    module _ (z : d ≡ 0 → ⊥) where
      pub fraction_room : at + fraction_len d ≤ length line → at + (1 + d) ≤ length line
      fraction_room h = omega (arith, some_digits z)

      pub fraction_given : (u : ℕ) → u ≡ 10 ^ (9 - d) → (r : Bool) → r ≡ stands_at line at (46 ∷ fixed d (n / u)) → r ≡ stands_at line at (fraction_text d n)
      fraction_given u e r q = q ∙ ap (stands_at line at) (fraction_some d n z u e)

pub ruleset fraction_laws = (no_digits, some_digits, fraction_empty, fraction_room, fraction_given, unit_some)

-- ---- the offset

pub split_is : (o : ℤ) → SFits w32 o → (w : ℤ) → SFits w64 w → w ≡ to_z w32 (of_z w32 o) → (q : Diff) → q ≡ diff_of (to_z w64 (of_z w64 w)) → q ≡ diff_of o
split_is o fo w fw ew q eq = eq ∙ ap diff_of (to_z-of_z w64 w fw ∙ ew ∙ to_z-of_z w32 o fo)

pub utc_len : (line : List ℕ) (at : ℕ) (t : Bool) → t ≡ is_at line at 90 → t ≡ true → 1 ≡ zone_len line at
utc_len line at t e q = rw (← e, q)

pub sign_len_lem : (line : List ℕ) (at : ℕ) (t : Bool) → t ≡ is_at line at 90 → t ≡ false → 6 ≡ zone_len line at
sign_len_lem line at t e q = rw (← e, q)

pub ruleset zone_len_laws = (utc_len, sign_len_lem)

pub hours_room : (line : List ℕ) (at : ℕ) (t : Bool) → t ≡ is_at line at 90 → t ≡ false → at + zone_len line at ≤ length line → at + 6 ≤ length line
hours_room line at t e q h = omega (arith, sign_len_lem line at t e q)

sum_is : (o : ℤ) → up o + down o ≡ nat_abs o
sum_is (pos n) = omega arith
sum_is (negsuc n) = omega arith

some_not : (n : ℕ) → eqb (suc n) 0 ≡ false
some_not n = ne_eqb (suc n) 0 (λ e. omega arith)

-- the form that stands there has its sign
utc_sign : (b : ℕ) (o : ℤ) → eqb b 90 ≡ true → sign_holds b o ≡ (eqb (up o) 0 && eqb (down o) 0)
utc_sign b (pos zero) h = refl
utc_sign b (pos (suc n)) h = rw (h, some_not n)
utc_sign b (negsuc n) h = rw (h, some_not n)

west_sign : (b : ℕ) (o : ℤ) → eqb b 90 ≡ false → eqb b 45 ≡ true → sign_holds b o ≡ eqb (up o) 0
west_sign b (pos zero) h k = refl
west_sign b (pos (suc n)) h k = rw (h, k, some_not n)
west_sign b (negsuc n) h k = rw (h, k)

east_sign : (b : ℕ) (o : ℤ) → eqb b 90 ≡ false → eqb b 45 ≡ false → sign_holds b o ≡ eqb (down o) 0
east_sign b (pos zero) h k = refl
east_sign b (pos (suc n)) h k = rw (h, k)
east_sign b (negsuc n) h k = rw (h, k, some_not n)

-- a sign and the hours
signed : (line : List ℕ) (at s n : ℕ) → at < length line → stands_at line at (s ∷ (fixed 2 (n / 60) ++ (58 ∷ (fixed 2 (n % 60) ++ [])))) ≡ (is_at line at s && stands_at line (at + 1) (hours_text n))
unfolding hours_text
signed line at s n h = ap (λ (t : List ℕ). stands_at line at (s ∷ (fixed 2 (n / 60) ++ (58 ∷ t)))) (append-nil (fixed 2 (n % 60))) ∙ stands_cons line at s (fixed 2 (n / 60) ++ (58 ∷ fixed 2 (n % 60))) h

and_three : (a b c : Bool) → (a && (b && c)) ≡ (a && b && c)
and_three true b c = refl
and_three false b c = refl

module _ (line : List ℕ) (at : ℕ) (o : ℤ) (q : Diff) (eq : q ≡ diff_of o) where
  up_is : q.up ≡ up o
  up_is = ap (λ (d : Diff). d.up) eq

  down_is : q.down ≡ down o
  down_is = ap (λ (d : Diff). d.down) eq

  minutes : q.up + q.down ≡ nat_abs o
  minutes = rw (up_is, down_is) (sum_is o)

  pub minutes_in : nat_abs o ≤ offset_limit → q.up + q.down ≤ offset_limit
  minutes_in h = omega (arith, minutes)

  module _ (u : Bool) (eu : u ≡ is_at line at 90) where
    pub zone_utc : u ≡ true → (eqb q.up 0 && eqb q.down 0) ≡ zone_holds line at o
    unfolding zone_holds
    zone_utc h =
        let z : is_at line at 90 ≡ true = sym eu ∙ h in
        let s : stands_at line at (90 ∷ []) ≡ true = stands_byte line at 90 (byte_inside line at 90 (omega arith) z) ∙ z in
        rw (up_is, down_is, z, s, and-true (sign_holds (get_or line at 0) o)) (sym (utc_sign (get_or line at 0) o z))

    module _ (nu : u ≡ false) (room : at + zone_len line at ≤ length line) where
      not_utc : is_at line at 90 ≡ false
      not_utc = sym eu ∙ nu

      inside : at < length line
      inside = omega (arith, hours_room line at u eu nu room)

      pub zone_sign : (r : Bool) → r ≡ sign_at line at q.up q.down → r ≡ zone_holds line at o
      unfolding zone_holds sign_at
      zone_sign r er =
          let n = nat_abs o in
          let x = stands_at line (at + 1) (hours_text n) in
          let a = signed line at 45 n inside in
          let b = signed line at 43 n inside in
          er ∙ rw (minutes, up_is, down_is, not_utc)
          (by_test
          (λ t. is_at line at 45 ≡ t → (if t then eqb (up o) 0 && x else eqb (down o) 0 && is_at line at 43 && x)
          ≡ (sign_holds (get_or line at 0) o && stands_at line at (offset_then (if t then Offset.west (fixed 2 (n / 60)) (fixed 2 (n % 60)) else Offset.east (fixed 2 (n / 60)) (fixed 2 (n % 60))) [])))
          (is_at line at 45)
          (λ _ w. rw (a, w, west_sign (get_or line at 0) o not_utc w))
          (λ _ w. rw (b, east_sign (get_or line at 0) o not_utc w) (sym (and_three (eqb (down o) 0) (is_at line at 43) x)))
          refl)

pub ruleset zone_laws = (minutes_in, zone_utc, hours_room, zone_sign)

-- by the sign
module _ (line : List ℕ) (at east west : ℕ) (x : Bool) (ex : x ≡ stands_at line (at + 1) (hours_text (east + west))) (w : Bool) (ew : w ≡ is_at line at 45) where
  pub sign_west : w ≡ true → (eqb east 0 && x) ≡ sign_at line at east west
  unfolding sign_at
  sign_west h = rw (← ew, h, ← ex)

  pub sign_east : w ≡ false → (y : Bool) → y ≡ is_at line at 43 → (eqb west 0 && y && x) ≡ sign_at line at east west
  unfolding sign_at
  sign_east h y ey = rw (← ew, h, ← ey, ← ex)

pub ruleset sign_laws = (sign_west, sign_east)

-- ---- the text whole

zone_size : (b n : ℕ) → length (offset_then (zone_by b n) []) ≡ (if eqb b 90 then 1 else 6)
zone_size b n =
    by_test (λ t. length (offset_then (if t then Offset.utc else if eqb b 45 then Offset.west (fixed 2 (n / 60)) (fixed 2 (n % 60)) else Offset.east (fixed 2 (n / 60)) (fixed 2 (n % 60))) []) ≡ (if t then 1 else 6)) (eqb b 90)
    (λ e. refl)
    (λ e. by_test (λ t. length (offset_then (if t then Offset.west (fixed 2 (n / 60)) (fixed 2 (n % 60)) else Offset.east (fixed 2 (n / 60)) (fixed 2 (n % 60))) []) ≡ 6) (eqb b 45)
    (λ q. simp (length-append, length_fixed) (omega arith)) (λ q. simp (length-append, length_fixed) (omega arith)))

fraction_text_lem : (k n : ℕ) (r : List ℕ) → secfrac_then (secfrac_of k n) r ≡ fraction_text k n ++ r
unfolding fraction_text
fraction_text_lem zero n r = refl
fraction_text_lem (suc k) n r = rw (ne_eqb (suc k) 0 (λ e. omega arith))

fraction_size : (k n : ℕ) → length (fraction_text k n) ≡ fraction_len k
unfolding fraction_text
fraction_size k n =
    by_test (λ t. length (if t then [] else 46 ∷ fixed k (n / 10 ^ (9 - k))) ≡ (if t then 0 else k + 1)) (eqb k 0)
    (λ e. refl) (λ e. omega (arith, length_fixed k (n / 10 ^ (9 - k))))

clock_text_lem : (c : DateTime) (f r : List ℕ)
    → fixed 4 c.year ++ (45 ∷ (fixed 2 c.month ++ (45 ∷ (fixed 2 c.day ++ (84 ∷ (fixed 2 c.hour ++ (58 ∷ (fixed 2 c.minute ++ (58 ∷ (fixed 2 c.second ++ r)))))))))) ≡ clock_text c ++ r
unfolding clock_text date_text time_text
clock_text_lem c f r = simp append_assoc

clock_size : (c : DateTime) → length (clock_text c) ≡ 19
unfolding clock_text date_text time_text
clock_size c = simp (length-append, length_fixed) (omega arith)

module _ (c : DateTime) (k n : ℕ) (o : Offset) where
  pub whole_text : timestamp_then (some (clock_texts c (secfrac_of k n) o)) [] ≡ clock_text c ++ (fraction_text k n ++ offset_then o [])
  whole_text = clock_text_lem c [] _ ∙ ap (λ (t : List ℕ). clock_text c ++ t) (fraction_text_lem k n (offset_then o []))

module _ (line : List ℕ) (at : ℕ) (c : DateTime) (k n m : ℕ) where
  abbrev the_zone : ℕ
  the_zone = at + (19 + fraction_len k)

  abbrev the_offset : Offset
  the_offset = zone_by (get_or line (at + (19 + fraction_len k)) 0) m

  pub whole_size : length (timestamp_then (some (clock_texts c (secfrac_of k n) the_offset)) []) ≡ 19 + fraction_len k + zone_len line the_zone
  whole_size =
      ap length (whole_text c k n the_offset)
      ∙ omega (
        arith,
        length-append (clock_text c) (fraction_text k n ++ offset_then the_offset []),
        length-append (fraction_text k n) (offset_then the_offset []),
        clock_size c,
        fraction_size k n,
        zone_size (get_or line the_zone 0) m,
      )

  pub whole_stands : stands_at line at (timestamp_then (some (clock_texts c (secfrac_of k n) the_offset)) [])
      ≡ (stands_at line at (clock_text c) && (stands_at line (at + 19) (fraction_text k n) && stands_at line the_zone (offset_then the_offset [])))
  whole_stands =
      ap (stands_at line at) (whole_text c k n the_offset)
      ∙ stands_then line at (clock_text c) (fraction_text k n ++ offset_then the_offset []) (at + 19) (ap (λ (j : ℕ). at + j) (clock_size c))
      ∙ ap (λ (b : Bool). stands_at line at (clock_text c) && b) (stands_then line (at + 19) (fraction_text k n) (offset_then the_offset []) the_zone (omega (arith, fraction_size k n)))
