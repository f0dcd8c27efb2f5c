-- The line as it is written: the front, the opening of the first element, and what is left then.
use Rattle.std.specs.Prelude.{Option, Some, None}
use Prim.Native.Nat.{ℕ, zero, suc, ◌/◌, ◌%◌}
use mathlib.Core.Path.{◌≡◌, refl, ap, ◌∙◌}
use mathlib.Core.Bool.{true}
use mathlib.Core.List.{List, [], ◌∷◌, ◌++◌, append_assoc}
use native.Mathlib.Omega.{arith}
use lib.IntN.{ℤ, pos, negsuc}
use lib.ListN.{take}
use borrow.Author.Tests.{ne_eqb}
use Rattle.output.specs.Numerals.{fixed, numeral}
use Rattle.suits.specs.Suits.{stamp_suits, record_suits}
use Rattle.suits.proofs.Suited.{stamp_in_lem, record_in_lem}
use Rattle.message_stamp.specs.Stamps.{date_text, time_text, clock_text, fraction_text, offset_text, stamp_text}
use Rattle.grammar.specs.Line.{secfrac_then, offset_then, timestamp_then, data_then, message_text}
use Rattle.writes.specs.declared.Handed.{Handed}
use Rattle.claims.specs.Texts.{secfrac_of}
use Rattle.writes.specs.Written.{or_dash, zone_of, timestamp_of, escape_elements, division_of, written}
use Rattle.writes.specs.Told.{told_elements}
use Rattle.writes.specs.Writes.{part_in, stamp_in, record_in, fields_in}
use Rattle.writer_header.specs.Fronts.{front_text}
use Rattle.writer_data.specs.Walks.{first_text}
use Rattle.writer.proofs.Lefts.{left_then, first_text_lem}
use Rattle.record.specs.declared.Timestamp.{Timestamp}

-- ---- the timestamp

clock_then : (y m d h n s r : List ℕ)
    → ((y ++ (45 ∷ m) ++ (45 ∷ d)) ++ ((84 ∷ h) ++ (58 ∷ n) ++ (58 ∷ s))) ++ r ≡ y ++ (45 ∷ (m ++ (45 ∷ (d ++ (84 ∷ (h ++ (58 ∷ (n ++ (58 ∷ (s ++ r))))))))))
clock_then y m d h n s r =
    append_assoc (y ++ (45 ∷ m) ++ (45 ∷ d)) ((84 ∷ h) ++ (58 ∷ n) ++ (58 ∷ s)) r
    ∙ ap (λ (l : List ℕ). (y ++ (45 ∷ m) ++ (45 ∷ d)) ++ l) (append_assoc ((84 ∷ h) ++ (58 ∷ n)) (58 ∷ s) r ∙ append_assoc (84 ∷ h) (58 ∷ n) (58 ∷ (s ++ r)))
    ∙ append_assoc (y ++ (45 ∷ m)) (45 ∷ d) (84 ∷ (h ++ (58 ∷ (n ++ (58 ∷ (s ++ r))))))
    ∙ append_assoc y (45 ∷ m) (45 ∷ (d ++ (84 ∷ (h ++ (58 ∷ (n ++ (58 ∷ (s ++ r))))))))

fraction_then : (k n : ℕ) (r : List ℕ) → fraction_text k n ++ r ≡ secfrac_then (secfrac_of k n) r
unfolding fraction_text
fraction_then zero n r = refl
fraction_then (suc k) n r = rw (ne_eqb (suc k) 0 (λ e. omega arith))

zone_then_lem : (o : ℤ) (r : List ℕ) → offset_text o ++ r ≡ offset_then (zone_of o) r
unfolding offset_text
zone_then_lem (pos n) r = append_assoc (43 ∷ fixed 2 (n / 60)) (58 ∷ fixed 2 (n % 60)) r
zone_then_lem (negsuc n) r = append_assoc (45 ∷ fixed 2 (suc n / 60)) (58 ∷ fixed 2 (suc n % 60)) r

stamp_then : (t : Option Timestamp) → stamp_suits t ≡ true → (r : List ℕ) → stamp_text t ++ r ≡ timestamp_then (timestamp_of t) r
unfolding clock_text date_text time_text
stamp_then None h r = refl
stamp_then (Some t) h r =
    let c = (stamp_in_lem t h).clock in
    let tail = offset_text t.offset ++ r in
    rw (stamp_in_lem t h).shows
    (append_assoc (clock_text c ++ fraction_text t.digits t.nanos) (offset_text t.offset) r
    ∙ append_assoc (clock_text c) (fraction_text t.digits t.nanos) tail
    ∙ rw (fraction_then t.digits t.nanos tail, zone_then_lem t.offset r)
    (clock_then (fixed 4 c.year) (fixed 2 c.month) (fixed 2 c.day) (fixed 2 c.hour) (fixed 2 c.minute) (fixed 2 c.second) (secfrac_then (secfrac_of t.digits t.nanos) (offset_then (zone_of t.offset) r))))

-- ---- the front

names_then : (a b r : List ℕ) → ((a ++ (32 ∷ [])) ++ (b ++ (32 ∷ []))) ++ r ≡ a ++ (32 ∷ (b ++ (32 ∷ r)))
names_then a b r =
    append_assoc (a ++ (32 ∷ [])) (b ++ (32 ∷ [])) r
    ∙ append_assoc a (32 ∷ []) ((b ++ (32 ∷ [])) ++ r)
    ∙ ap (λ (l : List ℕ). a ++ (32 ∷ l)) (append_assoc b (32 ∷ []) r)

start_then : (p v t r : List ℕ) → (((60 ∷ p) ++ (62 ∷ []) ++ v ++ (32 ∷ [])) ++ t ++ (32 ∷ [])) ++ r ≡ 60 ∷ (p ++ (62 ∷ (v ++ (32 ∷ (t ++ (32 ∷ r))))))
start_then p v t r =
    append_assoc (((60 ∷ p) ++ (62 ∷ []) ++ v ++ (32 ∷ [])) ++ t) (32 ∷ []) r
    ∙ append_assoc ((60 ∷ p) ++ (62 ∷ []) ++ v ++ (32 ∷ [])) t (32 ∷ r)
    ∙ append_assoc ((60 ∷ p) ++ (62 ∷ []) ++ v) (32 ∷ []) (t ++ (32 ∷ r))
    ∙ append_assoc ((60 ∷ p) ++ (62 ∷ [])) v (32 ∷ (t ++ (32 ∷ r)))
    ∙ append_assoc (60 ∷ p) (62 ∷ []) (v ++ (32 ∷ (t ++ (32 ∷ r))))

front_then : (s a b r : List ℕ) → (s ++ a ++ b) ++ r ≡ s ++ (a ++ (b ++ r))
front_then s a b r = append_assoc (s ++ a) b r ∙ append_assoc s a (b ++ r)

line_then_lem : (p v : List ℕ) (t : Option Timestamp) → stamp_suits t ≡ true → (a b c d r : List ℕ)
    → ((((60 ∷ p) ++ (62 ∷ []) ++ v ++ (32 ∷ [])) ++ stamp_text t ++ (32 ∷ [])) ++ ((a ++ (32 ∷ [])) ++ (b ++ (32 ∷ []))) ++ ((c ++ (32 ∷ [])) ++ (d ++ (32 ∷ [])))) ++ r
    ≡ 60 ∷ (p ++ (62 ∷ (v ++ (32 ∷ timestamp_then (timestamp_of t) (32 ∷ (a ++ (32 ∷ (b ++ (32 ∷ (c ++ (32 ∷ (d ++ (32 ∷ r)))))))))))))
line_then_lem p v t h a b c d r =
    let x = (a ++ (32 ∷ [])) ++ (b ++ (32 ∷ [])) in
    let y = (c ++ (32 ∷ [])) ++ (d ++ (32 ∷ [])) in
    let z = c ++ (32 ∷ (d ++ (32 ∷ r))) in
    front_then (((60 ∷ p) ++ (62 ∷ []) ++ v ++ (32 ∷ [])) ++ stamp_text t ++ (32 ∷ [])) x y r
    ∙ start_then p v (stamp_text t) (x ++ (y ++ r))
    ∙ ap (λ (l : List ℕ). 60 ∷ (p ++ (62 ∷ (v ++ (32 ∷ l)))))
    (stamp_then t h (32 ∷ (x ++ (y ++ r))) ∙ ap (λ (l : List ℕ). timestamp_then (timestamp_of t) (32 ∷ l)) (ap (λ (l : List ℕ). x ++ l) (names_then c d r) ∙ names_then a b z))

-- ---- the line

module _ (text : List ℕ) (h : Handed) (s : record_suits text (record_in h) ≡ true) (elements params : List (List ℕ)) where
  abbrev ids : List (List ℕ)
  ids = take h.element_count elements

  abbrev all : List (List ℕ)
  all = take h.param_count params

  abbrev tail : List ℕ
  tail = message_text (part_in text h.message)

  front_is : front_text text h ++ data_then (escape_elements (told_elements text 0 ids all)) tail ≡ written (fields_in text h elements params)
  unfolding front_text division_of fields_in
  front_is =
      line_then_lem (numeral h.priority) (numeral h.version) (stamp_in h) (record_in_lem text (record_in h) s).timestamp_in
      (or_dash (part_in text h.host)) (or_dash (part_in text h.app)) (or_dash (part_in text h.procid)) (or_dash (part_in text h.msgid))
      (data_then (escape_elements (told_elements text 0 ids all)) tail)

  pub line_is : (front_text text h ++ first_text text ids) ++ left_then text ids 0 all tail ≡ written (fields_in text h elements params)
  line_is = append_assoc (front_text text h) (first_text text ids) (left_then text ids 0 all tail) ∙ ap (λ (l : List ℕ). front_text text h ++ l) (first_text_lem text ids all tail) ∙ front_is
