-- A record by its fields: what bytes that hold settings say of each, and that the fields make the bytes.
use Prim.Native.Nat.{ℕ, ◌+◌, ◌-◌, ◌*◌, ◌/◌, ◌%◌, ◌≤◌, ◌<◌}
use mathlib.Core.Path.{◌≡◌, refl, sym, ap, ◌∙◌}
use mathlib.Core.Bool.{true}
use mathlib.Core.List.{List, [], ◌∷◌, ◌++◌, append_assoc}
use native.Mathlib.Omega.{arith}
use lib.IntN.{ℤ}
use lib.ListN.{length, get_or, take, drop, replicate, length-append, length-replicate}
use lib.Seq.{take_at, drop_at, get_or_at}
use borrow.Author.Tests.{leb-true}
use Rattle.base.specs.Texts.{text_at}
use Rattle.base.proofs.Parts.{step, ended}
use Rattle.base.proofs.Tests.{both}
use Rattle.calendar.specs.Calendar.{last_year, valid_offset}
use Rattle.settings.specs.Record.{Meaning, meant, is_variant, host_room, all_within, in_range, record_size, bits, record_of, Holds}
use Rattle.settings.specs.File.{host_place}
use Rattle.settings.specs.Steps.{PairAt, signed, meaning_at, front_text, host_text, end_text}
use Rattle.settings.proofs.Signs.{bits_below, bits_back, signed_back}
use Rattle.settings.proofs.Zeros.{are_zeros, zeros_are, part_length, cut}

-- ---- what is in range

pub record Ranges (m : Meaning) : Type 0 where
  pub gate_to : m.gate ≤ 65535
  pub year_to : m.year ≤ last_year
  pub offset_ok : valid_offset m.offset ≡ true
  pub variant_ok : is_variant m.version m.variant ≡ true
  pub host_to : length m.host ≤ host_room
  pub host_ok : all_within 33 126 m.host ≡ true

pub ranges : (m : Meaning) → in_range m ≡ true → Ranges m
unfolding in_range
ranges m h =
    let t₄ = both _ _ h in
    let t₃ = both _ _ t₄.0 in
    let t₂ = both _ _ t₃.0 in
    let t₁ = both _ _ t₂.0 in
    let u = both _ _ t₄.1 in
    record {
      gate_to = leb-true _ _ t₁.0;
      year_to = leb-true _ _ t₁.1;
      offset_ok = t₂.1;
      variant_ok = t₃.1;
      host_to = leb-true _ _ u.0;
      host_ok = u.1;
    }

-- ---- the fields of the bytes of settings

same : {v g g' y y' x x' : ℕ} {o o' : ℤ} {t t' : List ℕ} → g ≡ g' → y ≡ y' → o ≡ o' → x ≡ x' → t ≡ t' → meant v g y o x t ≡ meant v g' y' o' x' t'
same e₁ e₂ e₃ e₄ e₅ = rw (e₁, e₂, e₃, e₄, e₅)

two : (n : ℕ) → n < 65536 → n % 256 + 256 * (n / 256 % 256) ≡ n
two n h = omega arith

module _ (m : Meaning) (h : Ranges m) where
  abbrev front : List ℕ
  front = front_text m.version (length m.host) m.year (bits m.offset) m.gate

  host_length : length (host_text m.host) ≡ 20
  host_length = length-append m.host _ ∙ omega (arith, length-replicate {A = ℕ} (host_room - length m.host) 0, h.host_to)

  bytes_are : record_of m ≡ front ++ (host_text m.host ++ end_text m.variant)
  unfolding record_of
  bytes_are = append_assoc front (host_text m.host) (end_text m.variant)

  before_end : List ℕ
  before_end = front ++ host_text m.host

  before_length : length before_end ≡ 28
  unfolding before_end
  before_length = length-append front (host_text m.host) ∙ omega (arith, host_length)

  pub record_length : length (record_of m) ≡ 32
  unfolding record_of before_end
  record_length = length-append before_end (end_text m.variant) ∙ omega (arith, before_length)

  record_variant : get_or (record_of m) 28 0 ≡ m.variant
  unfolding record_of before_end
  record_variant = get_or_at before_end m.variant _ 0 28 before_length

  record_zeros : text_at (record_of m) 29 3 ≡ replicate 3 0
  unfolding record_of before_end
  record_zeros =
      let e : record_of m ≡ (before_end ++ (m.variant ∷ [])) ++ (0 ∷ 0 ∷ 0 ∷ []) = sym (append_assoc before_end (m.variant ∷ []) (0 ∷ 0 ∷ 0 ∷ [])) in
      let l : length (before_end ++ (m.variant ∷ [])) ≡ 29 = length-append before_end (m.variant ∷ []) ∙ omega (arith, before_length) in
      ap (λ (s : List ℕ). take 3 (drop 29 s)) e ∙ ap (take 3) (drop_at (before_end ++ (m.variant ∷ [])) (0 ∷ 0 ∷ 0 ∷ []) 29 l)

  record_host : text_at (record_of m) 8 (length m.host) ≡ m.host
  record_host =
      let n = length m.host in
      ap (λ (s : List ℕ). take n (drop 8 s)) bytes_are
      ∙ ap (take n) (append_assoc m.host (replicate (host_room - n) 0) (end_text m.variant))
      ∙ take_at m.host _ n refl

  record_unused : text_at (record_of m) (8 + length m.host) (20 - length m.host) ≡ replicate (20 - length m.host) 0
  record_unused =
      let n = length m.host in
      let z = replicate {A = ℕ} (host_room - n) 0 in
      let e : record_of m ≡ (front ++ m.host) ++ (z ++ end_text m.variant) =
      bytes_are ∙ ap (λ (s : List ℕ). front ++ s) (append_assoc m.host z (end_text m.variant)) ∙ sym (append_assoc front m.host (z ++ end_text m.variant)) in
      let l : length (front ++ m.host) ≡ 8 + n = length-append front m.host in
      ap (λ (s : List ℕ). take (20 - n) (drop (8 + n) s)) e
      ∙ ap (take (20 - n)) (drop_at (front ++ m.host) (z ++ end_text m.variant) (8 + n) l)
      ∙ take_at z (end_text m.variant) (20 - n) (length-replicate (20 - n) 0)

  record_meaning : meaning_at (record_of m) ≡ m
  unfolding record_of
  record_meaning =
      same (two m.gate (omega (arith, h.gate_to))) (two m.year (omega (arith, h.year_to)))
      (ap signed (two (bits m.offset) (bits_below m.offset h.offset_ok)) ∙ bits_back m.offset h.offset_ok) record_variant record_host

-- ---- what bytes that hold settings say

module _ (b : List ℕ) (m : Meaning) (h : Holds b m) where
  of_holds : Ranges m
  of_holds = ranges m h.in_range_lem

  pub holds_length : length b ≡ record_size
  holds_length = ap length h.bytes_are ∙ record_length m of_holds

  pub holds_meaning : m ≡ meaning_at b
  holds_meaning = sym (ap meaning_at h.bytes_are ∙ record_meaning m of_holds)

  host_byte : get_or b 1 0 ≡ length m.host
  unfolding record_of
  host_byte = ap (λ (s : List ℕ). get_or s 1 0) h.bytes_are

  pub holds_room : get_or b 1 0 ≤ host_room
  holds_room = omega (arith, host_byte, of_holds.host_to)

  pub holds_host : text_at b host_place (length m.host) ≡ m.host
  holds_host = rw h.bytes_are (record_host m of_holds)

  pub holds_unused : all_within 0 0 (text_at b (host_place + get_or b 1 0) (host_room - get_or b 1 0)) ≡ true
  holds_unused = rw (host_byte, h.bytes_are) (zeros_are _ (20 - length m.host) (record_unused m of_holds))

  pub holds_end : all_within 0 0 (text_at b 29 3) ≡ true
  holds_end = zeros_are (text_at b 29 3) 3 (rw h.bytes_are (record_zeros m of_holds))

pub holds_one : (b : List ℕ) (m m' : Meaning) → Holds b m → Holds b m' → m ≡ m'
holds_one b m m' h k = holds_meaning b m h ∙ sym (holds_meaning b m' k)

-- ---- the bytes of fields that were taken from them

module _ (b : List ℕ) (l : length b ≡ record_size) where
  eight : b ≡ get_or b 0 0 ∷ get_or b 1 0 ∷ get_or b 2 0 ∷ get_or b 3 0 ∷ get_or b 4 0 ∷ get_or b 5 0 ∷ get_or b 6 0 ∷ get_or b 7 0 ∷ drop 8 b
  eight =
      step b 0 (omega arith)
      ∙ ap (λ (x : List ℕ). get_or b 0 0 ∷ x) (step b 1 (omega arith)
      ∙ ap (λ (x : List ℕ). get_or b 1 0 ∷ x) (step b 2 (omega arith)
      ∙ ap (λ (x : List ℕ). get_or b 2 0 ∷ x) (step b 3 (omega arith)
      ∙ ap (λ (x : List ℕ). get_or b 3 0 ∷ x) (step b 4 (omega arith)
      ∙ ap (λ (x : List ℕ). get_or b 4 0 ∷ x) (step b 5 (omega arith)
      ∙ ap (λ (x : List ℕ). get_or b 5 0 ∷ x) (step b 6 (omega arith)
      ∙ ap (λ (x : List ℕ). get_or b 6 0 ∷ x) (step b 7 (omega arith))))))))

  module _ (n : ℕ) (r : n ≤ host_room) (unused : all_within 0 0 (text_at b (host_place + n) (host_room - n)) ≡ true) (ends : all_within 0 0 (text_at b 29 3) ≡ true) where
    host_is : length (text_at b 8 n) ≡ n
    host_is = part_length b 8 n (omega arith)

    last_four : drop 28 b ≡ end_text (get_or b 28 0)
    last_four =
        step b 28 (omega arith)
        ∙ ap (λ (x : List ℕ). get_or b 28 0 ∷ x) (cut b 29 3 ∙ rw (ended b 32 (omega arith), are_zeros (text_at b 29 3) 3 ends (part_length b 29 3 (omega arith))))

    behind_front : drop 8 b ≡ host_text (text_at b 8 n) ++ end_text (get_or b 28 0)
    behind_front =
        let z = replicate {A = ℕ} (20 - n) 0 in
        let e : 8 + n + (20 - n) ≡ 28 = omega arith in
        cut b 8 n
        ∙ ap (λ (x : List ℕ). text_at b 8 n ++ x) (cut b (8 + n) (20 - n) ∙ rw (e, last_four, are_zeros (text_at b (8 + n) (20 - n)) (20 - n) unused (part_length b (8 + n) (20 - n) (omega arith))))
        ∙ sym (append_assoc (text_at b 8 n) z (end_text (get_or b 28 0)))
        ∙ ap (λ (k : ℕ). (text_at b 8 n ++ replicate {A = ℕ} (20 - k) 0) ++ end_text (get_or b 28 0)) (sym host_is)

    pub fields_make : (y k g : ℕ) (o : ℤ) → n ≡ get_or b 1 0 → PairAt b 2 y → PairAt b 4 k → PairAt b 6 g → o ≡ signed k → valid_offset o ≡ true
        → b ≡ record_of (meant (get_or b 0 0) g y o (get_or b 28 0) (text_at b 8 n))
    unfolding record_of
    fields_make y k g o en ey ek eg eo v =
        let eb : bits o ≡ k = ap bits eo ∙ signed_back k ek.below (sym (ap valid_offset eo) ∙ v) in
        let e₁ : length (text_at b 8 n) ≡ get_or b 1 0 = host_is ∙ en in
        let e₂ = ey.low in
        let e₃ = ey.high in
        let e₄ : bits o % 256 ≡ get_or b 4 0 = rw eb ek.low in
        let e₅ : bits o / 256 % 256 ≡ get_or b 5 0 = rw eb ek.high in
        let e₆ = eg.low in
        let e₇ = eg.high in
        let e₈ = behind_front in
        eight ∙ cc
