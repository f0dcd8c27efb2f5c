-- The whole header.
use Rattle.std.specs.Prelude as std
use Rattle.std.specs.Prelude.{Some, None}
use Prim.Native.Nat.{ℕ, ◌+◌, ◌-◌, ◌^◌, ◌≤◌, ◌<◌}
use mathlib.Core.Path.{◌≡◌, refl, sym, ap, ◌∙◌}
use mathlib.Core.List.{List, [], ◌∷◌, ◌++◌}
use mathlib.Core.Option.{Option, none, some}
use native.Mathlib.Omega.{arith}
use lib.ListN.{length, drop, length-append, length-drop}
use Rattle.grammar.specs.Abnf.{print_us_ascii, Repeat}
use Rattle.grammar.specs.Line.{Timestamp, timestamp_then, PrivalOk, VersionOk, TimestampOk}
use Rattle.grammar.specs.Parse.{Names, pri_version, timestamp, names, header}
use Rattle.grammar.specs.Reading.{stamp_of}
use Rattle.grammar.proofs.Readers.{Reads, Any, text_length, next_any}
use Rattle.grammar.proofs.Header.{pri_reads, version_reads, full_reads, timestamp_reads, printable_reads}
use Rattle.record.specs.Places.{place}
use Rattle.record.specs.declared.Place.{Place}
use Rattle.record.specs.declared.Timestamp as instant
use Rattle.strict_header.specs.Pieces.{value_of, plain_to, minutes_of, pair, triple, ending, ids_at, names_at, text_at}
use Rattle.strict_header.specs.Header.{text_place, header_at, heading}
use Rattle.strict_header.proofs.Steps.{Fails, Finds, finds_so, finds_within, finds_ok, next_failed, next_not, next_found}
use Rattle.strict_header.proofs.Answers.{value_found, value_none, value_some, Pair, pair_some, names_some}
use Rattle.strict_header.proofs.Fields.{place_after}

-- ---- the texts' sizes

start_reads : Reads (λ (t : List ℕ × List ℕ) r. 60 ∷ (t.0 ++ (62 ∷ (t.1 ++ (32 ∷ r))))) (λ t. PrivalOk t.0 × VersionOk t.1) Any pri_version
unfolding pri_version
start_reads = next_any pri_reads version_reads

start_size : (p v : List ℕ) → length (60 ∷ (p ++ (62 ∷ (v ++ (32 ∷ []))))) ≡ length p + length v + 3
start_size p v = simp length-append (omega arith)

stamp_size : (o : Option Timestamp) → TimestampOk o → length (timestamp_then o (32 ∷ [])) ≡ length (timestamp_then o []) + 1
stamp_size none h = refl
stamp_size (some t) h = text_length full_reads t (32 ∷ []) h

module _ (s : List ℕ) (f : std.Option ((ℕ × ℕ) × ℕ)) (ef : f ≡ value_of pair (pri_version s)) (x y n : ℕ) (hf : f ≡ Some ((x, y), n)) where
  start_text_lem : Finds (λ (t : List ℕ × List ℕ). Pair x y t × (length t.0 + length t.1 + 3 ≡ n)) n pri_version s
  start_text_lem = finds_so (finds_ok (pair_some ef hf) start_reads) (λ t w. (w.0, sym (w.2 ∙ start_size t.0 t.1)))

  pub start_within : n ≤ length s
  start_within = finds_within (pair_some ef hf) start_reads

module _ (s : List ℕ) (f : std.Option (std.Option instant.Timestamp × ℕ)) (ef : f ≡ value_of stamp_of (timestamp s)) (x : std.Option instant.Timestamp) (n : ℕ) (hf : f ≡ Some (x, n)) where
  stamp_text_lem : Finds (λ o. (stamp_of o ≡ x) × (length (timestamp_then o []) + 1 ≡ n)) n timestamp s
  stamp_text_lem = finds_so (finds_ok (value_some stamp_of ef hf) timestamp_reads) (λ o w. (w.0, sym (w.2 ∙ stamp_size o w.1)))

  pub stamp_within : n ≤ length s
  stamp_within = finds_within (value_some stamp_of ef hf) timestamp_reads

  pub stamp_some_bytes : 1 ≤ n
  stamp_some_bytes = omega (arith, stamp_text_lem.has.1)

names_reads : Reads (λ (t : Names) r. t.0 ++ (32 ∷ (t.1.0 ++ (32 ∷ (t.1.1.0 ++ (32 ∷ (t.1.1.1 ++ (32 ∷ r))))))))
    (λ (t : Names). Repeat 1 255 print_us_ascii t.0 × (Repeat 1 48 print_us_ascii t.1.0 × (Repeat 1 128 print_us_ascii t.1.1.0 × Repeat 1 32 print_us_ascii t.1.1.1))) Any names
unfolding names
names_reads = next_any (printable_reads 255) (next_any (printable_reads 48) (next_any (printable_reads 128) (printable_reads 32)))

pub names_within : (s : List ℕ) (at : ℕ) (f : std.Option ((Place × Place × Place × Place) × ℕ)) → f ≡ value_of (names_at at) (names s) → (h i p m : Place) (n : ℕ) → f ≡ Some ((h, i, p, m), n) → n ≤ length s
names_within s at f e h i p m n k = finds_within (names_some at e k) names_reads

-- ---- the place of the timestamp's text

pub text_stamped : (x : std.Option instant.Timestamp) (t : instant.Timestamp) (at n : ℕ) → x ≡ Some t → (r : Place) → r ≡ place at (n - 1) → r ≡ text_at x at n
text_stamped x t at n e r q = rw e q

text_is : (o : Option Timestamp) (x : std.Option instant.Timestamp) (at n : ℕ) → stamp_of o ≡ x → length (timestamp_then o []) + 1 ≡ n → text_at x at n ≡ text_place at o
text_is none x at n e l = rw (← e)
text_is (some t) x at n e l = let q : n - 1 ≡ length (timestamp_then (some t) []) = omega arith in rw (← e, q)

-- ---- the header

module _ (s : List ℕ) (f : std.Option ((ℕ × ℕ) × ℕ)) (ef : f ≡ value_of pair (pri_version s)) where
  no_header : Fails header s → None ≡ heading (header s)
  no_header w = rw w.is

  pub header_no_start : f ≡ None → None ≡ heading (header s)
  unfolding header
  header_no_start e = no_header (next_failed (value_none pair ef e) _)

  module _ (u v a : ℕ) (hf : f ≡ Some ((u, v), a)) (r₁ : List ℕ) (e₁ : r₁ ≡ drop a s) (g : std.Option (std.Option instant.Timestamp × ℕ)) (eg : g ≡ value_of stamp_of (timestamp r₁)) where
    pub header_no_stamp : g ≡ None → None ≡ heading (header s)
    unfolding header
    header_no_stamp e = no_header (next_not (pair_some ef hf) e₁ (next_failed (value_none stamp_of eg e) _))

    module _ (x : std.Option instant.Timestamp) (b : ℕ) (hg : g ≡ Some (x, b)) (r₂ : List ℕ) (e₂ : r₂ ≡ drop b r₁) where
      pub names_place : length s < 2 ^ 64 → a + b + length r₂ < 2 ^ 64
      names_place h =
          let p = start_within s f ef u v a hf in
          let q = stamp_within r₁ g eg x b hg in
          let k : length r₁ ≡ length s - a = ap length e₁ ∙ length-drop a s in
          place_after r₁ r₂ a b q e₂ (omega arith)

      module _ (k : std.Option ((Place × Place × Place × Place) × ℕ)) (ek : k ≡ value_of (names_at (a + b)) (names r₂)) where
        pub header_no_names : k ≡ None → None ≡ heading (header s)
        unfolding header
        header_no_names e = no_header (next_not (pair_some ef hf) e₁ (next_not (value_some stamp_of eg hg) e₂ (value_none (names_at (a + b)) ek e)))

        pub header_is : (h i p m : Place) (c : ℕ) → k ≡ Some ((h, i, p, m), c) → (t : Place) → t ≡ text_at x a b
            → Some (record { prival = u; version = v; timestamp = x; timestamp_text = t; host = h; app = i; procid = p; msgid = m; next = a + (b + c) }) ≡ heading (header s)
        unfolding header header_at
        header_is h i p m c hk t et =
            let w = next_found (start_text_lem s f ef u v a hf) e₁ (next_found (stamp_text_lem r₁ g eg x b hg) e₂ (names_some (a + b) {p = names} ek hk)) in
            let P = w.has in
            let q : a + length (timestamp_then w.value.1.0 []) + 1 ≡ a + b = omega (arith, P.1.0.1) in
            rw (w.is, P.0.1, q, P.0.0.0, P.0.0.1, P.1.0.0, et, text_is w.value.1.0 x a b P.1.0.0 P.1.0.1, P.1.1.0, P.1.1.1.0, P.1.1.1.1.0, P.1.1.1.1.1)

pub ruleset header_laws = (header_no_start, header_no_stamp, header_no_names, header_is)
