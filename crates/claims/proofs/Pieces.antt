-- The tests of the head, the timestamp and the message, both ways.
use Rattle.std.specs.Prelude.{Some, None}
use Prim.Native.Nat.{ℕ, suc, ◌+◌, ◌*◌, ◌/◌, ◌%◌, ◌≤◌}
use mathlib.Core.Path.{◌≡◌, refl, sym, ap, ap₂, ◌∙◌, subst}
use mathlib.Core.Bool.{Bool, true, false, ◌&&◌}
use mathlib.Core.List.{List, [], ◌∷◌, ◌++◌, append_assoc, append-nil}
use Rattle.std.specs.Prelude as std
use mathlib.Core.Option.{Option, none, some}
use native.Mathlib.Omega.{arith}
use lib.Dec.{eqb}
use lib.ListN.{length, drop, length-append, length-drop}
use borrow.Author.Tests.{le-leb, leb-true, eqb-true, eq-eqb}
use Rattle.base.specs.Choose.{is_at}
use Rattle.base.specs.Texts.{text_at}
use Rattle.base.proofs.Tests.{clash, both, by_test}
use Rattle.base.proofs.Ranges.{inside, orders}
use Rattle.base.proofs.Parts.{ended}
use Rattle.digits.specs.Digits.{decimal}
use Rattle.output.specs.Numerals.{width, numeral}
use Rattle.output.proofs.Numerals.{length_fixed}
use Rattle.record.specs.declared.Span.{Span}
use Rattle.record.specs.declared.Protocol.{Protocol}
use Rattle.record.specs.declared.Protocol.TheVariants.{Rfc3164, Rfc5424}
use Rattle.grammar.specs.Line.{message_text, PrivalOk, VersionOk, MessageOk}
use Rattle.grammar.specs.Parse.{choose, into, only, all_left, is_message, message}
use Rattle.grammar.specs.Parse.Parsed.{failed}
use Rattle.grammar.specs.Reading.{message_span, message_flag}
use Rattle.grammar.proofs.Readers.{not_found}
use Rattle.grammar.proofs.Data.{message_reads}
use Rattle.claims.specs.Texts.{version_of, priority_of}
use Rattle.claims.specs.Holds.{stands_at, level_holds, protocol_holds, head_text, head_next, message_holds}
use Rattle.claims.proofs.Told.{told_message}
use Rattle.claims.proofs.Numbers.{prival_written, version_written, few_said, few_to, version_least, prival_again, version_again}
use Rattle.claims.proofs.Places.{Here, here_all, here_next, here_text, here_as, moved}
use Rattle.claims.proofs.Tests.{all_both, next_if_lem, byte_stands, byte_then, cut_length, cut_then, text_then, text_stands}

-- ---- PRI VERSION SP

module _ (line : List ℕ) where
  pub record HeadHere (f s : std.Option ℕ) (p : Protocol) (next : ℕ) : Type 0 where
    pub prival_ok : PrivalOk (numeral (priority_of f s))
    pub version_ok : VersionOk (numeral (version_of p))
    pub is_facility : Some (decimal (numeral (priority_of f s)) / 8) ≡ f
    pub is_severity : Some (decimal (numeral (priority_of f s)) % 8) ≡ s
    pub is_protocol : Rfc5424 (decimal (numeral (version_of p))) ≡ p
    pub ends : next ≡ length (numeral (priority_of f s)) + length (numeral (version_of p)) + 3
    pub here : (r : List ℕ) → Here line next r → line ≡ 60 ∷ (numeral (priority_of f s) ++ (62 ∷ (numeral (version_of p) ++ (32 ∷ r))))

  head_sound : (a b v next : ℕ) → a ≤ 23 → b ≤ 7 → 1 ≤ v → v ≤ 999 → stands_at line 0 (head_text (a * 8 + b) v) ≡ true
      → width (a * 8 + b) + width v + 3 ≡ next → HeadHere (Some a) (Some b) (Rfc5424 v) next
  head_sound a b v next la lb lv hv h q =
      let p = a * 8 + b in
      let e = few_said p (omega arith) in
      let l : next ≡ length (numeral p) + length (numeral v) + 3 = omega (arith, length_fixed (width p) p, length_fixed (width v) v) in
      record {
        prival_ok = prival_written p (omega arith);
        version_ok = version_written v lv hv;
        is_facility = ap Some (ap (λ (n : ℕ). n / 8) e ∙ omega arith);
        is_severity = ap Some (ap (λ (n : ℕ). n % 8) e ∙ omega arith);
        is_protocol = ap Rfc5424 (few_said v hv);
        ends = l;
        here = λ r g.
            let t = head_text p v in
            let m : next ≡ 0 + length t =
            omega (arith, l, length-append (numeral p) (62 ∷ (numeral v ++ (32 ∷ []))), length-append (numeral v) (32 ∷ [])) in
            (text_then line 0 t r h (moved (0 + length t) g m)).is
            ∙ ap (λ (x : List ℕ). 60 ∷ x) (append_assoc (numeral p) (62 ∷ (numeral v ++ (32 ∷ []))) r ∙ ap (λ (x : List ℕ). numeral p ++ (62 ∷ x)) (append_assoc (numeral v) (32 ∷ []) r));
      }

  heads_by : (f s : std.Option ℕ) (p : Protocol) (next : ℕ) → level_holds 23 f ≡ true → level_holds 7 s ≡ true → protocol_holds p ≡ true
      → stands_at line 0 (head_text (priority_of f s) (version_of p)) ≡ true → width (priority_of f s) + width (version_of p) + 3 ≡ next → HeadHere f s p next
  heads_by None s p next a b c h q = clash (sym a)
  heads_by (Some x) None p next a b c h q = clash (sym b)
  heads_by (Some x) (Some y) Rfc3164 next a b c h q = clash (sym c)
  heads_by (Some x) (Some y) (Rfc5424 v) next a b c h q =
      let o = orders 1 999 v c in
      head_sound x y v next (leb-true x 23 a) (leb-true y 7 b) o.0 o.1 h q

  pub head_step : (f s : std.Option ℕ) (p : Protocol) (next : ℕ) → head_next line f s p ≡ Some next → HeadHere f s p next
  unfolding head_next
  head_step f s p next h =
      let t = stands_at line 0 (head_text (priority_of f s) (version_of p)) in
      let (g, e) = next_if_lem (level_holds 23 f && level_holds 7 s && protocol_holds p && t) _ next h in
      let u1 = both (level_holds 23 f && level_holds 7 s && protocol_holds p) t g in
      let u2 = both (level_holds 23 f && level_holds 7 s) (protocol_holds p) u1.0 in
      let u3 = both (level_holds 23 f) (level_holds 7 s) u2.0 in
      heads_by f s p next u3.0 u3.1 u2.1 u1.1 e

  pub head_taken : (t v r : List ℕ) → PrivalOk t → VersionOk v → line ≡ 60 ∷ (t ++ (62 ∷ (v ++ (32 ∷ r))))
      → head_next line (Some (decimal t / 8)) (Some (decimal t % 8)) (Rfc5424 (decimal v)) ≡ Some (length t + length v + 3)
  unfolding head_next
  head_taken t v r k w e =
      let p : decimal t / 8 * 8 + decimal t % 8 ≡ decimal t = omega arith in
      let a = prival_again t k in
      let b = version_again v w in
      let la : width (decimal t) ≡ length t = sym (length_fixed (width (decimal t)) (decimal t)) ∙ ap length a in
      let lb : width (decimal v) ≡ length v = sym (length_fixed (width (decimal v)) (decimal v)) ∙ ap length b in
      let z : Here line 0 ((60 ∷ (t ++ (62 ∷ (v ++ (32 ∷ []))))) ++ r) =
      here_all (e ∙ ap (λ (x : List ℕ). 60 ∷ x) (sym (append_assoc t (62 ∷ (v ++ (32 ∷ []))) r ∙ ap (λ (x : List ℕ). t ++ (62 ∷ x)) (append_assoc v (32 ∷ []) r)))) in
      let s : stands_at line 0 (head_text (decimal t) (decimal v)) ≡ true =
      ap₂ (λ (x y : List ℕ). stands_at line 0 (60 ∷ (x ++ (62 ∷ (y ++ (32 ∷ [])))))) a b ∙ text_stands line 0 (60 ∷ (t ++ (62 ∷ (v ++ (32 ∷ []))))) r z in
      rw (
        p,
        le-leb (decimal t / 8) 23 (omega (arith, k.range)),
        le-leb (decimal t % 8) 7 (omega arith),
        inside 1 999 (decimal v) (version_least v w) (few_to v w.digits),
        s,
        la,
        lb,
      )

-- ---- [SP MSG]

message_ok : (m : List ℕ) → is_message m ≡ true → MessageOk (some m)
unfolding message choose into only all_left
message_ok m h = (message_reads.sound (32 ∷ m) (some m) (length m + 1) (rw h)).ok

message_test : (m : List ℕ) → MessageOk (some m) → is_message m ≡ true
unfolding message choose into only all_left
message_test m k =
    by_test (λ b. is_message m ≡ b → b ≡ true) (is_message m) (λ _ q. refl)
    (λ _ q.
    let z : message (32 ∷ m) ≡ failed = rw q in
    not_found (sym z ∙ ap (λ (t : List ℕ). message (32 ∷ t)) (sym (append-nil m)) ∙ message_reads.complete (some m) [] k refl))
    refl

module _ (line : List ℕ) (at : ℕ) where
  pub record MessageHere (has : Bool) (s : Span) : Type 0 where
    pub ok : MessageOk (told_message line has s)
    pub is_has : message_flag (told_message line has s) ≡ has
    pub is : message_span at (told_message line has s) ≡ s
    pub here : Here line at (message_text (told_message line has s))

  pub message_sound : (has : Bool) (start len : ℕ) → message_holds line at has (record { start = start; len = len }) ≡ true
      → MessageHere has (record { start = start; len = len })
  message_sound false start len h =
      let u1 = both (eqb start 0 && eqb len 0) (eqb at (length line)) h in
      let u2 = both (eqb start 0) (eqb len 0) u1.0 in
      record {
        ok = tt;
        is_has = refl;
        is = ap₂ (λ (s n : ℕ). record { start = s; len = n }) (sym (eqb-true start 0 u2.0)) (sym (eqb-true len 0 u2.1));
        here = record { is = ended line at (omega (arith, eqb-true at (length line) u1.1)) };
      }
  message_sound true start len h =
      let m = text_at line (at + 1) len in
      let u1 = both (is_at line at 32 && eqb start (at + 1) && eqb (at + 1 + len) (length line)) (is_message m) h in
      let u2 = both (is_at line at 32 && eqb start (at + 1)) (eqb (at + 1 + len) (length line)) u1.0 in
      let u3 = both (is_at line at 32) (eqb start (at + 1)) u2.0 in
      let e = eqb-true (at + 1 + len) (length line) u2.1 in
      let n : length m ≡ len = cut_length line (at + 1) len (omega arith) in
      let w : MessageHere true (record { start = at + 1; len = len }) = record {
        ok = message_ok m u1.1;
        is_has = refl;
        is = ap (λ (k : ℕ). record { start = at + 1; len = k }) n;
        here = byte_then line at 31 m u3.0 (here_as (cut_then line (at + 1) len [] (record { is = ended line (at + 1 + len) (omega arith) })) (append-nil m));
      } in
      subst (λ (s : ℕ). MessageHere true (record { start = s; len = len })) (sym (eqb-true start (at + 1) u3.1)) w

  pub message_complete : (m : Option (List ℕ)) → at ≤ length line → MessageOk m → Here line at (message_text m)
      → message_holds line at (message_flag m) (message_span at m) ≡ true
  message_complete none l k h =
      let e : length (drop at line) ≡ 0 = ap length h.is in
      eq-eqb at (length line) (omega (arith, length-drop at line))
  message_complete (some m) l k h =
      let a = here_as (here_next h) (sym (append-nil m)) in
      let e : length (drop at line) ≡ suc (length m) = ap length h.is in
      all_both _ _ (all_both _ _ (all_both _ _
      (byte_stands line h)
      (eq-eqb (at + 1) (at + 1) refl))
      (eq-eqb (at + 1 + length m) (length line) (omega (arith, length-drop at line))))
      (ap is_message (here_text m [] a) ∙ message_test m k)
