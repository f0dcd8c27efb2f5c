-- For callers: what an answer of `read_header` says of what the parser finds, and how large its numbers are.
use Rattle.std.specs.Prelude as std
use Rattle.std.specs.Prelude.{Some, None}
use Prim.Native.Nat.{ℕ, zero, suc, ◌+◌, ◌*◌, ◌≤◌}
use mathlib.Core.Path.{◌≡◌, refl, sym, ap, ◌∙◌}
use mathlib.Core.Bool.{true, false}
use mathlib.Core.List.{List}
use mathlib.Core.Option.{Option, none, some}
use native.Mathlib.Omega.{arith}
use lib.IntN.{pos, nat_abs, neg_ℤ}
use lib.ListN.{length}
use Rattle.base.proofs.Tests.{clash}
use Rattle.calendar.specs.Calendar.{offset_limit}
use Rattle.digits.specs.Digits.{decimal}
use Rattle.grammar.specs.Line.{Offset, Timestamp, OffsetOk, TimestampOk}
use Rattle.grammar.specs.Parse.{header}
use Rattle.grammar.specs.Reading.{offset_of, stamp_of}
use Rattle.grammar.proofs.Header.{header_reads}
use Rattle.record.specs.declared.Timestamp as instant
use Rattle.strict_header.specs.Header.{header_at, heading}
use Rattle.strict_header.specs.declared.HeaderAt.{HeaderAt}
use Rattle.strict_header.proofs.Steps.{Fails, Finds, finds_within, finds_ok}
use Rattle.strict_header.proofs.Answers.{value_found, value_none, value_some, none_found, some_found}

abs_neg : (n : ℕ) → nat_abs (neg_ℤ (pos n)) ≡ n
abs_neg zero = refl
abs_neg (suc n) = refl

pub offset_small : (o : Offset) → OffsetOk o → nat_abs (offset_of o) ≤ offset_limit
offset_small Offset.utc r = omega arith
offset_small (Offset.east a b) r = omega (arith, r.hour_range, r.minute_range)
offset_small (Offset.west a b) r = rw (abs_neg (decimal a * 60 + decimal b)) (omega (arith, r.hour_range, r.minute_range))

module _ (s : List ℕ) (f : std.Option HeaderAt) (e : f ≡ heading (header s)) where
  pub header_none : f ≡ None → Fails header s
  header_none h = none_found heading e (λ a n q. let z : true ≡ false = cc in clash z)

  module _ (x : HeaderAt) (h : f ≡ Some x) where
    pub header_some : Finds (λ t. header_at t x.next ≡ x) x.next header s
    unfolding header_at
    header_some =
        some_found heading e (λ q. let z : true ≡ false = cc in clash z)
        (λ a k q. let g : x ≡ header_at a k = cc in let l : x.next ≡ k = ap (λ (y : HeaderAt). y.next) g in (sym l, sym (g ∙ ap (header_at a) (sym l))))

    pub header_within : x.next ≤ length s
    header_within = finds_within header_some header_reads

    pub prival_to : x.prival ≤ 191
    unfolding header_at
    prival_to =
        let w = finds_ok header_some header_reads in
        let q : decimal w.value.0.0 ≡ x.prival = ap (λ (y : HeaderAt). y.prival) w.has.0 in
        omega (arith, w.has.1.0.0.range)

    pub offset_to : (t : instant.Timestamp) → x.timestamp ≡ Some t → nat_abs t.offset ≤ offset_limit
    unfolding header_at
    offset_to t k =
        let w = finds_ok header_some header_reads in
        go w.value.1.0 w.has.1.1.0 (ap (λ (y : HeaderAt). y.timestamp) w.has.0 ∙ k)
      where
        go : (o : Option Timestamp) → TimestampOk o → stamp_of o ≡ Some t → nat_abs t.offset ≤ offset_limit
        go none r q = let z : true ≡ false = cc in clash z
        go (some u) r q = let z : offset_of u.offset ≡ t.offset = cc in rw (← z) (offset_small u.offset r.offset_ok)
