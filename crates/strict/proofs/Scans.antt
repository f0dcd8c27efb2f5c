-- The first pass: what its pieces answer, and the division that they make.
use Rattle.std.specs.Prelude as std
use Rattle.std.specs.Prelude.{Some, None}
use Prim.Native.Nat.{ℕ, ◌+◌, ◌-◌, ◌^◌, ◌≤◌, ◌<◌}
use mathlib.Core.Path.{◌≡◌, refl, sym, ap, ◌∙◌}
use mathlib.Core.Bool.{true, false}
use mathlib.Core.List.{List, [], ◌∷◌, ◌++◌}
use mathlib.Core.Option.{Option, none, some}
use native.Mathlib.Omega.{arith}
use lib.ListN.{length, drop, length-append, length-drop}
use mir.Syntax.{w64}
use mir.Val.{Fits}
use Rattle.base.proofs.Tests.{clash}
use Rattle.record.specs.Limits.{line_limit}
use Rattle.grammar.specs.Line.{Element, Timestamp, timestamp_then, data_then, TimestampOk, Division}
use Rattle.grammar.specs.Parse.{Header, header, structured, message, parse, division_of, ◌next◌, into, choose, at_end}
use Rattle.grammar.specs.Parse.Parsed.{failed, found}
use Rattle.grammar.specs.Reading.{record_of, data_at, timestamp_at, timestamp_place, message_span, message_flag}
use Rattle.grammar.proofs.Readers.{text_length}
use Rattle.grammar.proofs.Header.{full_reads, header_then, HeaderOk, header_reads}
use Rattle.grammar.proofs.Data.{data_reads}
use Rattle.strict_header.specs.Header.{header_at, heading, text_place}
use Rattle.strict_header.specs.declared.HeaderAt.{HeaderAt}
use Rattle.strict_header.proofs.Callers.{header_none, header_some, header_within, prival_to}
use Rattle.strict_header.proofs.Steps.{finds_ok}
use Rattle.strict_data.specs.Counts.{counts_of, tail_of}
use Rattle.strict_data.specs.declared.Counts.{Counts}
use Rattle.strict_data.specs.declared.Tail.{Tail}
use Rattle.strict_data.specs.declared.Tail.TheVariants.{NoTail, NoMessage, IsMessage}
use Rattle.strict_data.proofs.Answers.{FindsTail, finds_data, misses_data, finds_message, finds_none, misses_tail}
use Rattle.strict_data.proofs.Counting.{data_within}
use Rattle.record.specs.declared.Span.{Span}
use Rattle.record.specs.declared.StrictRecord.{StrictRecord}
use Rattle.strict.specs.Scan.{record_with, scan_of}
use Rattle.strict.specs.declared.Scan.{Scan}

-- how far the header goes
stamp_length : (o : Option Timestamp) (r : List ℕ) → TimestampOk o → length (timestamp_then o r) ≡ length (timestamp_then o []) + length r
stamp_length none r h = omega arith
stamp_length (some t) r h = text_length full_reads t r h

pub header_size : (h : Header) (es : List Element) (m : Option (List ℕ)) → HeaderOk h → length (header_then h []) ≡ data_at (division_of (h, (es, m)))
header_size h es m ok =
    let r : List ℕ = 32 ∷ (h.1.1.0 ++ (32 ∷ (h.1.1.1.0 ++ (32 ∷ (h.1.1.1.1.0 ++ (32 ∷ (h.1.1.1.1.1 ++ (32 ∷ [])))))))) in
    let l : length (timestamp_then h.1.0 r) ≡ length (timestamp_then h.1.0 []) + length r = stamp_length h.1.0 r ok.1.0 in
    let k : length r ≡ length h.1.1.0 + length h.1.1.1.0 + length h.1.1.1.1.0 + length h.1.1.1.1.1 + 5 = simp length-append (omega arith) in
    simp length-append (omega (arith, l, k))

text_place_lem : (d : Division) (o : Option Timestamp) → d.timestamp ≡ o → text_place (timestamp_at d) o ≡ timestamp_place d o
text_place_lem d none q = refl
text_place_lem d (some t) q = rw q

-- the record of a division, from what the header keeps of it
same_record : (h : Header) (j len : ℕ) (es : List Element) (m : Option (List ℕ)) (p : Span) → j ≡ data_at (division_of (h, (es, m))) → len ≡ length (data_then es [])
    → p ≡ message_span (j + len) m → record_with (header_at h j) p (message_flag m) ≡ record_of (division_of (h, (es, m)))
unfolding record_of record_with header_at
same_record h j len es m p a l ep = rw (ep, a, l, text_place_lem (division_of (h, (es, m))) h.1.0 refl)

-- the pieces of a division
module _ (s : List ℕ) where
  no_header : header s ≡ failed → None ≡ scan_of (parse s)
  unfolding parse ◌next◌ into
  no_header e = rw e

  module _ (h : Header) (n : ℕ) (e : header s ≡ found h n) where
    no_data_lem : structured (drop n s) ≡ failed → None ≡ scan_of (parse s)
    unfolding parse ◌next◌ into
    no_data_lem q = rw (e, q)

    module _ (es : List Element) (l : ℕ) (q : structured (drop n s) ≡ found es l) where
      no_tail : message (drop l (drop n s)) ≡ failed → None ≡ scan_of (parse s)
      unfolding parse ◌next◌ into
      no_tail w = rw (e, q, w)

      divided : (m : Option (List ℕ)) (b : ℕ) → message (drop l (drop n s)) ≡ found m b
          → scan_of (parse s) ≡ scan_of (found (division_of (h, (es, m))) (n + (l + b)))
      unfolding parse ◌next◌ into
      divided m b w = rw (e, q, w)

-- a message begins with its space
message_there : (v : List ℕ) (m : List ℕ) (b : ℕ) → message v ≡ found (some m) b → 1 ≤ length v
unfolding message choose at_end
message_there [] m b e = let z : true ≡ false = cc in clash z
message_there (x ∷ v) m b e = omega arith

module _ (s : List ℕ) (f : std.Option HeaderAt) (e : f ≡ heading (header s)) where
  pub scan_no_header : f ≡ None → None ≡ scan_of (parse s)
  scan_no_header h = no_header s (header_none s f e h).is

  module _ (x : HeaderAt) (h : f ≡ Some x) (u : List ℕ) (eu : u ≡ drop x.next s) (g : std.Option Counts) (eg : g ≡ counts_of (structured u)) where
    pub scan_no_data : g ≡ None → None ≡ scan_of (parse s)
    scan_no_data z =
        let w = header_some s f e x h in
        no_data_lem s w.value x.next w.is (rw (← eu) (misses_data (structured u) g eg z))

    module _ (len n k : ℕ) (hg : g ≡ Some (record { len = len; elements = n; params = k })) (v : List ℕ) (ev : v ≡ drop len u) (t : Tail) (et : t ≡ tail_of (message v)) where
      pub scan_no_tail : t ≡ NoTail → None ≡ scan_of (parse s)
      scan_no_tail z =
          let w = header_some s f e x h in
          let d = finds_data (structured u) g eg hg in
          no_tail s w.value x.next w.is d.value len (rw (← eu) d.is) (rw (← eu, ← ev) (misses_tail (message v) t et z))

      -- the scan of a division with the message m, whose place is p
      scanned : (m : Option (List ℕ)) (p : Span) (r : StrictRecord) → FindsTail (message v) m → p ≡ message_span (x.next + len) m
          → r ≡ record_with x p (message_flag m) → Some (record { reading = r; at = x.next; len = len; elements = n; params = k }) ≡ scan_of (parse s)
      scanned m p r q ep er =
          let w = finds_ok (header_some s f e x h) header_reads in
          let d = finds_data (structured u) g eg hg in
          let es = d.value in
          let c = division_of (w.value, (es, m)) in
          let a : x.next ≡ data_at c = w.has.2 ∙ header_size w.value es m w.has.1 in
          let l : len ≡ length (data_then es []) = (data_reads.sound u es len d.is).size in
          let is : header_at w.value x.next ≡ x = w.has.0 in
          let same : r ≡ record_of c = er ∙ ap (λ (y : HeaderAt). record_with y p (message_flag m)) (sym is) ∙ same_record w.value x.next len es m p a l ep in
          (λ i. Some (record { reading = same i; at = a i; len = l i; elements = d.counted i; params = d.params_counted i }))
          ∙ sym (divided s w.value x.next w.is es len (rw (← eu) d.is) m q.bytes (rw (← eu, ← ev) q.is))

      pub scan_none : t ≡ NoMessage → (r : StrictRecord) → r ≡ record_with x (record { start = 0; len = 0 }) false → Some (record { reading = r; at = x.next; len = len; elements = n; params = k }) ≡ scan_of (parse s)
      scan_none z r er = scanned none _ r (finds_none (message v) t et z) refl er

      module _ (z : ℕ) (hz : t ≡ IsMessage z) where
        pub scan_message : (r : StrictRecord) → r ≡ record_with x (record { start = x.next + len + 1; len = z }) true → Some (record { reading = r; at = x.next; len = len; elements = n; params = k }) ≡ scan_of (parse s)
        scan_message r er =
            let q = finds_message (message v) t z et hz in
            let p : ◌≡◌ {A = Span} (record { start = x.next + len + 1; len = z }) (record { start = x.next + len + 1; len = length q.value }) =
            ap (λ (y : ℕ). record { start = x.next + len + 1; len = y }) q.counted in
            scanned (some q.value) _ r q.tail p er

        within : x.next + len + 1 ≤ length s
        within =
            let q = finds_message (message v) t z et hz in
            let a : length v ≡ length u - len = rw ev (length-drop len u) in
            let b : length u ≡ length s - x.next = rw eu (length-drop x.next s) in
            omega (arith, message_there v q.value q.tail.bytes q.tail.is, a, b)

        pub start_fits : length s < 2 ^ 64 → Fits w64 (x.next + len + 1)
        start_fits b = record { fits = omega (arith, within) }

        pub end_fits : length s < 2 ^ 64 → Fits w64 (x.next + len)
        end_fits b = record { fits = omega (arith, within) }

pub ruleset scan_laws = (header_within, prival_to, data_within, scan_no_header, scan_no_data, scan_no_tail, scan_none, scan_message, start_fits, end_fits)

-- a part of a line is no longer than the line
pub scan_short : (line u : List ℕ) (at : ℕ) → u ≡ drop at line → length line ≤ line_limit → length u ≤ line_limit
scan_short line u at e h = omega (arith, ap length e, length-drop at line)
