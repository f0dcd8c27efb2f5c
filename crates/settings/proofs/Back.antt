-- What is written is read back, settings that were read write their record, and the other records do not matter.
use Rattle.std.specs.Prelude.{if◌then◌else◌, Result, Ok, Err}
use Prim.Native.Nat.{ℕ, ◌+◌, ◌-◌, ◌*◌, ◌/◌, ◌≤◌, ◌<◌}
use mathlib.Core.Path.{◌≡◌, refl, sym, ap, subst, ◌∙◌}
use mathlib.Core.Bool.{Bool, true, false, not}
use mathlib.Core.List.{List, ◌++◌, append_assoc}
use native.Mathlib.Omega.{arith}
use lib.Dec.{ltb}
use lib.IntN.{pos}
use lib.ListN.{length, take, drop, length-append, length-drop}
use lib.Seq.{take_at, take-add, take-take, take_all, drop_at, drop-drop, drop-append-add, length-take-le}
use borrow.Author.Tests.{le-ltb}
use Rattle.base.specs.Fills.{filled}
use Rattle.base.specs.Texts.{text_at}
use Rattle.base.proofs.Tests.{clash, by_test}
use Rattle.record.specs.declared.Refusal.{Refusal}
use Rattle.record.specs.declared.Refusal.TheVariants.{OutputShort, UnknownVersion, BadField}
use Rattle.settings.specs.declared.Settings.{Settings}
use Rattle.settings.specs.Record.{Meaning, last_version, is_version, in_range, record_size, record_of, Holds}
use Rattle.settings.specs.File.{IsWhole, record_count, record_at, version_of, gate_of, NoneOf, Chosen, host_place, settings_of, Reads}
use Rattle.settings.specs.File.Reads.{bad_length, no_record, unknown_version, bad_field, taken}
use Rattle.settings.specs.Writes.{writing, Writes}
use Rattle.settings.specs.Laws.{BackAs, ReadsBack, OneMeaning, meaning_in, OneText, moved, OthersNotJudged}
use Rattle.settings.proofs.Fields.{ranges, record_length, holds_length, holds_meaning, holds_host, holds_one}
use Rattle.settings.proofs.Meanings.{one_answer}

-- ---- what was written

pub record Put (m : Meaning) (n : ℕ) (new : List ℕ) : Type 0 where
  pub size : n ≡ record_size
  pub holds : Holds (record_of m) m
  pub front : take n new ≡ record_of m

is_done : Result ℕ Refusal → Bool
is_done (Ok n) = true
is_done (Err f) = false

len_of : Result ℕ Refusal → ℕ
len_of (Ok n) = n
len_of (Err f) = 0

never : {A : Type 0} {n : ℕ} {f : Refusal} → Ok n ≡ Err f → A
unfolding is_done
never e = clash (ap is_done e)

tests : (m : Meaning) (n room : ℕ) → Ok n ≡ writing m room → (n ≡ record_size) × (is_version last_version m.version ≡ true) × (in_range m ≡ true)
unfolding writing len_of
tests m n room =
    by_test (λ t. Ok n ≡ (if not t then Err UnknownVersion else if not (in_range m) then Err BadField
    else if ltb room record_size then Err OutputShort else Ok record_size) → (n ≡ record_size) × (t ≡ true) × (in_range m ≡ true)) (is_version last_version m.version)
    (λ _. by_test (λ t. Ok n ≡ (if not t then Err BadField else if ltb room record_size then Err OutputShort else Ok record_size)
    → (n ≡ record_size) × (true ≡ true) × (t ≡ true)) (in_range m)
    (λ _. by_test (λ t. Ok n ≡ (if t then Err OutputShort else Ok record_size) → (n ≡ record_size) × (true ≡ true) × (true ≡ true)) (ltb room record_size)
    (λ _ h. never h) (λ _ h. (ap len_of h, refl, refl)))
    (λ _ h. never h))
    (λ _ h. never h)

pub put_holds : (m : Meaning) (old : List ℕ) (n : ℕ) (new : List ℕ) → Writes m old (Ok n) new → Put m n new
put_holds m old n new w =
    let (e, k, r) = tests m n (length old) w.answer in
    record {
      size = e;
      holds = record { known = k; in_range_lem = r; bytes_are = refl };
      front = ap (take n) w.output ∙ take_at (record_of m) _ n (record_length m (ranges m r) ∙ sym e);
    }

pub one_meaning : OneMeaning
one_meaning m m' old old' new new' n n' w w' e =
    let p = put_holds m old n new w in
    let p' = put_holds m' old' n' new' w' in
    holds_one (record_of m) m m' p.holds (record { known = p'.holds.known; in_range_lem = p'.holds.in_range_lem; bytes_are = sym p.front ∙ e ∙ p'.front })

-- ---- a record among others

module _ (gate : ℕ) (front c back : List ℕ) (wf : IsWhole front) (lc : length c ≡ record_size) where
  abbrev file : List ℕ
  file = front ++ (c ++ back)

  file_length : length file ≡ length front + (32 + length back)
  file_length = length-append front (c ++ back) ∙ ap (λ (k : ℕ). length front + k) (length-append c back ∙ ap (λ (k : ℕ). k + length back) lc)

  abbrev before : ℕ
  before = length front / 32

  start_is : before * 32 ≡ length front
  start_is = omega arith

  -- it is the record
  own_record : record_at file before ≡ c
  own_record =
      ap (λ (k : ℕ). take 32 (drop k file)) start_is ∙ ap (take 32) (drop_at front (c ++ back) (length front) refl) ∙ take_at c back 32 lc

  -- and those behind it are the others'
  later : (k : ℕ) → record_at file (before + 1 + k) ≡ record_at back k
  later k =
      let l : length (front ++ c) ≡ length front + 32 = length-append front c ∙ ap (λ (j : ℕ). length front + j) lc in
      let e : (before + 1 + k) * 32 ≡ length (front ++ c) + k * 32 = omega (arith, start_is) in
      ap (λ (s : List ℕ). take 32 (drop ((before + 1 + k) * 32) s)) (sym (append_assoc front c back))
      ∙ ap (λ (j : ℕ). take 32 (drop j ((front ++ c) ++ back))) e
      ∙ ap (take 32) (drop-append-add (front ++ c) back (k * 32))

  chosen_among : gate_of c ≡ gate → NoneOf gate back → Chosen gate file before
  chosen_among g n =
      record {
        whole = omega (arith, file_length, n.whole);
        inside = omega (arith, file_length, start_is);
        own = ap gate_of own_record ∙ g;
        last = λ k l m e.
            let j : before + 1 + (k - before - 1) ≡ k = omega arith in
            n.none (k - before - 1) (omega (arith, file_length, start_is)) (ap gate_of (sym (later (k - before - 1))) ∙ ap (λ (i : ℕ). gate_of (record_at file i)) j ∙ e);
      }

-- ---- read back

holds_gate : (b : List ℕ) (m : Meaning) → Holds b m → gate_of b ≡ m.gate
holds_gate b m h = sym (ap (λ (x : Meaning). x.gate) (holds_meaning b m h))

-- the host, in a file that has the record
part_of : (s : List ℕ) (a n : ℕ) → n ≤ 24 → 8 ≤ length (drop a s) → text_at (text_at s a 32) 8 n ≡ text_at s (a + 8) n
part_of s a n h l =
    ap (λ (x : List ℕ). take n (drop 8 x)) (take-add 8 24 (drop a s))
    ∙ ap (take n) (drop_at (take 8 (drop a s)) (take 24 (drop 8 (drop a s))) 8 (length-take-le 8 (drop a s) l))
    ∙ take-take n 24 (drop 8 (drop a s)) h
    ∙ ap (take n) (drop-drop 8 a s)

module _ (file : List ℕ) (i : ℕ) (inside : i < record_count file) (m : Meaning) (h : Holds (record_at file i) m) where
  pub host_there : text_at file (i * record_size + host_place) (length m.host) ≡ m.host
  host_there =
      sym (part_of file (i * 32) (length m.host) (omega (arith, (ranges m h.in_range_lem).host_to)) (omega (arith, length-drop (i * 32) file)))
      ∙ holds_host (record_at file i) m h

module _ (m : Meaning) (b front back : List ℕ) (h : Holds b m) (wf : IsWhole front) (n : NoneOf m.gate back) where
  back_is : (r : Result Settings Refusal) → Reads last_version (front ++ (b ++ back)) m.gate r → BackAs m (front ++ (b ++ back)) (length front + host_place) r
  back_is r k =
      let l = holds_length b m h in
      let i = length front / 32 in
      let file = front ++ (b ++ back) in
      let c = chosen_among m.gate front b back wf l (holds_gate b m h) n in
      let s : i * record_size + host_place ≡ length front + host_place = ap (λ (x : ℕ). x + 8) (start_is m.gate front b back wf l) in
      let g : Holds (record_at file i) m = subst (λ (x : List ℕ). Holds x m) (sym (own_record m.gate front b back wf l)) h in
      record {
        answer = one_answer last_version file m.gate r (Ok (settings_of m (i * record_size + host_place))) k (taken i m c h.known g refl)
            ∙ ap (λ (x : ℕ). Ok (settings_of m x)) s;
        host_is = ap (λ (x : ℕ). text_at file x (length m.host)) (sym s) ∙ host_there file i c.inside m g;
      }

pub reads_back : ReadsBack
reads_back m old new front back n r w wf o k =
    let p = put_holds m old n new w in
    subst (λ (x : List ℕ). Reads last_version (front ++ (x ++ back)) m.gate r → BackAs m (front ++ (x ++ back)) (length front + host_place) r) (sym p.front)
    (back_is m (record_of m) front back p.holds wf o r) k

-- ---- one text

inside_of : Result Settings Refusal → Settings
inside_of (Ok s) = s
inside_of (Err f) = record { version = 0; gate = 0; year = 0; offset = pos 0; variant = 0; host = record { start = 0; len = 0 } }

is_read : Result Settings Refusal → Bool
is_read (Ok s) = true
is_read (Err f) = false

unread : {A : Type 0} {s : Settings} {f : Refusal} → Ok s ≡ Err f → A
unfolding is_read
unread e = clash (ap is_read e)

same_settings : {s s' : Settings} → ◌≡◌ {A = Result Settings Refusal} (Ok s) (Ok s') → s ≡ s'
unfolding inside_of
same_settings e = ap inside_of e

-- settings that a record holds write it
writes_it : (b : List ℕ) (m : Meaning) → Holds b m → (old : List ℕ) → record_size ≤ length old → Writes m old (Ok record_size) (filled b old)
unfolding writing
writes_it b m h old l = record { answer = rw (h.known, h.in_range_lem, le-ltb (length old) record_size l); output = ap (λ (x : List ℕ). filled x old) h.bytes_are }

pub one_text : OneText
one_text greatest file gate s (bad_length h q) = unread q
one_text greatest file gate s (no_record n q) = unread q
one_text greatest file gate s (unknown_version i c v q) = unread q
one_text greatest file gate s (bad_field i c v n q) = unread q
one_text greatest file gate s (taken i m c v h q) =
    let e : meaning_in file s ≡ m = ap (meaning_in file) (same_settings q) ∙ rw (host_there file i c.inside m h) in
    record { at = i; chosen = c; writes = λ old l. rw e (writes_it (record_at file i) m h old l) }

-- ---- the others

alone_record : (c : List ℕ) → length c ≡ record_size → record_at c 0 ≡ c
alone_record c l = take_all 32 c (omega arith)

module _ (greatest gate : ℕ) (front c back : List ℕ) (r alone : Result Settings Refusal) (wf : IsWhole front) (l : length c ≡ record_size) (g : gate_of c ≡ gate) (n : NoneOf gate back)
    (k : Reads greatest (front ++ (c ++ back)) gate r) (i : ℕ) (d : Chosen gate c i) where
  abbrev all : List ℕ
  all = front ++ (c ++ back)

  abbrev at : ℕ
  at = length front / 32

  among : Chosen gate all at
  among = chosen_among gate front c back wf l g n

  same_record : record_at all at ≡ record_at c i
  same_record =
      let z : 0 ≡ i = omega (arith, d.inside) in
      own_record gate front c back wf l ∙ sym (alone_record c l) ∙ ap (record_at c) z

  not_known : is_version greatest (version_of (record_at c i)) ≡ false → alone ≡ Err UnknownVersion → r ≡ moved (length front) alone
  not_known v q = rw q (one_answer greatest all gate r (Err UnknownVersion) k (unknown_version at among (rw same_record v) refl))

  not_held : is_version greatest (version_of (record_at c i)) ≡ true → ((m : Meaning) → Holds (record_at c i) m → ⊥) → alone ≡ Err BadField → r ≡ moved (length front) alone
  not_held v o q =
      rw q (one_answer greatest all gate r (Err BadField) k (bad_field at among (rw same_record v) (λ m h. o m (subst (λ (x : List ℕ). Holds x m) same_record h)) refl))

  held : (m : Meaning) → is_version greatest m.version ≡ true → Holds (record_at c i) m → alone ≡ Ok (settings_of m (i * record_size + host_place)) → r ≡ moved (length front) alone
  held m v h q =
      let s : at * 32 + 8 ≡ length front + (i * 32 + 8) = omega (arith, d.inside, start_is gate front c back wf l) in
      rw q (one_answer greatest all gate r (Ok (settings_of m (at * record_size + host_place))) k (taken at m among v (subst (λ (x : List ℕ). Holds x m) (sym same_record) h) refl)
      ∙ ap (λ (x : ℕ). Ok (settings_of m x)) s)

pub others_not_judged : OthersNotJudged
others_not_judged greatest gate front c back r alone wf l g n k (bad_length h q) = absurd (h (omega arith))
others_not_judged greatest gate front c back r alone wf l g n k (no_record o q) = absurd (o.none 0 (omega arith) (ap gate_of (alone_record c l) ∙ g))
others_not_judged greatest gate front c back r alone wf l g n k (unknown_version i d v q) = not_known greatest gate front c back r alone wf l g n k i d v q
others_not_judged greatest gate front c back r alone wf l g n k (bad_field i d v o q) = not_held greatest gate front c back r alone wf l g n k i d v o q
others_not_judged greatest gate front c back r alone wf l g n k (taken i m d v h q) = held greatest gate front c back r alone wf l g n k i d m v h q
