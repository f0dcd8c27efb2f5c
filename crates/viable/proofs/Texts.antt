-- How far UTF-8, a value and a message reach.
use Rattle.std.specs.Prelude.{if◌then◌else◌}
use Prim.Native.Nat.{ℕ, zero, suc, ◌+◌, ◌-◌, ◌≤◌, ◌<◌}
use mathlib.Core.Path.{◌≡◌, refl, sym, ap, ◌∙◌, subst}
use mathlib.Core.Bool.{Bool, true, false, ◌&&◌}
use mathlib.Core.List.{List, [], ◌∷◌, ◌++◌, append_assoc, append-nil}
use mathlib.Core.Option.{none, some}
use native.Mathlib.Omega.{arith}
use lib.ListN.{length, take, drop, length-append, length-drop, take-append-drop, replicate}
use lib.Seq.{take-append-le, drop-append-le, take-take, length-take-le, take-add}
use lib.Dec.{leb, eqb}
use borrow.Author.Tests.{le-leb, leb-true, leb-false, eqb-true, ne_eqb}
use Rattle.base.specs.Choose.{within, is_at}
use Rattle.base.proofs.Tests.{clash, both, by_test, by_if}
use Rattle.base.proofs.Ranges.{inside, orders}
use Rattle.base.proofs.Parts.{at_cons}
use Rattle.utf8.specs.Rfc3629.{Utf8}
use Rattle.utf8.specs.Lead.{lead_of, utf8_from, is_utf8}
use Rattle.utf8.specs.declared.Lead.{Lead}
use Rattle.utf8.proofs.Leads.{lead_1}
use Rattle.utf8.proofs.Asked.{lead_bounds}
use Rattle.utf8.proofs.Texts.{utf8_sound}
use Rattle.grammar.specs.Line.{bare, Escaped, MessageOk}
use Rattle.grammar.specs.Line.Escaped.{nothing, plain, pair}
use Rattle.grammar.specs.Parse.{on_found, only, stop, until_quote, all_left, at_end, value, is_message}
use Rattle.grammar.specs.Parse.Parsed.{failed, found}
use Rattle.grammar.proofs.Readers.{not_found, if_found}
use Rattle.grammar.proofs.Bytes.{stop_le, itself}
use Rattle.grammar.proofs.Data.{message_then}
use Rattle.base.specs.Runs.{All}
use Rattle.viable.specs.Viable.{is_byte}
use Rattle.viable.proofs.Alls.{all_append}
use Rattle.viable.specs.Far.{none_far}
use Rattle.viable.specs.Leaves.{utf8_far_from, utf8_far, value_far, message_far}
use Rattle.viable.proofs.Reaches.{Open, Reaches, if_failed, at_left}
use Rattle.viable.proofs.Leaves.{Local, only_local, take_left}

-- ---- UTF-8

pub utf8_inside : (more lo hi : ℕ) (s : List ℕ) → utf8_far_from more lo hi s ≤ length s
unfolding utf8_far_from
utf8_inside more lo hi [] = omega arith
utf8_inside zero lo hi (b ∷ s) =
    let l = utf8_inside ((lead_of b).len - 1) (lead_of b).low (lead_of b).high s in
    by_test (λ t. (if t then suc (utf8_far_from ((lead_of b).len - 1) (lead_of b).low (lead_of b).high s) else 0) ≤ suc (length s)) (leb 1 (lead_of b).len) (λ _. omega arith) (λ _. omega arith)
utf8_inside (suc k) lo hi (b ∷ s) =
    let l = utf8_inside k 0x80 0xBF s in
    by_test (λ t. (if t then suc (utf8_far_from k 0x80 0xBF s) else 0) ≤ suc (length s)) (within lo hi b) (λ _. omega arith) (λ _. omega arith)

pub utf8_dead : (more lo hi : ℕ) (x y z : List ℕ) → utf8_far_from more lo hi (x ++ y) < length x → utf8_from more lo hi (x ++ z) ≡ false
unfolding utf8_far_from utf8_from
utf8_dead more lo hi [] y z h = absurd (omega arith)
utf8_dead zero lo hi (b ∷ x) y z h =
    by_test (λ t. (if t then suc (utf8_far_from ((lead_of b).len - 1) (lead_of b).low (lead_of b).high (x ++ y)) else 0) < suc (length x)
    → (t && utf8_from ((lead_of b).len - 1) (lead_of b).low (lead_of b).high (x ++ z)) ≡ false) (leb 1 (lead_of b).len)
    (λ _ l. utf8_dead ((lead_of b).len - 1) (lead_of b).low (lead_of b).high x y z (omega arith)) (λ _ l. refl) h
utf8_dead (suc k) lo hi (b ∷ x) y z h =
    by_test (λ t. (if t then suc (utf8_far_from k 0x80 0xBF (x ++ y)) else 0) < suc (length x) → (t && utf8_from k 0x80 0xBF (x ++ z)) ≡ false) (within lo hi b)
    (λ _ l. utf8_dead k 0x80 0xBF x y z (omega arith)) (λ _ l. refl) h

-- each row's range has a byte
abbrev InOrder : Lead → Type 0
InOrder l = l.low ≤ l.high

pub lead_range : (b : ℕ) → (lead_of b).low ≤ (lead_of b).high
unfolding lead_of
lead_range b =
    by_if InOrder (within 0x00 0x7F b) _ _ (λ _. omega arith) (λ _.
    by_if InOrder (within 0xC2 0xDF b) _ _ (λ _. omega arith) (λ _.
    by_if InOrder (eqb b 0xE0) _ _ (λ _. omega arith) (λ _.
    by_if InOrder (within 0xE1 0xEC b) _ _ (λ _. omega arith) (λ _.
    by_if InOrder (eqb b 0xED) _ _ (λ _. omega arith) (λ _.
    by_if InOrder (within 0xEE 0xEF b) _ _ (λ _. omega arith) (λ _.
    by_if InOrder (eqb b 0xF0) _ _ (λ _. omega arith) (λ _.
    by_if InOrder (within 0xF1 0xF3 b) _ _ (λ _. omega arith) (λ _.
    by_if InOrder (eqb b 0xF4) _ _ (λ _. omega arith) (λ _. omega arith)))))))))

-- ---- a value

-- a value, or the rest of one behind the backslash of a pair
abbrev pub Left : Bool → List ℕ → Type 0
Left false t = Escaped t
Left true t = Escaped (92 ∷ t)

-- a state in which a value can be: behind a backslash no character is open, and an open one asks for tails
pub record Ready (paired : Bool) (more lo hi : ℕ) : Type 0 where
  pub apart : paired ≡ true → more ≡ 0
  pub tails : 1 ≤ more → (0x80 ≤ lo) × ((lo ≤ hi) × (hi ≤ 0xBF))

-- what can stand behind t
pub record Fill (paired : Bool) (more lo hi : ℕ) (t : List ℕ) : Type 0 where
  pub rest : List ℕ
  pub utf8 : utf8_from more lo hi (t ++ rest) ≡ true
  pub escaped : Left paired (t ++ rest)
  pub small : All is_byte rest

pub no_bare : (b : ℕ) → 0x80 ≤ b → (bare b ≡ false) × (eqb b 92 ≡ false)
no_bare b l = (rw (ne_eqb b 34 (omega arith), ne_eqb b 93 (omega arith)), ne_eqb b 92 (omega arith))

tails_escaped : (k : ℕ) → Escaped (replicate k 0x80)
tails_escaped zero = nothing
tails_escaped (suc k) = plain refl refl (tails_escaped k)

tails_small : (k : ℕ) → All is_byte (replicate k 0x80)
tails_small zero = tt
tails_small (suc k) = (refl, tails_small k)

tails_utf8 : (k : ℕ) → utf8_from k 0x80 0xBF (replicate k 0x80) ≡ true
unfolding utf8_from
tails_utf8 zero = refl
tails_utf8 (suc k) = tails_utf8 k

fill_first : (paired : Bool) (more lo hi : ℕ) → Ready paired more lo hi → Fill paired more lo hi []
unfolding utf8_from
fill_first true zero lo hi r = record { rest = 97 ∷ []; utf8 = rw (lead_1 97 (omega arith)); escaped = pair nothing; small = (refl, tt) }
fill_first true (suc k) lo hi r = absurd (let z = r.apart refl in omega arith)
fill_first false zero lo hi r = record { rest = []; utf8 = refl; escaped = nothing; small = tt }
fill_first false (suc k) lo hi r =
    let t = r.tails (omega arith) in
    let n = no_bare lo t.0 in
    record { rest = lo ∷ replicate k 0x80; utf8 = rw (inside lo hi lo (omega arith) t.1.0) (tails_utf8 k); escaped = plain n.0 n.1 (tails_escaped k); small = (le-leb lo 255 (omega arith), tails_small k) }

-- behind a lead byte
pub led_ready : (b : ℕ) → Ready false ((lead_of b).len - 1) (lead_of b).low (lead_of b).high
led_ready b = record { apart = λ e. clash (sym e); tails = λ l. let t = (lead_bounds b).tails (omega arith) in (t.0, (lead_range b, t.1)) }

-- a lead byte in front
fill_lead : (paired w : Bool) (lo hi b : ℕ) (t : List ℕ) → leb 1 (lead_of b).len ≡ true → ((u : List ℕ) → Left w u → Left paired (b ∷ u))
    → Fill w ((lead_of b).len - 1) (lead_of b).low (lead_of b).high t → Fill paired zero lo hi (b ∷ t)
unfolding utf8_from
fill_lead paired w lo hi b t e on f = record { rest = f.rest; utf8 = rw e f.utf8; escaped = on (t ++ f.rest) f.escaped; small = f.small }

-- a tail in front
fill_tail : (k lo hi b : ℕ) (t : List ℕ) → within lo hi b ≡ true → 0x80 ≤ b → Fill false k 0x80 0xBF t → Fill false (suc k) lo hi (b ∷ t)
unfolding utf8_from
fill_tail k lo hi b t e l f = let v = no_bare b l in record { rest = f.rest; utf8 = rw e f.utf8; escaped = plain v.0 v.1 f.escaped; small = f.small }

backslash : (b : ℕ) → eqb b 92 ≡ true → (u : List ℕ) → Left true u → Left false (b ∷ u)
backslash b w u h = subst (λ (c : ℕ). Escaped (c ∷ u)) (sym (eqb-true b 92 w)) h

-- behind a backslash no character is open
pub backslash_ready : (b : ℕ) → eqb b 92 ≡ true → Ready true ((lead_of b).len - 1) (lead_of b).low (lead_of b).high
backslash_ready b w =
    let one : (lead_of b).len - 1 ≡ 0 = ap (λ (c : ℕ). (lead_of c).len - 1) (eqb-true b 92 w) ∙ ap (λ (l : Lead). l.len - 1) (lead_1 92 (omega arith)) in
    record { apart = λ _. one; tails = λ l. absurd (omega arith) }

pub fill : (paired : Bool) (more lo hi : ℕ) (s : List ℕ) (m : ℕ) → Ready paired more lo hi → m ≤ stop paired s → m ≤ utf8_far_from more lo hi s → Fill paired more lo hi (take m s)
unfolding stop utf8_far_from
fill paired more lo hi s zero r g h = fill_first paired more lo hi r
fill paired more lo hi [] (suc m) r g h = absurd (omega arith)
fill true (suc k) lo hi (b ∷ s) (suc m) r g h = absurd (let z = r.apart refl in omega arith)
fill true zero lo hi (b ∷ s) (suc m) r g h =
    by_test (λ t. suc m ≤ (if t then suc (utf8_far_from ((lead_of b).len - 1) (lead_of b).low (lead_of b).high s) else 0) → leb 1 (lead_of b).len ≡ t → Fill true zero lo hi (b ∷ take m s)) (leb 1 (lead_of b).len)
    (λ _ l t. fill_lead true false lo hi b (take m s) t (λ u e. pair e) (fill false ((lead_of b).len - 1) (lead_of b).low (lead_of b).high s m (led_ready b) (omega arith) (omega arith)))
    (λ _ l t. absurd (omega arith))
    h refl
fill false zero lo hi (b ∷ s) (suc m) r g h =
    by_test (λ t. suc m ≤ (if t then suc (utf8_far_from ((lead_of b).len - 1) (lead_of b).low (lead_of b).high s) else 0) → leb 1 (lead_of b).len ≡ t → Fill false zero lo hi (b ∷ take m s)) (leb 1 (lead_of b).len)
    (λ _ l t.
    by_test (λ q. suc m ≤ (if q then 0 else suc (stop (eqb b 92) s)) → bare b ≡ q → Fill false zero lo hi (b ∷ take m s)) (bare b)
    (λ _ g q. absurd (omega arith))
    (λ _ g q.
    by_test (λ w. suc m ≤ suc (stop w s) → eqb b 92 ≡ w → Fill false zero lo hi (b ∷ take m s)) (eqb b 92)
    (λ _ g w. fill_lead false true lo hi b (take m s) t (backslash b w) (fill true ((lead_of b).len - 1) (lead_of b).low (lead_of b).high s m (backslash_ready b w) (omega arith) (omega arith)))
    (λ _ g w. fill_lead false false lo hi b (take m s) t (λ u e. plain q w e) (fill false ((lead_of b).len - 1) (lead_of b).low (lead_of b).high s m (led_ready b) (omega arith) (omega arith)))
    g refl)
    g refl)
    (λ _ l t. absurd (omega arith))
    h refl
fill false (suc k) lo hi (b ∷ s) (suc m) r g h =
    by_test (λ t. suc m ≤ (if t then suc (utf8_far_from k 0x80 0xBF s) else 0) → within lo hi b ≡ t → Fill false (suc k) lo hi (b ∷ take m s)) (within lo hi b)
    (λ _ l t.
    let o = orders lo hi b t in
    let u = r.tails (omega arith) in
    let v = no_bare b (omega arith) in
    let g' : suc m ≤ suc (stop false s) = rw (v.0, v.1) at g in
    fill_tail k lo hi b (take m s) t (omega arith) (fill false k 0x80 0xBF s m (record { apart = λ e. clash (sym e); tails = λ _. (omega arith, (omega arith, omega arith)) }) (omega arith) (omega arith)))
    (λ _ l t. absurd (omega arith))
    h refl

-- ---- where a value stops, and what stands behind

pub stop_local : (q : Bool) (x y z : List ℕ) → stop q (x ++ y) < length x → stop q (x ++ z) ≡ stop q (x ++ y)
unfolding stop
stop_local q [] y z h = absurd (omega arith)
stop_local true (b ∷ x) y z h = ap suc (stop_local false x y z (omega arith))
stop_local false (b ∷ x) y z h =
    by_test (λ t. (if t then 0 else suc (stop (eqb b 92) (x ++ y))) < suc (length x) → (if t then 0 else suc (stop (eqb b 92) (x ++ z))) ≡ (if t then 0 else suc (stop (eqb b 92) (x ++ y)))) (bare b)
    (λ _ l. refl) (λ _ l. ap suc (stop_local (eqb b 92) x y z (omega arith))) h

pub stop_least : (j : ℕ) (q : Bool) (x y z : List ℕ) → j ≤ stop q (x ++ y) → j ≤ length x → j ≤ stop q (x ++ z)
unfolding stop
stop_least zero q x y z h l = omega arith
stop_least (suc j) q [] y z h l = absurd (omega arith)
stop_least (suc j) true (b ∷ x) y z h l = let i = stop_least j false x y z (omega arith) (omega arith) in omega arith
stop_least (suc j) false (b ∷ x) y z h l =
    by_test (λ t. suc j ≤ (if t then 0 else suc (stop (eqb b 92) (x ++ y))) → suc j ≤ (if t then 0 else suc (stop (eqb b 92) (x ++ z)))) (bare b)
    (λ _ k. absurd (omega arith)) (λ _ k. let i = stop_least j (eqb b 92) x y z (omega arith) (omega arith) in omega arith) h

quote_local : Local until_quote
unfolding until_quote
quote_local x y z a n e l =
    let k = stop false (x ++ y) in
    let u = if_found (is_at (x ++ y) k 34) e in
    let w = u.1 in
    let j : stop false (x ++ y) + 1 ≡ n = cc in
    rw (stop_local false x y z (omega arith), at_left x z y (stop false (x ++ y)) 34 (omega arith), u.0, take_left (stop false (x ++ y)) x z y (omega arith)) w

-- a value is not read, where its test or its quote fails
value_no : (s : List ℕ) → is_utf8 (take (stop false s) s) ≡ false → value s ≡ failed
unfolding value only until_quote
value_no s h =
    by_test (λ t. on_found (if t then found (take (stop false s) s) (stop false s + 1) else failed) (λ a n. if is_utf8 a then found a n else failed) ≡ failed) (is_at s (stop false s) 34)
    (λ t. rw h) (λ t. refl)

value_unquoted : (s : List ℕ) → is_at s (stop false s) 34 ≡ false → value s ≡ failed
unfolding value only until_quote
value_unquoted s h = rw h

value_yes : (s : List ℕ) → is_at s (stop false s) 34 ≡ true → is_utf8 (take (stop false s) s) ≡ true → value s ≡ found (take (stop false s) s) (stop false s + 1)
unfolding value only until_quote
value_yes s g h = rw (g, h)

-- a break of UTF-8 in x is one in every text that begins with so much of x
broken : (x y w : List ℕ) (n : ℕ) → utf8_far (x ++ y) < n → n ≤ length x → is_utf8 (take n x ++ w) ≡ false
broken x y w n h l =
    let e : take n x ++ (drop n x ++ y) ≡ x ++ y = sym (append_assoc (take n x) (drop n x) y) ∙ ap (λ (t : List ℕ). t ++ y) (take-append-drop n x) in
    utf8_dead 0 0x80 0xBF (take n x) (drop n x ++ y) w (rw (length-take-le n x l, e) h)

value_dead : (x y z : List ℕ) → value (x ++ y) ≡ failed → value_far (x ++ y) < length x → value (x ++ z) ≡ failed
unfolding value_far
value_dead x y z e h =
    let n = stop false (x ++ y) in
    let j = utf8_far (x ++ y) in
    by_test (λ t. leb n j ≡ t → (if t then n else j) < length x → value (x ++ z) ≡ failed) (leb n j)
    (λ _ t l.
    let s = stop_local false x y z l in
    let a : is_at (x ++ z) (stop false (x ++ z)) 34 ≡ is_at (x ++ y) n 34 = ap (λ (k : ℕ). is_at (x ++ z) k 34) s ∙ at_left x z y n 34 l in
    let b : take (stop false (x ++ z)) (x ++ z) ≡ take n (x ++ y) = ap (λ (k : ℕ). take k (x ++ z)) s ∙ take_left n x z y (omega arith) in
    by_test (λ q. is_at (x ++ y) n 34 ≡ q → value (x ++ z) ≡ failed) (is_at (x ++ y) n 34)
    (λ _ q.
    by_test (λ u. is_utf8 (take n (x ++ y)) ≡ u → value (x ++ z) ≡ failed) (is_utf8 (take n (x ++ y)))
    (λ _ u. not_found (sym e ∙ value_yes (x ++ y) q u))
    (λ _ u. value_no (x ++ z) (ap is_utf8 b ∙ u))
    refl)
    (λ _ q. value_unquoted (x ++ z) (a ∙ q))
    refl)
    (λ _ t l.
    let g = leb-false n j t in
    let m = stop_least (suc j) false x y z g (omega arith) in
    let k = stop false (x ++ z) in
    let d : take k (x ++ z) ≡ take (suc j) x ++ drop (suc j) (take k (x ++ z))
    = sym (take-append-drop (suc j) (take k (x ++ z)))
    ∙ ap (λ (t : List ℕ). t ++ drop (suc j) (take k (x ++ z))) (take-take (suc j) k (x ++ z) m ∙ take-append-le (suc j) x z (omega arith)) in
    value_no (x ++ z) (ap is_utf8 d ∙ broken x y (drop (suc j) (take k (x ++ z))) (suc j) (omega arith) (omega arith)))
    refl h

value_least : (s : List ℕ) → (value_far s ≤ stop false s) × (value_far s ≤ utf8_far s)
unfolding value_far
value_least s =
    by_test (λ t. leb (stop false s) (utf8_far s) ≡ t → ((if t then stop false s else utf8_far s) ≤ stop false s) × ((if t then stop false s else utf8_far s) ≤ utf8_far s)) (leb (stop false s) (utf8_far s))
    (λ _ t. let l = leb-true (stop false s) (utf8_far s) t in (omega arith, l))
    (λ _ t. let l = leb-false (stop false s) (utf8_far s) t in (omega arith, omega arith))
    refl

pub value_reaches : Reaches (λ t r. t ++ (34 ∷ r)) (λ t. Utf8 t × Escaped t) value value_far
unfolding value
value_reaches =
    record {
      local = only_local is_utf8 until_quote quote_local;
      dead = value_dead;
      extends = λ s e.
          let m = value_far s in
          let l = value_least s in
          let f = fill false 0 0x80 0xBF s m (record { apart = λ _. refl; tails = λ k. absurd (omega arith) }) l.0 l.1 in
          record {
            value = take m s ++ f.rest;
            ok = (utf8_sound (take m s ++ f.rest) f.utf8, f.escaped);
            rest = f.rest ++ (34 ∷ []);
            small = all_append is_byte f.rest (34 ∷ []) f.small (refl, tt);
            split = append_assoc (take m s) f.rest (34 ∷ []);
          };
      inside = λ s e. let l = value_least s in let k = stop_le false s in omega arith;
    }

-- ---- [SP MSG]

abbrev is_marked : List ℕ → Bool
is_marked m = is_at m 0 0xEF && is_at m 1 0xBB && is_at m 2 0xBF

marked : (m : List ℕ) → is_marked m ≡ true → m ≡ 0xEF ∷ 0xBB ∷ 0xBF ∷ drop 3 m
marked m h =
    let u = both (is_at m 0 0xEF && is_at m 1 0xBB) (is_at m 2 0xBF) h in
    let v = both (is_at m 0 0xEF) (is_at m 1 0xBB) u.0 in
    at_cons m 0 0xEE v.0
    ∙ ap (λ (l : List ℕ). 0xEF ∷ l) (at_cons m 1 0xBA v.1 ∙ ap (λ (l : List ℕ). 0xBB ∷ l) (at_cons m 2 0xBE u.1))

-- where a message is not read
record Unmessaged (s : List ℕ) : Type 0 where
  mark : is_marked s ≡ true
  not_utf8 : is_utf8 (drop 3 s) ≡ false

unmessaged : (s : List ℕ) → only is_message all_left s ≡ failed → Unmessaged s
unfolding only all_left
unmessaged s e =
    let h = if_failed s (length s) (is_message s) e in
    by_test (λ t. (if t then is_utf8 (drop 3 s) else true) ≡ false → is_marked s ≡ t → Unmessaged s) (is_marked s)
    (λ _ h t. record { mark = t; not_utf8 = h }) (λ _ h t. clash h) h refl

message_no : (s : List ℕ) → is_marked s ≡ true → is_utf8 (drop 3 s) ≡ false → only is_message all_left s ≡ failed
unfolding only all_left
message_no s t h = rw (t, h)

text_local : Local (only is_message all_left)
unfolding only all_left
text_local x y z a n e l =
    let u = if_found (is_message (x ++ y)) e in
    let w = u.1 in
    let k : length (x ++ y) ≡ n = cc in
    let m = length-append x y in
    absurd (omega arith)

text_dead : (x y z : List ℕ) → only is_message all_left (x ++ y) ≡ failed → message_far (x ++ y) < length x → only is_message all_left (x ++ z) ≡ failed
unfolding message_far
text_dead x y z e l =
    let u = unmessaged (x ++ y) e in
    let m : is_marked (x ++ z) ≡ true = rw (at_left x z y 0 0xEF (omega arith), at_left x z y 1 0xBB (omega arith), at_left x z y 2 0xBF (omega arith)) u.mark in
    let d = drop-append-le 3 x y (omega arith) in
    let k : utf8_far (drop 3 x ++ y) < length (drop 3 x) = rw (← d, length-drop 3 x) (omega arith) in
    message_no (x ++ z) m (ap is_utf8 (drop-append-le 3 x z (omega arith)) ∙ utf8_dead 0 0x80 0xBF (drop 3 x) y z k)

-- UTF-8 that is cut short can be gone on with
utf8_on : (more lo hi : ℕ) (s : List ℕ) → Ready false more lo hi → (u : List ℕ) × (All is_byte u × (utf8_from more lo hi (take (utf8_far_from more lo hi s) s ++ u) ≡ true))
unfolding utf8_far_from utf8_from
utf8_on more lo hi [] r = let f = fill_first false more lo hi r in (f.rest, (f.small, f.utf8))
utf8_on zero lo hi (b ∷ s) r =
    by_test (λ t. leb 1 (lead_of b).len ≡ t
    → (u : List ℕ) × (All is_byte u × (utf8_from zero lo hi (take (if t then suc (utf8_far_from ((lead_of b).len - 1) (lead_of b).low (lead_of b).high s) else 0) (b ∷ s) ++ u) ≡ true))) (leb 1 (lead_of b).len)
    (λ _ t. let f = utf8_on ((lead_of b).len - 1) (lead_of b).low (lead_of b).high s (led_ready b) in (f.0, (f.1.0, ap (λ (w : Bool). w && utf8_from ((lead_of b).len - 1) (lead_of b).low (lead_of b).high (take (utf8_far_from ((lead_of b).len - 1) (lead_of b).low (lead_of b).high s) s ++ f.0)) t ∙ f.1.1)))
    (λ _ t. let f = fill_first false zero lo hi r in (f.rest, (f.small, f.utf8)))
    refl
utf8_on (suc k) lo hi (b ∷ s) r =
    by_test (λ t. within lo hi b ≡ t
    → (u : List ℕ) × (All is_byte u × (utf8_from (suc k) lo hi (take (if t then suc (utf8_far_from k 0x80 0xBF s) else 0) (b ∷ s) ++ u) ≡ true))) (within lo hi b)
    (λ _ t.
    let f = utf8_on k 0x80 0xBF s (record { apart = λ e. clash (sym e); tails = λ _. (omega arith, (omega arith, omega arith)) }) in
    (f.0, (f.1.0, ap (λ (w : Bool). w && utf8_from k 0x80 0xBF (take (utf8_far_from k 0x80 0xBF s) s ++ f.0)) t ∙ f.1.1)))
    (λ _ t. let f = fill_first false (suc k) lo hi r in (f.rest, (f.small, f.utf8)))
    refl

text_extends : (s : List ℕ) → only is_message all_left s ≡ failed → Open itself (λ m. MessageOk (some m)) s (message_far s)
unfolding message_far
text_extends s e =
    let u = unmessaged s e in
    let k = utf8_far (drop 3 s) in
    let f = utf8_on 0 0x80 0xBF (drop 3 s) (record { apart = λ _. refl; tails = λ l. absurd (omega arith) }) in
    let t : take (3 + k) s ≡ 0xEF ∷ 0xBB ∷ 0xBF ∷ take k (drop 3 s) = take-add 3 k s ∙ ap (λ (l : List ℕ). take 3 l ++ take k (drop 3 s)) (marked s u.mark) in
    record {
      value = take (3 + k) s ++ f.0;
      ok = λ v q.
          let w : take k (drop 3 s) ++ f.0 ≡ v = ap (λ (l : List ℕ). drop 3 (l ++ f.0)) (sym t) ∙ ap (drop 3) q in
          utf8_sound v (ap is_utf8 (sym w) ∙ f.1.1);
      rest = f.0;
      small = f.1.0;
      split = append-nil (take (3 + k) s ++ f.0);
    }

text_inside : (s : List ℕ) → only is_message all_left s ≡ failed → message_far s ≤ length s
unfolding message_far
text_inside s e =
    let u = unmessaged s e in
    let l = ap length (marked s u.mark) in
    let k = utf8_inside 0 0x80 0xBF (drop 3 s) in
    omega arith

pub text_reaches : Reaches itself (λ m. MessageOk (some m)) (only is_message all_left) message_far
text_reaches = record { local = text_local; dead = text_dead; extends = text_extends; inside = text_inside }

pub end_reaches : Reaches message_then (λ m. m ≡ none) at_end none_far
unfolding at_end
end_reaches =
    record {
      local = λ x y z a n e l.
          let u = if_found (eqb (length (x ++ y)) 0) e in
          let k = eqb-true (length (x ++ y)) 0 u.0 in
          let m = length-append x y in
          absurd (omega arith);
      dead = λ x y z e l. rw (ne_eqb (length (x ++ z)) 0 (λ q. let m = length-append x z in omega arith));
      extends = λ s e. record { value = none; ok = refl; rest = []; split = refl; small = tt };
      inside = λ s e. omega arith;
    }
