-- Texts: UTF-8 by bytes is RFC 3629's UTF-8 by characters, and a text is divided into characters in one way.
use Prim.Native.Nat.{ℕ, zero, suc, ◌-◌}
use mathlib.Core.Path.{◌≡◌, refl, sym, ap, ap₂, ◌∙◌}
use mathlib.Core.List.{List, [], ◌∷◌, ◌++◌, append_assoc, append-nil}
use mathlib.Core.Bool.{true}
use native.Mathlib.Omega.{arith}
use lib.Dec.{leb}
use lib.ListN.{length, take, drop, length-append}
use lib.Seq.{take-append_seam, drop-append_seam}
use borrow.Author.Tests.{le-leb, leb-true, eqb-true}
use Rattle.base.specs.Choose.{within}
use Rattle.base.proofs.Tests.{both}
use Rattle.utf8.specs.Rfc3629.{Utf8Char, Characters, octets, Utf8}
use Rattle.utf8.specs.Lead.{lead_of, char_len, utf8_from, is_utf8}
use Rattle.utf8.proofs.Walk.{any_range}
use Rattle.utf8.proofs.Asked.{Tails, done, more, Asked, asked, asked_for, char_of, asks_some}
use Rattle.utf8.proofs.Chars.{char_is, char_some}

tails_then : {k lo hi : ℕ} {s : List ℕ} → Tails k lo hi s → (t : List ℕ) → utf8_from k lo hi (s ++ t) ≡ is_utf8 t
unfolding utf8_from
tails_then (done {lo} {hi}) t = any_range lo hi 0x80 0xBF t
tails_then (more p r) t = rw p (tails_then r t)

asked_then : {c : List ℕ} → Asked c → (t : List ℕ) → is_utf8 (c ++ t) ≡ is_utf8 t
unfolding utf8_from
asked_then (asked {a} {k} e r) t =
    let p : suc k - 1 ≡ k = omega arith in
    rw (e, le-leb 1 (suc k) (omega arith), p) (tails_then r t)

-- a character does not change the answer
pub utf8_char : {c : List ℕ} → Utf8Char c → (t : List ℕ) → is_utf8 (c ++ t) ≡ is_utf8 t
utf8_char h = asked_then (asked_for h)

pub utf8_append : (cs : List (List ℕ)) → Characters cs → (t : List ℕ) → is_utf8 (octets cs ++ t) ≡ is_utf8 t
utf8_append [] h t = refl
utf8_append (c ∷ cs) h t = rw (append_assoc c (octets cs) t) (utf8_char h.0 (octets cs ++ t) ∙ utf8_append cs h.1 t)

pub utf8_complete : (s : List ℕ) → Utf8 s → is_utf8 s ≡ true
unfolding utf8_from
utf8_complete s u = ap is_utf8 (u.text ∙ sym (append-nil (octets u.characters))) ∙ utf8_append u.characters u.each []

-- what is to come of a character, and then characters
record Rest (k lo hi : ℕ) (s : List ℕ) : Type 0 where
  tail : List ℕ
  tails : Tails k lo hi tail
  characters : List (List ℕ)
  each : Characters characters
  text : s ≡ tail ++ octets characters

rest : (k lo hi : ℕ) (s : List ℕ) → utf8_from k lo hi s ≡ true → Rest k lo hi s
unfolding utf8_from
rest zero lo hi [] h = record { tail = []; tails = done; characters = []; each = tt; text = refl }
rest (suc k) lo hi [] h = absurd (omega (arith, eqb-true (suc k) 0 h))
rest zero lo hi (b ∷ s) h =
    let (p, q) = both (leb 1 (lead_of b).len) _ h in
    let r = rest ((lead_of b).len - 1) (lead_of b).low (lead_of b).high s q in
    let c = char_of (asked (asks_some (lead_of b) (leb-true 1 (lead_of b).len p)) r.tails) in
    record { tail = []; tails = done; characters = (b ∷ r.tail) ∷ r.characters; each = (c, r.each); text = ap (λ (t : List ℕ). b ∷ t) r.text }
rest (suc k) lo hi (b ∷ s) h =
    let (p, q) = both (within lo hi b) _ h in
    let r = rest k 0x80 0xBF s q in
    record { tail = b ∷ r.tail; tails = more p r.tails; characters = r.characters; each = r.each; text = ap (λ (t : List ℕ). b ∷ t) r.text }

only : {lo hi : ℕ} {s : List ℕ} → Tails 0 lo hi s → s ≡ []
only done = refl

pub utf8_sound : (s : List ℕ) → is_utf8 s ≡ true → Utf8 s
utf8_sound s h =
    let r = rest 0 0x80 0xBF s h in
    record { characters = r.characters; each = r.each; text = r.text ∙ ap (λ (t : List ℕ). t ++ octets r.characters) (only r.tails) }

-- two divisions of one text are the same
pub characters_unique : (cs ds : List (List ℕ)) → Characters cs → Characters ds → octets cs ≡ octets ds → cs ≡ ds
characters_unique [] [] g h e = refl
characters_unique [] (d ∷ ds) g h e = absurd (omega (arith, char_some h.0, simp length-append at (ap length e)))
characters_unique (c ∷ cs) [] g h e = absurd (omega (arith, char_some g.0, simp length-append at (ap length e)))
characters_unique (c ∷ cs) (d ∷ ds) g h e =
    let n : length c ≡ length d = sym (char_is g.0 (octets cs)) ∙ ap char_len e ∙ char_is h.0 (octets ds) in
    let p : c ≡ d = sym (take-append_seam c (octets cs)) ∙ ap₂ take n e ∙ take-append_seam d (octets ds) in
    let q : octets cs ≡ octets ds = sym (drop-append_seam c (octets cs)) ∙ ap₂ drop n e ∙ drop-append_seam d (octets ds) in
    ap₂ (λ (x : List ℕ) (xs : List (List ℕ)). x ∷ xs) p (characters_unique cs ds g.1 h.1 q)
