-- Walks over pieces, as code goes: a law for each way to make a reader.
use Rattle.std.specs.Prelude.{Result, Ok, Err}
use Prim.Native.Nat.{ℕ, zero, suc, ◌+◌, ◌-◌, ◌^◌, ◌≤◌, ◌<◌}
use Rattle.std.specs.Result.{IsErr, IsErrAnd}
use Rattle.std.proofs.lemmas.Result.{err_from_is_err_and}
use mathlib.Core.Path.{◌≡◌, refl, sym, ap, ◌∙◌}
use mathlib.Core.Bool.{Bool, true, false, not}
use mathlib.Core.List.{List}
use native.Mathlib.Omega.{arith}
use mir.Syntax.{w64}
use mir.Val.{Fits}
use lib.ListN.{length, drop}
use lib.Seq.{drop-drop, get_or-drop}
use lib.Dec.{eqb}
use borrow.Author.Tests.{le-leb, not-true, not-false}
use Rattle.base.specs.Choose.{is_at}
use Rattle.base.proofs.Tests.{clash}
use Rattle.base.specs.Runs.{run}
use Rattle.base.proofs.Parts.{at_below}
use Rattle.base.proofs.Ranges.{inside, above}
use Rattle.grammar.specs.Parse.{Parsed, Reader, on_found, ◌next◌, closed, choose, behind, never, into, repeat}
use Rattle.grammar.specs.Parse.Parsed.{failed, found}
use Rattle.viable.specs.Far.{Far, next_far, follow, closed_far, choose_far, behind_far, none_far}
use Rattle.viable.specs.Leaves.{repeat_far}
use Rattle.viable.specs.Walks.{went_of, onward_of, went_at}

-- ---- what was found where the answer is Ok, and that nothing was where it is Err

pub record Passed {A : Type 0} (o : Parsed A) (at n : ℕ) : Type 0 where
  pub value : A
  pub bytes : ℕ
  pub is : o ≡ found value bytes
  pub sum : n ≡ at + bytes

passed : {A : Type 0} (o : Parsed A) (k at n : ℕ) → Ok n ≡ onward_of at (went_of o k) → Passed o at n
passed failed k at n e = let z : true ≡ false = cc in clash z
passed (found a m) k at n e = record { value = a; bytes = m; is = refl; sum = cc }

pub record Missed {A : Type 0} (o : Parsed A) (k at j : ℕ) : Type 0 where
  pub is : o ≡ failed
  pub sum : j ≡ at + k

missed : {A : Type 0} (o : Parsed A) (k at j : ℕ) → Err j ≡ onward_of at (went_of o k) → Missed o k at j
missed failed k at j e = record { is = refl; sum = cc }
missed (found a m) k at j e = let z : true ≡ false = cc in clash z

module _ {A : Type 0} (p : Reader A) (f : Far) (s : List ℕ) (at : ℕ) (w : Result ℕ ℕ) (e : w ≡ went_at p f s at) where
  pub got_past : (n : ℕ) → w ≡ Ok n → Passed (p (drop at s)) at n
  unfolding went_at
  got_past n h = passed (p (drop at s)) (f (drop at s)) at n (sym h ∙ e)

  pub got_stuck : (k : ℕ) → w ≡ Err k → Missed (p (drop at s)) (f (drop at s)) at k
  unfolding went_at
  got_stuck k h = missed (p (drop at s)) (f (drop at s)) at k (sym h ∙ e)

-- what a `?` returns where a piece is not read
pub went_err : (r : Result ℕ ℕ) (k : ℕ) → IsErr r × IsErrAnd r (λ y. y ≡ k) → r ≡ Err k
went_err r k h = let p = err_from_is_err_and r h.1 in p.1 ∙ ap Err p.2

pub onward_none : (w : Result ℕ ℕ) → onward_of 0 w ≡ w
onward_none (Ok m) = ap Ok (let z : 0 + m ≡ m = omega arith in z)
onward_none (Err k) = ap Err (let z : 0 + k ≡ k = omega arith in z)

pub onward_twice : (i j : ℕ) (w : Result ℕ ℕ) → onward_of i (onward_of j w) ≡ onward_of (i + j) w
onward_twice i j (Ok m) = ap Ok (let z : i + (j + m) ≡ i + j + m = omega arith in z)
onward_twice i j (Err k) = ap Err (let z : i + (j + k) ≡ i + j + k = omega arith in z)

-- the byte at a place of what is left
pub at_drop : (s : List ℕ) (i j b : ℕ) → is_at (drop i s) j b ≡ is_at s (i + j) b
at_drop s i j b = ap (λ (k : ℕ). eqb k b) (get_or-drop i s j 0)

pub at_here : (s : List ℕ) (i b : ℕ) → is_at (drop i s) 0 b ≡ is_at s i b
at_here s i b = at_drop s i 0 b ∙ ap (λ (k : ℕ). is_at s k b) (let z : i + 0 ≡ i = omega arith in z)

-- ---- one piece after another

-- what is found of two is what is found of the second
second : {A B : Type 0} (o : Parsed B) (a : A) (at m k : ℕ) → onward_of (at + m) (went_of o k) ≡ onward_of at (went_of {A = A × B} (on_found o (λ b j. found (a, b) (m + j))) (m + k))
second failed a at m k = ap Err (let z : at + m + k ≡ at + (m + k) = omega arith in z)
second (found b j) a at m k = ap Ok (let z : at + m + j ≡ at + (m + j) = omega arith in z)

module _ {A B : Type 0} (p : Reader A) (q : A → Reader B) (f : Far) (g : A → Far) (s : List ℕ) (at : ℕ) (w : Result ℕ ℕ) (e : w ≡ went_at p f s at) where
  pub follow_stuck : (k : ℕ) → w ≡ Err k → w ≡ went_at (follow p q) (next_far p f g) s at
  unfolding went_at follow next_far
  follow_stuck k h = let z = got_stuck p f s at w e k h in h ∙ rw (z.is, z.sum)

  pub follow_on : (n : ℕ) (h : w ≡ Ok n) (v : Result ℕ ℕ) → let a = (got_past p f s at w e n h).value in v ≡ went_at (q a) (g a) s n → v ≡ went_at (follow p q) (next_far p f g) s at
  unfolding went_at follow next_far
  follow_on n h v d =
      let z = got_past p f s at w e n h in
      let m = z.bytes in
      let a = z.value in
      let l : drop n s ≡ drop m (drop at s) = ap (λ (k : ℕ). drop k s) z.sum ∙ sym (drop-drop m at s) in
      d ∙ ap (λ (k : ℕ). onward_of k (went_of (q a (drop n s)) (g a (drop n s)))) z.sum ∙ rw (z.is, l) (second (q a (drop m (drop at s))) a at m (g a (drop m (drop at s))))

module _ {A B : Type 0} (p : Reader A) (q : Reader B) (f g : Far) (s : List ℕ) (at : ℕ) (w : Result ℕ ℕ) (e : w ≡ went_at p f s at) where
  pub seq_stuck : (k : ℕ) → w ≡ Err k → w ≡ went_at (p next q) (next_far p f (λ _. g)) s at
  unfolding ◌next◌ follow
  seq_stuck k h = follow_stuck p (λ _. q) f (λ _. g) s at w e k h

  pub seq_on : (n : ℕ) → w ≡ Ok n → (v : Result ℕ ℕ) → v ≡ went_at q g s n → v ≡ went_at (p next q) (next_far p f (λ _. g)) s at
  unfolding ◌next◌ follow
  seq_on n h v d = follow_on p (λ _. q) f (λ _. g) s at w e n h v d

-- u and then v is w
pub record Seq (u v w : List ℕ → ℕ → Result ℕ ℕ) : Type 0 where
  pub stuck : (s : List ℕ) (at : ℕ) (x : Result ℕ ℕ) → x ≡ u s at → (k : ℕ) → x ≡ Err k → x ≡ w s at
  pub on : (s : List ℕ) (at : ℕ) (x : Result ℕ ℕ) → x ≡ u s at → (n : ℕ) → x ≡ Ok n → (y : Result ℕ ℕ) → y ≡ v s n → y ≡ w s at

pub seq : {A B : Type 0} (p : Reader A) (q : Reader B) (f g : Far) → Seq (went_at p f) (went_at q g) (went_at (p next q) (next_far p f (λ _. g)))
seq p q f g = record { stuck = λ s at x e k h. seq_stuck p q f g s at x e k h; on = λ s at x e n h y d. seq_on p q f g s at x e n h y d }

-- a walk with another name
pub re_seq : {u v w x : List ℕ → ℕ → (Result ℕ ℕ)} → ((s : List ℕ) (at : ℕ) → x s at ≡ w s at) → Seq u v w → Seq u v x
re_seq h q = record { stuck = λ s at y e k d. q.stuck s at y e k d ∙ sym (h s at); on = λ s at y e n d z g. q.on s at y e n d z g ∙ sym (h s at) }

-- ---- a piece and the byte that closes it

module _ {A : Type 0} (p : Reader A) (f : Far) (b : ℕ) (s : List ℕ) (at : ℕ) (w : Result ℕ ℕ) (e : w ≡ went_at p f s at) where
  pub closed_stuck : (k : ℕ) → w ≡ Err k → w ≡ went_at (closed p b) (closed_far p f) s at
  unfolding went_at closed closed_far
  closed_stuck k h = let z = got_stuck p f s at w e k h in h ∙ rw (z.is, z.sum)

  module _ (n : ℕ) (h : w ≡ Ok n) (t : Bool) (et : t ≡ is_at s n b) where
    here : is_at (drop at s) (got_past p f s at w e n h).bytes b ≡ t
    here = let z = got_past p f s at w e n h in at_drop s at z.bytes b ∙ ap (λ (k : ℕ). is_at s k b) (sym z.sum) ∙ sym et

    pub closed_open : not t ≡ true → Err n ≡ went_at (closed p b) (closed_far p f) s at
    unfolding went_at closed closed_far
    closed_open k =
        let z = got_past p f s at w e n h in
        let q = here ∙ not-true t k in
        rw (z.is, q) (ap Err z.sum)

    pub closed_past : not t ≡ false → Ok (n + 1) ≡ went_at (closed p b) (closed_far p f) s at
    unfolding went_at closed closed_far
    closed_past k =
        let z = got_past p f s at w e n h in
        let q = here ∙ not-false t k in
        rw (z.is, q) (ap Ok (let y : n + 1 ≡ at + (z.bytes + 1) = omega (arith, z.sum) in y))

-- u and then the byte b is w
pub record Closed (u : List ℕ → ℕ → Result ℕ ℕ) (b : ℕ) (w : List ℕ → ℕ → Result ℕ ℕ) : Type 0 where
  pub stuck : (s : List ℕ) (at : ℕ) (x : Result ℕ ℕ) → x ≡ u s at → (k : ℕ) → x ≡ Err k → x ≡ w s at
  pub missing : (s : List ℕ) (at : ℕ) (x : Result ℕ ℕ) → x ≡ u s at → (n : ℕ) → x ≡ Ok n → (t : Bool) → t ≡ is_at s n b → not t ≡ true → Err n ≡ w s at
  pub past : (s : List ℕ) (at : ℕ) (x : Result ℕ ℕ) → x ≡ u s at → (n : ℕ) → x ≡ Ok n → (t : Bool) → t ≡ is_at s n b → not t ≡ false → Ok (n + 1) ≡ w s at

pub closing : {A : Type 0} (p : Reader A) (f : Far) (b : ℕ) → Closed (went_at p f) b (went_at (closed p b) (closed_far p f))
closing p f b =
    record {
      stuck = λ s at x e k h. closed_stuck p f b s at x e k h;
      missing = λ s at x e n h t et k. closed_open p f b s at x e n h t et k;
      past = λ s at x e n h t et k. closed_past p f b s at x e n h t et k;
    }

-- ---- a byte and then a piece, or another piece

after_byte : {A : Type 0} (o : Parsed A) (at k : ℕ) → onward_of (at + 1) (went_of o k) ≡ onward_of at (went_of (on_found o λ a n. found a (n + 1)) (k + 1))
after_byte failed at k = ap Err (let z : at + 1 + k ≡ at + (k + 1) = omega arith in z)
after_byte (found a n) at k = ap Ok (let z : at + 1 + n ≡ at + (n + 1) = omega arith in z)

module _ {A : Type 0} (p q : Reader A) (f g : Far) (b : ℕ) (s : List ℕ) (at : ℕ) (t : Bool) (et : t ≡ is_at s at b) where
  pub choose_yes : t ≡ true → (w : Result ℕ ℕ) → w ≡ went_at p f s (at + 1) → w ≡ went_at (choose b p q) (choose_far b f g) s at
  unfolding went_at choose choose_far
  choose_yes h w e =
      let y = at_here s at b ∙ sym et ∙ h in
      let d : drop 1 (drop at s) ≡ drop (at + 1) s = drop-drop 1 at s in
      e ∙ after_byte (p (drop (at + 1) s)) at (f (drop (at + 1) s)) ∙ rw (y, d)

  pub choose_no : t ≡ false → (w : Result ℕ ℕ) → w ≡ went_at q g s at → w ≡ went_at (choose b p q) (choose_far b f g) s at
  unfolding went_at choose choose_far
  choose_no h w e = let y = at_here s at b ∙ sym et ∙ h in e ∙ rw y

module _ {A : Type 0} (p : Reader A) (f : Far) (b : ℕ) (s : List ℕ) (at : ℕ) (t : Bool) (et : t ≡ is_at s at b) where
  none_here : Err at ≡ went_at {A = A} never none_far s at
  unfolding went_at
  none_here = ap Err (let z : at ≡ at + 0 = omega arith in z)

  pub behind_no : not t ≡ true → Err at ≡ went_at (behind b p) (behind_far b f) s at
  behind_no h = choose_no p never f none_far b s at t et (not-true t h) (Err at) none_here

  pub behind_yes : not t ≡ false → (w : Result ℕ ℕ) → w ≡ went_at p f s (at + 1) → w ≡ went_at (behind b p) (behind_far b f) s at
  behind_yes h = choose_yes p never f none_far b s at t et (not-false t h)

-- the byte b and then u is w
pub record Behind (b : ℕ) (u w : List ℕ → ℕ → Result ℕ ℕ) : Type 0 where
  pub no : (s : List ℕ) (at : ℕ) (t : Bool) → t ≡ is_at s at b → not t ≡ true → Err at ≡ w s at
  pub yes : (s : List ℕ) (at : ℕ) (t : Bool) → t ≡ is_at s at b → not t ≡ false → (x : Result ℕ ℕ) → x ≡ u s (at + 1) → x ≡ w s at

pub leading : {A : Type 0} (p : Reader A) (f : Far) (b : ℕ) → Behind b (went_at p f) (went_at (behind b p) (behind_far b f))
leading p f b = record { no = λ s at t et h. behind_no p f b s at t et h; yes = λ s at t et h x e. behind_yes p f b s at t et h x e }

-- what is made of a value leaves the walk as it is
went_into : {A B : Type 0} (f : A → B) (o : Parsed A) (k : ℕ) → went_of (on_found o (λ a n. found (f a) n)) k ≡ went_of o k
went_into f failed k = refl
went_into f (found a n) k = refl

pub into_walk : {A B : Type 0} (h : A → B) (p : Reader A) (f : Far) (s : List ℕ) (at : ℕ) → went_at (into h p) f s at ≡ went_at p f s at
unfolding went_at into
into_walk h p f s at = ap (onward_of at) (went_into h (p (drop at s)) (f (drop at s)))

-- two readers that agree walk alike
pub same_walk : {A : Type 0} (p q : Reader A) → ((s : List ℕ) → p s ≡ q s) → (f : Far) (s : List ℕ) (at : ℕ) → went_at p f s at ≡ went_at q f s at
unfolding went_at
same_walk p q h f s at = ap (λ (o : Parsed _). onward_of at (went_of o (f (drop at s)))) (h (drop at s))

-- a place where a byte stands is not the last
pub byte_fits : (s : List ℕ) (i b : ℕ) (t : Bool) → 0 < b → t ≡ is_at s i b → t ≡ true → length s < 2 ^ 64 → Fits w64 (i + 1)
byte_fits s i zero t l e h m = absurd (omega arith)
byte_fits s i (suc b) t l e h m = let k = at_below s i b (sym e ∙ h) in record { fits = omega arith }

pub not_byte_fits : (s : List ℕ) (i b : ℕ) (t : Bool) → 0 < b → t ≡ is_at s i b → not t ≡ false → length s < 2 ^ 64 → Fits w64 (i + 1)
not_byte_fits s i b t l e h m = byte_fits s i b t l e (not-false t h) m

pub ruleset fits_laws = (byte_fits, not_byte_fits)

-- ---- 1*most of a class

module _ (c : ℕ → Bool) (s : List ℕ) (at most n : ℕ) (e : n ≡ at + run c (drop at s)) where
  pub repeat_less : at ≤ n
  repeat_less = omega arith

  pub repeat_none : n ≡ at → Err at ≡ went_at (repeat most c) (repeat_far most c) s at
  unfolding went_at repeat repeat_far
  repeat_none z =
      let r : run c (drop at s) ≡ 0 = omega arith in
      rw r (ap Err (let y : at ≡ at + 0 = omega arith in y))

  module _ (some : n ≡ at → ⊥) where
    pub repeat_long : most < n - at → Err (at + most) ≡ went_at (repeat most c) (repeat_far most c) s at
    unfolding went_at repeat repeat_far
    repeat_long h = rw (above 1 most (run c (drop at s)) (omega arith), le-leb 1 (run c (drop at s)) (omega arith))

    pub repeat_long_fits : most < n - at → n < 2 ^ 64 → Fits w64 (at + most)
    repeat_long_fits h l = record { fits = omega arith }

    pub repeat_past : n - at ≤ most → Ok n ≡ went_at (repeat most c) (repeat_far most c) s at
    unfolding went_at repeat repeat_far
    repeat_past h = rw (inside 1 most (run c (drop at s)) (omega arith) (omega arith)) (ap Ok e)

pub ruleset repeat_laws = (repeat_less, repeat_none, repeat_long, repeat_long_fits, repeat_past)
