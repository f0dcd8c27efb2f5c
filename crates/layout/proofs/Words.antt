-- Words written one after the other, and a word by its eight bytes.
use Prim.Native.Nat.{ℕ, zero, suc, ◌+◌, ◌*◌, ◌/◌, ◌%◌, ◌≤◌, ◌<◌}
use mathlib.Core.Path.{◌≡◌, refl, sym, ap, ◌∙◌}
use mathlib.Core.List.{List, [], ◌∷◌, ◌++◌, append_assoc, append-nil}
use native.Mathlib.Omega.{arith}
use lib.ListN.{length, set, length-append}
use lib.ListN.{get_or, drop}
use Rattle.base.proofs.Parts.{step}
use Rattle.output.proofs.Pieces.{Starts, starts_front, Midway, midway_all, midway_fits, midway_on, midway_last, midway_end}
use Rattle.output.proofs.Writes.{Owes, owes_all, owes_more, owes_none}
use Rattle.layout.specs.Layout.{little, words_bytes, Room, Puts}

pub length_little : (k n : ℕ) → length (little k n) ≡ k
unfolding little
length_little zero n = refl
length_little (suc k) n = ap suc (length_little k (n / 256))

pub words_append : (x y : List ℕ) → words_bytes (x ++ y) ≡ words_bytes x ++ words_bytes y
unfolding words_bytes
words_append [] y = refl
words_append (w ∷ x) y = ap (λ (l : List ℕ). little 8 w ++ l) (words_append x y) ∙ sym (append_assoc (little 8 w) (words_bytes x) (words_bytes y))

pub words_length : (ws : List ℕ) → length (words_bytes ws) ≡ length ws * 8
unfolding words_bytes
words_length [] = refl
words_length (w ∷ ws) = length-append (little 8 w) (words_bytes ws) ∙ omega (arith, length_little 8 w, words_length ws)

starts_words : {x t : List ℕ} → Starts x t → Starts (words_bytes x) (words_bytes t)
starts_words {x} s = record { others = words_bytes s.others; is = sym (words_append x s.others) ∙ ap words_bytes s.is }

-- ---- words that are put from the first on

-- `p` has them up to position `a`, and `t` are still to come
pub record Putting (o : List ℕ) (at : ℕ) (words p : List ℕ) (a : ℕ) (t : List ℕ) : Type 0 where
  pub midway : Midway o at (words_bytes words) p a (words_bytes t)

pub putting_all : (o : List ℕ) (at : ℕ) (words t : List ℕ) → words ≡ t → Putting o at words o at t
putting_all o at words t e = rw (← e) (record { midway = midway_all o at (words_bytes words) })

module _ {o : List ℕ} {at : ℕ} {words p : List ℕ} {a : ℕ} {t : List ℕ} (f : Room o at words) (w : Putting o at words p a t) where
  pub putting_room : {x : List ℕ} → Starts x t → Room p a x
  putting_room s = record { fits = midway_fits f.fits w.midway (starts_words s) }

  pub putting_on : {x : List ℕ} (y : List ℕ) {n : ℕ} {q : List ℕ} → Puts p a x n q → x ++ y ≡ t → Putting o at words q n y
  putting_on {x} y v e = record { midway = midway_on f.fits w.midway v.wrote (sym (words_append x y) ∙ ap words_bytes e) }

  pub putting_last : {n : ℕ} {q : List ℕ} → Puts p a t n q → Puts o at words n q
  putting_last v = record { wrote = midway_last f.fits w.midway v.wrote }

pub putting_end : (o : List ℕ) (at : ℕ) (words p : List ℕ) (a : ℕ) (t : List ℕ) → Putting o at words p a t → t ≡ [] → Puts o at words a p
unfolding words_bytes
putting_end o at words p a t w e = record { wrote = midway_end o at (words_bytes words) p a (words_bytes t) w.midway (ap words_bytes e) }

-- ---- the same by pieces

abbrev joined : List (List ℕ) → List ℕ
joined [] = []
joined (x ∷ xs) = x ++ joined xs

-- the pieces that are still to come
pub record Pieces (o words p : List ℕ) (a : ℕ) (xs : List (List ℕ)) : Type 0 where
  pub room : Room o 0 words
  pub putting : Putting o 0 words p a (joined xs)

pub pieces_all : (o words : List ℕ) (xs : List (List ℕ)) → Room o 0 words → words ≡ joined xs → Pieces o words o 0 xs
pieces_all o words xs f e = record { room = f; putting = putting_all o 0 words (joined xs) e }

module _ {o words p : List ℕ} {a : ℕ} {x y : List ℕ} where
  pub piece_room : {xs : List (List ℕ)} → Pieces o words p a (x ∷ xs) → y ≡ x → Room p a y
  piece_room {xs} w e = rw e (putting_room w.room w.putting (starts_front x (joined xs)))

  module _ {n : ℕ} {q : List ℕ} where
    pub piece_on : {xs : List (List ℕ)} → Pieces o words p a (x ∷ xs) → y ≡ x → Puts p a y n q → Pieces o words q n xs
    piece_on {xs} w e v = record { room = w.room; putting = putting_on w.room w.putting (joined xs) (rw e at v) refl }

    pub piece_last : Pieces o words p a (x ∷ []) → y ≡ x → Puts p a y n q → Puts o 0 words n q
    piece_last w e v = putting_last w.room w.putting (rw append-nil (rw e at v))

-- ---- a word

pub word_room : (o : List ℕ) (at n : ℕ) → Room o at (n ∷ []) → at + 8 ≤ length o
word_room o at n f = omega (arith, f.fits.fits, words_length (n ∷ []))

-- the bytes as the code computes them
eight : ℕ → List ℕ
eight n =
    (n % 256)
    ∷ (n / 256 % 256)
    ∷ (n / 65536 % 256)
    ∷ (n / 16777216 % 256)
    ∷ (n / 4294967296 % 256)
    ∷ (n / 1099511627776 % 256)
    ∷ (n / 281474976710656 % 256)
    ∷ (n / 72057594037927936 % 256)
    ∷ []

word_is : (n : ℕ) → eight n ≡ words_bytes (n ∷ [])
unfolding eight little words_bytes
word_is n =
    let a : n / 65536 ≡ n / 256 / 256 = omega arith in
    let b : n / 16777216 ≡ n / 65536 / 256 = omega arith in
    let c : n / 4294967296 ≡ n / 16777216 / 256 = omega arith in
    let d : n / 1099511627776 ≡ n / 4294967296 / 256 = omega arith in
    let e : n / 281474976710656 ≡ n / 1099511627776 / 256 = omega arith in
    let f : n / 72057594037927936 ≡ n / 281474976710656 / 256 = omega arith in
    rw (f, e, d, c, b, a)

-- one byte more
stored : (o : List ℕ) (at : ℕ) (text p : List ℕ) (i b : ℕ) (t : List ℕ) → Owes o at text p (at + i) (b ∷ t) → at + i < length o → Owes o at text (set p (at + i) b) (at + suc i) t
stored o at text p i b t w h =
    let e : at + i + 1 ≡ at + suc i = omega arith in
    rw (← e) (owes_more o at text p (at + i) b t w (omega (arith, w.same)))

-- eight stores
module _ (o : List ℕ) (at n : ℕ) (f : Room o at (n ∷ [])) where
  pub word_wrote : Puts o at (n ∷ []) (at + 8)
      (set (set (set (set (set (set (set (set o at (n % 256)) (at + 1) (n / 256 % 256)) (at + 2) (n / 65536 % 256)) (at + 3) (n / 16777216 % 256)) (at + 4) (n / 4294967296 % 256)) (at + 5) (n / 1099511627776 % 256)) (at + 6) (n / 281474976710656 % 256)) (at + 7) (n / 72057594037927936 % 256))
  unfolding eight
  word_wrote =
      let z : at + 0 ≡ at = omega arith in
      let l : at + 8 ≤ length o = word_room o at n f in
      let all : Owes o at (eight n) o (at + 0) (eight n) = rw z (owes_all o at (eight n)) in
      let a = stored o at (eight n) _ 0 _ _ all (omega arith) in
      let b = stored o at (eight n) _ 1 _ _ a (omega arith) in
      let c = stored o at (eight n) _ 2 _ _ b (omega arith) in
      let d = stored o at (eight n) _ 3 _ _ c (omega arith) in
      let e = stored o at (eight n) _ 4 _ _ d (omega arith) in
      let g = stored o at (eight n) _ 5 _ _ e (omega arith) in
      let h = stored o at (eight n) _ 6 _ _ g (omega arith) in
      let k = stored o at (eight n) _ 7 _ _ h (omega arith) in
      record { wrote = rw (← word_is n) (owes_none o at (eight n) _ (at + 8) (at + 8) (rw z at k) refl) }

module _ {o : List ℕ} {at : ℕ} {words p : List ℕ} {a : ℕ} {i : ℕ} (f : Room o at words) (w : Putting o at words p a (drop i words)) (h : i < length words) where
  pub next_room : Room p a (get_or words i 0 ∷ [])
  next_room = putting_room f w (record { others = drop (i + 1) words; is = sym (step words i h) })

  pub next_put : {n : ℕ} {q : List ℕ} → Puts p a (get_or words i 0 ∷ []) n q → Putting o at words q n (drop (i + 1) words)
  next_put v = putting_on f w (drop (i + 1) words) v (sym (step words i h))
