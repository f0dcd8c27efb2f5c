-- Unescaping goes by characters, and leaves characters.
use Rattle.std.specs.Prelude.{if◌then◌else◌}
use Prim.Native.Nat.{ℕ}
use mathlib.Core.Path.{◌≡◌, refl, ap, ◌∙◌}
use mathlib.Core.List.{List, [], ◌∷◌, ◌++◌}
use mathlib.Core.Bool.{Bool, true, false, ◌&&◌}
use native.Mathlib.Omega.{arith}
use Rattle.base.specs.Runs.{All}
use Rattle.base.proofs.Tests.{by_if}
use Rattle.utf8.specs.Rfc3629.{utf8_1, Characters, octets}
use Rattle.utf8.specs.Lead.{is_utf8}
use Rattle.utf8.specs.Characters.{is_char}
use Rattle.utf8.proofs.Texts.{utf8_sound, utf8_complete}
use Rattle.utf8.proofs.ByCharacters.{is_wide, wide_apart, Kind, ascii, wide, kind_of}
use Rattle.lookup.specs.Unescape.{unescaped_from, unescaped}
use Rattle.lookup.specs.Characters.{escaped_char, unescaped_of}

module _ (loose : Bool) where
  over_wide : (c t : List ℕ) → All is_wide c → unescaped_from loose false (c ++ t) ≡ c ++ unescaped_from loose false t
  unfolding unescaped_from
  over_wide [] t w = refl
  over_wide (x ∷ c) t (w, ws) = rw (wide_apart x 92 w (omega arith)) (ap (λ (r : List ℕ). x ∷ r) (over_wide c t ws))

  -- one character, taken by a backslash or not
  taken_char : {c : List ℕ} → Kind c → (t : List ℕ)
      → unescaped_from loose true (c ++ t)
      ≡ (if escaped_char c then c ++ unescaped_from loose false t
      else if loose && is_char 110 c then 10 ∷ unescaped_from loose false t
      else 92 ∷ (c ++ unescaped_from loose false t))
  unfolding unescaped_from
  taken_char (ascii h) t = refl
  taken_char (wide {x} {y} {c} (w, ws)) t =
      rw (wide_apart x 34 w (omega arith), wide_apart x 92 w (omega arith), wide_apart x 93 w (omega arith), wide_apart x 110 w (omega arith), over_wide (y ∷ c) t ws)
      (neither loose _ _ _)
    where
      neither : (l : Bool) (a b r : List ℕ) → (if l && false then a else r) ≡ (if l && false then b else r)
      neither true a b r = refl
      neither false a b r = refl

  bare_char : {c : List ℕ} → Kind c → (t : List ℕ)
      → unescaped_from loose false (c ++ t) ≡ (if is_char 92 c then unescaped_from loose true t else c ++ unescaped_from loose false t)
  unfolding unescaped_from
  bare_char (ascii h) t = refl
  bare_char (wide {x} {y} {c} w) t = over_wide (x ∷ y ∷ c) t w

  pub unescaped_by_characters : (taken : Bool) (cs : List (List ℕ)) → Characters cs → unescaped_from loose taken (octets cs) ≡ octets (unescaped_of loose taken cs)
  unfolding unescaped_from unescaped_of
  unescaped_by_characters false [] h = refl
  unescaped_by_characters true [] h = go loose
    where
      go : (l : Bool) → (if l then [] else 92 ∷ []) ≡ octets (if l then [] else (92 ∷ []) ∷ [])
      go true = refl
      go false = refl
  unescaped_by_characters true (c ∷ cs) (u, h) =
      taken_char (kind_of u) (octets cs) ∙ rw (unescaped_by_characters false cs h) (go (escaped_char c) (loose && is_char 110 c) (unescaped_of loose false cs))
    where
      go : (a b : Bool) (v : List (List ℕ))
          → (if a then c ++ octets v else if b then 10 ∷ octets v else 92 ∷ (c ++ octets v))
          ≡ octets (if a then c ∷ v else if b then (10 ∷ []) ∷ v else (92 ∷ []) ∷ c ∷ v)
      go true b v = refl
      go false true v = refl
      go false false v = refl
  unescaped_by_characters false (c ∷ cs) (u, h) =
      bare_char (kind_of u) (octets cs) ∙ rw (unescaped_by_characters true cs h, unescaped_by_characters false cs h) (go (is_char 92 c) _ _)
    where
      go : (a : Bool) (v w : List (List ℕ)) → (if a then octets v else c ++ octets w) ≡ octets (if a then v else c ∷ w)
      go true v w = refl
      go false v w = refl

  unescaped_each : (taken : Bool) (cs : List (List ℕ)) → Characters cs → Characters (unescaped_of loose taken cs)
  unfolding unescaped_of
  unescaped_each false [] h = tt
  unescaped_each true [] h = by_if Characters loose _ _ (λ e. tt) (λ e. (utf8_1 {a = 92} refl, tt))
  unescaped_each true (c ∷ cs) (u, h) =
      let r = unescaped_each false cs h in
      by_if Characters (escaped_char c) _ _ (λ e. (u, r)) λ e.
      by_if Characters (loose && is_char 110 c) _ _ (λ e. (utf8_1 {a = 10} refl, r)) (λ e. (utf8_1 {a = 92} refl, (u, r)))
  unescaped_each false (c ∷ cs) (u, h) =
      by_if Characters (is_char 92 c) _ _ (λ e. unescaped_each true cs h) (λ e. (u, unescaped_each false cs h))

  pub unescaped_utf8 : (v : List ℕ) → is_utf8 v ≡ true → is_utf8 (unescaped loose v) ≡ true
  unescaped_utf8 v h =
      let u = utf8_sound v h in
      utf8_complete (unescaped loose v) (record {
        characters = unescaped_of loose false u.characters;
        each = unescaped_each false u.characters u.each;
        text = ap (unescaped loose) u.text ∙ unescaped_by_characters false u.characters u.each;
      })
