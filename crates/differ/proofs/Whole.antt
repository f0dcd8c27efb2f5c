-- The comparison as a whole.
use Rattle.std.specs.Prelude.{if◌then◌else◌, Option, is_some, unwrap_or}
use Prim.Native.Nat.{ℕ, ◌+◌, ◌*◌, ◌≤◌}
use mathlib.Core.Path.{◌≡◌, refl, sym, ap, ap₂, ◌∙◌, subst}
use mathlib.Core.Bool.{Bool, true, false, not}
use mathlib.Core.List.{List, [], ◌∷◌, map}
use native.Mathlib.Omega.{arith}
use lib.ListN.{length, take, length-map}
use lib.Seq.{length-take-le}
use mir.Syntax.{w64}
use mir.Val as val
use Rattle.base.specs.Texts.{same_text}
use Rattle.base.proofs.Tests.{by_test}
use Rattle.pairs.specs.declared.Odd.{Odd}
use Rattle.keyed.specs.Notes.{Listed}
use Rattle.keyed.specs.Odd.{rows_of, FirstOdd, Bounded}
use Rattle.differ.specs.declared.Line.{Line}
use Rattle.differ.specs.declared.Part.{Part}
use Rattle.differ.specs.Seen.{Seen, id_of, pair_of}
use Rattle.differ.specs.Differences.{same_protocol, same_level, same_time, same_given, elements_differ, differing, bits, differences_of}
use Rattle.differ.specs.Steps.{Marks, head_marks, text_marks, message_mark, common_ids, part_of, part_from, rows_in_line, seen_by, Readable, Differs}
use Rattle.differ.proofs.Ids.{longer}
use Rattle.differ.proofs.Parts.{part_tells}
use Rattle.differ.proofs.Links.{linked, least_linked}

-- ---- the elements

ids_length : (line : List ℕ) (e : List (List ℕ)) (n : ℕ) → n ≤ length e → length (map (id_of line) (take n e)) ≡ n
ids_length line e n h = length-map (take n e) (id_of line) ∙ length-take-le n e h

-- the ids of the trimmed line are in the line
pub readable_listed : (line : List ℕ) (l : Line) (e : List (List ℕ)) → Readable line l e → Listed line e l.ids
readable_listed line l e r = record { given = r.listed.given; inside = λ i h. omega (arith, r.listed.inside i h, length-take-le l.end line r.end_in, r.end_in) }

module _ (line₁ : List ℕ) (a : Line) (e₁ : List (List ℕ)) (ra : Readable line₁ a e₁) (line₂ : List ℕ) (b : Line) (e₂ : List (List ℕ)) (rb : Readable line₂ b e₂) where
  pub params_fit_lem : val.Fits w64 (a.params + b.params)
  params_fit_lem = record { fits = omega (arith, ra.params_are, ra.count, ra.end_in, ra.short, rb.params_are, rb.count, rb.end_in, rb.short) }

  module _ (s₁ : List ℕ) (q₁ : s₁ ≡ take a.end line₁) (s₂ : List ℕ) (q₂ : s₂ ≡ take b.end line₂) where
    end₁ : length s₁ ≡ a.end
    end₁ = ap length q₁ ∙ length-take-le a.end line₁ ra.end_in

    end₂ : length s₂ ≡ b.end
    end₂ = ap length q₂ ∙ length-take-le b.end line₂ rb.end_in

    pub both_short : length s₁ + length s₂ ≤ 16384
    both_short = omega (arith, end₁, end₂, ra.end_in, ra.short, rb.end_in, rb.short)

    pub both_bounded : Bounded s₁ e₁ a.ids s₂ e₂ b.ids (length s₁ + length s₂)
    both_bounded =
        let z : length s₁ + length s₂ ≡ a.end + b.end = omega (arith, end₁, end₂) in
        subst (λ (n : ℕ). Bounded s₁ e₁ a.ids s₂ e₂ b.ids n) (sym z)
        (subst (λ (x : List ℕ). Bounded x e₁ a.ids s₂ e₂ b.ids (a.end + b.end)) (sym q₁)
        (subst (λ (x : List ℕ). Bounded (take a.end line₁) e₁ a.ids x e₂ b.ids (a.end + b.end)) (sym q₂)
        (record { listed₁ = ra.listed; listed₂ = rb.listed; sizes = omega (arith, ra.size, rb.size); counts = omega (arith, ra.count, rb.count) })))

    module _ (k : ℕ) (ek : k ≡ common_ids (map (id_of line₁) (take a.ids e₁)) (map (id_of line₂) (take b.ids e₂)))
        (odd : Odd) (eo : FirstOdd s₁ (rows_of s₁ e₁ a.ids) s₂ (rows_of s₂ e₂ b.ids) odd) (most : ℕ) (em : most ≡ longer a.ids b.ids) where
      first : FirstOdd (take a.end line₁) (rows_in_line line₁ a e₁) (take b.end line₂) (rows_in_line line₂ b e₂) odd
      first =
          subst (λ (x : List ℕ). FirstOdd x (rows_of x e₁ a.ids) (take b.end line₂) (rows_in_line line₂ b e₂) odd) q₁
          (subst (λ (x : List ℕ). FirstOdd s₁ (rows_of s₁ e₁ a.ids) x (rows_of x e₂ b.ids) odd) q₂ eo)

      m_is : a.params ≡ length (seen_by line₁ a e₁).pairs
      m_is = ra.params_are ∙ sym (length-map (rows_in_line line₁ a e₁) (pair_of line₁))

      n_is : a.params + b.params ≡ length (seen_by line₁ a e₁).pairs + length (seen_by line₂ b e₂).pairs
      n_is = ap₂ ◌+◌ m_is (rb.params_are ∙ sym (length-map (rows_in_line line₂ b e₂) (pair_of line₂)))

      most_is : most ≡ longer (length (seen_by line₁ a e₁).ids) (length (seen_by line₂ b e₂).ids)
      most_is = em ∙ sym (ap₂ longer (ids_length line₁ e₁ a.ids ra.listed.given) (ids_length line₂ e₂ b.ids rb.listed.given))

      pub part_is : (p : Option Part) → p ≡ part_of k most odd a.params (a.params + b.params) → p ≡ part_from (seen_by line₁ a e₁) (seen_by line₂ b e₂)
      part_is p e =
          e
          ∙ ap₂ (λ (x y : ℕ). part_of x y odd a.params (a.params + b.params)) ek most_is
          ∙ ap₂ (λ (x y : ℕ). part_of (common_ids (seen_by line₁ a e₁).ids (seen_by line₂ b e₂).ids) (longer (length (seen_by line₁ a e₁).ids) (length (seen_by line₂ b e₂).ids)) odd x y) m_is n_is
          ∙ part_tells (seen_by line₁ a e₁) (seen_by line₂ b e₂) _ _ (linked line₁ a e₁ ra line₂ b e₂ rb) odd (least_linked line₁ a e₁ ra line₂ b e₂ rb odd first)

-- ---- all fields

ten : (b₀ b₁ b₂ b₃ b₄ b₅ b₆ b₇ b₈ b₉ : Bool) (n₀ n₁ n₂ n₃ n₄ n₅ n₆ n₇ n₈ n₉ : ℕ)
    → n₀ ≡ (if b₀ then 1 else 0) → n₁ ≡ (if b₁ then 1 else 0) → n₂ ≡ (if b₂ then 1 else 0) → n₃ ≡ (if b₃ then 1 else 0) → n₄ ≡ (if b₄ then 1 else 0)
    → n₅ ≡ (if b₅ then 1 else 0) → n₆ ≡ (if b₆ then 1 else 0) → n₇ ≡ (if b₇ then 1 else 0) → n₈ ≡ (if b₈ then 1 else 0) → n₉ ≡ (if b₉ then 1 else 0)
    → n₀ + 2 * (n₁ + 2 * n₂) + 8 * n₃ + 16 * (n₄ + 2 * n₅ + 4 * n₆ + 8 * n₇) + 256 * n₈ + 512 * n₉ ≡ bits (b₀ ∷ b₁ ∷ b₂ ∷ b₃ ∷ b₄ ∷ b₅ ∷ b₆ ∷ b₇ ∷ b₈ ∷ b₉ ∷ [])
ten b₀ b₁ b₂ b₃ b₄ b₅ b₆ b₇ b₈ b₉ n₀ n₁ n₂ n₃ n₄ n₅ n₆ n₇ n₈ n₉ e₀ e₁ e₂ e₃ e₄ e₅ e₆ e₇ e₈ e₉ =
    rw (← e₀, ← e₁, ← e₂, ← e₃, ← e₄, ← e₅, ← e₆, ← e₇, ← e₈, ← e₉) (omega arith)

from_differs : (a b : Seen) → is_some (part_from a b) ≡ elements_differ a b
unfolding part_from
from_differs a b =
    by_test (λ t. elements_differ a b ≡ t → is_some (part_from a b) ≡ t) (elements_differ a b) (λ h e. rw e refl) (λ h e. rw e refl) refl

byte_is : (b : Bool) → val.bool_byte b ≡ (if b then 1 else 0)
byte_is true = refl
byte_is false = refl

-- zeros where there is none
abbrev part_or : Option Part → Part
part_or p = unwrap_or p (record { position = 0; line = 0; entry = 0 })

whole : (a b : Seen)
    → record { fields = bits (differing a b); position = (part_or (part_from a b)).position; pair_line = (part_or (part_from a b)).line; pair_entry = (part_or (part_from a b)).entry } ≡ differences_of a b
unfolding part_from
whole a b =
    by_test
    (λ t. elements_differ a b ≡ t
    → record { fields = bits (differing a b); position = (part_or (part_from a b)).position; pair_line = (part_or (part_from a b)).line; pair_entry = (part_or (part_from a b)).entry } ≡ differences_of a b)
    (elements_differ a b) (λ h e. rw e refl) (λ h e. rw e refl) refl

module _ (line₁ : List ℕ) (a : Line) (e₁ : List (List ℕ)) (line₂ : List ℕ) (b : Line) (e₂ : List (List ℕ)) (p : Option Part) (ep : p ≡ part_from (seen_by line₁ a e₁) (seen_by line₂ b e₂))
    (h t d m : ℕ) (mh : Marks (head_marks a.read b.read) 15 h) (mt : Marks (text_marks line₁ a.read line₂ b.read) 15 t)
    (mm : Marks (message_mark line₁ a.read line₂ b.read) 1 m) (s : Bool) (es : s ≡ is_some p) (md : d ≡ val.bool_byte s) (q : Part) (eq : q ≡ part_or p) where
  abbrev A : Seen
  A = seen_by line₁ a e₁

  abbrev B : Seen
  B = seen_by line₂ b e₂

  d_is : d ≡ (if elements_differ A B then 1 else 0)
  d_is = md ∙ byte_is s ∙ ap (λ (x : Bool). if x then 1 else 0) (es ∙ ap is_some ep ∙ from_differs A B)

  fields_are : h + 16 * t + 256 * d + 512 * m ≡ bits (differing A B)
  fields_are =
      ap₂ (λ (x y : ℕ). x + 16 * y + 256 * d + 512 * m) mh.is mt.is
      ∙ ap₂ (λ (x y : ℕ). head_marks a.read b.read + 16 * text_marks line₁ a.read line₂ b.read + 256 * x + 512 * y) d_is mm.is
      ∙ ten (not (same_protocol A.protocol B.protocol)) (not (same_level A.facility B.facility)) (not (same_level A.severity B.severity)) (not (same_time A.time B.time))
      (not (same_given A.host B.host)) (not (same_given A.app B.app)) (not (same_given A.procid B.procid)) (not (same_given A.msgid B.msgid)) (elements_differ A B)
      (not (same_text A.message B.message)) _ _ _ _ _ _ _ _ _ _ refl refl refl refl refl refl refl refl refl refl

  pub differs_is : Differs line₁ a e₁ line₂ b e₂ (record { fields = h + 16 * t + 256 * d + 512 * m; position = q.position; pair_line = q.line; pair_entry = q.entry }) e₁ e₂
  differs_is =
      record {
        is =
            ap₂ (λ (n : ℕ) (x : Part). record { fields = n; position = x.position; pair_line = x.line; pair_entry = x.entry }) fields_are (eq ∙ ap part_or ep) ∙ whole A B;
        kept₁ = refl;
        kept₂ = refl;
      }
