-- What `next` finds in the text of an element: its id, a parameter, its end.
use Prim.Native.Nat.{ℕ, ◌+◌, ◌≤◌}
use mathlib.Core.Path.{◌≡◌, refl, sym, ap, ◌∙◌}
use mathlib.Core.Bool.{false}
use mathlib.Core.List.{List, [], ◌∷◌, ◌++◌}
use native.Mathlib.Omega.{arith}
use native.Mathlib.Nat.{add-zero}
use lib.Dec.{eqb}
use lib.ListN.{length, get_or, drop, length-drop, length-append}
use lib.Seq.{drop-append_seam, drop-drop, get_or-drop}
use Rattle.base.specs.Runs.{run}
use Rattle.base.proofs.Tests.{clash}
use Rattle.base.proofs.Runs.{run_text, run_no}
use Rattle.grammar.specs.Abnf.{sd_name_byte, Repeat}
use Rattle.grammar.specs.Line.{Param, param_then, ParamOk}
use Rattle.grammar.specs.Parse.{stop}
use Rattle.grammar.proofs.Bytes.{stop_text}
use Rattle.strict_data.specs.declared.Entry.{Entry}
use Rattle.strict_data.specs.Entries.{opening, holding, passing, name_at, value_at, entry_at, Lies}

-- what is found at the place, and that it lies within the line
pub record Found (line : List ℕ) (at : ℕ) (r : Entry) : Type 0 where
  pub is : entry_at line at ≡ r
  pub lies : Lies line at
  pub ends : r.next ≤ length line

-- after a text
pub over : (line : List ℕ) (at : ℕ) (t r : List ℕ) → drop at line ≡ t ++ r → drop (at + length t) line ≡ r
over line at t r e = sym (drop-drop (length t) at line) ∙ ap (drop (length t)) e ∙ drop-append_seam t r

module _ (line : List ℕ) (at : ℕ) where
  module _ (b : ℕ) (r : List ℕ) (e : drop at line ≡ b ∷ r) where
    at_byte : get_or line at 0 ≡ b
    at_byte = let q : at + 0 ≡ at = add-zero at in ap (λ (k : ℕ). get_or line k 0) (sym q) ∙ sym (get_or-drop at line 0 0) ∙ ap (λ (l : List ℕ). get_or l 0 0) e

    within_line : at + 1 + length r ≤ length line
    within_line = let d = length-drop at line in let l = ap length e in omega arith

    not_space : eqb b 32 ≡ false → Lies line at
    not_space z =
        record {
          inside = omega (arith, within_line);
          param_inside = λ h. clash (sym h ∙ ap (λ (k : ℕ). eqb k 32) at_byte ∙ z);
        }

  pub finds_other : (b : ℕ) (r : List ℕ) → drop at line ≡ b ∷ r → eqb b 91 ≡ false → eqb b 32 ≡ false → Found line at (passing at)
  unfolding entry_at
  finds_other b r e p q = record { is = rw (at_byte b r e, p, q); lies = not_space b r e q; ends = let l = within_line b r e in omega arith }

  pub finds_id : (id r : List ℕ) → drop at line ≡ 91 ∷ (id ++ r) → Repeat 1 32 sd_name_byte id → run sd_name_byte r ≡ 0 → Found line at (opening at (length id))
  unfolding entry_at
  finds_id id r e h z =
      let n : name_at line at ≡ length id = ap (run sd_name_byte) (over line at (91 ∷ []) (id ++ r) e) ∙ run_text sd_name_byte id r h.all z in
      record {
        is = rw (at_byte 91 (id ++ r) e, n);
        lies = not_space 91 (id ++ r) e refl;
        ends = let l = simp length-append at (within_line 91 (id ++ r) e) in omega arith;
      }

  module _ (p : Param) (r : List ℕ) (e : drop at line ≡ param_then p r) (h : ParamOk p) where
    name_text_lem : drop (at + 1) line ≡ p.name ++ (61 ∷ (34 ∷ (p.value ++ (34 ∷ r))))
    name_text_lem = over line at (32 ∷ []) _ e

    value_text_lem : drop (at + length p.name + 3) line ≡ p.value ++ (34 ∷ r)
    value_text_lem =
        let n = length p.name in
        let q : at + n + 3 ≡ at + 1 + n + 2 = omega arith in
        ap (λ (k : ℕ). drop k line) q ∙ over line (at + 1 + n) (61 ∷ 34 ∷ []) _ (over line (at + 1) p.name _ name_text_lem)

    name_is : name_at line at ≡ length p.name
    name_is = ap (run sd_name_byte) name_text_lem ∙ run_text sd_name_byte p.name _ h.name_ok.all (run_no sd_name_byte 61 _ refl)

    value_is : value_at line at ≡ length p.value
    value_is = ap (λ (k : ℕ). stop false (drop (at + k + 3) line)) name_is ∙ ap (stop false) value_text_lem ∙ stop_text r h.value_escaped

    param_ends : at + length p.name + length p.value + 4 ≤ length line
    param_ends = let l = simp length-append at (within_line 32 _ e) in omega arith

    pub finds_param : Found line at (holding at (length p.name) (length p.value))
    unfolding entry_at
    finds_param =
        record {
          is = rw (at_byte 32 _ e, value_is, name_is);
          lies = record { inside = let l = param_ends in omega arith; param_inside = λ q. rw (value_is, name_is) param_ends };
          ends = param_ends;
        }
