-- The laws of the writer, from its contract.
use Rattle.std.specs.Prelude.{if◌then◌else◌, Result, Ok, Err}
use Prim.Native.Nat.{ℕ, suc, ◌+◌, ◌≤◌}
use mathlib.Core.Path.{◌≡◌, refl, sym, ap, ◌∙◌, subst}
use mathlib.Core.Bool.{Bool, true, false, not}
use mathlib.Core.List.{List, [], ◌∷◌}
use mathlib.Core.Option.{some}
use native.Mathlib.Omega.{arith}
use lib.Dec.{ltb, eqb}
use lib.ListN.{length, get_or, take, drop, length-take}
use lib.Seq.{take_at}
use borrow.Author.Tests.{le-ltb, ltb-false}
use Rattle.base.proofs.Tests.{clash, both, by_test}
use Rattle.record.specs.Limits.{line_limit}
use Rattle.record.specs.declared.StrictReading.{StrictReading}
use Rattle.record.specs.declared.Refusal.TheVariants.{Unsuitable, Unwritable, LineTooLong, OutputShort}
use Rattle.output.specs.Output.{output_after}
use Rattle.suits.specs.Suits.{stamp_suits, suits}
use Rattle.suits.proofs.Suited.{record_in_lem}
use Rattle.grammar.specs.Line.{Division, Derives}
use Rattle.grammar.specs.Reading.{param_count, StrictReads}
use Rattle.writes.specs.declared.Handed.{Handed}
use Rattle.writes.specs.Fields.{Fields}
use Rattle.writes.specs.Written.{written, Own}
use Rattle.writes.specs.Says.{fields_of}
use Rattle.writes.specs.Told.{front, rest, told_params, told_elements, answer_told}
use Rattle.writes.specs.Fits.{fields_fit}
use Rattle.writes.specs.Writes.{fields_in, record_in, answered, Writes}
use Rattle.writes.specs.Laws.{ReadBack, NothingElseRefused, ReaderTells, OnceMore, SameBytes, OwnForm, OneWriting}
use Rattle.writes.proofs.Rules.{Writable}
use Rattle.writes.proofs.Lines.{written_derives, written_said, division_is, said_writable}
use Rattle.writes.proofs.Reading.{told_said, reader_tells}
use Rattle.writes.proofs.Again.{written_again, written_own}
use Rattle.writes.proofs.Fits.{fits_sound, fits_complete}
use Rattle.record.specs.declared.Refusal.{Refusal}

-- ---- what an answer went through

abbrev is_done : Result ℕ Refusal → Bool
is_done (Ok n) = true
is_done (Err f) = false

abbrev len_of : Result ℕ Refusal → ℕ
len_of (Ok n) = n
len_of (Err f) = 0

record Passed (a b c d : Bool) (m n : ℕ) : Type 0 where
  pub suitable : a ≡ true
  pub writable : b ≡ true
  pub short : c ≡ false
  pub room : d ≡ false
  pub size : n ≡ m

passed : (a b c d : Bool) (m n : ℕ)
    → Ok n ≡ (if not a then Err Unsuitable else if not b then Err Unwritable else if c then Err LineTooLong else if d then Err OutputShort else Ok m)
    → Passed a b c d m n
passed false b c d m n h = clash (ap is_done h)
passed true false c d m n h = clash (ap is_done h)
passed true true true d m n h = clash (ap is_done h)
passed true true false true m n h = clash (ap is_done h)
passed true true false false m n h = record { suitable = refl; writable = refl; short = refl; room = refl; size = ap len_of h }

-- ---- the counts of what the rows tell

length_told : (line : List ℕ) (rows : List (List ℕ)) → length (told_params line rows) ≡ length rows
length_told line [] = refl
length_told line (row ∷ rows) = ap suc (length_told line rows)

front_rest : (k : ℕ) (rows : List (List ℕ)) → length (front k rows) + length (rest k rows) ≡ length rows
front_rest k [] = refl
front_rest k (row ∷ rows) =
    by_test (λ b. length (if b then row ∷ front k rows else []) + length (if b then rest k rows else row ∷ rows) ≡ suc (length rows)) (eqb (get_or row 0 0) k)
    (λ e. omega (arith, front_rest k rows)) (λ e. omega arith)

told_elements_lem : (line : List ℕ) (k : ℕ) (rows params : List (List ℕ)) → length (told_elements line k rows params) ≡ length rows
told_elements_lem line k [] params = refl
told_elements_lem line k (row ∷ rows) params = ap suc (told_elements_lem line (k + 1) rows (rest k params))

told_params_lem : (line : List ℕ) (k : ℕ) (rows params : List (List ℕ)) → param_count (told_elements line k rows params) ≤ length params
told_params_lem line k [] params = omega arith
told_params_lem line k (row ∷ rows) params =
    omega (arith, told_params_lem line (k + 1) rows (rest k params), length_told line (front k params), front_rest k params)

-- ---- where it writes

module _ (text : List ℕ) (h : Handed) (elements params : List (List ℕ)) where
  abbrev handed : Fields
  handed = fields_in text h elements params

  stamp_suits_lem : suits text (record_in h) h.element_count h.param_count elements params ≡ true → stamp_suits handed.timestamp ≡ true
  unfolding suits fields_in
  stamp_suits_lem e = (record_in_lem text (record_in h) (both _ _ e).0).timestamp_in

  record Wrote (before : List ℕ) (n : ℕ) (after : List ℕ) : Type 0 where
    pub writable : Writable handed
    pub short : length (written handed) ≤ line_limit
    pub line : take n after ≡ written handed

  module _ (before after : List ℕ) (n : ℕ) (w : Writes text h elements params before (Ok n) after) where
    wrote : Wrote before n after
    unfolding answered
    wrote =
        let m = length (written handed) in
        let p = passed (suits text (record_in h) h.element_count h.param_count elements params) (fields_fit handed) (ltb line_limit m) (ltb (length before) m) m n w.answer in
        record {
          writable = fits_sound handed (stamp_suits_lem p.suitable) p.writable;
          short = ltb-false line_limit m p.short;
          line = ap (take n) w.output ∙ take_at (written handed) (drop m before) n (sym p.size);
        }

    elements_most : length handed.elements ≤ h.element_count
    unfolding fields_in
    elements_most = omega (arith, told_elements_lem text 0 (take h.element_count elements) (take h.param_count params), length-take h.element_count elements)

    params_most : param_count handed.elements ≤ h.param_count
    unfolding fields_in
    params_most = omega (arith, told_params_lem text 0 (take h.element_count elements) (take h.param_count params), length-take h.param_count params)

    back : (e₀ p₀ : List (List ℕ)) (r : Result StrictReading Refusal) (e₁ p₁ : List (List ℕ)) → StrictReads (take n after) e₀ p₀ r e₁ p₁
        → h.element_count ≤ length e₀ → h.param_count ≤ length p₀ → answer_told (take n after) r e₁ p₁ ≡ some handed
    back e₀ p₀ r e₁ p₁ s room space =
        let o = wrote in
        subst (λ (l : List ℕ). answer_told l r e₁ p₁ ≡ some handed) (sym o.line)
        (reader_tells handed o.writable o.short e₀ p₀ (omega (arith, elements_most)) (omega (arith, params_most)) r e₁ p₁
        (subst (λ (l : List ℕ). StrictReads l e₀ p₀ r e₁ p₁) o.line s))

    own : (d : Division) → Derives (take n after) d → Own d
    own d s =
        let o = wrote in
        let q = division_is handed o.writable d (subst (λ (l : List ℕ). Derives l d) o.line s) in
        subst Own (sym q) (written_own handed o.writable)

  nothing_else : (before : List ℕ) (w : Result ℕ Refusal) (after : List ℕ) → Writes text h elements params before w after
      → suits text (record_in h) h.element_count h.param_count elements params ≡ true
      → Writable handed → length (written handed) ≤ line_limit → length (written handed) ≤ length before → w ≡ Ok (length (written handed))
  unfolding answered
  nothing_else before w after u s f l r =
      u.answer ∙ rw (s, fits_complete handed f, le-ltb line_limit (length (written handed)) l, le-ltb (length before) (length (written handed)) r)

-- ---- the laws

pub read_back : ReadBack
read_back text h elements params before after n w e₀ p₀ r e₁ p₁ s room space = back text h elements params before after n w e₀ p₀ r e₁ p₁ s room space

pub nothing_else_refused : NothingElseRefused
nothing_else_refused text h elements params before w after u s line d k e l r =
    let q : written (fields_of d) ≡ written (fields_in text h elements params) = ap written e in
    let m : length (written (fields_of d)) ≡ length (written (fields_in text h elements params)) = ap length q in
    nothing_else text h elements params before w after u s (subst Writable e (said_writable line d k)) (omega arith) (omega arith) ∙ ap Ok (sym m)

pub reader_told : ReaderTells
reader_told line d h = told_said line d h

pub once_more : OnceMore
once_more line d h = let w = said_writable line d h in (written_derives (fields_of d) w, written_said (fields_of d) w)

pub same_bytes : SameBytes
same_bytes line d h o = written_again line d h o

pub own_form : OwnForm
own_form text h elements params before after n w d s = own text h elements params before after n w d s

pub one_writing : OneWriting
one_writing text h elements params before w v x y a b =
    let e : w ≡ v = a.answer ∙ sym b.answer in
    (e, a.output ∙ ap (λ (r : Result ℕ Refusal). output_after r (written (fields_in text h elements params)) before) e ∙ sym b.output)
