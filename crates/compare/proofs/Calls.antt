-- What a user would ask of calls (specs/Laws.antt): one result, and what it says of the readings.
use Rattle.std.specs.Prelude.{Result, Ok, Err}
use Prim.Native.Nat.{ℕ, ◌<◌}
use mathlib.Core.Path.{◌≡◌, refl, sym, ap, ◌∙◌}
use mathlib.Core.Bool.{Bool, true, false, not}
use mathlib.Core.List.{List, [], map}
use native.Mathlib.Omega.{arith}
use lib.Dec.{ltb}
use lib.ListN.{length, get_or, length-map}
use lib.IntN.{ℤ}
use borrow.Author.Tests.{ltb-true, lt-ltb, not-false}
use Rattle.base.proofs.Tests.{clash}
use Rattle.record.specs.declared.Record.{Record}
use Rattle.record.specs.declared.Reading.{Reading}
use Rattle.record.specs.declared.Reading.TheVariants as loose
use Rattle.draft.specs.Outcome.{Outcome}
use Rattle.draft.specs.Outcome.Outcome.{no_reading, is_reading}
use Rattle.loose.specs.Loose.{outcome_of, settings_ok, answered}
use Rattle.loose.proofs.Answers.{passes, read_done}
use Rattle.suits.proofs.Suited.{param_suited}
use Rattle.suited.proofs.Frame.{OutcomeSuits}
use Rattle.suited.proofs.Records.{outcome_suits}
use Rattle.differ.specs.declared.Differences.{Differences}
use Rattle.differ.specs.Seen.{Pair, Seen, id_of, pair_of}
use Rattle.differ.specs.Differences.{occurs, differences_of}
use Rattle.differ.proofs.Links.{get_d_map}
use Rattle.differ.proofs.Parts.{blank_pair}
use Rattle.compare.specs.Compare.{nothing, compared_of, seen_in, Compares}
use Rattle.compare.specs.Numbers.{answer_of}
use Rattle.compare.specs.Laws.{Alike, Formed, NothingWhereAlike, OneResult, OneAnswer, Calls}
use Rattle.compare.specs.declared.Refused.{Refused}
use Rattle.compare.proofs.Alike.{alike_nothing, nothing_alike, same_nowhere, exchange_keeps, occurs_one}
use Rattle.compare.proofs.Lines.{tables_suit_lem}
use Rattle.record.specs.declared.Refusal.{Refusal}

-- ---- one result

module _ {line₁ line₂ : List ℕ} {variant year : ℕ} {offset : ℤ} {e₁ p₁ e₂ p₂ : List (List ℕ)} {c d : Result Differences Refused} {e₁' p₁' e₂' p₂' e₁'' p₁'' e₂'' p₂'' : List (List ℕ)}
    (x : Compares line₁ line₂ variant year offset e₁ p₁ e₂ p₂ c e₁' p₁' e₂' p₂') (y : Compares line₁ line₂ variant year offset e₁ p₁ e₂ p₂ d e₁'' p₁'' e₂'' p₂'') where
  same_answer : c ≡ d
  same_answer = x.answer ∙ sym y.answer

  same_result : (c ≡ d) × (e₁' ≡ e₁'') × (p₁' ≡ p₁'') × (e₂' ≡ e₂'') × (p₂' ≡ p₂'')
  same_result = (
    same_answer,
    x.elements₁ ∙ rw same_answer (sym y.elements₁),
    x.params₁ ∙ rw same_answer (sym y.params₁),
    x.elements₂ ∙ rw same_answer (sym y.elements₂),
    x.params₂ ∙ rw same_answer (sym y.params₂),
  )

pub one_result : OneResult
one_result = record { one = same_result }

pub one_answer : OneAnswer
one_answer = record { one = λ x y. let r = same_result x.compares y.compares in (x.is ∙ ap answer_of r.0 ∙ sym y.is, r.1, r.2, r.3, r.4) }

-- ---- each pair is of an element that is there

outcome_formed : (line : List ℕ) (o : Outcome) → OutcomeSuits line o → Formed (seen_in line o)
unfolding occurs
outcome_formed line no_reading h p o = absurd (o refl)
outcome_formed line (is_reading r at rows) h p o =
    let n = length rows.elements in
    let t = tables_suit_lem line rows.elements rows.params h.of_tables in
    let pairs = map (pair_of line) rows.params in
    let below : (i : ℕ) → i < length pairs → not (ltb (get_or pairs i blank_pair).element n) ≡ false =
    λ i l.
    let g : i < length rows.params = omega (arith, length-map rows.params (pair_of line)) in
    let q = (param_suited line n (length rows.params) rows.elements rows.params t i g).below in
    ap (λ (x : Pair). not (ltb x.element n)) (get_d_map (pair_of line) [] blank_pair rows.params i g) ∙ ap not (lt-ltb (get_or (get_or rows.params i []) 0 0) n q) in
    let u : p.element < n = ltb-true p.element n (not-false (ltb p.element n) (occurs_one p pairs (λ x. not (ltb x.element n)) below o)) in
    omega (arith, length-map rows.elements (id_of line))

line_formed : (line : List ℕ) (variant year : ℕ) (offset : ℤ) → settings_ok variant year offset ≡ true → Formed (seen_in line (outcome_of line variant year offset))
line_formed line variant year offset h = outcome_formed line (outcome_of line variant year offset) (outcome_suits line variant year offset h)

pub nothing_where_alike : NothingWhereAlike
nothing_where_alike = record { alike = nothing_alike; nothing_differs = alike_nothing; formed = line_formed }

-- ---- a call that refuses no line

abbrev is_done : Result Differences Refused → Bool
is_done (Ok d) = true
is_done (Err x) = false

abbrev of : Result Differences Refused → Differences
of (Ok d) = d
of (Err x) = nothing

-- both lines are read, and what differs is of their readings
record Known (x y : Result Reading Refusal) (d D : Differences) : Type 0 where
  read₁ : Record
  ids₁ : ℕ
  params₁ : ℕ
  is₁ : Ok (loose.Read read₁ ids₁ params₁) ≡ x
  is : d ≡ D

done_known : (x y : Result Reading Refusal) (d D : Differences) → Ok d ≡ compared_of x y D → Known x y d D
done_known (Err f) y d D h = clash (ap is_done h)
done_known (Ok (loose.Whole r)) y d D h = clash (ap is_done h)
done_known (Ok (loose.Read r m n)) (Err f) d D h = clash (ap is_done h)
done_known (Ok (loose.Read r m n)) (Ok (loose.Whole s)) d D h = clash (ap is_done h)
done_known (Ok (loose.Read r m n)) (Ok (loose.Read s k l)) d D h = record { read₁ = r; ids₁ = m; params₁ = n; is₁ = refl; is = ap of h }

module _ {line₁ line₂ : List ℕ} {variant year : ℕ} {offset : ℤ} {e₁ p₁ e₂ p₂ e₁' p₁' e₂' p₂' : List (List ℕ)} {d : Differences}
    (h : Compares line₁ line₂ variant year offset e₁ p₁ e₂ p₂ (Ok d) e₁' p₁' e₂' p₂') where
  abbrev first : Seen
  first = seen_in line₁ (outcome_of line₁ variant year offset)

  abbrev second : Seen
  second = seen_in line₂ (outcome_of line₂ variant year offset)

  known : Known (answered line₁ variant year offset (length e₁) (length p₁)) (answered line₂ variant year offset (length e₂) (length p₂)) d (differences_of first second)
  known = done_known _ _ d (differences_of first second) h.answer

  done_is : d ≡ differences_of first second
  done_is = known.is

  done_settings : settings_ok variant year offset ≡ true
  done_settings =
      let k = known in
      (passes (Ok (loose.Read k.read₁ k.ids₁ k.params₁)) (read_done k.read₁ k.ids₁ k.params₁) line₁ variant year offset (length e₁) (length p₁) k.is₁).settings

  done_alike : d.fields ≡ 0 → Alike first second
  done_alike z =
      nothing_alike first second (line_formed line₁ variant year offset done_settings) (line_formed line₂ variant year offset done_settings)
      (ap (λ (x : Differences). x.fields) (sym done_is) ∙ z)

  done_nothing : Alike first second → d ≡ nothing
  done_nothing a = done_is ∙ alike_nothing first second a

module _ {line : List ℕ} {variant year : ℕ} {offset : ℤ} {e₁ p₁ e₂ p₂ e₁' p₁' e₂' p₂' : List (List ℕ)} {d : Differences}
    (h : Compares line line variant year offset e₁ p₁ e₂ p₂ (Ok d) e₁' p₁' e₂' p₂') where
  with_itself : d ≡ nothing
  with_itself = done_is h ∙ same_nowhere (seen_in line (outcome_of line variant year offset))

module _ {line₁ line₂ : List ℕ} {variant year : ℕ} {offset : ℤ} {e₁ p₁ e₂ p₂ e₁' p₁' e₂' p₂' e₁'' p₁'' e₂'' p₂'' : List (List ℕ)} {c d : Differences}
    (h : Compares line₁ line₂ variant year offset e₁ p₁ e₂ p₂ (Ok c) e₁' p₁' e₂' p₂') (g : Compares line₂ line₁ variant year offset e₂ p₂ e₁ p₁ (Ok d) e₂'' p₂'' e₁'' p₁'') where
  exchanged_alike : (c.fields ≡ d.fields) × (c.position ≡ d.position)
  exchanged_alike =
      let x = exchange_keeps (seen_in line₁ (outcome_of line₁ variant year offset)) (seen_in line₂ (outcome_of line₂ variant year offset)) in (
        ap (λ (r : Differences). r.fields) (done_is h) ∙ x.0 ∙ ap (λ (r : Differences). r.fields) (sym (done_is g)),
        ap (λ (r : Differences). r.position) (done_is h) ∙ x.1 ∙ ap (λ (r : Differences). r.position) (sym (done_is g)),
      )

pub calls : Calls
calls = record { nowhere = with_itself; alike = done_alike; nothing_differs = done_nothing; exchanged = exchanged_alike }
