-- Names, numbers and elements: what is written obeys the grammar and says what was handed in, and the other way round.
use Rattle.std.specs.Prelude.{if◌then◌else◌}
use Prim.Native.Nat.{ℕ, suc, ◌+◌, ◌-◌, ◌*◌, ◌/◌, ◌%◌, ◌^◌, ◌≤◌, ◌<◌}
use mathlib.Core.Path.{◌≡◌, refl, sym, ap, ◌∙◌}
use mathlib.Core.Bool.{true, false, ◌&&◌, and-false}
use mathlib.Core.List.{List, [], ◌∷◌}
use mathlib.Core.Option.{Option, none, some}
use native.Mathlib.Decide.{dec_le}
use native.Mathlib.Nat.{one-le-pow, pow-le-pow_right, mul-le-mul_right}
use native.Mathlib.Omega.{arith}
use lib.ListN.{length, get_or}
use lib.Dec.{eqb}
use borrow.Author.Tests.{eqb-true, ne_eqb, eq-eqb}
use Rattle.base.specs.Choose.{is_at}
use Rattle.base.specs.Runs.{All}
use Rattle.base.proofs.Tests.{clash, both, by_test}
use Rattle.base.proofs.Ranges.{orders}
use Rattle.digits.specs.Digits.{is_digit, decimal_from, decimal}
use Rattle.digits.proofs.Decimals.{decimal_lt, decimal_front}
use Rattle.output.specs.Numerals.{fixed, numeral}
use Rattle.output.proofs.Numerals.{length_fixed, one_digit, wide}
use Rattle.grammar.specs.Abnf.{Repeat, print_us_ascii}
use Rattle.grammar.specs.Line.{Param, Element, zero_led, PrivalOk, VersionOk, ParamOk, ElementOk, Each, ids_of}
use Rattle.writes.proofs.Rules.{TextOk, RawParamOk, RawElementOk}
use Rattle.writes.specs.Written.{escape_params, escape_elements, or_dash}
use Rattle.writes.specs.Says.{said_text, said_params, said_elements}
use Rattle.writes.proofs.Values.{escape_escaped, escape_back, escape_utf8, unescape_utf8}

-- ---- texts that may be absent

dash_ok : (most : ℕ) → 1 ≤ most → Repeat 1 most print_us_ascii (45 ∷ [])
dash_ok most h = record { at_least = omega arith; at_most = h; all = (refl, tt) }

pub text_written : (most : ℕ) (t : Option (List ℕ)) → 1 ≤ most → TextOk most t → Repeat 1 most print_us_ascii (or_dash t)
text_written most none l h = dash_ok most l
text_written most (some t) l h = h.bytes

-- the test for "-"
pub dash_is : (t : List ℕ) → (eqb (length t) 1 && is_at t 0 45) ≡ true → t ≡ 45 ∷ []
dash_is [] h = clash (sym h)
dash_is (b ∷ []) h = ap (λ (x : ℕ). x ∷ []) (eqb-true b 45 h)
dash_is (a ∷ b ∷ t) h = let e = eqb-true (suc (suc (length t))) 1 (both _ _ h).0 in absurd (omega arith)

pub text_said : (most : ℕ) (t : Option (List ℕ)) → TextOk most t → said_text (or_dash t) ≡ t
text_said most none h = refl
text_said most (some t) h =
    by_test (λ b. (eqb (length t) 1 && is_at t 0 45) ≡ b → (if b then none else some t) ≡ some t) (eqb (length t) 1 && is_at t 0 45)
    (λ e q. absurd (h.no_mark (dash_is t q)))
    (λ e q. refl)
    refl

pub text_taken : (most : ℕ) (t : List ℕ) → Repeat 1 most print_us_ascii t → TextOk most (said_text t)
text_taken most t h =
    by_test (λ b. (eqb (length t) 1 && is_at t 0 45) ≡ b → TextOk most (if b then none else some t)) (eqb (length t) 1 && is_at t 0 45)
    (λ e q. tt)
    (λ e q. record { bytes = h; no_mark = λ z. clash (sym (ap (λ (x : List ℕ). eqb (length x) 1 && is_at x 0 45) z) ∙ q) })
    refl

-- ---- elements

pub params_written : (ps : List Param) → Each RawParamOk ps → Each ParamOk (escape_params ps)
params_written [] h = tt
params_written (p ∷ ps) h = (
  record { name_ok = h.0.name_ok; value_utf8 = escape_utf8 p.value h.0.value_utf8; value_escaped = escape_escaped p.value },
  params_written ps h.1,
)

pub elements_written : (es : List Element) → Each RawElementOk es → Each ElementOk (escape_elements es)
elements_written [] h = tt
elements_written (e ∷ es) h = (record { id_ok = h.0.id_ok; params_ok = params_written e.params h.0.params_ok }, elements_written es h.1)

pub params_said : (ps : List Param) → said_params (escape_params ps) ≡ ps
params_said [] = refl
params_said (p ∷ ps) = rw (escape_back p.value, params_said ps)

pub elements_said : (es : List Element) → said_elements (escape_elements es) ≡ es
elements_said [] = refl
elements_said (e ∷ es) = rw (params_said e.params, elements_said es)

pub params_taken : (ps : List Param) → Each ParamOk ps → Each RawParamOk (said_params ps)
params_taken [] h = tt
params_taken (p ∷ ps) h = (record { name_ok = h.0.name_ok; value_utf8 = unescape_utf8 p.value h.0.value_utf8 }, params_taken ps h.1)

pub elements_taken : (es : List Element) → Each ElementOk es → Each RawElementOk (said_elements es)
elements_taken [] h = tt
elements_taken (e ∷ es) h = (record { id_ok = h.0.id_ok; params_ok = params_taken e.params h.0.params_ok }, elements_taken es h.1)

pub ids_written : (es : List Element) → ids_of (escape_elements es) ≡ ids_of es
ids_written [] = refl
ids_written (e ∷ es) = ap (λ (l : List (List ℕ)). e.id ∷ l) (ids_written es)

pub ids_said : (es : List Element) → ids_of (said_elements es) ≡ ids_of es
ids_said [] = refl
ids_said (e ∷ es) = ap (λ (l : List (List ℕ)). e.id ∷ l) (ids_said es)
