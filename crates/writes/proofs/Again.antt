-- What a line says, written again: the same texts, but for the form of the offset and needless backslashes.
use Rattle.std.specs.Prelude as std
use Rattle.std.specs.Prelude.{if◌then◌else◌, Some, None}
use Rattle.record.specs.declared.Timestamp as stamped
use Prim.Native.Nat.{ℕ, zero, suc, ◌+◌, ◌-◌, ◌*◌, ◌/◌, ◌%◌, ◌^◌, ◌≤◌, ◌<◌}
use mathlib.Core.Path.{◌≡◌, refl, sym, ap, ◌∙◌}
use mathlib.Core.Bool.{Bool, false, ◌&&◌, and-true}
use mathlib.Core.List.{List, [], ◌∷◌}
use mathlib.Core.Option.{Option, none, some}
use native.Mathlib.Nat.{one-le-pow, mul-div_cancel}
use native.Mathlib.Omega.{arith}
use lib.ListN.{length, get_or}
use lib.Dec.{eqb}
use lib.IntN.{ℤ, pos, negsuc, neg_ℤ, nat_abs}
use borrow.Author.Tests.{lt-ltb, eqb-true}
use Rattle.base.specs.Choose.{is_at}
use Rattle.base.proofs.Tests.{clash, by_test}
use Rattle.calendar.specs.Instant.{seconds_of, shown}
use Rattle.calendar.proofs.ThereAndBack.{back}
use Rattle.digits.specs.Digits.{is_digit, decimal}
use Rattle.digits.proofs.Decimals.{decimal_lt}
use Rattle.output.specs.Numerals.{fixed, numeral}
use Rattle.output.proofs.Numerals.{one_digit, wide}
use Rattle.lookup.specs.Unescape.{is_escaped, unescaped_from, unescaped}
use Rattle.grammar.specs.Abnf.{Repeat}
use Rattle.grammar.specs.Line.{Param, Element, Offset, Timestamp, Division, line_text, zero_led, PrivalOk, VersionOk, SecfracOk, NumOffsetOk, OffsetOk, FullOk, TimestampOk, Each, Derives}
use Rattle.grammar.specs.Reading.{offset_of, nanos_of, digits_of, stamp_of}
use Rattle.writes.specs.Fields.{Fields}
use Rattle.writes.specs.Written.{escape, escape_params, escape_elements, or_dash, zone_of, timestamp_of, division_of, written, OwnOffset, OwnTimestamp, OwnValue, Own}
use Rattle.writes.specs.Written.OwnValue.{nothing, plain, pair}
use Rattle.writes.specs.Says.{said_text, said_params, said_elements, fields_of}
use Rattle.claims.proofs.Numbers.{digits_again, prival_again, version_again}
use Rattle.claims.proofs.Moments.{zone_minutes, frac_again, hour_again, minute_again, shows_again}
use Rattle.writes.proofs.Rules.{Suitable, Writable}
use Rattle.writes.proofs.Texts.{dash_is}

-- ---- the timestamp

west_of_lem : (n : ℕ) → (n ≡ 0 → ⊥) → zone_of (neg_ℤ (pos n)) ≡ Offset.west (fixed 2 (n / 60)) (fixed 2 (n % 60))
west_of_lem zero z = absurd (z refl)
west_of_lem (suc n) z = refl

zone_again : (o : Offset) → OffsetOk o → OwnOffset o → zone_of (offset_of o) ≡ o
zone_again Offset.utc k w = absurd w
zone_again (Offset.east h m) k w = rw (hour_again h m k, minute_again h m k)
zone_again (Offset.west h m) k w = west_of_lem (decimal h * 60 + decimal m) w ∙ rw (hour_again h m k, minute_again h m k)

timestamp_again : (t : Option Timestamp) → TimestampOk t → OwnTimestamp t → timestamp_of (stamp_of t) ≡ t
timestamp_again none h w = refl
timestamp_again (some t) h w =
    rw (
      shows_again t h,
      digits_again 4 t.year h.year_digits,
      digits_again 2 t.month h.month_digits,
      digits_again 2 t.day h.day_digits,
      digits_again 2 t.hour h.hour_digits,
      digits_again 2 t.minute h.minute_digits,
      digits_again 2 t.second h.second_digits,
      frac_again t.secfrac h.secfrac_ok,
      zone_again t.offset h.offset_ok w,
    )

-- ---- texts and values

pub text_again : (t : List ℕ) → or_dash (said_text t) ≡ t
text_again t =
    by_test (λ b. (eqb (length t) 1 && is_at t 0 45) ≡ b → or_dash (if b then none else some t) ≡ t) (eqb (length t) 1 && is_at t 0 45)
    (λ e q. sym (dash_is t q)) (λ e q. refl) refl

plain_not : (b : ℕ) → is_escaped b ≡ false → eqb b 92 ≡ false
plain_not b h = by_test (λ e. eqb b 92 ≡ e → eqb b 92 ≡ false) (eqb b 92) (λ e q. clash (sym (ap is_escaped (eqb-true b 92 q)) ∙ h)) (λ e q. q) refl

value_again : {v : List ℕ} → OwnValue v → escape (unescaped false v) ≡ v
unfolding escape unescaped_from
value_again nothing = refl
value_again (plain {b} h w) = rw (plain_not b h, h, value_again w)
value_again (pair {b} h w) = rw (h, h, value_again w)

params_again : (ps : List Param) → Each (λ (p : Param). OwnValue p.value) ps → escape_params (said_params ps) ≡ ps
params_again [] w = refl
params_again (p ∷ ps) w = rw (value_again w.0, params_again ps w.1)

elements_again : (es : List Element) → Each (λ (e : Element). Each (λ (p : Param). OwnValue p.value) e.params) es → escape_elements (said_elements es) ≡ es
elements_again [] w = refl
elements_again (e ∷ es) w = rw (params_again e.params w.0, elements_again es w.1)

-- a line in the writer's own form is written back byte for byte
module _ (line : List ℕ) (d : Division) (h : Derives line d) (w : Own d) where
  pub division_again : division_of (fields_of d) ≡ d
  unfolding division_of fields_of
  division_again =
      rw (
        prival_again d.prival h.prival_ok,
        version_again d.version h.version_ok,
        timestamp_again d.timestamp h.timestamp_ok w.own_timestamp,
        text_again d.hostname,
        text_again d.app_name,
        text_again d.procid,
        text_again d.msgid,
        elements_again d.elements w.own_values,
      )

  pub written_again : written (fields_of d) ≡ line
  written_again = ap line_text division_again ∙ sym h.text

-- ---- and what is written is in that form

escape_own : (t : List ℕ) → OwnValue (escape t)
unfolding escape
escape_own [] = nothing
escape_own (b ∷ t) =
    by_test (λ e. is_escaped b ≡ e → OwnValue (if e then 92 ∷ b ∷ escape t else b ∷ escape t)) (is_escaped b)
    (λ e q. pair q (escape_own t)) (λ e q. plain q (escape_own t)) refl

params_own : (ps : List Param) → Each (λ (p : Param). OwnValue p.value) (escape_params ps)
params_own [] = tt
params_own (p ∷ ps) = (escape_own p.value, params_own ps)

elements_own : (es : List Element) → Each (λ (e : Element). Each (λ (p : Param). OwnValue p.value) e.params) (escape_elements es)
elements_own [] = tt
elements_own (e ∷ es) = (params_own e.params, elements_own es)

zone_own : (o : ℤ) → nat_abs o ≤ 1439 → OwnOffset (zone_of o)
zone_own (pos n) h = tt
zone_own (negsuc n) h = λ e. omega (arith, zone_minutes (suc n) h)

timestamp_own : (t : std.Option stamped.Timestamp) → Suitable t → OwnTimestamp (timestamp_of t)
timestamp_own None h = tt
timestamp_own (Some m) h = zone_own m.offset h.offset_in

pub written_own : (f : Fields) → Writable f → Own (division_of f)
unfolding division_of
written_own f w = record { own_timestamp = timestamp_own f.timestamp w.suitable; own_values = elements_own f.elements }
