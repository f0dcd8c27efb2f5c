-- What is written is a strict line, and it says the fields; a list of fields may be written exactly when some strict line says it.
use Prim.Native.Nat.{ℕ}
use mathlib.Core.Path.{◌≡◌, refl, sym, subst}
use mathlib.Core.List.{List}
use native.Mathlib.Omega.{arith}
use Rattle.base.specs.Texts.{Distinct}
use Rattle.grammar.specs.Line.{Division, Derives}
use Rattle.grammar.proofs.Lines.{unambiguous}
use Rattle.writes.specs.Fields.{Fields}
use Rattle.writes.specs.Written.{division_of, written}
use Rattle.writes.specs.Says.{fields_of}
use Rattle.writes.proofs.Rules.{Writable}
use Rattle.writes.proofs.Stamps.{timestamp_written, timestamp_said, timestamp_suits, timestamp_few}
use Rattle.writes.proofs.Texts.{text_written, text_said, text_taken, elements_written, elements_said, elements_taken, ids_written, ids_said}
use Rattle.claims.proofs.Numbers.{prival_written, version_written, few_said, few_to, version_least}

module _ (f : Fields) (w : Writable f) where
  -- the strict reader accepts what is written
  pub written_derives : Derives (written f) (division_of f)
  unfolding division_of
  written_derives =
      record {
        text = refl;
        prival_ok = prival_written f.priority w.priority_to;
        version_ok = version_written f.version w.version_from w.version_to;
        timestamp_ok = timestamp_written f.timestamp w.suitable w.few_digits;
        hostname_ok = text_written 255 f.host (omega arith) w.host_ok;
        app_name_ok = text_written 48 f.app (omega arith) w.app_ok;
        procid_ok = text_written 128 f.procid (omega arith) w.procid_ok;
        msgid_ok = text_written 32 f.msgid (omega arith) w.msgid_ok;
        elements_ok = elements_written f.elements w.elements_ok;
        ids_differ = subst Distinct (sym (ids_written f.elements)) w.ids_differ;
        message_ok = w.message_ok;
      }

  -- and takes the same fields from it
  pub written_said : fields_of (division_of f) ≡ f
  unfolding division_of fields_of
  written_said =
      rw (
        few_said f.priority (omega (arith, w.priority_to)),
        few_said f.version w.version_to,
        timestamp_said f.timestamp w.suitable w.few_digits,
        text_said 255 f.host w.host_ok,
        text_said 48 f.app w.app_ok,
        text_said 128 f.procid w.procid_ok,
        text_said 32 f.msgid w.msgid_ok,
        elements_said f.elements,
      )

  -- whichever division is read
  pub division_is : (d : Division) → Derives (written f) d → d ≡ division_of f
  division_is d h = unambiguous (written f) d (division_of f) h written_derives

-- what a strict line says may be written
pub said_writable : (line : List ℕ) (d : Division) → Derives line d → Writable (fields_of d)
unfolding fields_of
said_writable line d h =
    record {
      suitable = timestamp_suits d.timestamp h.timestamp_ok;
      few_digits = timestamp_few d.timestamp h.timestamp_ok;
      priority_to = h.prival_ok.range;
      version_from = version_least d.version h.version_ok;
      version_to = few_to d.version h.version_ok.digits;
      host_ok = text_taken 255 d.hostname h.hostname_ok;
      app_ok = text_taken 48 d.app_name h.app_name_ok;
      procid_ok = text_taken 128 d.procid h.procid_ok;
      msgid_ok = text_taken 32 d.msgid h.msgid_ok;
      message_ok = h.message_ok;
      elements_ok = elements_taken d.elements h.elements_ok;
      ids_differ = subst Distinct (sym (ids_said d.elements)) h.ids_differ;
    }
