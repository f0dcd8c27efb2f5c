-- Whose host it is, and its bytes.
use Prim.Native.Nat.{ℕ, ◌+◌, ◌-◌, ◌≤◌, ◌<◌}
use mathlib.Core.Path.{◌≡◌, sym, ap, ◌∙◌}
use mathlib.Core.Bool.{true, false}
use mathlib.Core.List.{List, []}
use native.Mathlib.Omega.{arith}
use lib.ListN.{length, take, drop, length-drop, drop_of_length-le}
use lib.Seq.{take_all, take-nil}
use borrow.Author.Tests.{ne_eqb}
use Rattle.base.specs.Texts.{text_at}
use Rattle.base.proofs.Texts.{part_text_lem}
use Rattle.record.specs.declared.Place.{Place}
use Rattle.record.specs.declared.Span.{Span}
use Rattle.site.specs.declared.Holder.{Holder}
use Rattle.site.specs.declared.Holder.TheVariants.{Nowhere, InLine, InSettings}
use Rattle.site.specs.Site.{host_of, host_text}

module _ (own : Place) (default : Span) where
  pub host_own : own.present ≡ true → InLine (record { start = own.start; len = own.len }) ≡ host_of own default
  host_own e = rw e

  module _ (e : own.present ≡ false) where
    pub host_none : default.len ≡ 0 → Nowhere ≡ host_of own default
    host_none z = rw (e, z)

    pub host_default : (default.len ≡ 0 → ⊥) → InSettings default ≡ host_of own default
    host_default z = rw (e, ne_eqb default.len 0 z)

pub ruleset host_laws = (host_own, host_none, host_default)

-- ---- a part, as far as there is one

module _ (s : List ℕ) (start len : ℕ) where
  pub part_past : length s ≤ start → [] ≡ text_at s start len
  part_past h = sym (ap (take len) (drop_of_length-le s h) ∙ take-nil len)

  pub part_cut : start < length s → length s - start < len → take (length s - start) (drop start s) ≡ text_at s start len
  part_cut h l = take_all (length s - start) (drop start s) (omega (arith, length-drop start s)) ∙ sym (take_all len (drop start s) (omega (arith, length-drop start s)))

  pub part_all : take (start + len - start) (drop start s) ≡ text_at s start len
  part_all = part_text_lem s start len

pub ruleset part_laws = (part_past, part_cut, part_all)

-- ---- the bytes of the host

module _ (line file : List ℕ) (h : Holder) (t : List ℕ) where
  pub text_none : h ≡ Nowhere → t ≡ text_at line 0 0 → t ≡ host_text line file h
  text_none e q = rw e q

  pub text_line : (p : Span) → h ≡ InLine p → t ≡ text_at line p.start p.len → t ≡ host_text line file h
  text_line p e q = rw e q

  pub text_settings : (p : Span) → h ≡ InSettings p → t ≡ text_at file p.start p.len → t ≡ host_text line file h
  text_settings p e q = rw e q

pub ruleset text_laws = (text_none, text_line, text_settings)
